use Rattle.std.proofs.Common.{arith}
use Rattle.seq_manifest.proofs.Saying.{segments-said_by}
use Rattle.seq_manifest.proofs.parts.Parts.segment_count.Goals as goal

pub returns : goal.returns
returns c = let e = segments-said_by c.args.self.now c.requires in omega (arith, e)
