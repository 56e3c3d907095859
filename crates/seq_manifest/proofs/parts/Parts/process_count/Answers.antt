use Rattle.std.proofs.Common.{arith, ltb, ap, ◌∙◌}
use Rattle.seq_manifest.proofs.Saying.{processes-said_by, some_process-said_by}
use Rattle.seq_manifest.proofs.parts.Parts.process_count.Goals as goal

pub returns-clause-count : goal.returns-clause-count
returns-clause-count c = let e = processes-said_by c.args.self.now c.requires in omega (arith, e)

pub returns-clause-some : goal.returns-clause-some
returns-clause-some c = ap (ltb 0) c.len.ensures ∙ some_process-said_by c.args.self.now c.requires
