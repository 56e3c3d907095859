use Rattle.std.proofs.Common.{sym, refl}
use Rattle.seq_text.proofs.Cuts.{parts-none, parts-some}
use Rattle.seq_text.proofs.cutting.cut_at.Goals as goal

pub returns-in-None-clause-parts : goal.returns-in-None-clause-parts
returns-in-None-clause-parts c = parts-none c.args.byte c.args.text.now (sym c.in-None.ensures.value)

pub returns-in-Some-clause-parts : goal.returns-in-Some-clause-parts
returns-in-Some-clause-parts c = parts-some c.args.byte c.args.text.now _ _ c.in-Some.end (sym c.in-Some.ensures.value) refl c.split_at.ensures.back
