use Rattle.std.proofs.Common.{length}
use Rattle.seq_asm.proofs.Surveying.{IsSurveying}
use Rattle.seq_asm.proofs.survey.first_reading.Given as goal

abbrev pub invariant-lines : goal.invariant-lines
invariant-lines l = IsSurveying l.text l.labels l.past l.place l.rest

abbrev pub decreases-lines : goal.decreases-lines
decreases-lines l = length l.rest
