use Rattle.std.proofs.Common.{length}
use Rattle.seq_manifest.proofs.Texts.{IsReading}
use Rattle.seq_manifest.proofs.reading.read_lines.Given as goal

abbrev pub invariant-lines : goal.invariant-lines
invariant-lines l = IsReading l.text l.parts l.place l.rest

abbrev pub decreases-lines : goal.decreases-lines
decreases-lines l = length l.rest
