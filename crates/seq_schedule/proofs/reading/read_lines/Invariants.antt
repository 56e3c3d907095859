use Rattle.std.proofs.Common.{length}
use Rattle.seq_schedule.proofs.Texts.{IsReading}
use Rattle.seq_schedule.proofs.reading.read_lines.Given as goal

abbrev pub invariant-lines : goal.invariant-lines
invariant-lines l = IsReading l.gate l.desc l.text l.reader.tally l.reader.items l.place l.rest

abbrev pub decreases-lines : goal.decreases-lines
decreases-lines l = length l.rest
