use Rattle.std.proofs.Common.{length, reverse}
use Rattle.seq_text.specs.Lines.{lines_of}
use Rattle.seq_asm.specs.Lines.{labels_of}
use Rattle.seq_asm.proofs.Made.{IsEmitting}
use Rattle.seq_asm.proofs.emitting.emit.Given as goal

abbrev pub invariant-lines : goal.invariant-lines
invariant-lines l = IsEmitting (labels_of (reverse (lines_of l.text))) l.text l.bytes l.entry l.place l.rest

abbrev pub decreases-lines : goal.decreases-lines
decreases-lines l = length l.rest
