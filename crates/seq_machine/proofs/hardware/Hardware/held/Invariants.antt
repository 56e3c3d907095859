use Rattle.seq_lines.specs.Going.{AreHeldBelow}
use Rattle.seq_machine.specs.Settling.{first_blocks}
use Rattle.seq_machine.proofs.hardware.Hardware.held.Given as goal

abbrev pub invariant-loop-q : goal.invariant-loop-q
invariant-loop-q l = AreHeldBelow (first_blocks l.fn.self) l.q l.held
