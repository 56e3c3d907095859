use Rattle.std.proofs.Common.{ℕ, ◌<◌}
use Rattle.seq_flat.specs.Step.{IsEnabled}
use Rattle.seq_lines.specs.Committed.{state_in, input_counts}
use Rattle.seq_lines.specs.Going.{AreHeldBelow}
use Rattle.seq_machine.specs.Plain.{Outside, machine_of}
use Rattle.seq_machine.specs.Settling.{first_blocks}
use Rattle.seq_machine.proofs.hardware.Hardware.is_quiet.Given as goal

abbrev pub invariant-loop-q : goal.invariant-loop-q
invariant-loop-q l = record {
  below : AreHeldBelow (first_blocks l.fn.self) l.q l.below;
  waiting : (o : Outside) (q : ℕ) → q < l.q → IsEnabled l.fn.self.desc (input_counts l.fn.self.desc (machine_of l.fn.self o)) (state_in l.fn.self.desc (first_blocks l.fn.self)) q → ⊥;
}
