-- The processors below the next one are marked.
use Rattle.std.proofs.Common.{◌≡◌, ℕ, ◌<◌, false, length}
use Rattle.std.specs.Prelude.{slice_index_or}
use Rattle.seq_turns.specs.Reading.{is_amid}
use Rattle.seq_machine.specs.Plain.{processor_of}
use Rattle.seq_machine.proofs.hardware.Hardware.marks.Given as goal

abbrev pub invariant-loop-at : goal.invariant-loop-at
invariant-loop-at l = record {
  count : length l.marks ≡ 8;
  each : (p : ℕ) → p < l.at → slice_index_or l.marks p false ≡ is_amid (processor_of l.self p).hand;
}
