use Rattle.seq_covered.proofs.Needed.{operations_take_a_quarter, units_take_a_half}
use Rattle.seq_covered.proofs.memories.enough_turns_are_needed.Goals as goal

pub returns : goal.returns
returns c = record { operations = operations_take_a_quarter; units = units_take_a_half }
