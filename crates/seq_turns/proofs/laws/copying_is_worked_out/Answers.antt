use Rattle.seq_turns.proofs.WorkedRecoveries.{memory_is_copied}
use Rattle.seq_turns.proofs.laws.copying_is_worked_out.Goals as goal

pub returns : goal.returns
returns c = memory_is_copied
