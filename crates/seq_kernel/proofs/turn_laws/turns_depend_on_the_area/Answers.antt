use Rattle.seq_kernel.proofs.Depends.{turns_depend_on_the_area, calls_depend_on_the_area}
use Rattle.seq_kernel.proofs.TurnCauses.{claims_depend_on_what_is_seen}
use Rattle.seq_kernel.proofs.turn_laws.turns_depend_on_the_area.Goals as goal

pub returns : goal.returns
returns c = record { turns = turns_depend_on_the_area; calls = calls_depend_on_the_area; claims = claims_depend_on_what_is_seen }
