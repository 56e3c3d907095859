use Rattle.seq_kernel.proofs.Shown.{shown_by_the_area, shows_all_that_agree}
use Rattle.seq_kernel.proofs.Depends.{seen_in_the_area}
use Rattle.seq_kernel.proofs.turn_laws.shown_by_the_area.Goals as goal

pub returns : goal.returns
returns c = record { blocks = shown_by_the_area; states = shows_all_that_agree; seen = seen_in_the_area }
