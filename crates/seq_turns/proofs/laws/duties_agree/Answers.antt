use Rattle.seq_turns.proofs.Served.{duties_agree, rests_agree, elements_agree, changes_agree}
use Rattle.seq_turns.proofs.laws.duties_agree.Goals as goal

pub returns : goal.returns
returns c = record { duties = duties_agree; rests = rests_agree; elements = elements_agree; changes = changes_agree }
