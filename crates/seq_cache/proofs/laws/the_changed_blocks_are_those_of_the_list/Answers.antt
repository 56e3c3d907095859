use Rattle.seq_cache.proofs.LawsHold.{changed_are_listed}
use Rattle.seq_cache.proofs.laws.the_changed_blocks_are_those_of_the_list.Goals as goal

pub returns : goal.returns
returns c = changed_are_listed
