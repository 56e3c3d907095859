use Rattle.seq_stands.proofs.Plain.{no_two_run_one, names_are_not_ahead, one_out_none_awaits}
use Rattle.seq_stands.proofs.words.what_stands_of_the_words.Goals as goal

pub returns : goal.returns
returns c = record { alone = no_two_run_one; names = names_are_not_ahead; out = one_out_none_awaits }
