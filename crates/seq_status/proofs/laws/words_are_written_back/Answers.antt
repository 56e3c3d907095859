use Rattle.seq_status.proofs.WordLaws.{words_are_written_back, words_of_the_format_are_read}
use Rattle.seq_status.proofs.laws.words_are_written_back.Goals as goal

pub returns : goal.returns
returns c = record { written_back = words_are_written_back; found = words_of_the_format_are_read }
