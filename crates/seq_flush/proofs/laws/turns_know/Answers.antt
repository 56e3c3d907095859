use Rattle.seq_flush.proofs.LawsHold.{mark_turns_know, first_turns_know, second_turns_know, close_turns_know}
use Rattle.seq_flush.proofs.laws.turns_know.Goals as goal

pub returns : goal.returns
returns c = record {
  mark = mark_turns_know;
  first = first_turns_know;
  second = second_turns_know;
  close = close_turns_know;
}
