use Rattle.seq_flush.proofs.Survive.{standing_survives, mark_survives, first_survives, second_survives, close_survives, closed_survives}
use Rattle.seq_flush.proofs.laws.states_survive.Goals as goal

pub returns : goal.returns
returns c = record {
  units = standing_survives;
  mark = mark_survives;
  first = first_survives;
  second = second_survives;
  close = close_survives;
  closed = closed_survives;
}
