use Rattle.seq_flush.proofs.LawsHold.{first_writes_what_is_left, second_writes_what_is_left, nothing_is_left, all_written_stand, units_are_apart}
use Rattle.seq_flush.proofs.Numbered.{rest_apart}
use Rattle.seq_flush.proofs.Layer.{writing_is_one_layer}
use Rattle.seq_flush.proofs.laws.writing_what_is_left.Goals as goal

pub returns : goal.returns
returns c = record {
  first = first_writes_what_is_left;
  second = second_writes_what_is_left;
  nothing = nothing_is_left;
  stand = all_written_stand;
  apart = units_are_apart;
  rest = rest_apart;
  layer = writing_is_one_layer;
}
