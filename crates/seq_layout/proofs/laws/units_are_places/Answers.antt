use Rattle.seq_layout.proofs.UnitParts.{units_stand, standing_are_units, units_are_once, units_are_few}
use Rattle.seq_layout.proofs.laws.units_are_places.Goals as goal

pub returns : goal.returns
returns c = record { stand = units_stand; listed = standing_are_units; once = units_are_once; few = units_are_few }
