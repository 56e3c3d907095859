use Rattle.std.proofs.Common.{sym, ◌∙◌}
use Rattle.seq_layout.proofs.UnitParts.{units_stand}
use Rattle.seq_reintegrate.proofs.copying.take_next.Goals as goal

pub take_unit-requires-clause-stands : goal.take_unit-requires-clause-stands
take_unit-requires-clause-stands c = units_stand c.args.layout.now c.args.m.0 c.args.next c.in-Some.unit (sym c.unit.ensures ∙ c.in-Some.is)
