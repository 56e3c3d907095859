use Rattle.std.proofs.Common.{false, arith, sym, ◌∙◌}
use Rattle.std.proofs.lemmas.Bool.{leb-true, leb-false}
use Rattle.seq_layout.specs.Copies.{copies}
use Rattle.seq_flush.proofs.Numbered.{units_more, units_done, units_apart}
use Rattle.seq_flush.proofs.Known.{first_again, first_next}
use Rattle.seq_flush.proofs.flush.Flush+First.turn.Goals as goal

pub unit-unit-requires : goal.unit-unit-requires
unit-unit-requires c =
    let self = c.args.self in
    record { within = units_more self.pid.0 self.context c.args.cache.now.changes self.cursor (sym c.ready.ensures ∙ c.if-ready.false) }

pub overflow_add-result : goal.overflow_add-result
overflow_add-result c =
    let self = c.args.self in
    let within = units_more self.pid.0 self.context c.args.cache.now.changes self.cursor (sym c.ready.ensures ∙ c.if-ready.false) in
    omega (arith, c.unit-unit.ensures.cache.fits, c.unit-unit.ensures.cache.small)

pub returns-then-ready-clause-second : goal.returns-then-ready-clause-second
returns-then-ready-clause-second c f same knows =
    rw (c.write_status.ensures.copies)
    (first_next c.args.layout.now (copies c.args.layout.now c.args.memories.now) c.args.cache.now.changes c.args.self f (leb-true _ _ (sym c.ready.ensures ∙ c.if-ready.true)) (cc) knows)

pub returns-then-ready-clause-taken : goal.returns-then-ready-clause-taken
returns-then-ready-clause-taken c f same =
    let self = c.args.self in
    omega (arith, units_done self.pid.0 self.context c.args.cache.now.changes self.cursor (sym c.ready.ensures ∙ c.if-ready.true))

pub returns-else-ready-clause-first : goal.returns-else-ready-clause-first
returns-else-ready-clause-first c f same knows =
    let self = c.args.self in
    let s = c.args.layout.now in
    let changes = c.args.cache.now.changes in
    let apart = units_apart s self.pid.0 self.context changes c.unit-unit.ensures.cache.ascending c.requires.places in
    rw (c.write_unit.ensures.copies, c.unit-unit.ensures.value)
    (first_again s (copies s c.args.memories.now) changes self f apart (leb-false _ _ (sym c.ready.ensures ∙ c.if-ready.false)) (cc) knows)

pub returns-else-ready-clause-again : goal.returns-else-ready-clause-again
returns-else-ready-clause-again c f same =
    let self = c.args.self in
    (units_more self.pid.0 self.context c.args.cache.now.changes self.cursor (sym c.ready.ensures ∙ c.if-ready.false), (cc))
