use Rattle.std.proofs.Common.{arith}
use Rattle.seq_layout.specs.Copies.{copies}
use Rattle.seq_flush.proofs.Numbered.{length_units, units_apart}
use Rattle.seq_flush.proofs.Known.{second_begins, second_again, second_next}
use Rattle.seq_flush.proofs.flush.Flush+Second.turn.Goals as goal

pub returns-then-self-eq0-clause-second : goal.returns-then-self-eq0-clause-second
returns-then-self-eq0-clause-second c f same knows =
    rw (c.write_status.ensures.copies)
    (second_begins c.args.layout.now (copies c.args.layout.now c.args.memories.now) c.args.cache.now.changes c.args.self f c.if-self-eq0.true (cc) knows)

pub returns-then-self-dirty-clause-close : goal.returns-then-self-dirty-clause-close
returns-then-self-dirty-clause-close c f same knows =
    let self = c.args.self in
    let s = c.args.layout.now in
    let changes = c.args.cache.now.changes in
    let apart = units_apart s self.pid.0 self.context changes c.unit-unit.ensures.cache.ascending c.requires.places in
    rw (c.write_unit.ensures.copies, c.unit-unit.ensures.value)
    (second_next s (copies s c.args.memories.now) changes self f apart c.if-self-eq0.false (omega (arith, length_units self.pid.0 self.context changes)) (cc) knows)

pub returns-else-self-dirty-clause-second : goal.returns-else-self-dirty-clause-second
returns-else-self-dirty-clause-second c f same knows =
    let self = c.args.self in
    let s = c.args.layout.now in
    let changes = c.args.cache.now.changes in
    let apart = units_apart s self.pid.0 self.context changes c.unit-unit.ensures.cache.ascending c.requires.places in
    rw (c.write_unit.ensures.copies, c.unit-unit.ensures.value)
    (second_again s (copies s c.args.memories.now) changes self f apart c.if-self-eq0.false (omega (arith, length_units self.pid.0 self.context changes)) (cc) knows)
