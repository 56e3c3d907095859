use Rattle.std.proofs.Common.{◌≡◌, ◌+◌, length, slice_get, ap, ◌∙◌, arith}
use Rattle.seq_layout.specs.Copies.{Copies, copies, with_state}
use Rattle.seq_layout.specs.Units.{units_of}
use Rattle.seq_turns.specs.Machines.{copies_after}
use Rattle.seq_turns.specs.Recoveries.{service_after}
use Rattle.seq_reintegrate.specs.Taken.{taken_next}
use Rattle.seq_reintegrate.proofs.Copied.{after_unit, is_row, copying_knows, all_equal, needs_next, next_small, few_units}
use Rattle.seq_reintegrate.proofs.copying.copy_unit.Goals as goal

-- what the memories hold afterwards
copied : (c : goal.After-mark_done) → copies c.args.layout.now c.mark_done.new.memories ≡ after_unit c.args.layout.now (copies c.args.layout.now c.args.memories.now) c.args.m.0
copied c =
    let s = c.args.layout.now in
    let p = copies s c.args.memories.now in
    let i = c.args.m.0 in
    let units = units_of s i in
    c.mark_done.ensures.state ∙
    ap (λ (x : Copies). with_state x i (service_after (length units) (c.next_unit-next.result + 1))) c.take_next.ensures.copies ∙
    ap (λ n. with_state (copies_after (taken_next s.memories p i (slice_get units n)) p) i (service_after (length units) (n + 1))) c.next_unit-next.ensures

pub overflow_add-next : goal.overflow_add-next
overflow_add-next c =
    let s = c.args.layout.now in
    omega (arith, c.next_unit-next.ensures, next_small s (copies s c.args.memories.now) c.args.m.0 200528 c.requires.needs (few_units s c.args.m.0 c.requires.described))

pub returns-clause-row : goal.returns-clause-row
returns-clause-row c d shape = is_row d c.args.layout.now (copies c.args.layout.now c.args.memories.now) (copies c.args.layout.now c.mark_done.new.memories) c.args.m.0 shape (copied c)

pub returns-clause-knows : goal.returns-clause-knows
returns-clause-knows c = copying_knows c.args.layout.now (copies c.args.layout.now c.args.memories.now) (copies c.args.layout.now c.mark_done.new.memories) c.args.m.0 (copied c)

pub returns-clause-done : goal.returns-clause-done
returns-clause-done c = all_equal c.args.layout.now (copies c.args.layout.now c.args.memories.now) (copies c.args.layout.now c.mark_done.new.memories) c.args.m.0 (copied c)

pub returns-clause-needs : goal.returns-clause-needs
returns-clause-needs c = needs_next c.args.layout.now (copies c.args.layout.now c.args.memories.now) (copies c.args.layout.now c.mark_done.new.memories) c.args.m.0 (copied c) c.requires.needs
