use Rattle.std.proofs.Common.{◌≡◌, ◌+◌, ◌/◌, Some, None, sym, ap, ◌∙◌, subst, arith}
use Rattle.seq_layout.specs.Shapes.{shape_of, segment_extent}
use Rattle.seq_layout.specs.Copies.{Copies, copies}
use Rattle.seq_status.specs.declared.step.Step.{Step}
use Rattle.seq_status.specs.declared.step.Step.TheVariants.{Next}
use Rattle.seq_recover.specs.declared.recovery.Locks.{Locks}
use Rattle.seq_recover.specs.declared.recovery.Closing.{Closing}
use Rattle.seq_recover.specs.declared.recovery.Recovery.{Recovery}
use Rattle.seq_recover.specs.Reading.{is_shadow, left_from}
use Rattle.seq_recover.specs.Turns.{Turned, into_stage, locks_turn}
use Rattle.seq_recover.specs.Stands.{LocksKnows, ClosingKnows}
use Rattle.seq_recover.proofs.Cleared.{area_stays, none_left, behind_then, last_left}
use Rattle.seq_recover.proofs.Chosen.{unchanged_turn, chosen_inside, chosen_serves, turn_is, goes_on, moves_on, none_above}
use Rattle.seq_recover.proofs.locks.Recovery+Locks.turn.Goals as goal

pub returns-in_default-clause-step : goal.returns-in_default-clause-step
returns-in_default-clause-step c =
    let d = c.args.desc.now in
    let p = copies c.args.layout.now c.args.memories.now in
    let none : left_from d p c.args.self.pid.0 c.args.self.cursor ≡ None = sym c.left_from-next.ensures ∙ c.in_default.is in
    let row : (locks_turn d p c.args.self).step ≡ Next (into_stage c.args.self (record {})) = ap (λ (t : Turned (Step (Recovery Locks) (Recovery Closing))). t.step) (unchanged_turn d p c.args.self none) in
    cc

pub returns-in_default-clause-copies : goal.returns-in_default-clause-copies
returns-in_default-clause-copies c =
    let d = c.args.desc.now in
    let p = copies c.args.layout.now c.args.memories.now in
    let none : left_from d p c.args.self.pid.0 c.args.self.cursor ≡ None = sym c.left_from-next.ensures ∙ c.in_default.is in
    ap (λ (t : Turned (Step (Recovery Locks) (Recovery Closing))). t.copies) (sym (unchanged_turn d p c.args.self none))

pub returns-in_default-clause-closing : goal.returns-in_default-clause-closing
returns-in_default-clause-closing c r is knows =
    let d = c.args.desc.now in
    let p = copies c.args.layout.now c.args.memories.now in
    let q = c.args.self.pid.0 in
    let none : left_from d p q c.args.self.cursor ≡ None = sym c.left_from-next.ensures ∙ c.in_default.is in
    let same : ◌≡◌ {A = Recovery Closing} (into_stage c.args.self (record {})) r = cc in
    subst (λ (x : Recovery Closing). ClosingKnows d p x) same
    (record { area = knows.area; locks = none_left d p q c.args.self.cursor knows.behind none; begun = λ more. absurd (more (λ i. 0)) })

pub overflow_add-k : goal.overflow_add-k
overflow_add-k c =
    let d = c.args.desc.now in
    let p = copies c.args.layout.now c.args.memories.now in
    let found : left_from d p c.args.self.pid.0 c.args.self.cursor ≡ Some c.in-Some.k = sym c.left_from-next.ensures ∙ c.in-Some.is in
    omega (arith, chosen_inside d p c.args.self c.in-Some.k found, c.requires.description.segments)

pub left_from-requires-clause-from : goal.left_from-requires-clause-from
left_from-requires-clause-from c =
    let d = c.args.desc.now in
    let p = copies c.args.layout.now c.args.memories.now in
    let found : left_from d p c.args.self.pid.0 c.args.self.cursor ≡ Some c.in-Some.k = sym c.left_from-next.ensures ∙ c.in-Some.is in
    omega (arith, chosen_inside d p c.args.self c.in-Some.k found)

pub clear-requires-clause-word : goal.clear-requires-clause-word
clear-requires-clause-word c =
    let d = c.args.desc.now in
    let p = copies c.args.layout.now c.args.memories.now in
    let found : left_from d p c.args.self.pid.0 c.args.self.cursor ≡ Some c.in-Some.k = sym c.left_from-next.ensures ∙ c.in-Some.is in
    chosen_inside d p c.args.self c.in-Some.k found

pub clear-requires-clause-serves : goal.clear-requires-clause-serves
clear-requires-clause-serves c =
    let d = c.args.desc.now in
    let p = copies c.args.layout.now c.args.memories.now in
    let found : left_from d p c.args.self.pid.0 c.args.self.cursor ≡ Some c.in-Some.k = sym c.left_from-next.ensures ∙ c.in-Some.is in
    chosen_serves d p c.args.self c.in-Some.k found

pub returns-then-more-clause-step : goal.returns-then-more-clause-step
returns-then-more-clause-step c =
    let d = c.args.desc.now in
    let p = copies c.args.layout.now c.args.memories.now in
    let found : left_from d p c.args.self.pid.0 c.args.self.cursor ≡ Some c.in-Some.k = sym c.left_from-next.ensures ∙ c.in-Some.is in
    rw c.from.ensures (sym (goes_on d p c.args.self c.in-Some.k found c.left_from.result c.left_from.ensures (sym c.is_some-more.ensures ∙ c.if-more.true)))

pub returns-then-more-clause-copies : goal.returns-then-more-clause-copies
returns-then-more-clause-copies c =
    let d = c.args.desc.now in
    let p = copies c.args.layout.now c.args.memories.now in
    let found : left_from d p c.args.self.pid.0 c.args.self.cursor ≡ Some c.in-Some.k = sym c.left_from-next.ensures ∙ c.in-Some.is in
    c.clear.ensures.copies ∙ ap (λ (t : Turned (Step (Recovery Locks) (Recovery Closing))). t.copies) (sym (turn_is d p c.args.self c.in-Some.k found))

pub returns-then-more-clause-locks : goal.returns-then-more-clause-locks
returns-then-more-clause-locks c r is knows =
    let d = c.args.desc.now in
    let p = copies c.args.layout.now c.args.memories.now in
    let q = c.args.self.pid.0 in
    let k = c.in-Some.k in
    let found : left_from d p q c.args.self.cursor ≡ Some k = sym c.left_from-next.ensures ∙ c.in-Some.is in
    let same : ◌≡◌ {A = Recovery Locks} (record c.args.self { cursor = k + 1 }) r = cc in
    subst (λ (x : Recovery Locks). LocksKnows d (copies c.args.layout.now c.clear.new.memories) x) same
    (subst (λ (x : Copies). LocksKnows d x (record c.args.self { cursor = k + 1 })) (sym c.clear.ensures.copies)
    (record { area = area_stays d p (segment_extent (shape_of d) (k / 2)) 0 (is_shadow k) q knows.area; behind = behind_then d p q c.args.self.cursor knows.behind k found }))

pub returns-else-more-clause-step : goal.returns-else-more-clause-step
returns-else-more-clause-step c =
    let d = c.args.desc.now in
    let p = copies c.args.layout.now c.args.memories.now in
    let found : left_from d p c.args.self.pid.0 c.args.self.cursor ≡ Some c.in-Some.k = sym c.left_from-next.ensures ∙ c.in-Some.is in
    let row : (locks_turn d p c.args.self).step ≡ Next (into_stage c.args.self (record {})) = moves_on d p c.args.self c.in-Some.k found c.left_from.result c.left_from.ensures (sym c.is_some-more.ensures ∙ c.if-more.false) in
    cc

pub returns-else-more-clause-copies : goal.returns-else-more-clause-copies
returns-else-more-clause-copies c =
    let d = c.args.desc.now in
    let p = copies c.args.layout.now c.args.memories.now in
    let found : left_from d p c.args.self.pid.0 c.args.self.cursor ≡ Some c.in-Some.k = sym c.left_from-next.ensures ∙ c.in-Some.is in
    c.clear.ensures.copies ∙ ap (λ (t : Turned (Step (Recovery Locks) (Recovery Closing))). t.copies) (sym (turn_is d p c.args.self c.in-Some.k found))

pub returns-else-more-clause-closing : goal.returns-else-more-clause-closing
returns-else-more-clause-closing c r is knows =
    let d = c.args.desc.now in
    let p = copies c.args.layout.now c.args.memories.now in
    let q = c.args.self.pid.0 in
    let k = c.in-Some.k in
    let found : left_from d p q c.args.self.cursor ≡ Some k = sym c.left_from-next.ensures ∙ c.in-Some.is in
    let last = none_above d p c.args.self k found c.left_from.result c.left_from.ensures (sym c.is_some-more.ensures ∙ c.if-more.false) in
    let same : ◌≡◌ {A = Recovery Closing} (into_stage c.args.self (record {})) r = cc in
    subst (λ (x : Recovery Closing). ClosingKnows d (copies c.args.layout.now c.clear.new.memories) x) same
    (subst (λ (x : Copies). ClosingKnows d x (into_stage c.args.self (record {}))) (sym c.clear.ensures.copies) (record {
      area = area_stays d p (segment_extent (shape_of d) (k / 2)) 0 (is_shadow k) q knows.area;
      locks = last_left d p q c.args.self.cursor knows.behind k found last;
      begun = λ more. absurd (more (λ i. 0));
    }))
