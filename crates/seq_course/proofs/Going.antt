-- What a faultless schedule makes goes well: its events may be made one after the other from the start, and none ends the run.
use Rattle.std.proofs.Common.{◌≡◌, ℕ, List, [], ◌∷◌, ◌++◌, refl, sym, ◌∙◌, subst, append_assoc}
use Rattle.std.proofs.lemmas.List.{append-nil}
use Rattle.seq_words.specs.Description.{IsDescription}
use Rattle.seq_words.specs.declared.description.MachineDesc.{MachineDesc}
use Rattle.seq_words.specs.declared.events.Event.{Event}
use Rattle.seq_schedule.specs.declared.script.Item.{Item}
use Rattle.seq_schedule.specs.Faultless.{AreFaultless}
use Rattle.seq_turns.specs.Machines.{Machine}
use Rattle.seq_turns.specs.Allowed.{Allowed}
use Rattle.seq_stands.specs.Standing.{AllAllowed}
use Rattle.seq_machine.specs.Making.{MayMake}
use Rattle.seq_machine.specs.Starting.{machine_at_start}
use Rattle.seq_course.specs.Course.{machine_after, AreUnchecked, made_by, Passes, EndsAt, ComesTo}
use Rattle.seq_course.proofs.Runs.{run-append, may-append, unchecked-append, may_begin, may_follow, next_allowed, all_allowed}
use Rattle.seq_course.proofs.Allowed.{next_may_make, passes_on}

-- the events may be made from the start, and none is a machine check
pub record GoWell (d : MachineDesc) (es : List Event) : Type 0 where
  pub may : MayMake d es (machine_at_start d)
  pub unchecked : AreUnchecked d es (machine_at_start d)

-- the events up to the next one go well, and it is allowed
pub record IsNext (d : MachineDesc) (es : List Event) (e : Event) : Type 0 where
  pub well : GoWell d es
  pub next : Allowed d (machine_after d es) e

pub well_allowed : (d : MachineDesc) (es : List Event) → GoWell d es → AllAllowed d es (machine_at_start d)
well_allowed d es well = all_allowed d es (machine_at_start d) well.may well.unchecked

module _ (d : MachineDesc) (described : IsDescription d) where
  go_well_on : (es more : List Event) → GoWell d es → MayMake d more (machine_after d es) → AreUnchecked d more (machine_after d es) → GoWell d (es ++ more)
  go_well_on es more well may unchecked = record {
    may = may-append d es more (machine_at_start d) well.may (λ are. may);
    unchecked = unchecked-append d es more (machine_at_start d) well.unchecked unchecked;
  }

  module _ (items : List Item) (faultless : AreFaultless d items) where
    -- the next item's events may be made
    item_may : (front back : List Item) (i : Item) (es : List Event) (k : ℕ) → items ≡ front ++ i ∷ back → Passes d [] front es → MayMake d (made_by d i.script k) (machine_after d es)
    item_may front back i es k split passes = next_may_make d front back i es k described (subst (λ (is : List Item). AreFaultless d is) split faultless) passes

    -- those of a front of the items go well
    passed : (before front back : List Item) (from es : List Event) → items ≡ before ++ (front ++ back) → Passes d [] before from → GoWell d from → Passes d from front es → GoWell d es
    unfolding Passes
    passed before [] back from es split came well passes = subst (λ (e : List Event). GoWell d e) (sym passes) well
    passed before (i ∷ front) back from es split came well passes =
        let goes = passes.1 in
        let more : List Event = made_by d i.script goes.rounds in
        let on : GoWell d (from ++ more) = go_well_on from more well (item_may before (front ++ back) i from goes.rounds split came) goes.unchecked in
        passed (before ++ i ∷ []) front back passes.0 es (split ∙ sym (append_assoc before (i ∷ []) (front ++ back))) (passes_on d before i from passes.0 came goes) (subst (λ (e : List Event). GoWell d e) (sym goes.after_is) on) passes.2

    pub front_goes_well : (front back : List Item) (es : List Event) → items ≡ front ++ back → Passes d [] front es → GoWell d es
    unfolding Passes
    front_goes_well front back es split passes = passed [] front back [] es split refl (record { may = tt; unchecked = tt }) passes

    pub all_go_well : (es : List Event) → Passes d [] items es → GoWell d es
    all_go_well es passes = front_goes_well items [] es (sym (append-nil items)) passes

    pub end_goes_well : (line : ℕ) (es : List Event) → EndsAt d items line es → GoWell d es
    end_goes_well line es ends =
        let well = front_goes_well ends.front (ends.item ∷ ends.back) ends.before ends.split ends.passes in
        let may = item_may ends.front ends.back ends.item ends.before ends.rounds ends.split ends.passes in
        subst (λ (e : List Event). GoWell d e) (sym ends.after_is) (go_well_on ends.before (made_by d ends.item.script ends.rounds) well may ends.unchecked)

    pub is_next : (line : ℕ) (es : List Event) (e : Event) → ComesTo d items line es e → IsNext d es e
    is_next line es e comes =
        let well = front_goes_well comes.front (comes.item ∷ comes.back) comes.before comes.split comes.passes in
        let all : MayMake d (made_by d comes.item.script comes.rounds) (machine_after d comes.before) = item_may comes.front comes.back comes.item comes.before comes.rounds comes.split comes.passes in
        let parted : MayMake d (comes.part ++ e ∷ comes.rest) (machine_after d comes.before) = subst (λ (made : List Event). MayMake d made (machine_after d comes.before)) comes.parts all in
        let there : IsNext d (comes.before ++ comes.part) e = record {
          well = go_well_on comes.before comes.part well (may_begin d comes.part (e ∷ comes.rest) (machine_after d comes.before) parted) comes.unchecked;
          next = subst (λ (m : Machine). Allowed d m e) (sym (run-append d comes.before comes.part (machine_at_start d))) (next_allowed d e comes.rest _ (may_follow d comes.part (e ∷ comes.rest) (machine_after d comes.before) parted comes.unchecked));
        } in
        subst (λ (es : List Event). IsNext d es e) (sym comes.after_is) there
