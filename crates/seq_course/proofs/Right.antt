-- What is released is right after all that a faultless schedule makes, also by a machine check; at the end of each `finish` all is done;
-- and a machine check comes only where the events aren't covered.
use Rattle.std.proofs.Common.{◌≡◌, ℕ, Some, List, [], ◌∷◌, ◌++◌, sym, ◌∙◌, subst, append_assoc, reverse}
use Rattle.seq_words.specs.Description.{IsDescription}
use Rattle.seq_words.specs.declared.description.MachineDesc.{MachineDesc}
use Rattle.seq_words.specs.declared.events.Event.{Event}
use Rattle.seq_words.specs.declared.kinds.Blocker.{Blocker}
use Rattle.seq_flat.specs.Run.{IsRight}
use Rattle.seq_schedule.specs.declared.script.Script.{Script}
use Rattle.seq_schedule.specs.declared.script.Script.TheVariants as scripts
use Rattle.seq_schedule.specs.declared.script.Item.{Item}
use Rattle.seq_schedule.specs.Faultless.{AreFaultless}
use Rattle.seq_schedule.specs.Outs.{IsCovered}
use Rattle.seq_turns.specs.Machines.{Machine}
use Rattle.seq_turns.specs.Events.{check}
use Rattle.seq_lines.specs.Arrivals.{arrived}
use Rattle.seq_invariant.proofs.Start.{runs_hold}
use Rattle.seq_invariant.proofs.Gives.{committed_is_flat_run, runs_send_right, sent_is_right_then, settled_is_done}
use Rattle.seq_covered.specs.Bound.{ChecksAreUncovered}
use Rattle.seq_machine.specs.declared.hardware.Stop.{Stop}
use Rattle.seq_machine.specs.declared.hardware.Stop.TheVariants as stop
use Rattle.seq_machine.specs.Starting.{machine_at_start}
use Rattle.seq_course.specs.Course.{machine_after, SettledAfter, GoesOn, Passes, ComesTo}
use Rattle.seq_course.specs.Made.{up_to}
use Rattle.seq_course.specs.Done.{RightAfter, DoneAfter, CoursesAreRight, EndsAreRight, StopsAreRight, CoursesCheckUncovered, FaultlessFinishesAreDone}
use Rattle.seq_course.proofs.Runs.{run-append}
use Rattle.seq_course.proofs.Passing.{passes_last}
use Rattle.seq_course.proofs.Going.{GoWell, IsNext, well_allowed, front_goes_well, all_go_well, end_goes_well, is_next}

module _ (d : MachineDesc) (described : IsDescription d) where
  right : (es : List Event) → GoWell d es → RightAfter d es
  right es well = runs_send_right d es described (well_allowed d es well)

  done : (es : List Event) → GoWell d es → SettledAfter d es → DoneAfter d es
  done es well settled =
      let all = runs_hold d es described (well_allowed d es well) in
      record { state = all.at.state; flat = committed_is_flat_run d es (machine_after d es) all; done = settled_is_done d es (machine_after d es) all described settled }

  -- it is right with the next event, also where it is a machine check
  right_with : (es : List Event) (e : Event) → IsNext d es e → RightAfter d (es ++ e ∷ [])
  right_with es e is =
      subst (λ (m : Machine). IsRight d (arrived d (es ++ e ∷ [])) m.history m.sent) (sym (run-append d es (e ∷ []) (machine_at_start d)))
      (sent_is_right_then d es (machine_after d es) e described (runs_hold d es described (well_allowed d es is.well)) is.next)

  right_up_to : (es : List Event) (e : Event) (reason : Stop) → IsNext d es e → RightAfter d (up_to es e reason)
  right_up_to es e (stop.Check x b) is = right_with es e is
  right_up_to es e (stop.Line l) is = right es is.well
  right_up_to es e stop.Chronicle is = right es is.well
  right_up_to es e stop.NoMemory is = right es is.well

  module _ (items : List Item) (faultless : AreFaultless d items) where
    uncovered_at : ChecksAreUncovered → (line : ℕ) (es : List Event) (e : Event) (b : Blocker) → ComesTo d items line es e → check d (machine_after d es) e ≡ Some b → IsCovered d (reverse (es ++ e ∷ [])) → ⊥
    uncovered_at law line es e b comes checked covered =
        let is = is_next d described items faultless line es e comes in
        law d es e b described (well_allowed d es is.well) is.next checked covered

    done_at : (front back : List Item) (i : Item) (n : ℕ) (es : List Event) → items ≡ front ++ i ∷ back → i.script ≡ scripts.Finish n → Passes d [] (front ++ i ∷ []) es → DoneAfter d es
    done_at front back i n es split finish passes =
        let last = passes_last d front i [] es passes in
        let settled : SettledAfter d es = subst (λ (s : Script). GoesOn d s es) finish last.goes.goes_on in
        done es (front_goes_well d described items faultless (front ++ i ∷ []) back es (split ∙ sym (append_assoc front (i ∷ []) back)) passes) settled

pub courses_are_right : CoursesAreRight
courses_are_right d items es described faultless passes = right d described es (all_go_well d described items faultless es passes)

pub ends_are_right : EndsAreRight
ends_are_right d items line es described faultless ends = right d described es (end_goes_well d described items faultless line es ends)

pub stops_are_right : StopsAreRight
stops_are_right d items line es e reason described faultless comes = right_up_to d described es e reason (is_next d described items faultless line es e comes)

pub finishes_are_done : FaultlessFinishesAreDone
finishes_are_done d items described faultless = record { each = λ front back i n es split finish passes. done_at d described items faultless front back i n es split finish passes }

pub courses_check_uncovered : ChecksAreUncovered → CoursesCheckUncovered
courses_check_uncovered law d items line es e b described faultless comes checked covered = uncovered_at d described items faultless law line es e b comes checked covered
