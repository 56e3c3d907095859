-- What a course of a faultless schedule gives: what it releases is right, a settled end is done, and a machine check comes only where
-- the events aren't covered.
use Rattle.std.specs.Prelude.{◌≡◌, ℕ, Some, List, [], ◌∷◌, ◌++◌, reverse}
use Rattle.seq_words.specs.Description.{IsDescription}
use Rattle.seq_words.specs.declared.description.MachineDesc.{MachineDesc}
use Rattle.seq_words.specs.declared.events.Event.{Event}
use Rattle.seq_words.specs.declared.kinds.Blocker.{Blocker}
use Rattle.seq_flat.specs.declared.state.FlatState.{FlatState}
use Rattle.seq_flat.specs.Run.{flat_run, IsRight}
use Rattle.seq_schedule.specs.declared.script.Script.TheVariants as scripts
use Rattle.seq_schedule.specs.declared.script.Item.{Item}
use Rattle.seq_schedule.specs.Faultless.{AreFaultless}
use Rattle.seq_schedule.specs.Outs.{IsCovered}
use Rattle.seq_lines.specs.Arrivals.{arrived}
use Rattle.seq_lines.specs.Settled.{IsDone}
use Rattle.seq_turns.specs.Events.{check}
use Rattle.seq_machine.specs.declared.hardware.Stop.{Stop}
use Rattle.seq_course.specs.Course.{machine_after, Passes, EndsAt, ComesTo}
use Rattle.seq_course.specs.Made.{up_to}

-- What was released after these events is right: the history is a flat run with what arrived in them, and the bytes sent on each
-- line are a prefix of its output.
abbrev pub RightAfter : MachineDesc → List Event → Type 0
RightAfter d es = IsRight d (arrived d es) (machine_after d es).history (machine_after d es).sent

-- All is done after these events: no process can take a step with what arrived in them, and each line has released its output.
pub record DoneAfter (d : MachineDesc) (es : List Event) : Type 0 where
  pub state : FlatState
  pub flat : flat_run d (arrived d es) (machine_after d es).history ≡ Some state
  pub done : IsDone d (arrived d es) state (machine_after d es)

-- So it is at the end of each `finish` behind which the schedule goes on.
pub record FinishesAreDone (d : MachineDesc) (items : List Item) : Type 0 where
  pub each : (front back : List Item) (i : Item) (n : ℕ) (es : List Event) → items ≡ front ++ i ∷ back → i.script ≡ scripts.Finish n → Passes d [] (front ++ i ∷ []) es → DoneAfter d es

-- the laws of faultless schedules: what is right, what is done, and where a machine check comes
abbrev pub CoursesAreRight : Type 0
CoursesAreRight = (d : MachineDesc) (items : List Item) (es : List Event) → IsDescription d → AreFaultless d items → Passes d [] items es → RightAfter d es

abbrev pub EndsAreRight : Type 0
EndsAreRight = (d : MachineDesc) (items : List Item) (line : ℕ) (es : List Event) → IsDescription d → AreFaultless d items → EndsAt d items line es → RightAfter d es

-- it is right before the next event, and with it where it is a machine check
abbrev pub StopsAreRight : Type 0
StopsAreRight = (d : MachineDesc) (items : List Item) (line : ℕ) (es : List Event) (e : Event) (reason : Stop) → IsDescription d → AreFaultless d items → ComesTo d items line es e → RightAfter d (up_to es e reason)

-- the next event is a machine check only where the events, it included, aren't covered
abbrev pub CoursesCheckUncovered : Type 0
CoursesCheckUncovered =
    (d : MachineDesc) (items : List Item) (line : ℕ) (es : List Event) (e : Event) (b : Blocker) →
    IsDescription d → AreFaultless d items → ComesTo d items line es e → check d (machine_after d es) e ≡ Some b → IsCovered d (reverse (es ++ e ∷ [])) → ⊥

abbrev pub FaultlessFinishesAreDone : Type 0
FaultlessFinishesAreDone = (d : MachineDesc) (items : List Item) → IsDescription d → AreFaultless d items → FinishesAreDone d items
