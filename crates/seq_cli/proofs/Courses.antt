-- What the course of a run gives at the top.
use Rattle.std.proofs.Common.{◌≡◌, inl, inr, ℕ, Option, Some, None, List, [], reverse, refl, sym, subst, ap, ◌∙◌}
use Rattle.seq_words.specs.Description.{IsDescription}
use Rattle.seq_words.specs.declared.description.MachineDesc.{MachineDesc}
use Rattle.seq_words.specs.declared.events.Entry.{Entry}
use Rattle.seq_words.specs.declared.events.Event.{Event}
use Rattle.seq_words.specs.declared.kinds.Blocker.{Blocker}
use Rattle.seq_words.specs.declared.kinds.Element.{Element}
use Rattle.seq_words.specs.declared.names.LineNo.{LineNo}
use Rattle.seq_shelf.specs.Causes.{Rose}
use Rattle.seq_shelf.specs.Told.{Grows, LineView, ChronicleView, Map}
use Rattle.seq_shelf.specs.Rows.{line_at}
use Rattle.seq_schedule.specs.declared.script.Script.{Script}
use Rattle.seq_schedule.specs.declared.script.Script.TheVariants as scripts
use Rattle.seq_schedule.specs.declared.script.Item.{Item}
use Rattle.seq_schedule.specs.Faultless.{AreFaultless}
use Rattle.seq_schedule.specs.Outs.{IsCovered}
use Rattle.seq_turns.specs.Machines.{Machine}
use Rattle.seq_turns.specs.Events.{check}
use Rattle.seq_machine.specs.declared.hardware.Stop.{Stop}
use Rattle.seq_machine.specs.declared.hardware.Stop.TheVariants as stop
use Rattle.seq_machine.specs.Checking.{EndsFor}
use Rattle.seq_course.specs.declared.ending.Ending.{Ending}
use Rattle.seq_course.specs.declared.ending.Ending.TheVariants as course
use Rattle.seq_course.specs.Course.{machine_after, Passes, EndsAt, RunsOut}
use Rattle.seq_course.specs.Made.{EndsRun, EndsWith, Takes}
use Rattle.seq_course.specs.Done.{RightAfter, CoursesCheckUncovered, FinishesAreDone}
use Rattle.seq_course.proofs.Right.{courses_are_right, ends_are_right, stops_are_right, finishes_are_done}
use Rattle.seq_report.specs.declared.status.Status.{Status}
use Rattle.seq_report.specs.declared.status.Status.TheVariants.{Done, Usage, MachineCheck, ShelfFault, ChronicleFault, LineFault}
use Rattle.seq_cli.specs.Files.{Opening, usage, ready}
use Rattle.seq_cli.specs.Commands.{Command}
use Rattle.seq_cli.specs.Opening.{OpensForm, AsksRun}
use Rattle.seq_cli.specs.Loads.{EndsLoading}
use Rattle.seq_cli.proofs.Openings.{ends_more}
use Rattle.seq_cli.specs.Endings.{status_of, moment_of, Answers, HasFinish, AreUncovered, EndsFaultless}
use Rattle.seq_cli.specs.Top.{RunFor, IsStill, Releases, Idle, FinishesAsked, ChecksAsked}
use Rattle.seq_shelf.proofs.Rows.{grows_none, all_stay}

-- ---- why a run stops

module _ (d : MachineDesc) (m : Machine) (e : Event) (old new : List LineView) (before after : ChronicleView) where
  check_cause : (x : Element) (b : Blocker) → EndsFor d m e old new before after (stop.Check x b) → check d m e ≡ Some b
  check_cause x b (inl checked) = checked.1
  check_cause x b (inr (inl at)) = absurd at.stops
  check_cause x b (inr (inr at)) = absurd at.stops

  line_cause : (l : LineNo) → EndsFor d m e old new before after (stop.Line l) → Rose (line_at old l.0).faults (line_at new l.0).faults
  line_cause l (inl checked) = absurd checked
  line_cause l (inr (inl at)) = subst (λ k. Rose (line_at old k).faults (line_at new k).faults) (sym at.stops.0) at.stops.1
  line_cause l (inr (inr at)) = absurd at.stops

  chronicle_cause : EndsFor d m e old new before after stop.Chronicle → Rose before.faults after.faults
  chronicle_cause (inl checked) = absurd checked
  chronicle_cause (inr (inl at)) = absurd at.stops
  chronicle_cause (inr (inr at)) = at.stops

-- the script of an item that runs out of turns is a `finish`
runs_out : (d : MachineDesc) (s : Script) (k : ℕ) (es : List Event) → RunsOut d s k es → (n : ℕ) × (s ≡ scripts.Finish n)
runs_out d (scripts.Finish n) k es h = (n, refl)
runs_out d (scripts.One e) k es h = absurd h
runs_out d (scripts.Bytes l bytes) k es h = absurd h
runs_out d (scripts.Turns e n) k es h = absurd h
runs_out d (scripts.Rounds n) k es h = absurd h

finish_at : (d : MachineDesc) (items : List Item) (line : ℕ) (es : List Event) → EndsAt d items line es → HasFinish items line
finish_at d items line es h =
    let finish = runs_out d h.item.script h.rounds es h.runs_out in
    record { front = h.front; item = h.item; back = h.back; split = h.split; line_is = h.line_is; rounds = finish.0; finish = finish.1 }

-- ---- the status of a run

stopped_status : (line : ℕ) (reason : Stop) → (status_of (course.Stopped line reason) ≡ Done → ⊥) × (status_of (course.Stopped line reason) ≡ Usage → ⊥) × (status_of (course.Stopped line reason) ≡ ShelfFault → ⊥)
stopped_status line (stop.Check element blocker) = (λ e. cc, λ e. cc, λ e. cc)
stopped_status line (stop.Line k) = (λ e. cc, λ e. cc, λ e. cc)
stopped_status line stop.Chronicle = (λ e. cc, λ e. cc, λ e. cc)
stopped_status line stop.NoMemory = (λ e. cc, λ e. cc, λ e. cc)

no_usage : (ending : Ending) → status_of ending ≡ Usage → ⊥
no_usage course.Done e = cc
no_usage (course.OutOfTurns line) e = cc
no_usage (course.Stopped line reason) e = (stopped_status line reason).1 e

no_shelf_fault : (ending : Ending) → status_of ending ≡ ShelfFault → ⊥
no_shelf_fault course.Done e = cc
no_shelf_fault (course.OutOfTurns line) e = cc
no_shelf_fault (course.Stopped line reason) e = (stopped_status line reason).2 e

pub run_is_no_usage : (status : Status) (ending : Ending) → status ≡ status_of ending → status ≡ Usage → ⊥
run_is_no_usage status ending is e = no_usage ending (sym is ∙ e)

pub run_is_no_shelf_fault : (status : Status) (ending : Ending) → status ≡ status_of ending → status ≡ ShelfFault → ⊥
run_is_no_shelf_fault status ending is e = no_shelf_fault ending (sym is ∙ e)

-- it is asked for where the run is
answers : (Asked : Opening → Type 0) (ending : Ending) → AsksRun Asked → Answers Asked (status_of ending)
answers Asked course.Done asks = inl asks
answers Asked (course.OutOfTurns line) asks = asks
answers Asked (course.Stopped line (stop.Check element blocker)) asks = asks
answers Asked (course.Stopped line (stop.Line l)) asks = asks
answers Asked (course.Stopped line stop.Chronicle) asks = asks
answers Asked (course.Stopped line stop.NoMemory) asks = tt

pub run_answers : (Asked : Opening → Type 0) (status : Status) (ending : Ending) → status ≡ status_of ending → AsksRun Asked → Answers Asked status
run_answers Asked status ending is asks = subst (λ s. Answers Asked s) (sym is) (answers Asked ending asks)

-- its fault comes where a count rose
line_rises : (d : MachineDesc) (items : List Item) (ending : Ending) (before after : ChronicleView) (old new : List LineView) (l : LineNo) → Takes d items ending before after old new → status_of ending ≡ LineFault l → Rose (line_at old l.0).faults (line_at new l.0).faults
line_rises d items course.Done before after old new l takes e = absurd cc
line_rises d items (course.OutOfTurns line) before after old new l takes e = absurd cc
line_rises d items (course.Stopped line (stop.Check x b)) before after old new l takes e = absurd cc
line_rises d items (course.Stopped line (stop.Line k)) before after old new l takes e =
    let rose : Rose (line_at old k.0).faults (line_at new k.0).faults = line_cause d (machine_after d takes.ends.made) takes.ends.event old new before after k takes.ends.ends in
    subst (λ (k : LineNo). Rose (line_at old k.0).faults (line_at new k.0).faults) (let same : LineFault k ≡ LineFault l = e in cc) rose
line_rises d items (course.Stopped line stop.Chronicle) before after old new l takes e = absurd cc
line_rises d items (course.Stopped line stop.NoMemory) before after old new l takes e = absurd cc

chronicle_rises : (d : MachineDesc) (items : List Item) (ending : Ending) (before after : ChronicleView) (old new : List LineView) → Takes d items ending before after old new → status_of ending ≡ ChronicleFault → Rose before.faults after.faults
chronicle_rises d items course.Done before after old new takes e = absurd cc
chronicle_rises d items (course.OutOfTurns line) before after old new takes e = absurd cc
chronicle_rises d items (course.Stopped line (stop.Check x b)) before after old new takes e = absurd cc
chronicle_rises d items (course.Stopped line (stop.Line k)) before after old new takes e = absurd cc
chronicle_rises d items (course.Stopped line stop.Chronicle) before after old new takes e = chronicle_cause d (machine_after d takes.ends.made) takes.ends.event old new before after takes.ends.ends
chronicle_rises d items (course.Stopped line stop.NoMemory) before after old new takes e = absurd cc

-- ---- a machine check

check_ending : (ending : Ending) (line : ℕ) (x : Element) (b : Blocker) → status_of ending ≡ MachineCheck line x b → ending ≡ course.Stopped line (stop.Check x b)
check_ending course.Done line x b e = absurd cc
check_ending (course.OutOfTurns at) line x b e = absurd cc
check_ending (course.Stopped at (stop.Check y c)) line x b e = (let same : MachineCheck at y c ≡ MachineCheck line x b = e in cc)
check_ending (course.Stopped at (stop.Line k)) line x b e = absurd cc
check_ending (course.Stopped at stop.Chronicle) line x b e = absurd cc
check_ending (course.Stopped at stop.NoMemory) line x b e = absurd cc

module _ (law : CoursesCheckUncovered) (d : MachineDesc) (items : List Item) (described : IsDescription d) (faultless : AreFaultless d items) (before after : ChronicleView) (old new : List LineView) where
  -- its events aren't covered
  uncovered_by : (es : List Event) (line : ℕ) (x : Element) (b : Blocker) → EndsRun d items es line (stop.Check x b) before after old new → AreUncovered d items line
  uncovered_by es line x b ends = record {
    events = ends.made;
    event = ends.event;
    comes = ends.comes;
    uncovered = law d items line ends.made ends.event b described faultless ends.comes (check_cause d (machine_after d ends.made) ends.event old new before after x b ends.ends);
  }

  uncovered_events : (es : List Event) (line : ℕ) (x : Element) (b : Blocker) → EndsRun d items es line (stop.Check x b) before after old new → IsCovered d (reverse es) → ⊥
  unfolding uncovered_by
  uncovered_events es line x b ends covered = (uncovered_by es line x b ends).uncovered (subst (λ (es : List Event). IsCovered d (reverse es)) ends.events_are covered)

  -- without a fault a run comes to its end, or to a `finish` that runs out of turns, or to a machine check, or memory is wanting
  completes : (ending : Ending) → Takes d items ending before after old new → (Rose before.faults after.faults → ⊥) → ((l : ℕ) → Rose (line_at old l).faults (line_at new l).faults → ⊥) → EndsFaultless d items (status_of ending)
  completes course.Done takes chronicle line = inl refl
  completes (course.OutOfTurns at) takes chronicle line = inr (inr (inl (at, refl, finish_at d items at takes.events takes.ends)))
  completes (course.Stopped at (stop.Check x b)) takes chronicle line = inr (inr (inr (at, x, b, refl, uncovered_by takes.events at x b takes.ends)))
  completes (course.Stopped at (stop.Line k)) takes chronicle line = absurd (line k.0 (line_cause d (machine_after d takes.ends.made) takes.ends.event old new before after k takes.ends.ends))
  completes (course.Stopped at stop.Chronicle) takes chronicle line = absurd (chronicle (chronicle_cause d (machine_after d takes.ends.made) takes.ends.event old new before after takes.ends.ends))
  completes (course.Stopped at stop.NoMemory) takes chronicle line = inr (inl refl)

pub run_checks : CoursesCheckUncovered → (form : Option Command) (map : Option Map) (status : Status) (asks : RunFor form map) (ending : Ending) (before after : ChronicleView) (old new : List LineView) → status ≡ status_of ending → AreFaultless asks.desc asks.items → Takes asks.desc asks.items ending before after old new
    → (line : ℕ) (x : Element) (b : Blocker) → status ≡ MachineCheck line x b → ChecksAsked form map line x b before after old new
run_checks law form map status asks ending before after old new is faultless takes line x b e =
    let here : Takes asks.desc asks.items (course.Stopped line (stop.Check x b)) before after old new = subst (λ (z : Ending). Takes asks.desc asks.items z before after old new) (check_ending ending line x b (sym is ∙ e)) takes in
    record { asks = asks; takes = here; uncovered = uncovered_events law asks.desc asks.items asks.described faultless before after old new here.events line x b here.ends }

pub line_rose : (status : Status) (d : MachineDesc) (items : List Item) (ending : Ending) (before after : ChronicleView) (old new : List LineView) (l : LineNo) → status ≡ status_of ending → Takes d items ending before after old new → status ≡ LineFault l → Rose (line_at old l.0).faults (line_at new l.0).faults
line_rose status d items ending before after old new l is takes e = line_rises d items ending before after old new l takes (sym is ∙ e)

pub chronicle_rose : (status : Status) (d : MachineDesc) (items : List Item) (ending : Ending) (before after : ChronicleView) (old new : List LineView) → status ≡ status_of ending → Takes d items ending before after old new → status ≡ ChronicleFault → Rose before.faults after.faults
chronicle_rose status d items ending before after old new is takes e = chronicle_rises d items ending before after old new takes (sym is ∙ e)

pub run_completes : CoursesCheckUncovered → (status : Status) (d : MachineDesc) (items : List Item) (ending : Ending) (before after : ChronicleView) (old new : List LineView) → IsDescription d → AreFaultless d items → status ≡ status_of ending → Takes d items ending before after old new
    → (asked : MachineDesc) (items_asked : List Item) → d ≡ asked → items ≡ items_asked → (Rose before.faults after.faults → ⊥) → ((l : ℕ) → Rose (line_at old l).faults (line_at new l).faults → ⊥) → EndsFaultless asked items_asked status
run_completes law status d items ending before after old new described faultless is takes asked items_asked same same_items chronicle line =
    subst (λ (x : MachineDesc). EndsFaultless x items_asked status) same (subst (λ (xs : List Item). EndsFaultless d xs status) same_items (subst (λ s. EndsFaultless d items s) (sym is)
    (completes law d items described faultless before after old new ending takes chronicle line)))

-- what was loaded is the run that is asked for
abbrev pub run_for : (form : Option Command) (map : Option Map) (d : MachineDesc) (items : List Item) (files : List (List ℕ)) → ((m : Map) → map ≡ Some m → OpensForm m None form (ready d items files)) → IsDescription d → RunFor form map
run_for form map d items files opens described = record {
  desc = d;
  items = items;
  files = files;
  asked = opens;
  described = described;
}

-- ---- what a run released

-- the events of a run that is done passed all items
done_passes : (d : MachineDesc) (items : List Item) (es : List Event) (ending : Ending) (before after : ChronicleView) (old new : List LineView) → status_of ending ≡ Done → EndsWith d items es before after old new ending → Passes d [] items es
done_passes d items es course.Done before after old new e ends = ends
done_passes d items es (course.OutOfTurns line) before after old new e ends = absurd cc
done_passes d items es (course.Stopped line reason) before after old new e ends = absurd ((stopped_status line reason).0 e)

pub right_after : (d : MachineDesc) (items : List Item) (es : List Event) (ending : Ending) (before after : ChronicleView) (old new : List LineView) → IsDescription d → AreFaultless d items → EndsWith d items es before after old new ending → RightAfter d es
right_after d items es course.Done before after old new described faultless ends = courses_are_right d items es described faultless ends
right_after d items es (course.OutOfTurns line) before after old new described faultless ends = ends_are_right d items line es described faultless ends
right_after d items es (course.Stopped line reason) before after old new described faultless ends = subst (λ (made : List Event). RightAfter d made) (sym ends.events_are) (stops_are_right d items line ends.made ends.event reason described faultless ends.comes)

pub run_releases : (form : Option Command) (map : Option Map) (status : Status) (asks : RunFor form map) (ending : Ending) (before after : ChronicleView) (old new : List LineView) → status ≡ status_of ending → AreFaultless asks.desc asks.items → Takes asks.desc asks.items ending before after old new → Releases form map status before after old new
run_releases form map status asks ending before after old new is faultless takes = record {
  history = (machine_after asks.desc takes.events).history;
  appended = takes.released.history;
  released = (machine_after asks.desc takes.events).sent;
  accepted = takes.released.bytes;
  right = inr (record {
    asks = asks;
    ending = ending;
    status_is = is;
    events = takes.events;
    ends = takes.ends;
    right = right_after asks.desc asks.items takes.events ending before after old new asks.described faultless takes.ends;
  });
}

pub run_finishes : (form : Option Command) (map : Option Map) (status : Status) (asks : RunFor form map) (ending : Ending) (before after : ChronicleView) (old new : List LineView) → status ≡ status_of ending → AreFaultless asks.desc asks.items → Takes asks.desc asks.items ending before after old new → FinishesAsked form map status before after old new
run_finishes form map status asks ending before after old new is faultless takes =
    let each : FinishesAreDone asks.desc asks.items = finishes_are_done asks.desc asks.items asks.described faultless in
    record {
      asks = asks;
      each = each;
      last = λ done front i n split finish.
          let passes = done_passes asks.desc asks.items takes.events ending before after old new (sym is ∙ done) takes.ends in
          (takes.events, takes.released, each.each front [] i n takes.events split finish (subst (λ items. Passes asks.desc [] items takes.events) split passes));
    }

-- ---- where no event is made

pub idle : (form : Option Command) (status : Status) (before : ChronicleView) (old : List LineView) → IsStill form status → Idle form status before before old old
idle form status before old still = record { still = still; chronicle = refl; bytes = all_stay old }

pub loading_is_still : (form : Option Command) (status : Status) → EndsLoading status → IsStill form status
loading_is_still form status ends = inl (ends_more (λ o. o ≡ usage → ⊥) (λ o. Unit {0}) (λ o other. tt) (moment_of status) ends)

pub idle_releases : (form : Option Command) (map : Option Map) (status : Status) (before after : ChronicleView) (old new : List LineView) → Idle form status before after old new → Releases form map status before after old new
idle_releases form map status before after old new h = record {
  history = [];
  appended = subst (λ (told : Option (List Entry)). Grows before.told told []) (sym (ap (λ v. v.told) h.chronicle)) (grows_none before.told);
  released = λ l. [];
  accepted = h.bytes;
  right = inl (record { still = h.still; history_is = refl; released_is = λ l. refl });
}
