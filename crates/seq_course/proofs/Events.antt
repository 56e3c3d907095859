-- One event, as the hardware makes it: what it comes to in a course.
use Rattle.std.proofs.Common.{◌≡◌, inl, inr, Option, ℕ, suc, ◌+◌, ◌≤◌, Bool, List, [], ◌∷◌, ◌++◌, length, None, refl, sym, ◌∙◌, ap, subst, arith, append-nil}
use Rattle.std.proofs.lemmas.List.{length-map}
use Rattle.seq_words.specs.declared.description.MachineDesc.{MachineDesc}
use Rattle.seq_words.specs.declared.events.Entry.{Entry}
use Rattle.seq_words.specs.declared.events.Event.{Event}
use Rattle.seq_shelf.specs.Causes.{Rose}
use Rattle.seq_shelf.specs.Told.{Grows, LineView, ChronicleView}
use Rattle.seq_shelf.specs.Rows.{AllAccept}
use Rattle.seq_shelf.specs.Outlets.{view, views}
use Rattle.seq_shelf.specs.declared.line.Outlet.{Outlet}
use Rattle.seq_shelf.proofs.Rows.{grows_more, all_more}
use Rattle.seq_kernel.specs.declared.outcomes.Note.{Note}
use Rattle.seq_turns.specs.Machines.{Machine}
use Rattle.seq_turns.specs.Allowed.{Allowed}
use Rattle.seq_turns.specs.Events.{happens, note, check}
use Rattle.seq_stands.specs.Fit.{Fit}
use Rattle.seq_stands.specs.FitNumbers.{NumbersFit}
use Rattle.seq_machine.specs.declared.hardware.Hardware.{Hardware}
use Rattle.seq_machine.specs.declared.hardware.Stop.{Stop}
use Rattle.seq_machine.specs.declared.hardware.Stop.TheVariants as stop
use Rattle.seq_machine.specs.Plain.{Outside, machine_of, outside_of, IsOutside, IsHardware}
use Rattle.seq_machine.specs.Starting.{no_outside, machine_at_start}
use Rattle.seq_machine.specs.Built.{IsBuilt}
use Rattle.seq_machine.specs.Making.{IsReadyFor}
use Rattle.seq_machine.specs.Serving.{StopsAt}
use Rattle.seq_machine.specs.Happening.{sent_in, entries_in, StopsFor, CountsStay, ChronicleStops}
use Rattle.seq_machine.specs.Checking.{machine_left, EndsFor}
use Rattle.seq_machine.proofs.Readiness.{numbers_fit, goes_on}
use Rattle.seq_machine.proofs.Unchanged.{allowed_anywhere}
use Rattle.seq_retell.specs.Keeping.{Keeping}
use Rattle.seq_course.specs.Course.{machine_after}
use Rattle.seq_course.specs.Made.{up_to, AreFirst}
use Rattle.seq_course.specs.Making.{Scene, scene, LedTo, MayCome, Makes, HaltsAt, Breaks}
use Rattle.seq_course.proofs.Runs.{run-append, unchecked-append}
use Rattle.seq_course.proofs.Told.{IsTold, is_told, TellsNothing, stops_tell_nothing}

-- ---- what an event needs
-- there are as many outlets as lines are shown
pub enough : {I : Type 0} {D : I → Type 0} (line : (x : I) × D x → LineView) (outlets : List (Outlet I D)) (n : ℕ) → n ≤ length (views line outlets) → n ≤ length outlets
enough line outlets n le = subst (λ k. n ≤ k) (length-map outlets (view line)) le

module _ (e : Event) (a : Scene) (may : MayCome (e ∷ []) a) where
  pub built_next : IsBuilt e
  built_next = may.allowed.0

  pub allowed_next : Allowed a.hardware.desc (machine_of a.hardware no_outside) e
  allowed_next =
      let led = may.led.machine in
      let here : Allowed may.desc (machine_of a.hardware _) e = subst (λ (m : Machine). Allowed may.desc m e) (sym led.machine) may.allowed.1 in
      subst (λ (d : MachineDesc). Allowed d (machine_of a.hardware no_outside) e) (sym led.described) (allowed_anywhere may.desc a.hardware _ no_outside e built_next here)

  pub numbers_next : NumbersFit a.hardware.desc (machine_of a.hardware no_outside)
  numbers_next = (let room = may.ready.room in numbers_fit may.ready.number a.hardware (omega arith) may.ready.ready)

-- and as many lines as outlets
pub enough_shown : {I : Type 0} {D : I → Type 0} (line : (x : I) × D x → LineView) (outlets : List (Outlet I D)) (n : ℕ) → n ≤ length outlets → n ≤ length (views line outlets)
enough_shown line outlets n le = subst (λ k. n ≤ k) (sym (length-map outlets (view line))) le

-- ---- an event that is made
counts_since : (begun before after : ChronicleView) → CountsStay begun before → CountsStay before after → CountsStay begun after
counts_since begun before after one two = record {
  faults = (let le = one.faults in let more = two.faults in omega (arith, le, more));
  refusals = (let le = one.refusals in let more = two.refusals in omega (arith, le, more));
}

module _ (e : Event) (old new : Hardware) (before after : ChronicleView) (lines new_lines : List LineView) (marks new_marks : List Bool) (kept new_kept : Keeping) (n : Note) (may : MayCome (e ∷ []) (scene old before lines marks kept)) where
  module _ (desc : new.desc ≡ old.desc)
      (machine : (o : Outside) → IsOutside lines marks o → machine_of new (outside_of (happens old.desc (machine_of old o) e)) ≡ happens old.desc (machine_of old o) e)
      (unchecked : (o : Outside) → IsOutside lines marks o → check old.desc (machine_of old o) e ≡ None)
      (noted : (o : Outside) → IsOutside lines marks o → n ≡ note old.desc (machine_of old o) e)
      (sent : AllAccept lines new_lines (sent_in n))
      (entries : Grows before.told after.told (entries_in n))
      (counts : CountsStay before after)
      (outside : (o : Outside) → IsOutside lines marks o → IsOutside new_lines new_marks (outside_of (happens old.desc (machine_of old o) e)))
      (first : (history : List Entry) → AreFirst kept history → AreFirst new_kept (history ++ entries_in n)) where
    module _ (begun : Scene) (es : List Event) (led : LedTo old.desc begun es (scene old before lines marks kept)) where
      abbrev m : Machine
      m = machine_after old.desc es

      abbrev o : Outside
      o = outside_of m

      abbrev made : Machine
      made = happens old.desc (machine_of old o) e

      abbrev next : Machine
      next = machine_after old.desc (es ++ e ∷ [])

      is_next : made ≡ next
      is_next = ap (λ (x : Machine). happens old.desc x e) led.machine.machine ∙ sym (run-append old.desc es (e ∷ []) (machine_at_start old.desc))

      is_note : note old.desc (machine_of old o) e ≡ n
      is_note = sym (noted o led.machine.shown)

      told : IsTold old.desc (machine_of old o) e
      told = is_told old o e

      history_is : m.history ++ entries_in n ≡ next.history
      history_is = ap (λ (x : Note). m.history ++ entries_in x) (sym is_note) ∙ sym told.history ∙ ap (λ (x : Machine). x.history) is_next

      sent_is : (l : ℕ) → next.sent l ≡ m.sent l ++ sent_in n l
      sent_is l = ap (λ (x : Machine). x.sent l) (sym is_next) ∙ told.sent l ∙ ap (λ (x : Note). m.sent l ++ sent_in x l) is_note

      led_next : LedTo old.desc begun (es ++ e ∷ []) (scene new after new_lines new_marks new_kept)
      led_next = record {
        unchecked = unchecked-append old.desc es (e ∷ []) (machine_at_start old.desc) led.unchecked (subst (λ (x : Machine). check old.desc x e ≡ None) led.machine.machine (unchecked o led.machine.shown), tt);
        machine = record {
          described = desc;
          machine = subst (λ (x : Machine). machine_of new (outside_of x) ≡ x) is_next (machine o led.machine.shown);
          shown = subst (λ (x : Machine). IsOutside new_lines new_marks (outside_of x)) is_next (outside o led.machine.shown);
        };
        released = record {
          history = subst (λ (xs : List Entry). Grows begun.chronicle.told after.told xs) history_is (grows_more begun.chronicle.told before.told after.told m.history (entries_in n) led.released.history entries);
          bytes = all_more begun.lines lines new_lines m.sent (sent_in n) next.sent led.released.bytes sent sent_is;
        };
        counts = counts_since begun.chronicle before after led.counts counts;
        kept = subst (λ (xs : List Entry). AreFirst new_kept xs) history_is (first m.history led.kept);
      }

    module _ (hung : new_marks ≡ marks) (room : new_kept.room ≡ kept.room) (hardware : IsHardware new) (fit : Fit new.desc (machine_of new no_outside)) where
      ready : (k : ℕ) → IsReadyFor (1 + k) old → IsReadyFor k new
      ready k is = record {
        number = suc is.number;
        ready = goes_on is.number old new e lines marks is.ready (built_next e (scene old before lines marks kept) may) (allowed_next e (scene old before lines marks kept) may) hardware desc fit machine;
        room = (let room = is.room in omega (arith, room));
      }

      pub event_made : Makes (e ∷ []) (scene old before lines marks kept) (scene new after new_lines new_marks new_kept)
      event_made = record {
        led = λ d begun es led.
            let P : MachineDesc → Type 0 = λ x. LedTo x begun es (scene old before lines marks kept) → LedTo x begun (es ++ e ∷ []) (scene new after new_lines new_marks new_kept) in
            subst P led.machine.described (led_next begun es) led;
        keeps = record { ready = ready; stays = record { desc = desc; hung = hung; room = room }; number = sent.number };
      }

-- ---- an event that ends the run
rose_since : (first before after : ℕ) → first ≤ before → Rose before after → Rose first after
rose_since first before after le rose = omega (arith, le, rose)

line_since : (first old new : List LineView) (bytes : ℕ → List ℕ) (at : ℕ) (s : Stop) → AllAccept first old bytes → StopsAt at old new s → StopsAt at first new s
line_since first old new bytes at (stop.Line l) all stops = (stops.0, rose_since _ _ _ (all.each at).faults stops.1)
line_since first old new bytes at stop.NoMemory all stops = rose_since _ _ _ (all.each at).refusals stops
line_since first old new bytes at (stop.Check element blocker) all stops = absurd stops
line_since first old new bytes at stop.Chronicle all stops = absurd stops

chronicle_since : (begun before after : ChronicleView) (s : Stop) → CountsStay begun before → ChronicleStops before after s → ChronicleStops begun after s
chronicle_since begun before after stop.Chronicle counts stops = rose_since _ _ _ counts.faults stops
chronicle_since begun before after stop.NoMemory counts stops = rose_since _ _ _ counts.refusals stops
chronicle_since begun before after (stop.Check element blocker) counts stops = absurd stops
chronicle_since begun before after (stop.Line l) counts stops = absurd stops

stops_since : (n : Note) (first old new : List LineView) (bytes : ℕ → List ℕ) (begun before after : ChronicleView) (s : Stop) → AllAccept first old bytes → CountsStay begun before → StopsFor n old new before after s → StopsFor n first new begun after s
stops_since n first old new bytes begun before after s all counts (inl x) = inl (record { line = x.line; sent = x.sent; stops = line_since first old new bytes x.line s all x.stops })
stops_since n first old new bytes begun before after s all counts (inr x) = inr (record { committed = x.committed; stops = chronicle_since begun before after s counts x.stops })

ends_since : (d : MachineDesc) (m : Machine) (e : Event) (first old new : List LineView) (bytes : ℕ → List ℕ) (begun before after : ChronicleView) (s : Stop)
    → AllAccept first old bytes → CountsStay begun before → EndsFor d m e old new before after s → EndsFor d m e first new begun after s
ends_since d m e first old new bytes begun before after s all counts (inl checked) = inl checked
ends_since d m e first old new bytes begun before after s all counts (inr stops) = inr (stops_since (note d m e) first old new bytes begun before after s all counts stops)

module _ (d : MachineDesc) (es : List Event) (e : Event) where
  abbrev at : Machine
  at = machine_after d es

  is_next_at : happens d at e ≡ machine_after d (es ++ e ∷ [])
  is_next_at = sym (run-append d es (e ∷ []) (machine_at_start d))

  -- what the event leaves is the machine after the events up to it
  left_is : (s : Stop) → machine_left d at e s ≡ machine_after d (up_to es e s)
  left_is (stop.Check x b) = is_next_at
  left_is (stop.Line l) = refl
  left_is stop.Chronicle = refl
  left_is stop.NoMemory = refl

  -- a machine check commits nothing, sends nothing and leaves the ports as they are
  pub tells_up_to : (old new : List LineView) (before after : ChronicleView) (s : Stop) → EndsFor d at e old new before after s → TellsNothing at (machine_after d (up_to es e s))
  tells_up_to old new before after (stop.Check x b) (inl checked) = subst (λ (m : Machine). TellsNothing at m) is_next_at (stops_tell_nothing d at x e checked.0)
  tells_up_to old new before after (stop.Check x b) (inr (inl stops)) = absurd stops.stops
  tells_up_to old new before after (stop.Check x b) (inr (inr stops)) = absurd stops.stops
  tells_up_to old new before after (stop.Line l) ends = record { history = refl; sent = refl; ports = refl }
  tells_up_to old new before after stop.Chronicle ends = record { history = refl; sent = refl; ports = refl }
  tells_up_to old new before after stop.NoMemory ends = record { history = refl; sent = refl; ports = refl }

module _ (e : Event) (old new : Hardware) (before after : ChronicleView) (lines new_lines : List LineView) (marks new_marks : List Bool) (kept : Keeping) (s : Stop)
    (none : AllAccept lines new_lines (λ l. [])) (told : after.told ≡ before.told)
    (cause : (o : Outside) → IsOutside lines marks o → EndsFor old.desc (machine_of old o) e lines new_lines before after s)
    (stopped : (o : Outside) → IsOutside lines marks o → machine_of new (outside_of (machine_left old.desc (machine_of old o) e s)) ≡ machine_left old.desc (machine_of old o) e s)
    (hardware : IsHardware new) (desc : new.desc ≡ old.desc) where
  module _ (begun : Scene) (es : List Event) (led : LedTo old.desc begun es (scene old before lines marks kept)) where
    abbrev at_stop : Machine
    at_stop = machine_after old.desc es

    abbrev up_to_it : List Event
    up_to_it = up_to es e s

    ends : EndsFor old.desc at_stop e begun.lines new_lines begun.chronicle after s
    ends = ends_since old.desc at_stop e begun.lines lines new_lines at_stop.sent begun.chronicle before after s led.released.bytes led.counts
        (subst (λ (x : Machine). EndsFor old.desc x e lines new_lines before after s) led.machine.machine (cause (outside_of at_stop) led.machine.shown))

    same : TellsNothing at_stop (machine_after old.desc up_to_it)
    same = tells_up_to old.desc es e begun.lines new_lines begun.chronicle after s ends

    left : machine_left old.desc (machine_of old (outside_of at_stop)) e s ≡ machine_after old.desc up_to_it
    left = ap (λ (x : Machine). machine_left old.desc x e s) led.machine.machine ∙ left_is old.desc es e s

    halts_here : HaltsAt old.desc begun es e (scene new after new_lines new_marks kept) s
    halts_here = record {
      unchecked = led.unchecked;
      ends = ends;
      released = record {
        history = subst (λ (xs : List Entry). Grows begun.chronicle.told after.told xs) (sym same.history) (subst (λ (x : Option (List Entry)). Grows begun.chronicle.told x at_stop.history) (sym told) led.released.history);
        bytes = subst (λ (f : ℕ → List ℕ). AllAccept begun.lines new_lines f) (sym same.sent) (all_more begun.lines lines new_lines at_stop.sent (λ l. []) at_stop.sent led.released.bytes none (λ l. sym (append-nil (at_stop.sent l))));
      };
      kept = subst (λ (xs : List Entry). AreFirst kept xs) (sym same.history) led.kept;
      after = record {
        hardware = hardware;
        described = desc;
        machine = subst (λ (x : Machine). machine_of new (outside_of x) ≡ x) left (stopped (outside_of at_stop) led.machine.shown);
      };
    }

  pub event_breaks : new_marks ≡ marks → Breaks (e ∷ []) (scene old before lines marks kept) (scene new after new_lines new_marks kept) s
  event_breaks hung = record {
    halts = λ d begun es led.
        let P : MachineDesc → Type 0 = λ x. LedTo x begun es (scene old before lines marks kept) → HaltsAt x begun es e (scene new after new_lines new_marks kept) s in
        record {
          part = [];
          event = e;
          rest = [];
          parts = refl;
          halts = subst (λ (xs : List Event). HaltsAt d begun xs e (scene new after new_lines new_marks kept) s) (sym (append-nil es)) (subst P led.machine.described (halts_here begun es) led);
        };
    stays = record { desc = desc; hung = hung; room = refl };
  }
