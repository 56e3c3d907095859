-- What an event is answered by its note and its machine check.
use Rattle.std.proofs.Common.{◌≡◌, inl, inr, ℕ, List, [], Option, Some, None, Ok, Err, IfOk, IfErr, OnOk, OnErr, Result, refl, ap, sym, ◌∙◌, subst, append-nil}
use Rattle.std.specs.Prelude.{is_some, true, false, Bool}
use Rattle.std.proofs.lemmas.Bool.{cases_Bool, false≢true}
use Rattle.seq_words.specs.declared.description.MachineDesc.{MachineDesc}
use Rattle.seq_words.specs.declared.kinds.Blocker.{Blocker}
use Rattle.seq_words.specs.declared.kinds.Element.{Element}
use Rattle.seq_words.specs.declared.events.Event.{Event}
use Rattle.seq_words.specs.declared.events.Entry.{Entry}
use Rattle.seq_shelf.specs.Told.{Grows, LineView, ChronicleView}
use Rattle.seq_shelf.specs.Rows.{AllAccept}
use Rattle.seq_kernel.specs.declared.outcomes.Note.{Note}
use Rattle.seq_turns.specs.Machines.{Machine}
use Rattle.seq_turns.specs.Events.{happens, note, stopping, blocker, is_check, check}
use Rattle.seq_turns.proofs.Checks.{checks_name_a_blocker, stops_are_noted}
use Rattle.seq_machine.specs.Plain.{Outside, machine_of, outside_of}
use Rattle.seq_machine.specs.Serving.{StopsAt}
use Rattle.seq_machine.specs.Happening.{sent_in, entries_in, ChronicleStops}
use Rattle.seq_machine.specs.Checking.{IsCheckOf, machine_left, StaysUnlessCheck, EndsFor, answered, answer_to, answer}
use Rattle.seq_machine.specs.declared.hardware.Hardware.{Hardware}
use Rattle.seq_machine.specs.declared.hardware.Stop.{Stop}
use Rattle.seq_machine.specs.declared.hardware.Stop.TheVariants as stop
use Rattle.seq_machine.proofs.Unchanged.{grows_same, accept_same}
use Rattle.seq_machine.proofs.Failing.{TellsNothing}

-- what holds whatever comes of a call
pub on_ok : {A T E : Type 0} → (r : Result T E) → A → OnOk r A
on_ok (Ok x) a = a
on_ok (Err s) a = tt

pub on_err : {A T E : Type 0} → (r : Result T E) → A → OnErr r A
on_err (Ok x) a = tt
on_err (Err s) a = a

module _ (d : MachineDesc) (m : Machine) (e : Event) where
  -- what is answered, by whether a machine check names something
  answer_by : (P : Result Note Stop → Type 0) → (check d m e ≡ None → P (Ok (note d m e))) → ((x : Element) (b : Blocker) → stopping d m e ≡ Some x → check d m e ≡ Some b → P (Err (stop.Check x b))) → P (answer d m e)
  answer_by P ok err = by_element (stopping d m e) refl
    where
      by_blocker : (x : Element) → stopping d m e ≡ Some x → (b : Option Blocker) → blocker d m (Some x) ≡ b → P (answered (note d m e) x b)
      by_blocker x stops None is = ok (ap (blocker d m) stops ∙ is)
      by_blocker x stops (Some b) is = err x b stops (ap (blocker d m) stops ∙ is)

      by_element : (x : Option Element) → stopping d m e ≡ x → P (answer_to (note d m e) d m x)
      by_element None stops = ok (ap (blocker d m) stops)
      by_element (Some x) stops = by_blocker x stops (blocker d m (Some x)) refl

  -- where nothing is named, the run goes on
  pub unchecked_goes_on : check d m e ≡ None → is_check d m e ≡ false
  unchecked_goes_on none = elim (cases_Bool (is_check d m e)) [
    | inl ends ↦ absurd (false≢true (sym (ap (λ (b : Option Blocker). is_some b) none) ∙ (checks_name_a_blocker d m e).0 ends))
    | inr goes ↦ goes
  ]

-- what a call says of an event that is answered so
pub record IsAnswered (d : MachineDesc) (m : Machine) (e : Event) (old new : Hardware) (r : Result Note Stop) : Type 0 where
  pub noted : IfOk r (λ n. n ≡ note d m e)
  pub unchecked : OnOk r (check d m e ≡ None)
  pub checked : IfErr r (IsCheckOf d m e)
  pub left : IfErr r (λ s. machine_left d m e s ≡ happens d m e)
  pub stays : IfErr r (StaysUnlessCheck old new)

pub answers : (d : MachineDesc) (m : Machine) (e : Event) (old new : Hardware) (r : Result Note Stop) → r ≡ answer d m e → IsAnswered d m e old new r
answers d m e old new r is = subst (IsAnswered d m e old new) (sym is) (answer_by d m e (IsAnswered d m e old new)
    (λ none. record { noted = refl; unchecked = none; checked = tt; left = tt; stays = tt })
    (λ x b stops named. record { noted = tt; unchecked = tt; checked = (stops, named); left = refl; stays = tt }))

module _ (old new : Hardware) (o : Outside) (d : MachineDesc) (e : Event) where
  abbrev m : Machine
  m = machine_of old o

  -- the machine that an event leaves which ends the run
  pub left_made : (r : Result Note Stop) → IfErr r (λ s. machine_left d m e s ≡ happens d m e) → machine_of new (outside_of (happens d m e)) ≡ happens d m e → IfErr r (λ s. machine_of new (outside_of (machine_left d m e s)) ≡ machine_left d m e s)
  left_made (Ok n) left made = tt
  left_made (Err s) left made = subst (λ (x : Machine). machine_of new (outside_of x) ≡ x) (sym left) made

  pub ends_checked : (r : Result Note Stop) (before after : List LineView) (told_before told_after : ChronicleView) → IfErr r (IsCheckOf d m e) → IfErr r (EndsFor d m e before after told_before told_after)
  ends_checked (Ok n) before after told_before told_after checked = tt
  ends_checked (Err s) before after told_before told_after checked = inl checked

  -- where the outside ends the run, nothing has changed
  pub same_stays : (s : Stop) → new ≡ old → StaysUnlessCheck old new s
  same_stays (stop.Check x b) same = tt
  same_stays (stop.Line l) same = same
  same_stays stop.Chronicle same = same
  same_stays stop.NoMemory same = same

  same_left : (s : Stop) → machine_left d m e s ≡ m → new ≡ old → machine_of new (outside_of (machine_left d m e s)) ≡ machine_left d m e s
  same_left s left same = subst (λ (x : Machine). machine_of new (outside_of x) ≡ x) (sym left) (ap (λ (h : Hardware). machine_of h o) same)

  chronicle_left : (s : Stop) (before after : ChronicleView) → ChronicleStops before after s → machine_left d m e s ≡ m
  chronicle_left (stop.Check x b) before after stops = absurd stops
  chronicle_left (stop.Line l) before after stops = refl
  chronicle_left stop.Chronicle before after stops = refl
  chronicle_left stop.NoMemory before after stops = refl

  line_left : (s : Stop) (at : ℕ) (before after : List LineView) → StopsAt at before after s → machine_left d m e s ≡ m
  line_left (stop.Check x b) at before after stops = absurd stops
  line_left (stop.Line l) at before after stops = refl
  line_left stop.Chronicle at before after stops = refl
  line_left stop.NoMemory at before after stops = refl

  pub chronicle_leaves : (s : Stop) (before after : ChronicleView) → ChronicleStops before after s → new ≡ old → machine_of new (outside_of (machine_left d m e s)) ≡ machine_left d m e s
  chronicle_leaves s before after stops same = same_left s (chronicle_left s before after stops) same

  pub line_stays : (r : Result Note Stop) → OnErr r (new ≡ old) → IfErr r (StaysUnlessCheck old new)
  line_stays (Ok n) same = tt
  line_stays (Err s) same = same_stays s same

  pub line_leaves : (r : Result Note Stop) (at : ℕ) (before after : List LineView) → IfErr r (StopsAt at before after) → OnErr r (new ≡ old) → IfErr r (λ s. machine_of new (outside_of (machine_left d m e s)) ≡ machine_left d m e s)
  line_leaves (Ok n) at before after stops same = tt
  line_leaves (Err s) at before after stops same = same_left s (line_left s at before after stops) same

-- a call whose note tells nothing
module _ (n : Note) (tells : TellsNothing n) where
  pub silent_sent : (r : Result Note Stop) (lines : List LineView) → IfOk r (λ x. x ≡ n) → IfOk r (λ x. AllAccept lines lines (sent_in x))
  silent_sent (Ok x) lines is = accept_same lines (sent_in x) (λ l. ap (λ (y : Note). sent_in y l) is ∙ tells.sent l)
  silent_sent (Err s) lines is = tt

  pub silent_entries : (r : Result Note Stop) (told : Option (List Entry)) → IfOk r (λ x. x ≡ n) → IfOk r (λ x. Grows told told (entries_in x))
  silent_entries (Ok x) told is = subst (λ (xs : List Entry). Grows told told xs) (sym (ap entries_in is ∙ tells.entries)) (grows_same told)
  silent_entries (Err s) told is = tt

-- ---- a call that tells the chronicle, and whose note is that of the event
module _ (n : Note) where
  pub told_entries : (r : Result Note Stop) (before after : Option (List Entry)) → IfOk r (λ x. x ≡ n) → Grows before after (entries_in n) → IfOk r (λ x. Grows before after (entries_in x))
  told_entries (Ok x) before after is grows = subst (λ (xs : List Entry). Grows before after xs) (ap entries_in (sym is)) grows
  told_entries (Err s) before after is grows = tt

  pub told_unsent : (r : Result Note Stop) → IfOk r (λ x. x ≡ n) → ((l : ℕ) → sent_in n l ≡ []) → IfOk r (λ x. (l : ℕ) → sent_in x l ≡ [])
  told_unsent (Ok x) is none = λ l. ap (λ (y : Note). sent_in y l) is ∙ none l
  told_unsent (Err s) is none = tt

-- a list that grows by nothing
grows_none : {A : Type 0} (before after : Option (List A)) → Grows before after [] → after ≡ before
grows_none None None grows = refl
grows_none None (Some xs) grows = absurd grows
grows_none (Some xs) None grows = absurd grows
grows_none (Some xs) (Some ys) grows = ap Some (grows ∙ append-nil xs)

-- a machine check commits nothing
pub checked_entries : (d : MachineDesc) (m : Machine) (e : Event) (r : Result Note Stop) (before after : Option (List Entry)) → IfErr r (IsCheckOf d m e) → Grows before after (entries_in (note d m e)) → OnErr r (after ≡ before)
checked_entries d m e (Ok n) before after checked grows = tt
checked_entries d m e (Err (stop.Check x b)) before after checked grows = grows_none before after (subst (λ (n : Note). Grows before after (entries_in n)) (stops_are_noted d m e x checked.0) grows)
checked_entries d m e (Err (stop.Line l)) before after checked grows = absurd checked
checked_entries d m e (Err stop.Chronicle) before after checked grows = absurd checked
checked_entries d m e (Err stop.NoMemory) before after checked grows = absurd checked
