-- What an event adds to the history and to the bytes sent is what its note says; one that stops an element adds nothing.
use Rattle.std.proofs.Common.{◌≡◌, inl, inr, ℕ, ◌==◌, if◌then◌else◌, List, [], ◌++◌, Option, Some, None, refl, sym, ◌∙◌, ap, append-nil, eq-eqb}
use Rattle.std.proofs.lemmas.Bool.{cond_both, cases_Bool, cond-true, cond-false, ne_eqb}
use Rattle.seq_words.specs.declared.description.MachineDesc.{MachineDesc}
use Rattle.seq_words.specs.declared.events.Entry.{Entry}
use Rattle.seq_words.specs.declared.events.Event.{Event}
use Rattle.seq_words.specs.declared.events.Event.TheVariants as event
use Rattle.seq_words.specs.declared.kinds.Element.{Element}
use Rattle.seq_words.specs.declared.kinds.Element.TheVariants as element
use Rattle.seq_words.specs.declared.names.Pe.{Pe}
use Rattle.seq_shelf.specs.Rows.{on_line}
use Rattle.seq_io.specs.Turns.{bytes_of}
use Rattle.seq_kernel.specs.declared.outcomes.Note.{Note}
use Rattle.seq_kernel.specs.declared.outcomes.Note.TheVariants.{Made, Stopped}
use Rattle.seq_turns.specs.Functions.{update}
use Rattle.seq_turns.specs.Machines.{Machine, Turn, history_after}
use Rattle.seq_turns.specs.Machines.Turn.{Moves, Looks, Copies_unit, Stops}
use Rattle.seq_turns.specs.Duties.{duty, after_duty, rests, sent_after}
use Rattle.seq_turns.specs.Processors.{turn}
use Rattle.seq_turns.specs.Events.{is_down, stopped, after_turn, after_io, happens, note, note_of_turn, stops, stopping}
use Rattle.seq_turns.proofs.Functions.{update_cases}
use Rattle.seq_machine.specs.declared.hardware.Hardware.{Hardware}
use Rattle.seq_machine.specs.Here.{commit_of}
use Rattle.seq_machine.specs.Plain.{Outside, machine_of}
use Rattle.seq_machine.specs.Serving.{sent_by}
use Rattle.seq_machine.specs.Happening.{sent_in, entries_in, entries_of}
use Rattle.seq_machine.proofs.Commits.{TellsCommit, turn_tells}
use Rattle.seq_machine.proofs.Outgoing.{sent_told, nothing_committed}
use Rattle.seq_machine.proofs.Unchanged.{turn_sends_none}

-- ---- a processor
entry_more : (o : Option Entry) (history : List Entry) → history_after o history ≡ history ++ entries_of o
entry_more None history = sym (append-nil history)
entry_more (Some entry) history = refl

turn_adds : (d : MachineDesc) (m : Machine) (p : ℕ) (t : Turn) → (after_turn d m p t).history ≡ m.history ++ entries_of (commit_of t)
turn_adds d m p (Moves move) = entry_more move.commit m.history
turn_adds d m p (Looks next move) = entry_more move.commit m.history
turn_adds d m p (Copies_unit i) = entry_more None m.history
turn_adds d m p Stops = entry_more None m.history

module _ (h : Hardware) (p : ℕ) (o : Outside) where
  abbrev m : Machine
  m = machine_of h o

  abbrev t : Turn
  t = turn h.desc m p (m.hand p)

  told : TellsCommit p t
  told = turn_tells h p o

  turn_told : (after_turn h.desc m p t).history ≡ o.history ++ entries_in (note_of_turn p t)
  turn_told = turn_adds h.desc m p t ∙ ap (λ (xs : List Entry). o.history ++ xs) (sym told.told)

  turn_sent : (l : ℕ) → (after_turn h.desc m p t).sent l ≡ o.sent l ++ sent_in (note_of_turn p t) l
  turn_sent l = ap (λ (f : ℕ → List ℕ). f l) (turn_sends_none h.desc m p t).0 ∙ sym (append-nil (o.sent l)) ∙ ap (λ (xs : List ℕ). o.sent l ++ xs) (sym (told.unsent l))

-- ---- an I/O element
byte_more : (o : Option ℕ) (bytes : List ℕ) → sent_after o bytes ≡ bytes ++ bytes_of o
byte_more None bytes = sym (append-nil bytes)
byte_more (Some byte) bytes = refl

module _ (d : MachineDesc) (m : Machine) (i : ℕ) where
  io_told : (after_io d m i).history ≡ m.history ++ entries_in (note d m (event.Io (record { 0 = i })))
  io_told =
      cond_both (rests d m i) m (after_duty d i (m.io i).cursor (duty d m (m.io i).cursor) m) (λ (n : Machine). n.history ≡ m.history) (λ _. refl) (λ _. refl)
      ∙ sym (append-nil m.history) ∙ ap (λ (xs : List Entry). m.history ++ xs) (sym (nothing_committed d m i))

  by_line : (sent : Option ℕ) (at l : ℕ) → update m.sent at (sent_after sent (m.sent at)) l ≡ m.sent l ++ on_line at (bytes_of sent) l
  by_line sent at l = update_cases (λ (x : List ℕ). x ≡ m.sent l ++ on_line at (bytes_of sent) l) m.sent at (sent_after sent (m.sent at)) l
      (λ e. byte_more sent (m.sent at) ∙ ap (λ k. m.sent k ++ bytes_of sent) (sym e) ∙ ap (λ (x : List ℕ). m.sent l ++ x) (sym (cond-true (l == at) (bytes_of sent) [] (eq-eqb l at e))))
      (λ ne. sym (append-nil (m.sent l)) ∙ ap (λ (x : List ℕ). m.sent l ++ x) (sym (cond-false (l == at) (bytes_of sent) [] (ne_eqb l at ne))))

  io_adds : (l : ℕ) → (after_io d m i).sent l ≡ m.sent l ++ sent_by d m i l
  io_adds l = elim (cases_Bool (rests d m i)) [
    | inl t ↦
        ap (λ (x : Machine). x.sent l) (cond-true (rests d m i) m (after_duty d i (m.io i).cursor (duty d m (m.io i).cursor) m) t)
        ∙ sym (append-nil (m.sent l))
        ∙ ap (λ (x : List ℕ). m.sent l ++ x) (sym (cond-true (rests d m i) [] (on_line (m.io i).cursor (bytes_of (duty d m (m.io i).cursor).sent) l) t))
    | inr f ↦
        ap (λ (x : Machine). x.sent l) (cond-false (rests d m i) m (after_duty d i (m.io i).cursor (duty d m (m.io i).cursor) m) f)
        ∙ by_line (duty d m (m.io i).cursor).sent (m.io i).cursor l
        ∙ ap (λ (x : List ℕ). m.sent l ++ x) (sym (cond-false (rests d m i) [] (on_line (m.io i).cursor (bytes_of (duty d m (m.io i).cursor).sent) l) f))
  ]

  io_sent : (l : ℕ) → (after_io d m i).sent l ≡ m.sent l ++ sent_in (note d m (event.Io (record { 0 = i }))) l
  io_sent l = io_adds l ∙ ap (λ (x : List ℕ). m.sent l ++ x) (sent_told d m i l)

-- ---- a failure of a processor: the note says that nothing was sent or committed
module _ (d : MachineDesc) (m : Machine) (e : Pe) where
  abbrev failing : Event
  failing = event.Fail (element.Processor e)

  failure_told : (happens d m failing).history ≡ m.history ++ entries_in (note d m failing)
  failure_told =
      cond_both (is_down (m.hand e.0)) m (stopped m e.0) (λ (n : Machine). n.history ≡ m.history) (λ _. refl) (λ _. refl)
      ∙ sym (append-nil m.history)
      ∙ ap (λ (xs : List Entry). m.history ++ xs) (cond_both (is_down (m.hand e.0)) Made (Stopped (element.Processor e)) (λ (n : Note). [] ≡ entries_in n) (λ _. refl) (λ _. refl))

  failure_sent : (l : ℕ) → (happens d m failing).sent l ≡ m.sent l ++ sent_in (note d m failing) l
  failure_sent l =
      cond_both (is_down (m.hand e.0)) m (stopped m e.0) (λ (n : Machine). n.sent l ≡ m.sent l) (λ _. refl) (λ _. refl)
      ∙ sym (append-nil (m.sent l))
      ∙ ap (λ (xs : List ℕ). m.sent l ++ xs) (cond_both (is_down (m.hand e.0)) Made (Stopped (element.Processor e)) (λ (n : Note). [] ≡ sent_in n l) (λ _. refl) (λ _. refl))

-- ---- any event
pub record IsTold (d : MachineDesc) (m : Machine) (e : Event) : Type 0 where
  pub history : (happens d m e).history ≡ m.history ++ entries_in (note d m e)
  pub sent : (l : ℕ) → (happens d m e).sent l ≡ m.sent l ++ sent_in (note d m e) l

module _ (h : Hardware) (o : Outside) where
  pub is_told : (e : Event) → IsTold h.desc (machine_of h o) e
  is_told (event.Processor p) = record { history = turn_told h p.0 o; sent = turn_sent h p.0 o }
  is_told (event.Io i) = record { history = io_told h.desc (machine_of h o) i.0; sent = io_sent h.desc (machine_of h o) i.0 }
  is_told (event.Input l byte) = record { history = sym (append-nil o.history); sent = λ k. sym (append-nil (o.sent k)) }
  is_told (event.Close l) = record { history = sym (append-nil o.history); sent = λ k. sym (append-nil (o.sent k)) }
  is_told (event.Fail (element.Processor p)) = record { history = failure_told h.desc (machine_of h o) p; sent = failure_sent h.desc (machine_of h o) p }
  is_told (event.Fail (element.Memory i)) = record { history = sym (append-nil o.history); sent = λ k. sym (append-nil (o.sent k)) }
  is_told (event.Fail (element.Io i)) = record { history = sym (append-nil o.history); sent = λ k. sym (append-nil (o.sent k)) }
  is_told (event.Repair (element.Processor p)) = record { history = sym (append-nil o.history); sent = λ k. sym (append-nil (o.sent k)) }
  is_told (event.Repair (element.Memory i)) = record { history = sym (append-nil o.history); sent = λ k. sym (append-nil (o.sent k)) }
  is_told (event.Repair (element.Io i)) = record { history = sym (append-nil o.history); sent = λ k. sym (append-nil (o.sent k)) }
  is_told (event.Upset p half reg mask) = record { history = sym (append-nil o.history); sent = λ k. sym (append-nil (o.sent k)) }
  is_told (event.Hangup l) = record { history = sym (append-nil o.history); sent = λ k. sym (append-nil (o.sent k)) }

-- ---- an event that stops an element commits nothing and sends nothing, and leaves the ports as they are
pub record TellsNothing (m made : Machine) : Type 0 where
  pub history : made.history ≡ m.history
  pub sent : made.sent ≡ m.sent
  pub ports : made.port ≡ m.port

module _ (d : MachineDesc) (m : Machine) (x : Element) where
  stop_tells : (p : Pe) (t : Turn) → (if stops t then Some (element.Processor p) else None) ≡ Some x → TellsNothing m (after_turn d m p.0 t)
  stop_tells p (Moves move) e = absurd (let c : ⊥ = cc in c)
  stop_tells p (Looks next move) e = absurd (let c : ⊥ = cc in c)
  stop_tells p (Copies_unit i) e = absurd (let c : ⊥ = cc in c)
  stop_tells p Stops e = record { history = refl; sent = refl; ports = refl }

  pub stops_tell_nothing : (e : Event) → stopping d m e ≡ Some x → TellsNothing m (happens d m e)
  stops_tell_nothing (event.Processor p) is = stop_tells p (turn d m p.0 (m.hand p.0)) is
  stops_tell_nothing (event.Io i) is = absurd (let c : ⊥ = cc in c)
  stops_tell_nothing (event.Input l byte) is = absurd (let c : ⊥ = cc in c)
  stops_tell_nothing (event.Close l) is = absurd (let c : ⊥ = cc in c)
  stops_tell_nothing (event.Fail (element.Processor p)) is = cond_both (is_down (m.hand p.0)) m (stopped m p.0) (TellsNothing m) (λ _. record { history = refl; sent = refl; ports = refl }) (λ _. record { history = refl; sent = refl; ports = refl })
  stops_tell_nothing (event.Fail (element.Memory i)) is = record { history = refl; sent = refl; ports = refl }
  stops_tell_nothing (event.Fail (element.Io i)) is = record { history = refl; sent = refl; ports = refl }
  stops_tell_nothing (event.Repair (element.Processor p)) is = record { history = refl; sent = refl; ports = refl }
  stops_tell_nothing (event.Repair (element.Memory i)) is = record { history = refl; sent = refl; ports = refl }
  stops_tell_nothing (event.Repair (element.Io i)) is = record { history = refl; sent = refl; ports = refl }
  stops_tell_nothing (event.Upset p half reg mask) is = record { history = refl; sent = refl; ports = refl }
  stops_tell_nothing (event.Hangup l) is = record { history = refl; sent = refl; ports = refl }
