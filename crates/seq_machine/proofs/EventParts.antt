-- The parts of an event: what a processor commits and tells, what an I/O element sends, and what the next event needs.
use Rattle.std.proofs.Common.{◌≡◌, inl, inr, ℕ, ◌<◌, Bool, List, [], Option, Some, None, Ok, Err, IfOk, IfErr, OnOk, OnErr, Result, refl, ap, sym, ◌∙◌, subst}
use Rattle.std.specs.Prelude.{slice_get, slice_index}
use Rattle.std.proofs.lemmas.Option.{get_or_from_slice_get}
use Rattle.seq_words.specs.Description.{IsDescription}
use Rattle.seq_words.specs.declared.description.MachineDesc.{MachineDesc}
use Rattle.seq_words.specs.declared.events.Entry.{Entry}
use Rattle.seq_words.specs.declared.events.Event.{Event}
use Rattle.seq_words.specs.declared.events.Event.TheVariants as event
use Rattle.seq_shelf.specs.Told.{Grows, LineView, ChronicleView}
use Rattle.seq_shelf.specs.Rows.{AllAccept}
use Rattle.seq_layout.specs.Copies.{Copies, copies}
use Rattle.seq_kernel.specs.declared.outcomes.Note.{Note}
use Rattle.seq_turns.specs.Machines.{Machine, Turn}
use Rattle.seq_turns.specs.Reading.{copied_memory}
use Rattle.seq_turns.specs.Processors.{someone_amid, turn}
use Rattle.seq_turns.specs.Allowed.{Allowed}
use Rattle.seq_turns.specs.Events.{happens, note, note_of_turn, check}
use Rattle.seq_stands.specs.Fit.{Fit}
use Rattle.seq_stands.proofs.FitGives.{fit_gives}
use Rattle.seq_stands.proofs.Fitting.{events_keep_fit}
use Rattle.seq_machine.specs.Here.{here, commit_of}
use Rattle.seq_machine.specs.Needs.{IsOperating}
use Rattle.seq_machine.specs.Plain.{Outside, processor_of, idle_processor, machine_of, outside_of, IsOutside}
use Rattle.seq_machine.specs.Starting.{no_outside}
use Rattle.seq_machine.specs.Built.{IsBuilt}
use Rattle.seq_machine.specs.Serving.{MayServe, sent_by, Sends, StopsAt}
use Rattle.seq_machine.specs.Processors.{copied_by}
use Rattle.seq_machine.specs.Happening.{sent_in, entries_in, entries_of}
use Rattle.seq_machine.specs.Checking.{MayBeChecked, EndsFor}
use Rattle.seq_machine.specs.declared.hardware.Processor.{Processor}
use Rattle.seq_machine.specs.declared.hardware.Hardware.{Hardware}
use Rattle.seq_machine.specs.declared.hardware.Stop.{Stop}
use Rattle.seq_machine.proofs.Tied.{turn_is}
use Rattle.seq_machine.proofs.Commits.{entries_told, copying_quiet, turn_tells}
use Rattle.seq_machine.proofs.Returning.{turn_copies, copier_is_free}
use Rattle.seq_machine.proofs.Answering.{unchecked_goes_on}
use Rattle.seq_machine.proofs.Outgoing.{sent_told, sends_told, nothing_committed}
use Rattle.seq_machine.proofs.Serves.{accept_alike}
use Rattle.seq_machine.proofs.Unchanged.{grows_same, shown_by, is_shown, fit_anywhere, allowed_anywhere}

module _ (h : Hardware) (p : ℕ) (o : Outside) where
  abbrev found : Option ℕ
  found = copied_memory h.desc (copies h.layout h.memories)

  -- a processor's turn sends nothing
  pub turn_unsent : (l : ℕ) → sent_in (note h.desc (machine_of h o) (event.Processor (record { 0 = p }))) l ≡ []
  turn_unsent l = (turn_tells h p o).unsent l

  -- what the code reads of the processor's hand is what its note says is committed
  module _ (z : Processor) (z_is : slice_get h.processors p ≡ Some z) (result : Option Entry) (some : (d : MachineDesc) (c : Copies) (i pe : ℕ) → IsOperating z.hand → result ≡ commit_of (turn d (here c z.cache i) pe z.hand)) (none : (IsOperating z.hand → ⊥) → result ≡ None) where
    is : processor_of h p ≡ z
    is = get_or_from_slice_get h.processors p z (idle_processor h.desc) z_is

    none_here : (IsOperating (processor_of h p).hand → ⊥) → result ≡ None
    none_here = subst (λ (x : Processor). (IsOperating x.hand → ⊥) → result ≡ None) (sym is) none

    own_told : copied_by found (processor_of h p).hand ≡ None → entries_of result ≡ entries_in (note h.desc (machine_of h o) (event.Processor (record { 0 = p })))
    own_told own =
        let i = slice_index h.incarnations p in
        let now = copies h.layout h.memories in
        let some_here = subst (λ (x : Processor). IsOperating x.hand → result ≡ commit_of (turn h.desc (here now x.cache i) p x.hand)) (sym is) (some h.desc now i p) in
        entries_told h.desc now (processor_of h p).cache (slice_index h.incarnations) (slice_index h.scan p) p result (processor_of h p).hand some_here none_here
        ∙ ap (λ (t : Turn). entries_in (note_of_turn p t)) (sym (turn_is h.desc (machine_of h o) p own))

    copying_told : (i : ℕ) → copied_by found (processor_of h p).hand ≡ Some i → entries_of result ≡ entries_in (note h.desc (machine_of h o) (event.Processor (record { 0 = p })))
    copying_told i copies =
        ap entries_of (none_here (copier_is_free found i (processor_of h p).hand copies))
        ∙ sym (copying_quiet (machine_of h o) p i (someone_amid h.desc (machine_of h o)))
        ∙ ap (λ (t : Turn). entries_in (note_of_turn p t)) (sym (turn_copies h.desc (machine_of h o) p i (processor_of h p).hand copies))

    by_copied : (x : Option ℕ) → copied_by found (processor_of h p).hand ≡ x → entries_of result ≡ entries_in (note h.desc (machine_of h o) (event.Processor (record { 0 = p })))
    by_copied (Some i) = copying_told i
    by_copied None = own_told

    pub commit_told : entries_of result ≡ entries_in (note h.desc (machine_of h o) (event.Processor (record { 0 = p })))
    commit_told = by_copied (copied_by found (processor_of h p).hand) refl

module _ (d : MachineDesc) (m : Machine) (i : ℕ) where
  -- an I/O element's turn by its note
  io_sent : (r : Result Note Stop) (old new : List LineView) → OnOk r (AllAccept old new (sent_by d m i)) → IfOk r (λ n. n ≡ note d m (event.Io (record { 0 = i }))) → IfOk r (λ n. AllAccept old new (sent_in n))
  io_sent (Ok n) old new all is = accept_alike old new (sent_by d m i) (sent_in n) (λ l. sent_told d m i l ∙ ap (λ (x : Note). sent_in x l) (sym is)) all
  io_sent (Err s) old new all is = tt

  io_entries : (r : Result Note Stop) (told : Option (List Entry)) → IfOk r (λ n. n ≡ note d m (event.Io (record { 0 = i }))) → IfOk r (λ n. Grows told told (entries_in n))
  io_entries (Ok n) told is = subst (λ (xs : List Entry). Grows told told xs) (sym (nothing_committed d m i) ∙ ap entries_in (sym is)) (grows_same told)
  io_entries (Err s) told is = tt

  pub io_ends : (r : Result Note Stop) (old new : List LineView) (before after : ChronicleView) → OnErr r (Sends d m i) → IfErr r (StopsAt (m.io i).cursor old new) → IfErr r (EndsFor d m (event.Io (record { 0 = i })) old new before after)
  io_ends (Ok n) old new before after sends stops = tt
  io_ends (Err s) old new before after sends stops = inr (inl (record { line = (m.io i).cursor; sent = sends_told d m i sends; stops = stops }))

-- the same for the hardware, with lines from outside
module _ (h : Hardware) (i : ℕ) (r : Result Note Stop) (old new : List LineView) (marks : List Bool) where
  pub io_sent_shown : ((o : Outside) → IsOutside old marks o → OnOk r (AllAccept old new (sent_by h.desc (machine_of h o) i))) → ((o : Outside) → IsOutside old marks o → IfOk r (λ n. n ≡ note h.desc (machine_of h o) (event.Io (record { 0 = i }))))
      → IfOk r (λ n. AllAccept old new (sent_in n))
  io_sent_shown all is =
      let o = shown_by old marks in
      io_sent h.desc (machine_of h o) i r old new (all o (is_shown old marks)) (is o (is_shown old marks))

module _ (h : Hardware) (i : ℕ) (r : Result Note Stop) (old : List LineView) (marks : List Bool) where
  pub io_entries_shown : (told : Option (List Entry)) → ((o : Outside) → IsOutside old marks o → IfOk r (λ n. n ≡ note h.desc (machine_of h o) (event.Io (record { 0 = i })))) → IfOk r (λ n. Grows told told (entries_in n))
  io_entries_shown told is =
      let o = shown_by old marks in
      io_entries h.desc (machine_of h o) i r told (is o (is_shown old marks))

-- all that an I/O element reads is within its bounds
pub may_serve : (d : MachineDesc) (m : Machine) (i : ℕ) → IsDescription d → Fit d m → i < d.ios → MayServe d m i
may_serve d m i described fits there =
    let given = fit_gives d m described fits in
    record { readable = given.memories.lines; cursor = given.cursors i there; ports = given.ports }

-- what an event reads of the memories where it stops an element
pub may_be_checked : (d : MachineDesc) (m : Machine) → IsDescription d → Fit d m → MayBeChecked d m.copies
may_be_checked d m described fits =
    let given = fit_gives d m described fits in
    record { words = given.memories.ruling; holders = given.memories.held }

-- the bounds after an event that ends no run
module _ (old new : Hardware) (e : Event) (described : IsDescription old.desc) (fits : Fit old.desc (machine_of old no_outside)) (built : IsBuilt e) (allowed : Allowed old.desc (machine_of old no_outside) e) where
  pub made_fits : (o : Outside) → new.desc ≡ old.desc → check old.desc (machine_of old o) e ≡ None → machine_of new (outside_of (happens old.desc (machine_of old o) e)) ≡ happens old.desc (machine_of old o) e → Fit new.desc (machine_of new no_outside)
  made_fits o desc unchecked same =
      let m = machine_of old o in
      let fits_after : Fit old.desc (happens old.desc m e) =
      events_keep_fit old.desc m e described (allowed_anywhere old.desc old no_outside o e built allowed) (unchecked_goes_on old.desc m e unchecked) (fit_anywhere old.desc old no_outside o fits)
      in
      let at = outside_of (happens old.desc (machine_of old o) e) in
      let fit_new : Fit old.desc (machine_of new at) = subst (λ (m : Machine). Fit old.desc m) (sym same) fits_after in
      subst (λ (d : MachineDesc). Fit d (machine_of new no_outside)) (sym desc) (fit_anywhere old.desc new at no_outside fit_new)

  pub call_fits : (r : Result Note Stop) (o : Outside) → new.desc ≡ old.desc → OnOk r (check old.desc (machine_of old o) e ≡ None) → OnOk r (machine_of new (outside_of (happens old.desc (machine_of old o) e)) ≡ happens old.desc (machine_of old o) e) → OnOk r (Fit new.desc (machine_of new no_outside))
  call_fits (Ok n) o desc unchecked same = made_fits o desc unchecked same
  call_fits (Err s) o desc unchecked same = tt
