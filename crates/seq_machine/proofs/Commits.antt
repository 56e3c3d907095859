-- A turn of a processor commits the entry that its note says.
use Rattle.std.proofs.Common.{◌≡◌, ℕ, ◌-◌, true, false, ◌==◌, nat_le, [], Option, Some, None, refl, ap, sym, ◌∙◌, subst, inl, inr}
use Rattle.std.specs.Prelude.{slice_index}
use Rattle.std.proofs.lemmas.Bool.{cond_both, cases_Bool}
use Rattle.seq_words.specs.declared.events.Entry.{Entry}
use Rattle.seq_words.specs.declared.description.MachineDesc.{MachineDesc}
use Rattle.seq_layout.specs.Shapes.{shape_of}
use Rattle.seq_layout.specs.Copies.{Copies, copies}
use Rattle.seq_status.specs.declared.status.Status.TheVariants.{Run}
use Rattle.seq_status.specs.Words.{word_of}
use Rattle.seq_process.specs.declared.running.Running.{Running}
use Rattle.seq_process.specs.Contexts.{end_of}
use Rattle.seq_cache.specs.Changes.{Changes}
use Rattle.seq_locks.specs.Turns.{is_taken, word_at}
use Rattle.seq_kernel.specs.Steps.{step_of}
use Rattle.seq_kernel.specs.Turns.{Turned}
use Rattle.seq_kernel.specs.declared.outcomes.Cause.{Cause}
use Rattle.seq_kernel.specs.declared.outcomes.Cause.TheVariants.{Wait, Quantum}
use Rattle.seq_kernel.specs.declared.outcomes.Reason.TheVariants.{Lock}
use Rattle.seq_kernel.specs.declared.outcomes.Outcome.{Outcome}
use Rattle.seq_kernel.specs.declared.outcomes.Outcome.TheVariants as outcome
use Rattle.seq_kernel.specs.declared.outcomes.Note.TheVariants as note
use Rattle.seq_turns.specs.declared.hand.Hand.{Hand}
use Rattle.seq_turns.specs.declared.hand.Hand.TheVariants as hand
use Rattle.seq_turns.specs.declared.hand.RecoveryAt.{RecoveryAt}
use Rattle.seq_turns.specs.declared.hand.FlushAt.{FlushAt}
use Rattle.seq_turns.specs.declared.hand.FlushAt.TheVariants as flush
use Rattle.seq_turns.specs.declared.hand.ReleaseAt.TheVariants as release
use Rattle.seq_turns.specs.Machines.{Machine, Move, Turn, idles}
use Rattle.seq_turns.specs.Machines.Turn.{Moves, Looks, Stops}
use Rattle.seq_io.specs.Changes.Change.{Unchanged}
use Rattle.seq_turns.specs.Reading.{status_word, lock_word, holder, write_word, context_of, ruling, goes_forward, copied_memory}
use Rattle.seq_turns.specs.Recoveries.{begins, recovers, recovery_move}
use Rattle.seq_turns.specs.Causes.{agree, follows, flushes, finds, released}
use Rattle.seq_turns.specs.Operations.{goes, sets, unit_count, taken_up, flush_move}
use Rattle.seq_turns.specs.Processors.{is_free, next_process, deserted, looks, seeks, after_step, runs, someone_amid, copies_or_waits, turn}
use Rattle.seq_turns.specs.Events.{note_of_turn}
use Rattle.seq_machine.specs.Here.{here, among, commit_of}
use Rattle.seq_machine.specs.Needs.{IsOperating}
use Rattle.seq_machine.specs.Plain.{Outside, processor_of, machine_of}
use Rattle.seq_machine.specs.Processors.{local_turn, copied_by}
use Rattle.seq_machine.specs.declared.hardware.Hardware.{Hardware}
use Rattle.seq_machine.specs.Happening.{sent_in, entries_in, entries_of}
use Rattle.seq_machine.proofs.Tied.{turn_is}
use Rattle.seq_machine.proofs.Returning.{turn_copies}
use Rattle.seq_machine.proofs.Recovering.{Recovers, claimed_recovers, move_recovers}

-- A turn's note says what it commits, and that nothing is sent.
pub record TellsCommit (p : ℕ) (t : Turn) : Type 0 where
  pub told : entries_in (note_of_turn p t) ≡ entries_of (commit_of t)
  pub unsent : (l : ℕ) → sent_in (note_of_turn p t) l ≡ []

-- a turn that commits nothing
record IsSilent (p : ℕ) (t : Turn) : Type 0 where
  pub quiet : entries_in (note_of_turn p t) ≡ []
  pub none : commit_of t ≡ None
  pub unsent : (l : ℕ) → sent_in (note_of_turn p t) l ≡ []

silent_tells : (p : ℕ) (t : Turn) → IsSilent p t → TellsCommit p t
silent_tells p t is = record { told = is.quiet ∙ ap entries_of (sym is.none); unsent = is.unsent }

module _ (d : MachineDesc) (m : Machine) (p : ℕ) where
  finds_silent : (r : Running) (cache : Changes) (cause : Cause) (mask : ℕ) → IsSilent p (finds d m p r cache cause mask)
  finds_silent r cache cause mask = cond_both (r.steps == 0) (Moves (record (idles m p) { hand = follows d r cause mask; cache = cache; note = note.Found r.pid cause })) _ (IsSilent p) (λ _. record { quiet = refl; none = refl; unsent = λ l. refl })
      (λ _. cond_both (agree r.pair) (Moves (record (idles m p) { hand = flushes m p r cause mask; cache = cache; note = note.Found r.pid cause })) Stops (IsSilent p)
      (λ _. record { quiet = refl; none = refl; unsent = λ l. refl }) (λ _. record { quiet = refl; none = refl; unsent = λ l. refl }))

  step_silent : (r : Running) (t : Turned) (o : Outcome) → IsSilent p (after_step d m p r t o)
  step_silent r t outcome.Done = record { quiet = refl; none = refl; unsent = λ l. refl }
  step_silent r t (outcome.Claim s) = cond_both (is_taken (shape_of d) m.copies (lock_word d s.0) false)
      (finds d m p r (m.cache p) (Wait (Lock s (record { 0 = word_at m.copies (lock_word d s.0) false - 1 }))) 0) _ (IsSilent p)
      (λ _. finds_silent r (m.cache p) (Wait (Lock s (record { 0 = word_at m.copies (lock_word d s.0) false - 1 }))) 0) (λ _. record { quiet = refl; none = refl; unsent = λ l. refl })
  step_silent r t (outcome.NeedsFlush cause) = finds_silent t.running t.cache cause (released r.held cause)
  step_silent r t (outcome.Waits reason) = finds_silent r (m.cache p) (Wait reason) 0
  step_silent r t outcome.Diverged = record { quiet = refl; none = refl; unsent = λ l. refl }

  runs_silent : (r : Running) → IsSilent p (runs d m p r)
  runs_silent r = cond_both (nat_le d.quantum r.used) (finds d m p r (m.cache p) Quantum 0) _ (IsSilent p) (λ _. finds_silent r (m.cache p) Quantum 0) (λ _. let t = step_of d m.copies r (m.cache p) in step_silent r t t.outcome)

  flush_tells : (r : Running) (cause : Cause) (mask : ℕ) (at : FlushAt) → TellsCommit p (Moves (flush_move d m p r cause mask at))
  flush_tells r cause mask (flush.Mark f) = elim (cases_Bool (f.cursor == 0)) [
    | inl t ↦ rw t (record { told = refl; unsent = λ l. refl })
    | inr t ↦ rw t (record { told = refl; unsent = λ l. refl })
  ]
  flush_tells r cause mask (flush.First f) = elim (cases_Bool (nat_le (unit_count m p f) f.cursor)) [
    | inl t ↦ rw t (record { told = refl; unsent = λ l. refl })
    | inr t ↦ rw t (record { told = refl; unsent = λ l. refl })
  ]
  flush_tells r cause mask (flush.Second f) = elim (cases_Bool (f.cursor == 0)) [
    | inl t ↦ rw t (record { told = refl; unsent = λ l. refl })
    | inr t ↦ rw t (record { told = refl; unsent = λ l. refl })
  ]
  flush_tells r cause mask (flush.Close f) = elim (cases_Bool (f.cursor == 0)) [
    | inl t ↦ rw t (record { told = refl; unsent = λ l. refl })
    | inr t ↦ rw t (record { told = refl; unsent = λ l. refl })
  ]

  -- so are those of a recovery
  moved_silent : (move : Move) → Recovers m p move → IsSilent p (Moves move)
  moved_silent move is = record { quiet = ap entries_in is.note; none = is.commit; unsent = λ l. ap (λ n. sent_in n l) is.note }

  -- and those of a processor that seeks
  looks_silent : (q : ℕ) → IsSilent p (Looks (next_process d q) (looks d m p q))
  looks_silent q = cond_both (is_free d m q)
      (goes m p (write_word d m.copies q 0 false (word_of (Run (holder m p)))) (hand.Claiming (record { 0 = q }) (record { at = status_word q; value = word_of (Run (holder m p)); stage = record {} })))
      (record (idles m p) { note = note.Looked (record { 0 = q }) })
      (λ (x : Move). IsSilent p (Looks (next_process d q) x)) (λ _. record { quiet = refl; none = refl; unsent = λ l. refl }) (λ _. record { quiet = refl; none = refl; unsent = λ l. refl })

  seeks_silent : (found : Option ℕ) → IsSilent p (seeks d m p found)
  seeks_silent (Some q) = moved_silent (recovers d m p q) (claimed_recovers d m p (begins m p q (goes_forward (ruling d m.copies q))))
  seeks_silent None = looks_silent (m.scan p)

module _ (d : MachineDesc) (p : Copies) (cache : Changes) (i : ℕ → ℕ) (scan pe : ℕ) where
  abbrev m : Machine
  m = here p cache (i pe)

  seek_silent : IsSilent pe (local_turn d p cache i scan pe hand.Seek)
  seek_silent = seeks_silent d (among p cache i scan) pe (deserted d (among p cache i scan))

  recovery_silent : (r : RecoveryAt) → IsSilent pe (Moves (recovery_move d m pe r))
  recovery_silent r = moved_silent d m pe (recovery_move d m pe r) (move_recovers d m pe r)

  pub local_tells : (h : Hand) → TellsCommit pe (local_turn d p cache i scan pe h)
  local_tells hand.Down = record { told = refl; unsent = λ l. refl }
  local_tells hand.Seek = silent_tells pe (local_turn d p cache i scan pe hand.Seek) seek_silent
  local_tells (hand.Claiming q c) = cond_both (is_taken (shape_of d) p c.at true) (goes m pe Unchanged hand.Seek)
      (record (goes m pe (sets d m c.at true c.value) (taken_up d m q.0 (end_of (context_of d p q.0)))) { cache = record cache { changes = [] } })
      (λ (x : Move). TellsCommit pe (Moves x)) (λ _. record { told = refl; unsent = λ l. refl }) (λ _. record { told = refl; unsent = λ l. refl })
  local_tells (hand.Running r) = silent_tells pe (runs d m pe r) (runs_silent d m pe r)
  local_tells (hand.Acquiring r t c) = cond_both (is_taken (shape_of d) p c.at true)
      (finds d m pe r cache (Wait (Lock t (record { 0 = word_at p c.at true - 1 }))) 0) _ (TellsCommit pe)
      (λ _. silent_tells pe (finds d m pe r cache (Wait (Lock t (record { 0 = word_at p c.at true - 1 }))) 0) (finds_silent d m pe r cache (Wait (Lock t (record { 0 = word_at p c.at true - 1 }))) 0))
      (λ _. record { told = refl; unsent = λ l. refl })
  local_tells (hand.Flushing r cause mask f) = flush_tells d m pe r cause mask f
  local_tells (hand.Unlocking r cause mask (release.Shadow l)) = record { told = refl; unsent = λ l. refl }
  local_tells (hand.Unlocking r cause mask (release.Primary l)) = record { told = refl; unsent = λ l. refl }
  local_tells (hand.Leaving q (release.Shadow l)) = record { told = refl; unsent = λ l. refl }
  local_tells (hand.Leaving q (release.Primary l)) = record { told = refl; unsent = λ l. refl }
  local_tells (hand.Recovering r) = silent_tells pe (Moves (recovery_move d m pe r)) (recovery_silent r)

  -- what the code reads of a hand is what its turn commits
  module _ (result : Option Entry) where
    committed_is : (h : Hand) → (IsOperating h → result ≡ commit_of (turn d m pe h)) → ((IsOperating h → ⊥) → result ≡ None) → result ≡ commit_of (local_turn d p cache i scan pe h)
    committed_is hand.Down some none = none (λ x. x)
    committed_is hand.Seek some none = none (λ x. x) ∙ sym seek_silent.none
    committed_is (hand.Claiming q c) some none = some tt
    committed_is (hand.Running r) some none = none (λ x. x) ∙ sym (runs_silent d m pe r).none
    committed_is (hand.Acquiring r t c) some none = some tt
    committed_is (hand.Flushing r cause mask f) some none = some tt
    committed_is (hand.Unlocking r cause mask l) some none = some tt
    committed_is (hand.Leaving q l) some none = some tt
    committed_is (hand.Recovering r) some none = none (λ x. x) ∙ sym (recovery_silent r).none

    pub entries_told : (h : Hand) → (IsOperating h → result ≡ commit_of (turn d m pe h)) → ((IsOperating h → ⊥) → result ≡ None) → entries_of result ≡ entries_in (note_of_turn pe (local_turn d p cache i scan pe h))
    entries_told h some none = ap entries_of (committed_is h some none) ∙ sym (local_tells h).told

-- so does a turn that copies a memory
copying_tells : (m : Machine) (p i : ℕ) (found : Option ℕ) → TellsCommit p (copies_or_waits m p i found)
copying_tells m p i (Some r) = record { told = refl; unsent = λ l. refl }
copying_tells m p i None = record { told = refl; unsent = λ l. refl }

pub copying_quiet : (m : Machine) (p i : ℕ) (found : Option ℕ) → entries_in (note_of_turn p (copies_or_waits m p i found)) ≡ []
copying_quiet m p i (Some r) = refl
copying_quiet m p i None = refl

-- and so does every turn of the hardware's processor
pub turn_tells : (h : Hardware) (p : ℕ) (o : Outside) → TellsCommit p (turn h.desc (machine_of h o) p ((machine_of h o).hand p))
turn_tells h p o = by_copied (copied_by (copied_memory h.desc (copies h.layout h.memories)) (processor_of h p).hand) refl
  where
    by_copied : (x : Option ℕ) → copied_by (copied_memory h.desc (copies h.layout h.memories)) (processor_of h p).hand ≡ x → TellsCommit p (turn h.desc (machine_of h o) p ((machine_of h o).hand p))
    by_copied (Some i) is = subst (TellsCommit p) (sym (turn_copies h.desc (machine_of h o) p i (processor_of h p).hand is)) (copying_tells (machine_of h o) p i (someone_amid h.desc (machine_of h o)))
    by_copied None is = subst (TellsCommit p) (sym (turn_is h.desc (machine_of h o) p is)) (local_tells h.desc (copies h.layout h.memories) (processor_of h p).cache (slice_index h.incarnations) (slice_index h.scan p) p (processor_of h p).hand)
