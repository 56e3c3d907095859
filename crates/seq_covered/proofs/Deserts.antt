-- No event deserts a process, unless it stops a processor.
use Rattle.std.proofs.Common.{◌≡◌, ◌≢◌, ◌⊎◌, inl, inr, ℕ, suc, ◌<◌, ◌≤◌, true, false, nat_le, Some, None, length, refl, ap, sym, ◌∙◌, arith, mod-eq_of_lt}
use Rattle.std.proofs.lemmas.Bool.{cond-true, cond_both, cases_lt, true≢false, false≢true, true_from_ne_false}
use Rattle.seq_words.specs.Description.{IsDescription}
use Rattle.seq_words.specs.declared.description.MachineDesc.{MachineDesc}
use Rattle.seq_words.specs.declared.events.Event.{Event}
use Rattle.seq_words.specs.declared.events.Event.TheVariants as event
use Rattle.seq_words.specs.declared.kinds.Element.TheVariants as element
use Rattle.seq_memory.specs.States.{is_in_service}
use Rattle.seq_memory.specs.declared.element.State.TheVariants as state
use Rattle.seq_layout.specs.Shapes.{shape_of}
use Rattle.seq_layout.specs.Copies.{Copies, serves}
use Rattle.seq_layout.specs.Units.{units_of}
use Rattle.seq_layout.proofs.Sizes.{process_is_extent}
use Rattle.seq_turns.specs.Machines.{Machine, Change, Turn, copies_after}
use Rattle.seq_turns.specs.Machines.Turn.{Moves, Looks, Copies_unit, Stops}
use Rattle.seq_turns.specs.Reading.{is_amid, is_copied, copied_memory}
use Rattle.seq_turns.specs.Recoveries.{next_of, with_unit, unit_copied}
use Rattle.seq_turns.specs.Processors.{someone_amid, turn}
use Rattle.seq_turns.specs.Duties.{duty, rests}
use Rattle.seq_turns.specs.Allowed.{Allowed}
use Rattle.seq_turns.specs.Events.{is_back, stops, after_turn, happens}
use Rattle.seq_turns.proofs.Functions.{update_same, lowest_passes, lowest_none}
use Rattle.seq_stands.specs.Grips.{Kind, word}
use Rattle.seq_stands.specs.Words.{view_of, words_of, ruling, AllUp, IsDeserted, Ruled}
use Rattle.seq_stands.specs.Standing.{Stands}
use Rattle.seq_stands.proofs.Numbers.{word_taken, same_processor, same_incarnation}
use Rattle.seq_stands.proofs.Duties.{duty_leaves}
use Rattle.seq_stands.proofs.Copying.{all_up, places}
use Rattle.seq_stands.proofs.Serviced.{copied_out, all_equal}
use Rattle.seq_schedule.specs.Outs.{processor, fails, upsets}
use Rattle.seq_invariant.proofs.InTime.{TurnTells, Tells, leaves, turn_tells}
use Rattle.seq_covered.proofs.Becomes.{CopiesRightly, turn_copies}

-- the event stops no processor, and strikes none
abbrev pub IsQuiet : MachineDesc → Machine → Event → Type 0
IsQuiet d m (event.Processor p) = stops (turn d m p.0 (m.hand p.0)) ≡ false
IsQuiet d m (event.Io i) = Unit {0}
IsQuiet d m (event.Input l byte) = Unit {0}
IsQuiet d m (event.Close l) = Unit {0}
IsQuiet d m (event.Fail (element.Processor p)) = ⊥
IsQuiet d m (event.Fail (element.Memory i)) = Unit {0}
IsQuiet d m (event.Fail (element.Io i)) = Unit {0}
IsQuiet d m (event.Repair e) = Unit {0}
IsQuiet d m (event.Upset p half reg mask) = ⊥
IsQuiet d m (event.Hangup l) = Unit {0}

pub quiet_fails : (d : MachineDesc) (m : Machine) (x : Event) (p : ℕ) → IsQuiet d m x → fails (processor p) x ≡ false
quiet_fails d m (event.Processor q) p quiet = refl
quiet_fails d m (event.Io i) p quiet = refl
quiet_fails d m (event.Input l byte) p quiet = refl
quiet_fails d m (event.Close l) p quiet = refl
quiet_fails d m (event.Fail (element.Processor q)) p quiet = absurd quiet
quiet_fails d m (event.Fail (element.Memory i)) p quiet = refl
quiet_fails d m (event.Fail (element.Io i)) p quiet = refl
quiet_fails d m (event.Repair e) p quiet = refl
quiet_fails d m (event.Upset q half reg mask) p quiet = refl
quiet_fails d m (event.Hangup l) p quiet = refl

pub quiet_upsets : (d : MachineDesc) (m : Machine) (x : Event) (p : ℕ) → IsQuiet d m x → upsets (processor p) x ≡ false
quiet_upsets d m (event.Processor q) p quiet = refl
quiet_upsets d m (event.Io i) p quiet = refl
quiet_upsets d m (event.Input l byte) p quiet = refl
quiet_upsets d m (event.Close l) p quiet = refl
quiet_upsets d m (event.Fail e) p quiet = refl
quiet_upsets d m (event.Repair e) p quiet = refl
quiet_upsets d m (event.Upset q half reg mask) p quiet = absurd quiet
quiet_upsets d m (event.Hangup l) p quiet = refl

-- where every copy of a status word is in service, so is every memory
pub all_in_service : (d : MachineDesc) (m : Machine) (i : ℕ) → i < d.memories → AllUp (words_of d m) → is_in_service (m.copies.state i) ≡ true
all_in_service d m i inside all = ap (λ x. is_in_service (m.copies.state x)) (sym (mod-eq_of_lt inside)) ∙ (all i).0

-- the primary rules where it is in service
first_rules : (d : MachineDesc) (p : Copies) (q : ℕ) → serves (shape_of d) p q false ≡ true → ruling (view_of d p q) ≡ p.word q 0 false
first_rules d p q up = cond-true _ _ _ up ∙ cond-true _ _ _ up

-- it names a processor in its present incarnation
record Alive (m : Machine) (w : ℕ) : Type 0 where
  kind : Kind
  holder : ℕ
  small : holder < 256
  says : w ≡ word kind holder (m.incarnation holder)

module _ (d : MachineDesc) (m : Machine) (described : IsDescription d) (st : Stands d m) where
  two : 2 ≤ d.memories
  two = described.memories.low_at

  -- a word that names a processor in its present incarnation names none that has stopped since
  not_alive : (k k' : Kind) (p p' i : ℕ) → p < 256 → p' < 256 → word k p (m.incarnation p) ≡ word k' p' i → i < m.incarnation p' → ⊥
  not_alive k k' p p' i small small' e stopped =
      let here : m.incarnation p ≡ m.incarnation p' = ap m.incarnation (same_processor k k' p p' (m.incarnation p) i small small' e) in
      let when : m.incarnation p ≡ i = same_incarnation k k' p p' (m.incarnation p) i small small' e in
      let no : ⊥ = omega (arith, here, when, stopped) in no

  -- where the ruling word names one that has stopped since, the process is deserted
  named_deserted : (q : ℕ) → q < length d.processes → (k : Kind) (p i : ℕ) → p < 256 → ruling (view_of d m.copies q) ≡ word k p i → i < m.incarnation p → IsDeserted (words_of d m) q
  named_deserted q there k p i small says stopped = go (st.words.ruled q there)
    where
      go : Ruled (words_of d m) q → IsDeserted (words_of d m) q
      go (inl h) = absurd (word_taken k p i (sym says ∙ h.free))
      go (inr (inl h)) = absurd (not_alive h.kind k h.holder p i h.small small (sym h.named ∙ says) stopped)
      go (inr (inr h)) = h

  -- what is said of a status word after a turn: it is as it was, or free, or names who is live
  abbrev Said : ℕ → ℕ → Type 0
  Said q w = (w ≡ m.copies.word q 0 false) ⊎ (w ≡ 0) ⊎ Alive m w

  changed : (change : Change) → Tells d m false Said change → (q : ℕ) → q < length d.processes → (k : Kind) (p i : ℕ) → p < 256
      → serves (shape_of d) m.copies q false ≡ true → ruling (view_of d (copies_after change m.copies) q) ≡ word k p i → i < m.incarnation p → IsDeserted (words_of d m) q
  changed change tells q there k p i small up says stopped = go (tells q there)
    where
      is : (copies_after change m.copies).word q 0 false ≡ word k p i
      is = sym (first_rules d (copies_after change m.copies) q up) ∙ says

      go : Said q ((copies_after change m.copies).word q 0 false) → IsDeserted (words_of d m) q
      go (inl same) = named_deserted q there k p i small (first_rules d m.copies q up ∙ sym same ∙ is) stopped
      go (inr (inl zero)) = absurd (word_taken k p i (sym is ∙ zero))
      go (inr (inr a)) = absurd (not_alive a.kind k a.holder p i a.small small (sym a.says ∙ is) stopped)

  -- a unit of a memory is copied, amid no operation
  unit : (i : ℕ) → copied_memory d m.copies ≡ Some i → someone_amid d m ≡ None → (q : ℕ) → q < length d.processes → IsDeserted (words_of d (unit_copied d m i)) q → IsDeserted (words_of d m) q
  unit i e amid q there = cond_both (nat_le count (suc next)) state.InService (state.Copying (suc next)) (λ new. IsDeserted (words_of d (record m { copies = with_unit d m.copies i next new })) q → IsDeserted (words_of d m) q)
      (λ t h.
      let equal = all_equal d m m i found.1 found.0 calm st.service state.InService t in
      let up = all_up d m i next two (copied_out (m.copies.state i) found.0) others st.words equal calm q false in
      named_deserted q there h.kind h.holder h.number h.small
      (sym (places d m i next two (copied_out (m.copies.state i) found.0) others st.words equal calm q (process_is_extent d q there)).first ∙ sym (cond-true _ _ _ up) ∙ h.named) h.stopped)
      (λ f h. absurd (false≢true (sym (ap is_in_service (update_same m.copies.state i (state.Copying (suc next)))) ∙ all_in_service d (record m { copies = with_unit d m.copies i next (state.Copying (suc next)) }) i found.1 h.all)))
    where
      next : ℕ
      next = next_of (m.copies.state i)

      count : ℕ
      count = length (units_of (shape_of d) i)

      found : (is_copied (m.copies.state i) ≡ true) × (i < d.memories)
      found = lowest_passes (λ k. is_copied (m.copies.state k)) d.memories i e

      others : (k : ℕ) → k < d.memories → k ≢ i → is_in_service (m.copies.state k) ≡ true
      others k l ne = true_from_ne_false _ (λ f. ne (st.service.one_out k i l found.1 f (copied_out (m.copies.state i) found.0)))

      calm : (r : ℕ) → is_amid (m.hand r) ≡ false
      calm r = go (cases_lt r d.processors)
        where
          go : (r < d.processors) ⊎ (d.processors ≤ r) → is_amid (m.hand r) ≡ false
          go (inl l) = lowest_none (λ k. is_amid (m.hand k)) d.processors amid r l
          go (inr l) = ap is_amid (st.hands.beyond r l)

  turned : (p : ℕ) (t : Turn) → TurnTells d m false Said t → CopiesRightly d m p t → stops t ≡ false → (q : ℕ) → q < length d.processes → IsDeserted (words_of d (after_turn d m p t)) q → IsDeserted (words_of d m) q
  turned p (Moves move) tells right on q there h = changed move.change tells q there h.kind h.holder h.number h.small (h.all q).0 h.named h.stopped
  turned p (Looks next move) tells right on q there h = changed move.change tells q there h.kind h.holder h.number h.small (h.all q).0 h.named h.stopped
  turned p (Copies_unit i) tells right on q there h = unit i right.0 right.1 q there h
  turned p Stops tells right on q there h = absurd (true≢false on)

  free : (q : ℕ) → Said q 0
  free q = inr (inl refl)

  alive : (k : Kind) (p q : ℕ) → p < 256 → Said q (word k p (m.incarnation p))
  alive k p q small = inr (inr (record { kind = k; holder = p; small = small; says = refl }))

  before : (q : ℕ) → q < length d.processes → Said q (m.copies.word q 0 false)
  before q there = inl refl

  -- A process that is deserted after the event was so before.
  pub was_deserted : (x : Event) → Allowed d m x → IsQuiet d m x → (q : ℕ) → q < length d.processes → IsDeserted (words_of d (happens d m x)) q → IsDeserted (words_of d m) q
  was_deserted (event.Processor p) may quiet q there h =
      turned p.0 (turn d m p.0 (m.hand p.0)) (turn_tells d m false Said free alive before p.0 (let few = described.processors.high_at in omega (arith, may, few)) (m.hand p.0) (st.hands.hands p.0)) (turn_copies d m p.0 (m.hand p.0)) quiet q there h
  was_deserted (event.Io i) may quiet q there h = cond_both (rests d m i.0) _ _ (λ (n : Machine). IsDeserted (words_of d n) q → IsDeserted (words_of d m) q) (λ _ now. now)
      (λ _ now. let done = duty d m (m.io i.0).cursor in
      changed done.change (leaves d m false Said free alive before done.change (duty_leaves d m (m.io i.0).cursor)) q there now.kind now.holder now.number now.small (now.all q).0 now.named now.stopped) h
  was_deserted (event.Input l byte) may quiet q there h = named_deserted q there h.kind h.holder h.number h.small h.named h.stopped
  was_deserted (event.Close l) may quiet q there h = named_deserted q there h.kind h.holder h.number h.small h.named h.stopped
  was_deserted (event.Fail (element.Processor p)) may quiet q there h = absurd quiet
  was_deserted (event.Fail (element.Memory i)) may quiet q there h = absurd (false≢true (sym (ap is_in_service (update_same m.copies.state i.0 state.Down)) ∙ all_in_service d (happens d m (event.Fail (element.Memory i))) i.0 may.memory h.all))
  was_deserted (event.Fail (element.Io i)) may quiet q there h = named_deserted q there h.kind h.holder h.number h.small h.named h.stopped
  was_deserted (event.Repair (element.Processor p)) may quiet q there h = named_deserted q there h.kind h.holder h.number h.small h.named h.stopped
  was_deserted (event.Repair (element.Memory i)) may quiet q there h =
      absurd (false≢true (sym (ap is_in_service (update_same m.copies.state i.0 (is_back (m.copies.state i.0)) ∙ ap is_back may.down)) ∙ all_in_service d (happens d m (event.Repair (element.Memory i))) i.0 may.memory h.all))
  was_deserted (event.Repair (element.Io i)) may quiet q there h = named_deserted q there h.kind h.holder h.number h.small h.named h.stopped
  was_deserted (event.Upset p half reg mask) may quiet q there h = absurd quiet
  was_deserted (event.Hangup l) may quiet q there h = named_deserted q there h.kind h.holder h.number h.small h.named h.stopped
