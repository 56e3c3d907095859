-- What an event makes of the state of a memory.
use Rattle.std.proofs.Common.{◌≡◌, ◌⊎◌, inl, inr, ℕ, suc, ◌-◌, true, false, ◌==◌, nat_le, length, Option, Some, None, [], ◌∷◌, refl, ap, sym, ◌∙◌, subst}
use Rattle.std.specs.List.{list_any}
use Rattle.std.proofs.lemmas.Bool.{cond_both, cases_eq, or_parts, eq-eqb, ne_eqb, true≢false}
use Rattle.seq_words.specs.declared.description.MachineDesc.{MachineDesc}
use Rattle.seq_words.specs.declared.events.Event.{Event}
use Rattle.seq_words.specs.declared.events.Event.TheVariants as event
use Rattle.seq_words.specs.declared.kinds.Element.TheVariants as element
use Rattle.seq_words.specs.declared.names.Seg.{Seg}
use Rattle.seq_memory.specs.States.{is_in_service}
use Rattle.seq_memory.specs.declared.element.State.{State}
use Rattle.seq_memory.specs.declared.element.State.TheVariants.{InService, Down, Stale, Copying}
use Rattle.seq_layout.specs.Shapes.{shape_of}
use Rattle.seq_layout.specs.Units.{units_of}
use Rattle.seq_cache.specs.Changes.{Changes}
use Rattle.seq_process.specs.declared.running.Running.{Running}
use Rattle.seq_locks.specs.Turns.{is_taken, word_at}
use Rattle.seq_kernel.specs.Turns.{Turned}
use Rattle.seq_kernel.specs.Steps.{step_of}
use Rattle.seq_kernel.specs.declared.outcomes.Outcome.{Outcome}
use Rattle.seq_kernel.specs.declared.outcomes.Outcome.TheVariants as outcome
use Rattle.seq_kernel.specs.declared.outcomes.Cause.{Cause}
use Rattle.seq_kernel.specs.declared.outcomes.Cause.TheVariants.{Wait, Quantum}
use Rattle.seq_kernel.specs.declared.outcomes.Reason.TheVariants.{Lock}
use Rattle.seq_kernel.specs.declared.outcomes.Note.TheVariants.{Found}
use Rattle.seq_turns.specs.declared.hand.Hand.{Hand}
use Rattle.seq_turns.specs.declared.hand.Hand.TheVariants as hand
use Rattle.seq_turns.specs.Functions.{update}
use Rattle.seq_turns.specs.Machines.{Machine, Turn, idles}
use Rattle.seq_turns.specs.Machines.Turn.{Moves, Looks, Copies_unit, Stops}
use Rattle.seq_turns.specs.Duties.{rests}
use Rattle.seq_turns.specs.Reading.{lock_word, copied_memory, is_copied}
use Rattle.seq_turns.specs.Causes.{agree, flushes, finds, released}
use Rattle.seq_turns.specs.Recoveries.{next_of, service_after}
use Rattle.seq_turns.specs.Processors.{acquisition, after_step, runs, deserted, someone_amid, copies_or_waits, seeks, seeks_or_copies, runs_or_copies, turn}
use Rattle.seq_turns.specs.Events.{is_down, is_back, after_turn, happens}
use Rattle.seq_turns.proofs.Functions.{update_same, update_other, lowest_passes}
use Rattle.seq_schedule.specs.Outs.{memory, fails, repairs, disturbs}
use Rattle.seq_covered.specs.Memories.{ServiceLasts}
use Rattle.seq_covered.proofs.Counts.{calm_fails, calm_repairs}

-- a turn that copies a unit is of the memory that is to be copied, amid no operation
module _ (d : MachineDesc) (m : Machine) (p : ℕ) where
  abbrev pub CopiesRightly : Turn → Type 0
  CopiesRightly (Moves move) = Unit {0}
  CopiesRightly (Looks next move) = Unit {0}
  CopiesRightly (Copies_unit i) = (copied_memory d m.copies ≡ Some i) × (someone_amid d m ≡ None)
  CopiesRightly Stops = Unit {0}

  finding : (r : Running) (cache : Changes) (why : Cause) (mask : ℕ) → CopiesRightly (finds d m p r cache why mask)
  finding r cache why mask = cond_both (r.steps == 0) _ _ CopiesRightly (λ _. tt)
      (λ _. cond_both (agree r.pair) (Moves (record (idles m p) { hand = flushes m p r why mask; cache = cache; note = Found r.pid why })) Stops CopiesRightly (λ _. tt) (λ _. tt))

  acquiring : (r : Running) (t : Seg) → CopiesRightly (acquisition d m p r t)
  acquiring r t = cond_both (is_taken (shape_of d) m.copies (lock_word d t.0) false) _ _ CopiesRightly
      (λ _. finding r (m.cache p) (Wait (Lock t (record { 0 = word_at m.copies (lock_word d t.0) false - 1 }))) 0) (λ _. tt)

  stepping : (r : Running) (t : Turned) (o : Outcome) → CopiesRightly (after_step d m p r t o)
  stepping r t outcome.Done = tt
  stepping r t (outcome.Claim segment) = acquiring r segment
  stepping r t (outcome.NeedsFlush why) = finding t.running t.cache why (released r.held why)
  stepping r t (outcome.Waits reason) = finding r (m.cache p) (Wait reason) 0
  stepping r t outcome.Diverged = tt

  running : (r : Running) → CopiesRightly (runs d m p r)
  running r = cond_both (nat_le d.quantum r.used) _ _ CopiesRightly (λ _. finding r (m.cache p) Quantum 0) (λ _. stepping r (step_of d m.copies r (m.cache p)) (step_of d m.copies r (m.cache p)).outcome)

  waiting : (i : ℕ) → copied_memory d m.copies ≡ Some i → (o : Option ℕ) → someone_amid d m ≡ o → CopiesRightly (copies_or_waits m p i o)
  waiting i e (Some r) amid = tt
  waiting i e None amid = (e, amid)

  looking : (o : Option ℕ) → CopiesRightly (seeks d m p o)
  looking (Some q) = tt
  looking None = tt

  seeking : (o : Option ℕ) → copied_memory d m.copies ≡ o → CopiesRightly (seeks_or_copies d m p o)
  seeking (Some i) e = waiting i e (someone_amid d m) refl
  seeking None e = looking (deserted d m)

  going_on : (r : Running) (o : Option ℕ) → copied_memory d m.copies ≡ o → CopiesRightly (runs_or_copies d m p r o)
  going_on r (Some i) e = waiting i e (someone_amid d m) refl
  going_on r None e = running r

  pub turn_copies : (h : Hand) → CopiesRightly (turn d m p h)
  turn_copies hand.Down = tt
  turn_copies hand.Seek = seeking (copied_memory d m.copies) refl
  turn_copies (hand.Claiming q c) = tt
  turn_copies (hand.Running r) = going_on r (copied_memory d m.copies) refl
  turn_copies (hand.Acquiring r t c) = cond_both (is_taken (shape_of d) m.copies c.at true) _ _ CopiesRightly
      (λ _. finding r (m.cache p) (Wait (Lock t (record { 0 = word_at m.copies c.at true - 1 }))) 0) (λ _. tt)
  turn_copies (hand.Flushing r cause mask f) = tt
  turn_copies (hand.Unlocking r cause mask l) = tt
  turn_copies (hand.Leaving q l) = tt
  turn_copies (hand.Recovering r) = tt

-- a memory of this state with one unit more copied
abbrev pub one_more : MachineDesc → ℕ → State → State
one_more d i s = service_after (length (units_of (shape_of d) i)) (suc (next_of s))

-- The memory fails; or it is repaired; or its state stays; or one unit more of it is copied.
abbrev pub Becomes : MachineDesc → Machine → Event → ℕ → State → Type 0
Becomes d m x i s =
    (fails (memory i) x ≡ true)
    ⊎ ((repairs (memory i) x ≡ true) × (s ≡ is_back (m.copies.state i)))
    ⊎ ((fails (memory i) x ≡ false) × (repairs (memory i) x ≡ false) × (s ≡ m.copies.state i))
    ⊎ ((disturbs x ≡ false) × (is_copied (m.copies.state i) ≡ true) × (s ≡ one_more d i (m.copies.state i)))

module _ (d : MachineDesc) (m : Machine) (i : ℕ) where
  -- another memory's state changes
  elsewhere : (j : ℕ) (s : State) → (i ≡ j → ⊥) → update m.copies.state j s i ≡ m.copies.state i
  elsewhere j s ne = update_other m.copies.state j s i ne

  copying : (x : Event) → disturbs x ≡ false → (j : ℕ) → copied_memory d m.copies ≡ Some j → Becomes d m x i (update m.copies.state j (one_more d j (m.copies.state j)) i)
  copying x calm j e = go (cases_eq i j)
    where
      go : (i ≡ j) ⊎ (i ≡ j → ⊥) → Becomes d m x i (update m.copies.state j (one_more d j (m.copies.state j)) i)
      go (inl same) = subst (λ k. Becomes d m x k (update m.copies.state j (one_more d j (m.copies.state j)) k)) (sym same)
          (inr (inr (inr (calm, (lowest_passes (λ k. is_copied (m.copies.state k)) d.memories j e).0, update_same m.copies.state j (one_more d j (m.copies.state j))))))
      go (inr ne) = inr (inr (inl (calm_fails (memory i) x calm, calm_repairs (memory i) x calm, elsewhere j _ ne)))

  of_turn : (p : ℕ) (x : Event) → disturbs x ≡ false → (t : Turn) → CopiesRightly d m p t → Becomes d m x i ((after_turn d m p t).copies.state i)
  of_turn p x calm (Moves move) right = inr (inr (inl (calm_fails (memory i) x calm, calm_repairs (memory i) x calm, refl)))
  of_turn p x calm (Looks next move) right = inr (inr (inl (calm_fails (memory i) x calm, calm_repairs (memory i) x calm, refl)))
  of_turn p x calm (Copies_unit j) right = copying x calm j right.0
  of_turn p x calm Stops right = inr (inr (inl (calm_fails (memory i) x calm, calm_repairs (memory i) x calm, refl)))

  pub becomes : (x : Event) → Becomes d m x i ((happens d m x).copies.state i)
  becomes (event.Processor p) = of_turn p.0 (event.Processor p) refl (turn d m p.0 (m.hand p.0)) (turn_copies d m p.0 (m.hand p.0))
  becomes (event.Io k) = cond_both (rests d m k.0) _ _ (λ (n : Machine). Becomes d m (event.Io k) i (n.copies.state i)) (λ _. inr (inr (inl (refl, refl, refl)))) (λ _. inr (inr (inl (refl, refl, refl))))
  becomes (event.Input l byte) = inr (inr (inl (refl, refl, refl)))
  becomes (event.Close l) = inr (inr (inl (refl, refl, refl)))
  becomes (event.Fail (element.Processor p)) = cond_both (is_down (m.hand p.0)) _ _ (λ (n : Machine). Becomes d m (event.Fail (element.Processor p)) i (n.copies.state i)) (λ _. inr (inr (inl (refl, refl, refl)))) (λ _. inr (inr (inl (refl, refl, refl))))
  becomes (event.Fail (element.Memory j)) = go (cases_eq i j.0)
    where
      go : (i ≡ j.0) ⊎ (i ≡ j.0 → ⊥) → Becomes d m (event.Fail (element.Memory j)) i (update m.copies.state j.0 Down i)
      go (inl e) = inl (eq-eqb i j.0 e)
      go (inr ne) = inr (inr (inl (ne_eqb i j.0 ne, refl, elsewhere j.0 Down ne)))
  becomes (event.Fail (element.Io k)) = inr (inr (inl (refl, refl, refl)))
  becomes (event.Repair (element.Processor p)) = inr (inr (inl (refl, refl, refl)))
  becomes (event.Repair (element.Memory j)) = go (cases_eq i j.0)
    where
      go : (i ≡ j.0) ⊎ (i ≡ j.0 → ⊥) → Becomes d m (event.Repair (element.Memory j)) i (update m.copies.state j.0 (is_back (m.copies.state j.0)) i)
      go (inl e) = inr (inl (eq-eqb i j.0 e, subst (λ k. update m.copies.state j.0 (is_back (m.copies.state j.0)) k ≡ is_back (m.copies.state k)) (sym e) (update_same m.copies.state j.0 (is_back (m.copies.state j.0)))))
      go (inr ne) = inr (inr (inl (refl, ne_eqb i j.0 ne, elsewhere j.0 (is_back (m.copies.state j.0)) ne)))
  becomes (event.Repair (element.Io k)) = inr (inr (inl (refl, refl, refl)))
  becomes (event.Upset p half reg mask) = inr (inr (inl (refl, refl, refl)))
  becomes (event.Hangup l) = inr (inr (inl (refl, refl, refl)))

-- ---- states

pub back_not_down : (s : State) → is_back s ≡ Down → ⊥
back_not_down InService e = true≢false (ap is_in_service e)
back_not_down Down e = true≢false (ap is_copied e)
back_not_down Stale e = true≢false (ap is_copied e)
back_not_down (Copying next) e = true≢false (ap is_copied e)

pub more_not_down : (d : MachineDesc) (i : ℕ) (s : State) → one_more d i s ≡ Down → ⊥
more_not_down d i s = cond_both (nat_le (length (units_of (shape_of d) i)) (suc (next_of s))) InService (Copying (suc (next_of s))) (λ new. new ≡ Down → ⊥) (λ _ e. true≢false (ap is_in_service e)) (λ _ e. true≢false (ap is_copied e))

-- a memory in service stays so unless it fails
pub serves_on : (d : MachineDesc) (m : Machine) (x : Event) (i : ℕ) → fails (memory i) x ≡ false → m.copies.state i ≡ InService → (happens d m x).copies.state i ≡ InService
serves_on d m x i up serving = go (becomes d m i x)
  where
    go : Becomes d m x i ((happens d m x).copies.state i) → (happens d m x).copies.state i ≡ InService
    go (inl failed) = absurd (true≢false (sym failed ∙ up))
    go (inr (inl back)) = back.1 ∙ ap is_back serving
    go (inr (inr (inl same))) = same.2 ∙ serving
    go (inr (inr (inr more))) = absurd (true≢false (sym more.1 ∙ ap is_copied serving))

pub service_lasts : ServiceLasts
service_lasts d [] m i none serving = serving
service_lasts d (x ∷ es) m i none serving =
    let parts = or_parts (fails (memory i) x) (list_any (fails (memory i)) es) none in
    service_lasts d es (happens d m x) i parts.1 (serves_on d m x i parts.0 serving)

-- what disturbs nothing leaves the state, or copies one unit more
pub calmly : (d : MachineDesc) (m : Machine) (x : Event) (i : ℕ) → disturbs x ≡ false → ((happens d m x).copies.state i ≡ m.copies.state i) ⊎ ((is_copied (m.copies.state i) ≡ true) × ((happens d m x).copies.state i ≡ one_more d i (m.copies.state i)))
calmly d m x i calm = go (becomes d m i x)
  where
    go : Becomes d m x i ((happens d m x).copies.state i) → ((happens d m x).copies.state i ≡ m.copies.state i) ⊎ ((is_copied (m.copies.state i) ≡ true) × ((happens d m x).copies.state i ≡ one_more d i (m.copies.state i)))
    go (inl failed) = absurd (true≢false (sym failed ∙ calm_fails (memory i) x calm))
    go (inr (inl back)) = absurd (true≢false (sym back.0 ∙ calm_repairs (memory i) x calm))
    go (inr (inr (inl same))) = inl same.2
    go (inr (inr (inr more))) = inr (more.1, more.2)
