-- How the copying of a memory keeps up with the first counts, event by event.
use Rattle.std.proofs.Common.{◌≡◌, ◌⊎◌, inl, inr, ℕ, zero, suc, ◌+◌, ◌-◌, ◌<◌, ◌≤◌, Bool, true, false, nat_le, cond, length, Option, Some, None, List, [], ◌∷◌, refl, ap, sym, ◌∙◌, subst, arith}
use Rattle.std.proofs.lemmas.Bool.{cond_both, false_from_ne_true, true≢false, false≢true}
use Rattle.seq_words.specs.Description.{IsDescription}
use Rattle.seq_words.specs.declared.description.MachineDesc.{MachineDesc}
use Rattle.seq_words.specs.declared.events.Event.{Event}
use Rattle.seq_words.specs.declared.events.Event.TheVariants as event
use Rattle.seq_words.specs.declared.names.Pe.{Pe}
use Rattle.seq_memory.specs.declared.element.State.{State}
use Rattle.seq_memory.specs.declared.element.State.TheVariants.{InService, Copying}
use Rattle.seq_layout.specs.Shapes.{shape_of}
use Rattle.seq_layout.specs.Copies.{AtMostOneOut}
use Rattle.seq_layout.specs.Units.{units_of}
use Rattle.seq_ruling.proofs.Lowest.{none_found}
use Rattle.seq_turns.specs.declared.hand.Hand.{Hand}
use Rattle.seq_turns.specs.declared.hand.Hand.TheVariants as hand
use Rattle.seq_turns.specs.Machines.{Machine, Turn}
use Rattle.seq_turns.specs.Machines.Turn.{Copies_unit}
use Rattle.seq_turns.specs.Reading.{copied_memory, is_amid, is_copied}
use Rattle.seq_turns.specs.Recoveries.{next_of}
use Rattle.seq_turns.specs.Processors.{someone_amid, copies_or_waits, seeks_or_copies, runs_or_copies, turn}
use Rattle.seq_turns.specs.Allowed.{Allowed}
use Rattle.seq_turns.specs.Events.{after_turn, happens}
use Rattle.seq_turns.proofs.Functions.{update_same, lowest_passes, lowest_none}
use Rattle.seq_stands.specs.Fit.{Fit}
use Rattle.seq_stands.specs.CountLeft as operations
use Rattle.seq_stands.specs.CountLeft.{left_of, most_left}
use Rattle.seq_stands.proofs.Serviced.{copied_out}
use Rattle.seq_stands.proofs.CountLeft.{left_is_few}
use Rattle.seq_stands.proofs.CountLeftEvents.{left_runs_out}
use Rattle.seq_stands.proofs.CountBegins.{copying_begins_none}
use Rattle.seq_schedule.specs.Outs.{processor, is_turn_of, disturbs, first_count}
use Rattle.seq_covered.specs.Memories.{CopyingKeepsUp}
use Rattle.seq_covered.proofs.Counts.{count_anew, count_on, at_most_one, same_turn}
use Rattle.seq_covered.proofs.Becomes.{one_more, calmly}

-- the one memory that isn't in service is the one to be copied
pub copied_alone : (d : MachineDesc) (m : Machine) (i : ℕ) → AtMostOneOut (shape_of d) m.copies → i < d.memories → is_copied (m.copies.state i) ≡ true → copied_memory d m.copies ≡ Some i
copied_alone d m i alone inside copied = go (copied_memory d m.copies) refl
  where
    go : (o : Option ℕ) → copied_memory d m.copies ≡ o → o ≡ Some i
    go None e = absurd (true≢false (sym copied ∙ lowest_none (λ k. is_copied (m.copies.state k)) d.memories e i inside))
    go (Some k) e =
        let found = lowest_passes (λ j. is_copied (m.copies.state j)) d.memories k e in
        ap (λ (j : ℕ). Some j) (alone k i found.1 inside (copied_out (m.copies.state k) found.0) (copied_out (m.copies.state i) copied))

-- an event that disturbs nothing is a turn of a processor, or counts for none
turn_or_none : (x : Event) → ((q : Pe) × (x ≡ event.Processor q)) ⊎ ((p : ℕ) → is_turn_of (processor p) x ≡ false)
turn_or_none (event.Processor q) = inl (q, refl)
turn_or_none (event.Io i) = inr (λ p. refl)
turn_or_none (event.Input l byte) = inr (λ p. refl)
turn_or_none (event.Close l) = inr (λ p. refl)
turn_or_none (event.Fail f) = inr (λ p. refl)
turn_or_none (event.Repair f) = inr (λ p. refl)
turn_or_none (event.Upset q half reg mask) = inr (λ p. refl)
turn_or_none (event.Hangup l) = inr (λ p. refl)

-- with nobody amid an operation, a processor that isn't down copies the next unit
unit_next : (d : MachineDesc) (m : Machine) (p i : ℕ) (h : Hand) → copied_memory d m.copies ≡ Some i → someone_amid d m ≡ None → is_amid h ≡ false → (h ≡ hand.Down → ⊥) → turn d m p h ≡ Copies_unit i
unit_next d m p i hand.Down copied none idle up = absurd (up refl)
unit_next d m p i hand.Seek copied none idle up = ap (seeks_or_copies d m p) copied ∙ ap (copies_or_waits m p i) none
unit_next d m p i (hand.Claiming q c) copied none idle up = absurd (true≢false idle)
unit_next d m p i (hand.Running r) copied none idle up = ap (runs_or_copies d m p r) copied ∙ ap (copies_or_waits m p i) none
unit_next d m p i (hand.Acquiring r t c) copied none idle up = absurd (true≢false idle)
unit_next d m p i (hand.Flushing r cause mask f) copied none idle up = absurd (true≢false idle)
unit_next d m p i (hand.Unlocking r cause mask l) copied none idle up = absurd (true≢false idle)
unit_next d m p i (hand.Leaving q l) copied none idle up = absurd (true≢false idle)
unit_next d m p i (hand.Recovering r) copied none idle up = absurd (true≢false idle)

-- one unit more is copied, where the memory isn't in service after it
more_next : (d : MachineDesc) (i : ℕ) (s : State) → is_copied (one_more d i s) ≡ true → next_of (one_more d i s) ≡ suc (next_of s)
more_next d i s = cond_both (nat_le (length (units_of (shape_of d) i)) (suc (next_of s))) InService (Copying (suc (next_of s))) (λ new. is_copied new ≡ true → next_of new ≡ suc (next_of s)) (λ _ e. absurd (false≢true e)) (λ _ e. refl)

-- ---- a disturbance begins the counts anew

pub anew : (d : MachineDesc) (x : Event) (xs : List Event) (m : Machine) (i : ℕ) → IsDescription d → Fit d m → disturbs x ≡ true → CopyingKeepsUp d (x ∷ xs) m i
anew d x xs m i described fit disturbed = record {
  left = λ p there.
      let few = (left_is_few d m p fit there).most in
      let none = count_anew x xs (processor p) disturbed in
      omega (arith, few, none);
  copied = λ n all.
      let some = described.processors.low_at in
      let enough = all 0 (omega (arith, some)) in
      let none = count_anew x xs (processor 0) disturbed in
      absurd (let no : ⊥ = omega (arith, enough, none) in no);
}

-- ---- what disturbs nothing counts on

-- Memory i is to be copied, and no processor is down.
module _ (d : MachineDesc) (x : Event) (xs : List Event) (m : Machine) (i : ℕ) (calm : disturbs x ≡ false) (fit : Fit d m) (may : Allowed d m x)
    (copied : copied_memory d m.copies ≡ Some i) (up : (p : ℕ) → p < d.processors → m.hand p ≡ hand.Down → ⊥) (before : CopyingKeepsUp d xs m i) where
  abbrev counted : ℕ → ℕ
  counted p = cond (is_turn_of (processor p) x) 1 0

  goes_on : (p : ℕ) → first_count (x ∷ xs) (processor p) ≡ counted p + first_count xs (processor p)
  goes_on p = count_on x xs (processor p) calm

  left_on : (p : ℕ) → p < d.processors → left_of d (happens d m x) p ≤ most_left d - first_count (x ∷ xs) (processor p)
  left_on p there =
      let fewer : left_of d (happens d m x) p ≤ left_of d m p - cond (operations.is_turn_of p x) 1 0 = one_event (left_runs_out d p (x ∷ []) m there (fit, copying_begins_none d m x p i copied, tt)) in
      let same : cond {A = ℕ} (operations.is_turn_of p x) 1 0 ≡ counted p = ap (λ (b : Bool). cond {A = ℕ} b 1 0) (same_turn p x) in
      let old = before.left p there in
      let more = goes_on p in
      omega (arith, fewer, same, old, more)
    where
      one_event : left_of d (happens d m x) p ≤ left_of d m p - (cond (operations.is_turn_of p x) 1 0 + 0) → left_of d (happens d m x) p ≤ left_of d m p - cond (operations.is_turn_of p x) 1 0
      one_event h = omega (arith, h)

  -- with as many counted by each as an operation takes, nobody is amid one
  idle : ((p : ℕ) → p < d.processors → most_left d ≤ first_count xs (processor p)) → (p : ℕ) → p < d.processors → is_amid (m.hand p) ≡ false
  idle enough p there = false_from_ne_true _ (λ amid.
      let some = (left_is_few d m p fit there).some amid in
      let old = before.left p there in
      let all = enough p there in
      let no : ⊥ = omega (arith, some, old, all) in
      no)

  -- so a turn of any processor copies a unit
  one_copied : ((p : ℕ) → p < d.processors → most_left d ≤ first_count xs (processor p)) → (q : Pe) → q.0 < d.processors → (happens d m (event.Processor q)).copies.state i ≡ one_more d i (m.copies.state i)
  one_copied enough q there =
      ap (λ (t : Turn). (after_turn d m q.0 t).copies.state i) (unit_next d m q.0 i (m.hand q.0) copied (none_found (λ r. is_amid (m.hand r)) d.processors (idle enough)) (idle enough q.0 there) (up q.0 there)) ∙
      update_same m.copies.state i (one_more d i (m.copies.state i))

  -- no event undoes a unit
  kept : is_copied ((happens d m x).copies.state i) ≡ true → next_of (m.copies.state i) ≤ next_of ((happens d m x).copies.state i)
  kept still = go (calmly d m x i calm)
    where
      go : ((happens d m x).copies.state i ≡ m.copies.state i) ⊎ ((is_copied (m.copies.state i) ≡ true) × ((happens d m x).copies.state i ≡ one_more d i (m.copies.state i))) → next_of (m.copies.state i) ≤ next_of ((happens d m x).copies.state i)
      go (inl same) = let e : next_of ((happens d m x).copies.state i) ≡ next_of (m.copies.state i) = ap next_of same in omega (arith, e)
      go (inr more) =
          let e : next_of ((happens d m x).copies.state i) ≡ suc (next_of (m.copies.state i)) = ap next_of more.1 ∙ more_next d i (m.copies.state i) (ap is_copied (sym more.1) ∙ still) in
          omega (arith, e)

  copied_on : is_copied ((happens d m x).copies.state i) ≡ true → (n : ℕ) → ((p : ℕ) → p < d.processors → most_left d + n ≤ first_count (x ∷ xs) (processor p)) → n ≤ next_of ((happens d m x).copies.state i)
  copied_on still zero all = omega arith
  copied_on still (suc n) all = go (turn_or_none x)
    where
      most : (p : ℕ) → p < d.processors → most_left d + n ≤ first_count xs (processor p)
      most p there =
          let enough = all p there in
          let more = goes_on p in
          let once = at_most_one (is_turn_of (processor p) x) in
          omega (arith, enough, more, once)

      old : n ≤ next_of (m.copies.state i)
      old = before.copied n most

      go : ((q : Pe) × (x ≡ event.Processor q)) ⊎ ((p : ℕ) → is_turn_of (processor p) x ≡ false) → suc n ≤ next_of ((happens d m x).copies.state i)
      go (inl turns) =
          let there : turns.0.0 < d.processors = subst (Allowed d m) turns.1 may in
          let done : (happens d m x).copies.state i ≡ one_more d i (m.copies.state i) = ap (λ (e : Event). (happens d m e).copies.state i) turns.1 ∙ one_copied (λ p inside. let enough = most p inside in omega (arith, enough)) turns.0 there in
          let e : next_of ((happens d m x).copies.state i) ≡ suc (next_of (m.copies.state i)) = ap next_of done ∙ more_next d i (m.copies.state i) (ap is_copied (sym done) ∙ still) in
          omega (arith, e, old)
      go (inr none) =
          let same = before.copied (suc n) (λ p there.
          let enough = all p there in
          let more = goes_on p in
          let zero : counted p ≡ 0 = ap (λ (b : Bool). cond {A = ℕ} b 1 0) (none p) in
          omega (arith, enough, more, zero)) in
          let least = kept still in
          omega (arith, same, least)

  pub counts_on : is_copied ((happens d m x).copies.state i) ≡ true → CopyingKeepsUp d (x ∷ xs) (happens d m x) i
  counts_on still = record { left = left_on; copied = copied_on still }
