-- A processor that is mended recovers what is deserted, and meanwhile no recovery begins that others are amid still when the second
-- counts are met.
use Rattle.std.proofs.Common.{◌≡◌, ◌⊎◌, inl, inr, ℕ, zero, suc, ◌+◌, ◌*◌, ◌<◌, ◌≤◌, Bool, true, false, not, ◌==◌, cond, Option, Some, None, length, List, ◌∷◌, refl, ap, sym, ◌∙◌, subst, suc-mul, mul-le-mul_right, arith}
use Rattle.std.proofs.lemmas.Bool.{cond_both, cases_Bool, and_left, and_parts, not_from_true, true≢false, false≢true, false_from_ne_true}
use Rattle.seq_words.specs.Description.{IsDescription}
use Rattle.seq_words.specs.declared.description.MachineDesc.{MachineDesc}
use Rattle.seq_words.specs.declared.events.Event.{Event}
use Rattle.seq_turns.specs.declared.hand.Hand.{Hand}
use Rattle.seq_turns.specs.declared.hand.Hand.TheVariants as hand
use Rattle.seq_turns.specs.declared.hand.RecoveryAt.{RecoveryAt}
use Rattle.seq_turns.specs.declared.hand.RecoveryAt.TheVariants as recovery
use Rattle.seq_turns.specs.Machines.{Machine, Move}
use Rattle.seq_turns.specs.Machines.Turn.{Moves}
use Rattle.seq_turns.specs.Reading.{copied_memory, is_amid, goes_forward, ruling as status_now}
use Rattle.seq_recover.specs.Reading.{left_from}
use Rattle.seq_turns.specs.Recoveries.{begins, recovers, locks_cleared, recovery_move}
use Rattle.seq_turns.specs.Processors.{deserted, seeks, seeks_or_copies, turn}
use Rattle.seq_turns.specs.Allowed.{Allowed}
use Rattle.seq_turns.specs.Events.{after_turn, happens}
use Rattle.seq_turns.proofs.Functions.{update_same, lowest_passes}
use Rattle.seq_stands.specs.Grips.{way, grip}
use Rattle.seq_stands.specs.Grips.Stage.{Recovering}
use Rattle.seq_stands.specs.Standing.{Stands}
use Rattle.seq_stands.specs.Fit.{Fit}
use Rattle.seq_stands.specs.CountLeft.{left_of, most_left}
use Rattle.seq_stands.proofs.CountLeft.{left_is_few}
use Rattle.seq_stands.proofs.CountLeftEvents.{own_turns_lower, others_raise_none}
use Rattle.seq_schedule.specs.Outs.{processor, is_turn_of, repairs, disturbs, is_failed, is_mended, half_needed, first_count, have_reached, second_count}
use Rattle.seq_schedule.proofs.Below.{count_few}
use Rattle.seq_invariant.proofs.Left.{gripped_is_alive}
use Rattle.seq_covered.proofs.Counts.{failed_not_mended, count_anew, count_on, at_most_one, same_turn, reached}
use Rattle.seq_covered.proofs.Below.{fewer}
use Rattle.seq_covered.proofs.Moments.{moment}
use Rattle.seq_covered.proofs.Turned.{own_happens, elsewhere, mended_seeks}
use Rattle.seq_covered.proofs.Deserts.{IsQuiet, quiet_fails, quiet_upsets}
use Rattle.seq_covered.proofs.Recovers.{is_recovering, begins_none, is_left, deserted_ones, left_is, none_deserted, deserted_none, still_left, no_more_deserted}
use Rattle.seq_covered.proofs.Seconds.{goes_on, second_anew, second_on, recoveries_take_a_half}

-- it recovers, or seeks what to do
abbrev pub is_free : Hand → Bool
is_free hand.Down = false
is_free hand.Seek = true
is_free (hand.Claiming q c) = false
is_free (hand.Running r) = false
is_free (hand.Acquiring r t c) = false
is_free (hand.Flushing r why mask f) = false
is_free (hand.Unlocking r why mask l) = false
is_free (hand.Leaving q l) = false
is_free (hand.Recovering x) = true

-- the most turns in which a process that is deserted is recovered
abbrev pub span : MachineDesc → ℕ
span d = suc (most_left d)

-- Processor p recovers: with as many turns as it has counted all that are deserted now would be left.
pub record KeepsUp (d : MachineDesc) (xs : List Event) (p : ℕ) : Type 0 where
  pub free : is_free ((moment d xs).hand p) ≡ true
  pub enough : deserted_ones d (moment d xs) * span d + left_of d (moment d xs) p + first_count xs (processor p) ≤ length d.processes * span d

-- It is mended. None is deserted, or it keeps up; and each recovery has as many turns less as second counts say.
pub record Mends (d : MachineDesc) (xs : List Event) (p : ℕ) : Type 0 where
  pub mended : is_mended (processor p) xs ≡ true
  pub done : (deserted_ones d (moment d xs) ≡ 0) ⊎ KeepsUp d xs p
  pub ends : (r : ℕ) → r < d.processors → is_recovering ((moment d xs).hand r) ≡ true → left_of d (moment d xs) r + second_count d xs (processor r) ≤ most_left d

-- with half of the turns counted none is deserted
pub half_is_enough : (d : MachineDesc) (xs : List Event) (p : ℕ) → IsDescription d → half_needed d ≤ first_count xs (processor p) → (deserted_ones d (moment d xs) ≡ 0) ⊎ KeepsUp d xs p → deserted_ones d (moment d xs) ≡ 0
half_is_enough d xs p described half (inl none) = none
half_is_enough d xs p described half (inr up) = go (deserted_ones d (moment d xs)) up.enough
  where
    go : (k : ℕ) → k * span d + left_of d (moment d xs) p + first_count xs (processor p) ≤ length d.processes * span d → k ≡ 0
    go zero enough = refl
    go (suc k) enough =
        let once = suc-mul k (span d) in
        let all = recoveries_take_a_half d described in
        absurd (let no : ⊥ = omega (arith, once, all, half, enough) in no)

recovering_amid : (h : Hand) → is_recovering h ≡ true → is_amid h ≡ true
recovering_amid hand.Down t = absurd (false≢true t)
recovering_amid hand.Seek t = absurd (false≢true t)
recovering_amid (hand.Claiming q c) t = refl
recovering_amid (hand.Running r) t = absurd (false≢true t)
recovering_amid (hand.Acquiring r t' c) t = refl
recovering_amid (hand.Flushing r why mask f) t = refl
recovering_amid (hand.Unlocking r why mask l) t = refl
recovering_amid (hand.Leaving q l) t = refl
recovering_amid (hand.Recovering x) t = refl

-- after its turn a processor that recovers does so still, or seeks
recovers_on : (d : MachineDesc) (m : Machine) (p : ℕ) (x : RecoveryAt) → is_free (recovery_move d m p x).hand ≡ true
recovers_on d m p (recovery.Claimed r) = cond_both (r.cursor == 0) _ _ (λ (move : Move). is_free move.hand ≡ true) (λ _. refl) (λ _. refl)
recovers_on d m p (recovery.Copying r) = refl
recovers_on d m p (recovery.Locks r) = go (left_from d m.copies r.pid.0 r.cursor)
  where
    go : (o : Option ℕ) → is_free (locks_cleared d m p r o).hand ≡ true
    go (Some k) = refl
    go None = refl
recovers_on d m p (recovery.Closing r) = cond_both (r.cursor == 0) _ _ (λ (move : Move). is_free move.hand ≡ true) (λ _. refl) (λ _. refl)

-- ---- one quiet event

module _ (d : MachineDesc) (x : Event) (xs : List Event) (described : IsDescription d) (may : Allowed d (moment d xs) x) (quiet : IsQuiet d (moment d xs) x)
    (fit : Fit d (moment d xs)) (fit_after : Fit d (moment d (x ∷ xs))) (st : Stands d (moment d xs)) (st_after : Stands d (moment d (x ∷ xs))) where
  abbrev m : Machine
  m = moment d xs

  abbrev n : Machine
  n = happens d m x

  no_more : deserted_ones d n ≤ deserted_ones d m
  no_more = no_more_deserted d m x described st st_after may quiet

  none_then : deserted_ones d m ≡ 0 → deserted_ones d n ≡ 0
  none_then none = omega (arith, no_more, none)

  spans : (a b : ℕ) → a ≤ b → a * span d ≤ b * span d
  spans a b few = mul-le-mul_right (span d) few

  counts_one_more : (p : ℕ) → first_count (x ∷ xs) (processor p) ≤ suc (first_count xs (processor p))
  counts_one_more p = go (cases_Bool (disturbs x))
    where
      go : (disturbs x ≡ true) ⊎ (disturbs x ≡ false) → first_count (x ∷ xs) (processor p) ≤ suc (first_count xs (processor p))
      go (inl t) = omega (arith, count_anew x xs (processor p) t)
      go (inr f) = omega (arith, count_on x xs (processor p) f, at_most_one (is_turn_of (processor p) x))

  counts_none : (p : ℕ) → is_turn_of (processor p) x ≡ false → first_count (x ∷ xs) (processor p) ≤ first_count xs (processor p)
  counts_none p other = go (cases_Bool (disturbs x))
    where
      go : (disturbs x ≡ true) ⊎ (disturbs x ≡ false) → first_count (x ∷ xs) (processor p) ≤ first_count xs (processor p)
      go (inl t) = omega (arith, count_anew x xs (processor p) t)
      go (inr f) = let none : cond {A = ℕ} (is_turn_of (processor p) x) 1 0 ≡ 0 = ap (λ (b : Bool). cond {A = ℕ} b 1 0) other in omega (arith, count_on x xs (processor p) f, none)

  raises_none : (p : ℕ) → is_turn_of (processor p) x ≡ false → left_of d n p ≤ left_of d m p
  raises_none p other = others_raise_none d m x p (same_turn p x ∙ other)

  lowers : (p : ℕ) → p < d.processors → is_turn_of (processor p) x ≡ true → is_amid (m.hand p) ≡ true → left_of d n p < left_of d m p
  lowers p there own amid = subst (λ (k : Machine). left_of d k p < left_of d m p) (sym (own_happens d m p x own)) (own_turns_lower d m (record { 0 = p }) fit there amid)

  -- another event leaves it free
  other_free : (p : ℕ) → is_turn_of (processor p) x ≡ false → is_free (m.hand p) ≡ true → is_free (n.hand p) ≡ true
  other_free p other free = go (cases_Bool (repairs (processor p) x))
    where
      go : (repairs (processor p) x ≡ true) ⊎ (repairs (processor p) x ≡ false) → is_free (n.hand p) ≡ true
      go (inl mends) = ap is_free (mended_seeks d m p x may mends)
      go (inr none) = ap is_free (elsewhere d m p x other (quiet_fails d m x p quiet) none (quiet_upsets d m x p quiet)) ∙ free

  -- its own turn, with no memory to be copied
  module _ (p : ℕ) (there : p < d.processors) (own : is_turn_of (processor p) x ≡ true) (none_copied : copied_memory d m.copies ≡ None) (up : KeepsUp d xs p) where
    after : (h : Hand) → m.hand p ≡ h → n ≡ after_turn d m p (turn d m p h)
    after h e = own_happens d m p x own ∙ ap (λ k. after_turn d m p (turn d m p k)) e

    -- it begins to recover process q
    begun : (q : ℕ) → m.hand p ≡ hand.Seek → deserted d m ≡ Some q → KeepsUp d (x ∷ xs) p
    begun q e o = record { free = ap is_free held; enough = enough }
      where
        next : Hand
        next = hand.Recovering (recovery.Claimed (record (begins m p q (goes_forward (status_now d m.copies q))) { cursor = 1 }))

        moved : n ≡ after_turn d m p (Moves (recovers d m p q))
        moved = after hand.Seek e ∙ ap (λ k. after_turn d m p (seeks_or_copies d m p k)) none_copied ∙ ap (λ k. after_turn d m p (seeks d m p k)) o

        held : n.hand p ≡ (recovers d m p q).hand
        held = ap (λ (k : Machine). k.hand p) moved ∙ update_same m.hand p (recovers d m p q).hand

        found : (is_left d m q ≡ true) × (q < length d.processes)
        found = lowest_passes (is_left d m) (length d.processes) q o

        out_now : is_left d n q ≡ false
        out_now = false_from_ne_true _ (λ t. gripped_is_alive d n st_after.words p q (Recovering (way (goes_forward (status_now d m.copies q)))) (ap grip held) (left_is d n st_after q found.1 t))

        less : suc (deserted_ones d n) ≤ deserted_ones d m
        less = fewer (is_left d n) (is_left d m) (length d.processes) q found.1 (still_left d m x described st st_after may quiet) out_now found.0

        enough : deserted_ones d n * span d + left_of d n p + first_count (x ∷ xs) (processor p) ≤ length d.processes * span d
        enough =
            let few = (left_is_few d n p fit_after there).most in
            let one = spans (suc (deserted_ones d n)) (deserted_ones d m) less in
            let once = suc-mul (deserted_ones d n) (span d) in
            let count = counts_one_more p in
            let was = up.enough in
            omega (arith, few, one, once, count, was)

    -- it goes on
    goes_on_recovering : (r : RecoveryAt) → m.hand p ≡ hand.Recovering r → KeepsUp d (x ∷ xs) p
    goes_on_recovering r e = record {
      free = ap is_free (ap (λ (k : Machine). k.hand p) (after (hand.Recovering r) e) ∙ update_same m.hand p (recovery_move d m p r).hand) ∙ recovers_on d m p r;
      enough =
          let less = lowers p there own (ap is_amid e) in
          let all = spans (deserted_ones d n) (deserted_ones d m) no_more in
          let count = counts_one_more p in
          let was = up.enough in
          omega (arith, less, all, count, was);
    }

    own_done : (h : Hand) → m.hand p ≡ h → is_free h ≡ true → (deserted_ones d n ≡ 0) ⊎ KeepsUp d (x ∷ xs) p
    own_done hand.Down e t = absurd (false≢true t)
    own_done hand.Seek e t = go (deserted d m) refl
      where
        go : (o : Option ℕ) → deserted d m ≡ o → (deserted_ones d n ≡ 0) ⊎ KeepsUp d (x ∷ xs) p
        go None o = inl (none_then (deserted_none d m o))
        go (Some q) o = inr (begun q e o)
    own_done (hand.Claiming q c) e t = absurd (false≢true t)
    own_done (hand.Running r) e t = absurd (false≢true t)
    own_done (hand.Acquiring r s c) e t = absurd (false≢true t)
    own_done (hand.Flushing r why mask f) e t = absurd (false≢true t)
    own_done (hand.Unlocking r why mask l) e t = absurd (false≢true t)
    own_done (hand.Leaving q l) e t = absurd (false≢true t)
    own_done (hand.Recovering r) e t = inr (goes_on_recovering r e)

  done_on : (p : ℕ) → p < d.processors → copied_memory d m.copies ≡ None → (deserted_ones d m ≡ 0) ⊎ KeepsUp d xs p → (deserted_ones d n ≡ 0) ⊎ KeepsUp d (x ∷ xs) p
  done_on p there copied (inl none) = inl (none_then none)
  done_on p there copied (inr up) = go (cases_Bool (is_turn_of (processor p) x))
    where
      go : (is_turn_of (processor p) x ≡ true) ⊎ (is_turn_of (processor p) x ≡ false) → (deserted_ones d n ≡ 0) ⊎ KeepsUp d (x ∷ xs) p
      go (inl own) = own_done p there own copied up (m.hand p) refl up.free
      go (inr other) = inr (record {
        free = other_free p other up.free;
        enough =
            let left = raises_none p other in
            let all = spans (deserted_ones d n) (deserted_ones d m) no_more in
            let count = counts_none p other in
            let was = up.enough in
            omega (arith, left, all, count, was);
      })

  -- where second counts begin anew
  ends_anew : (r : ℕ) → r < d.processors → goes_on d x xs ≡ false → left_of d n r + second_count d (x ∷ xs) (processor r) ≤ most_left d
  ends_anew r there f = omega (arith, (left_is_few d n r fit_after there).most, second_anew d x xs (processor r) f)

  -- where they go on none is deserted, and so no recovery begins
  ends_on : (r : ℕ) → r < d.processors → goes_on d x xs ≡ true → is_recovering (m.hand r) ≡ true → left_of d m r + second_count d xs (processor r) ≤ most_left d → left_of d n r + second_count d (x ∷ xs) (processor r) ≤ most_left d
  ends_on r there t amid before = go (cases_Bool (is_turn_of (processor r) x))
    where
      go : (is_turn_of (processor r) x ≡ true) ⊎ (is_turn_of (processor r) x ≡ false) → left_of d n r + second_count d (x ∷ xs) (processor r) ≤ most_left d
      go (inl own) = omega (arith, lowers r there own (recovering_amid (m.hand r) amid), second_on d x xs (processor r) t, at_most_one (is_turn_of (processor r) x), before)
      go (inr other) =
          let none : cond {A = ℕ} (is_turn_of (processor r) x) 1 0 ≡ 0 = ap (λ (b : Bool). cond {A = ℕ} b 1 0) other in
          omega (arith, raises_none r other, second_on d x xs (processor r) t, none, before)

  pub mends_on : (p : ℕ) → p < d.processors → copied_memory d m.copies ≡ None → Mends d xs p → is_mended (processor p) (x ∷ xs) ≡ true → Mends d (x ∷ xs) p
  mends_on p there copied before mended = record { mended = mended; done = done_on p there copied before.done; ends = ends }
    where
      ends : (r : ℕ) → r < d.processors → is_recovering (n.hand r) ≡ true → left_of d n r + second_count d (x ∷ xs) (processor r) ≤ most_left d
      ends r inside amid = go (cases_Bool (goes_on d x xs)) (cases_Bool (is_recovering (m.hand r)))
        where
          none_left : goes_on d x xs ≡ true → deserted_ones d m ≡ 0
          none_left t = half_is_enough d xs p described
              (reached d xs (first_count xs) (half_needed d) (and_parts (not (disturbs x)) (have_reached d xs (first_count xs) (half_needed d)) t).1 p there (false_from_ne_true (is_failed (processor p) xs) (λ failed. true≢false (sym before.mended ∙ failed_not_mended (processor p) xs failed)))) before.done

          go : (goes_on d x xs ≡ true) ⊎ (goes_on d x xs ≡ false) → (is_recovering (m.hand r) ≡ true) ⊎ (is_recovering (m.hand r) ≡ false) → left_of d n r + second_count d (x ∷ xs) (processor r) ≤ most_left d
          go (inr f) was = ends_anew r inside f
          go (inl t) (inl was) = ends_on r inside t was (before.ends r inside was)
          go (inl t) (inr idle) = absurd (false≢true (sym (begins_none d m x r may quiet (none_deserted d m st (none_left t)) idle) ∙ amid))

  -- one that is mended now
  pub mends_now : (p : ℕ) → p < d.processors → repairs (processor p) x ≡ true → disturbs x ≡ true → is_mended (processor p) (x ∷ xs) ≡ true → Mends d (x ∷ xs) p
  mends_now p there repaired disturbed mended = record {
    mended = mended;
    done = inr (record {
      free = ap is_free seeks_now;
      enough =
          let none : left_of d n p ≡ 0 = (left_is_few d n p fit_after there).none (ap is_amid seeks_now) in
          let count = count_anew x xs (processor p) disturbed in
          let few = spans (deserted_ones d n) (length d.processes) (count_few (is_left d n) (length d.processes)) in
          omega (arith, none, count, few);
    });
    ends = λ r inside amid. ends_anew r inside (and_left _ _ (not_from_true (disturbs x) disturbed));
  }
    where
      seeks_now : n.hand p ≡ hand.Seek
      seeks_now = mended_seeks d m p x may repaired
