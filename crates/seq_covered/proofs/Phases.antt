-- After covered events a processor is out, or no process awaits recovery.
use Rattle.std.proofs.Common.{◌≡◌, ◌⊎◌, inl, inr, ℕ, ◌*◌, ◌<◌, ◌≤◌, true, false, not, ◌&&◌, ◌||◌, ◌==◌, None, List, [], ◌∷◌, length, refl, ap, sym, ◌∙◌, subst, eq-eqb, arith}
use Rattle.std.proofs.lemmas.Bool.{cond_both, cases_Bool, and_parts, and_cases, and_from, or_parts, or_cases, or_from, or_left, or_right, not-false, not-true, not_from_false, eqb-true, true≢false, false≢true, false_from_ne_true, true_from_ne_false}
use Rattle.seq_words.specs.Description.{IsDescription}
use Rattle.seq_words.specs.declared.description.MachineDesc.{MachineDesc}
use Rattle.seq_words.specs.declared.events.Event.{Event}
use Rattle.seq_words.specs.declared.events.Event.TheVariants as event
use Rattle.seq_words.specs.declared.kinds.Element.TheVariants as element
use Rattle.seq_memory.specs.declared.element.State.TheVariants.{InService}
use Rattle.seq_ruling.proofs.Lowest.{none_found}
use Rattle.seq_turns.specs.declared.hand.Hand.{Hand}
use Rattle.seq_turns.specs.declared.hand.Hand.TheVariants as hand
use Rattle.seq_turns.specs.Machines.{Machine}
use Rattle.seq_turns.specs.Reading.{copied_memory, is_copied}
use Rattle.seq_turns.specs.Processors.{turn}
use Rattle.seq_turns.specs.Allowed.{Allowed}
use Rattle.seq_turns.specs.Events.{is_down, strikes, stops, after_turn, happens, awaiting}
use Rattle.seq_turns.proofs.Functions.{update_same}
use Rattle.seq_stands.specs.Standing.{Stands}
use Rattle.seq_stands.specs.CountLeft.{most_left}
use Rattle.seq_schedule.specs.Outs.{processor, memory, fails, repairs, upsets, disturbs, is_turn_of, is_failed, has_failed_last, is_mended, turns_needed, half_needed, first_count, second_count, have_reached, are_met, is_out, IsCovered}
use Rattle.seq_covered.specs.Bound.{NoneIsOut}
use Rattle.seq_covered.proofs.Needed.{operations_take_a_quarter}
use Rattle.seq_covered.proofs.Counts.{failed_not_mended, alone_out, calm_repairs, reached}
use Rattle.seq_covered.proofs.Below.{none_passing}
use Rattle.seq_covered.proofs.Moments.{moment, AllMade, Holds, all_holds}
use Rattle.seq_covered.proofs.Turned.{own_happens, elsewhere}
use Rattle.seq_covered.proofs.Sound.{Suspect, hurt, still_suspect, unmended, stopping_is_suspect}
use Rattle.seq_covered.proofs.Deserts.{IsQuiet, quiet_fails, quiet_upsets}
use Rattle.seq_covered.proofs.Recovers.{is_recovering, begins_none, is_left, deserted_ones, left_is, none_deserted, no_more_deserted, IsCalm, none_awaits}
use Rattle.seq_covered.proofs.Mends.{Mends, half_is_enough, mends_on, mends_now}

-- ---- who is failed is down

down_is : (h : Hand) → is_down h ≡ true → h ≡ hand.Down
down_is hand.Down t = refl
down_is hand.Seek t = absurd (false≢true t)
down_is (hand.Claiming q c) t = absurd (false≢true t)
down_is (hand.Running r) t = absurd (false≢true t)
down_is (hand.Acquiring r s c) t = absurd (false≢true t)
down_is (hand.Flushing r why mask f) t = absurd (false≢true t)
down_is (hand.Unlocking r why mask l) t = absurd (false≢true t)
down_is (hand.Leaving q l) t = absurd (false≢true t)
down_is (hand.Recovering x) t = absurd (false≢true t)

module _ (d : MachineDesc) (m : Machine) (p : ℕ) where
  fails_down : (x : Event) → fails (processor p) x ≡ true → (happens d m x).hand p ≡ hand.Down
  fails_down (event.Fail (element.Processor q)) t = subst (λ k. (happens d m (event.Fail (element.Processor q))).hand k ≡ hand.Down) (sym (eqb-true p q.0 t))
      (cond_both (is_down (m.hand q.0)) _ _ (λ (n : Machine). n.hand q.0 ≡ hand.Down) (down_is (m.hand q.0)) (λ _. update_same m.hand q.0 hand.Down))
  fails_down (event.Fail (element.Memory i)) t = absurd (false≢true t)
  fails_down (event.Fail (element.Io i)) t = absurd (false≢true t)
  fails_down (event.Processor q) t = absurd (false≢true t)
  fails_down (event.Io i) t = absurd (false≢true t)
  fails_down (event.Input l byte) t = absurd (false≢true t)
  fails_down (event.Close l) t = absurd (false≢true t)
  fails_down (event.Repair e) t = absurd (false≢true t)
  fails_down (event.Upset q half reg mask) t = absurd (false≢true t)
  fails_down (event.Hangup l) t = absurd (false≢true t)

  struck_down : (x : Event) → upsets (processor p) x ≡ true → m.hand p ≡ hand.Down → (happens d m x).hand p ≡ hand.Down
  struck_down (event.Upset q half reg mask) t e = subst (λ k. m.hand k ≡ hand.Down → (happens d m (event.Upset q half reg mask)).hand k ≡ hand.Down) (sym (eqb-true p q.0 t))
      (λ down. update_same m.hand q.0 (strikes half reg mask (m.hand q.0)) ∙ ap (strikes half reg mask) down) e
  struck_down (event.Processor q) t e = absurd (false≢true t)
  struck_down (event.Io i) t e = absurd (false≢true t)
  struck_down (event.Input l byte) t e = absurd (false≢true t)
  struck_down (event.Close l) t e = absurd (false≢true t)
  struck_down (event.Fail f) t e = absurd (false≢true t)
  struck_down (event.Repair f) t e = absurd (false≢true t)
  struck_down (event.Hangup l) t e = absurd (false≢true t)

  stays_down : (x : Event) → fails (processor p) x ≡ false → repairs (processor p) x ≡ false → m.hand p ≡ hand.Down → (happens d m x).hand p ≡ hand.Down
  stays_down x fail repair e = go (cases_Bool (is_turn_of (processor p) x)) (cases_Bool (upsets (processor p) x))
    where
      go : (is_turn_of (processor p) x ≡ true) ⊎ (is_turn_of (processor p) x ≡ false) → (upsets (processor p) x ≡ true) ⊎ (upsets (processor p) x ≡ false) → (happens d m x).hand p ≡ hand.Down
      go (inl own) upset =
          ap (λ (n : Machine). n.hand p) (own_happens d m p x own ∙ ap (λ h. after_turn d m p (turn d m p h)) e) ∙ update_same m.hand p (m.hand p) ∙ e
      go (inr other) (inl t) = struck_down x t e
      go (inr other) (inr f) = elsewhere d m p x other fail repair f ∙ e

failed_is_down : (d : MachineDesc) (xs : List Event) (p : ℕ) → is_failed (processor p) xs ≡ true → (moment d xs).hand p ≡ hand.Down
failed_is_down d [] p t = absurd (false≢true t)
failed_is_down d (x ∷ xs) p t = go (cases_Bool (fails (processor p) x)) (failed_is_down d xs p)
  where
    go : (fails (processor p) x ≡ true) ⊎ (fails (processor p) x ≡ false) → (is_failed (processor p) xs ≡ true → (moment d xs).hand p ≡ hand.Down) → (happens d (moment d xs) x).hand p ≡ hand.Down
    go (inl now) before = fails_down d (moment d xs) p x now
    go (inr up) before = earlier (or_cases (fails (processor p) x) (not (repairs (processor p) x) && is_failed (processor p) xs) t)
      where
        earlier : (fails (processor p) x ≡ true) ⊎ ((not (repairs (processor p) x) && is_failed (processor p) xs) ≡ true) → (happens d (moment d xs) x).hand p ≡ hand.Down
        earlier (inl now) = absurd (true≢false (sym now ∙ up))
        earlier (inr was) = let both = and_parts (not (repairs (processor p) x)) (is_failed (processor p) xs) was in stays_down d (moment d xs) p x up (not-true (repairs (processor p) x) both.0) (before both.1)

-- ---- the phases

-- a processor is out: it isn't mended, or is and recovers
pub record IsMending (d : MachineDesc) (xs : List Event) (p : ℕ) : Type 0 where
  pub out : is_out d xs (processor p) ≡ true
  pub mends : Mends d xs p

pub record IsTroubled (d : MachineDesc) (xs : List Event) : Type 0 where
  pub processor : ℕ
  pub there : processor < d.processors
  pub how : Suspect d xs processor ⊎ IsMending d xs processor

abbrev pub Phase : MachineDesc → List Event → Type 0
Phase d xs = IsCalm d (moment d xs) ⊎ IsTroubled d xs

troubled : (d : MachineDesc) (xs : List Event) (p : ℕ) → p < d.processors → Suspect d xs p ⊎ IsMending d xs p → Phase d xs
troubled d xs p there how = inr (record { processor = p; there = there; how = how })

-- every out that ends leaves calm
met_is_calm : (d : MachineDesc) (xs : List Event) (p : ℕ) → IsDescription d → p < d.processors → Mends d xs p → are_met d xs (processor p) ≡ true → IsCalm d (moment d xs)
met_is_calm d xs p described there mends met = record { none_left = none_left; none_recovers = λ r inside. false_from_ne_true _ (none_recovers r inside (cases_Bool (is_failed (processor r) xs))) }
  where
    both : (have_reached d xs (first_count xs) (turns_needed d) ≡ true) × (have_reached d xs (second_count d xs) (half_needed d) ≡ true)
    both = and_parts (have_reached d xs (first_count xs) (turns_needed d)) (have_reached d xs (second_count d xs) (half_needed d)) met

    quarter : 4 * most_left d ≤ turns_needed d
    quarter = operations_take_a_quarter d described

    none_left : deserted_ones d (moment d xs) ≡ 0
    none_left =
        let all = reached d xs (first_count xs) (turns_needed d) both.0 p there (false_from_ne_true (is_failed (processor p) xs) (λ failed. true≢false (sym mends.mended ∙ failed_not_mended (processor p) xs failed))) in
        half_is_enough d xs p described (omega (arith, all)) mends.done

    none_recovers : (r : ℕ) → r < d.processors → (is_failed (processor r) xs ≡ true) ⊎ (is_failed (processor r) xs ≡ false) → is_recovering ((moment d xs).hand r) ≡ true → ⊥
    none_recovers r inside (inl failed) recovers = true≢false (sym recovers ∙ ap is_recovering (failed_is_down d xs r failed))
    none_recovers r inside (inr works) recovers =
        let half = reached d xs (second_count d xs) (half_needed d) both.1 r inside works in
        let few = mends.ends r inside recovers in
        let no : ⊥ = omega (arith, half, few, quarter) in no

-- it is out still, or there is calm
settles : (d : MachineDesc) (x : Event) (xs : List Event) (p : ℕ) → IsDescription d → p < d.processors → is_out d xs (processor p) ≡ true → Mends d (x ∷ xs) p → Phase d (x ∷ xs)
settles d x xs p described there out mends = go (cases_Bool (is_out d (x ∷ xs) (processor p)))
  where
    ended : (is_out d xs (processor p) ≡ false) ⊎ (not (is_mended (processor p) (x ∷ xs) && are_met d (x ∷ xs) (processor p)) ≡ false) → Phase d (x ∷ xs)
    ended (inl none) = absurd (true≢false (sym out ∙ none))
    ended (inr ends) = inl (met_is_calm d (x ∷ xs) p described there mends (and_parts _ _ (not-false _ ends)).1)

    go : (is_out d (x ∷ xs) (processor p) ≡ true) ⊎ (is_out d (x ∷ xs) (processor p) ≡ false) → Phase d (x ∷ xs)
    go (inl still) = troubled d (x ∷ xs) p there (inr (record { out = still; mends = mends }))
    go (inr over) = ended (and_cases _ _ (or_parts _ _ over).1)

-- an event makes somebody suspect, or is quiet
who : (d : MachineDesc) (x : Event) (xs : List Event) → AllMade d xs → Allowed d (moment d xs) x → Phase d (x ∷ xs) ⊎ IsQuiet d (moment d xs) x
who d (event.Processor q) xs made may = go (cases_Bool (stops (turn d (moment d xs) q.0 ((moment d xs).hand q.0))))
  where
    go : (stops (turn d (moment d xs) q.0 ((moment d xs).hand q.0)) ≡ true) ⊎ (stops (turn d (moment d xs) q.0 ((moment d xs).hand q.0)) ≡ false) → Phase d (event.Processor q ∷ xs) ⊎ (stops (turn d (moment d xs) q.0 ((moment d xs).hand q.0)) ≡ false)
    go (inl t) = inl (troubled d (event.Processor q ∷ xs) q.0 may (inl (unmended d (event.Processor q) xs q.0 (stopping_is_suspect d xs q.0 made t) refl)))
    go (inr f) = inr f
who d (event.Io i) xs made may = inr tt
who d (event.Input l byte) xs made may = inr tt
who d (event.Close l) xs made may = inr tt
who d (event.Fail (element.Processor q)) xs made may = inl (troubled d (event.Fail (element.Processor q) ∷ xs) q.0 may (inl (hurt d (event.Fail (element.Processor q)) xs q.0 (or_left _ _ (eq-eqb q.0 q.0 refl)))))
who d (event.Fail (element.Memory i)) xs made may = inr tt
who d (event.Fail (element.Io i)) xs made may = inr tt
who d (event.Repair e) xs made may = inr tt
who d (event.Upset q half reg mask) xs made may = inl (troubled d (event.Upset q half reg mask ∷ xs) q.0 may.processor (inl (hurt d (event.Upset q half reg mask) xs q.0 (or_right false (q.0 == q.0) (eq-eqb q.0 q.0 refl)))))
who d (event.Hangup l) xs made may = inr tt

-- memories serve: what isn't out is in service
abbrev pub MemoriesServe : MachineDesc → Type 0
MemoriesServe d = (xs : List Event) (i : ℕ) → AllMade d xs → IsCovered d xs → i < d.memories → is_out d xs (memory i) ≡ false → (moment d xs).copies.state i ≡ InService

module _ (d : MachineDesc) (described : IsDescription d) (serve : MemoriesServe d) where
  -- so while a processor is out no memory is to be copied
  none_copied : (xs : List Event) (p : ℕ) → p < d.processors → AllMade d xs → IsCovered d xs → is_out d xs (processor p) ≡ true → copied_memory d (moment d xs).copies ≡ None
  none_copied xs p there made covered out = none_found (λ k. is_copied ((moment d xs).copies.state k)) d.memories
      (λ k inside. ap is_copied (serve xs k made covered inside (false_from_ne_true _ (λ t. true≢false (sym out ∙ alone_out d xs k p (covered.each [] xs refl) inside t there)))))

  quietly : (x : Event) (xs : List Event) → AllMade d (x ∷ xs) → IsCovered d xs → IsQuiet d (moment d xs) x → Phase d xs → Phase d (x ∷ xs)
  quietly x xs made covered quiet = go
    where
      before : Holds d (moment d xs)
      before = all_holds d xs described made.0

      after : Holds d (moment d (x ∷ xs))
      after = all_holds d (x ∷ xs) described made

      st : Stands d (moment d xs)
      st = before.within.all.holds.words

      st_after : Stands d (moment d (x ∷ xs))
      st_after = after.within.all.holds.words

      calmly : IsCalm d (moment d xs) → IsCalm d (moment d (x ∷ xs))
      calmly calm = record {
        none_left = let few = no_more_deserted d (moment d xs) x described st st_after made.1 quiet in let none = calm.none_left in omega (arith, few, none);
        none_recovers = λ r inside. begins_none d (moment d xs) x r made.1 quiet (none_deserted d (moment d xs) st calm.none_left) (calm.none_recovers r inside);
      }

      mended_on : (p : ℕ) → is_mended (processor p) xs ≡ true → is_mended (processor p) (x ∷ xs) ≡ true
      mended_on p mended = and_from _ _ (not_from_false _ (or_from _ _ (quiet_fails d (moment d xs) x p quiet) (quiet_upsets d (moment d xs) x p quiet))) (or_right _ _ mended)

      mended_now : (p : ℕ) → p < d.processors → Suspect d xs p → is_mended (processor p) (x ∷ xs) ≡ true → Phase d (x ∷ xs)
      mended_now p there was now = from (or_cases (repairs (processor p) x && has_failed_last (processor p) xs) (is_mended (processor p) xs) (and_parts (not (fails (processor p) x || upsets (processor p) x)) (repairs (processor p) x && has_failed_last (processor p) xs || is_mended (processor p) xs) now).1)
        where
          from : ((repairs (processor p) x && has_failed_last (processor p) xs) ≡ true) ⊎ (is_mended (processor p) xs ≡ true) → Phase d (x ∷ xs)
          from (inl repaired) =
              let mends = (and_parts (repairs (processor p) x) (has_failed_last (processor p) xs) repaired).0 in
              let disturbed = true_from_ne_false (disturbs x) (λ f. true≢false (sym mends ∙ calm_repairs (processor p) x f)) in
              settles d x xs p described there was.0 (mends_now d x xs described made.1 quiet before.within.fit after.within.fit st st_after p there mends disturbed now)
          from (inr mended) = absurd (true≢false (sym mended ∙ was.1))

      still : (p : ℕ) → p < d.processors → Suspect d xs p ⊎ IsMending d xs p → Phase d (x ∷ xs)
      still p there (inl was) = suspect (cases_Bool (is_mended (processor p) (x ∷ xs)))
        where
          suspect : (is_mended (processor p) (x ∷ xs) ≡ true) ⊎ (is_mended (processor p) (x ∷ xs) ≡ false) → Phase d (x ∷ xs)
          suspect (inl now) = mended_now p there was now
          suspect (inr none) = troubled d (x ∷ xs) p there (inl (still_suspect d x xs p was.0 none))
      still p there (inr was) = settles d x xs p described there was.out
          (mends_on d x xs described made.1 quiet before.within.fit after.within.fit st st_after p there (none_copied xs p there made.0 covered was.out) was.mends (mended_on p was.mends.mended))

      go : Phase d xs → Phase d (x ∷ xs)
      go (inl calm) = inl (calmly calm)
      go (inr was) = still was.processor was.there was.how

  first : IsCalm d (moment d [])
  first = record {
    none_left = none_passing (is_left d (moment d [])) (length d.processes) (λ q there. false_from_ne_true _ (λ t.
        let stopped = (left_is d (moment d []) (all_holds d [] described tt).within.all.holds.words q there t).stopped in
        let no : ⊥ = omega (arith, stopped) in no));
    none_recovers = λ p there. refl;
  }

  pub phases : (xs : List Event) → AllMade d xs → IsCovered d xs → Phase d xs
  phases [] made covered = inl first
  phases (x ∷ xs) made covered = go (who d x xs made.0 made.1) (phases xs made.0 before)
    where
      before : IsCovered d xs
      before = record { each = λ later earlier e. covered.each (x ∷ later) earlier (ap (λ (ys : List Event). x ∷ ys) e) }

      go : Phase d (x ∷ xs) ⊎ IsQuiet d (moment d xs) x → Phase d xs → Phase d (x ∷ xs)
      go (inl now) was = now
      go (inr quiet) was = quietly x xs made before quiet was

  -- while no processor is out no process awaits recovery
  pub none_awaits_then : (xs : List Event) → AllMade d xs → IsCovered d xs → NoneIsOut d xs → awaiting d (moment d xs) ≡ None
  none_awaits_then xs made covered none = go (phases xs made covered)
    where
      out : (p : ℕ) → Suspect d xs p ⊎ IsMending d xs p → is_out d xs (processor p) ≡ true
      out p (inl was) = was.0
      out p (inr was) = was.out

      go : Phase d xs → awaiting d (moment d xs) ≡ None
      go (inl calm) = none_awaits d (moment d xs) described (all_holds d xs described made).within.all.holds.words calm
      go (inr was) = absurd (true≢false (sym (out was.processor was.how) ∙ none was.processor was.there))
