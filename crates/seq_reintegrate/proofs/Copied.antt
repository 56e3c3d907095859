-- The copying of a unit is the table's row, and what is known of the units goes on.
use Rattle.std.proofs.Common.{◌≡◌, ◌≢◌, ℕ, suc, ◌+◌, ◌<◌, ◌≤◌, true, false, nat_le, length, slice_get, Option, Some, None, inl, inr, ◌⊎◌, refl, sym, ap, ◌∙◌, subst, arith, add-one}
use Rattle.std.proofs.lemmas.Bool.{cases_Bool, cases_eq, cond-true, cond-false, leb-true, leb-false, false≢true}
use Rattle.std.proofs.lemmas.Option.{slice_get_within}
use Rattle.std.specs.Prelude.{sum}
use Rattle.std.proofs.lemmas.List.Sums.{sum_by-le}
use Rattle.std.proofs.lemmas.List.Elements.{All-weaker}
use Rattle.seq_words.specs.Description.{IsBetween}
use Rattle.seq_words.specs.declared.description.MachineDesc.{MachineDesc}
use Rattle.seq_memory.specs.States.{is_in_service, is_returning}
use Rattle.seq_memory.specs.declared.element.State.{State}
use Rattle.seq_memory.specs.declared.element.State.TheVariants.{InService, Down, Stale, Copying}
use Rattle.seq_layout.specs.Shapes.{Shape, shape_of, blocks_of}
use Rattle.seq_layout.specs.Copies.{Copies, with_state}
use Rattle.seq_layout.specs.Units.{units_of}
use Rattle.seq_layout.specs.declared.units.Unit.{Unit}
use Rattle.seq_layout.specs.declared.units.Unit.TheVariants.{Block, Word}
use Rattle.seq_layout.proofs.CopiesLaws.{state_changes_alone}
use Rattle.seq_layout.proofs.Sizes.{blocks_between, extents_few}
use Rattle.seq_layout.proofs.UnitParts.{units_are_few}
use Rattle.seq_turns.specs.Functions.{update}
use Rattle.seq_turns.specs.Machines.{copies_after}
use Rattle.seq_turns.specs.Recoveries.{next_of, unit_taken, service_after, with_unit}
use Rattle.seq_reintegrate.specs.Needs.{IsDescribed, CopyingNeeds}
use Rattle.seq_reintegrate.specs.Rows.{holding, IsUnitCopied}
use Rattle.seq_reintegrate.specs.Stands.{IsEqual, AreEqualBelow, CopyingKnows, AllEqual}
use Rattle.seq_reintegrate.specs.Taken.{taken_next}
use Rattle.seq_reintegrate.proofs.Equal.{equal_taken, equal_stays, equal_in_state}

-- the memories after the next unit of memory i is copied
abbrev pub after_unit : Shape → Copies → ℕ → Copies
after_unit s p i =
    let n = next_of (p.state i) in
    with_state (copies_after (taken_next s.memories p i (slice_get (units_of s i) n)) p) i (service_after (length (units_of s i)) (n + 1))

same_row : (d : MachineDesc) (p : Copies) (i : ℕ) (o : Option Unit) (new : State) → with_state (copies_after (taken_next d.memories p i o) p) i new ≡ record (copies_after (unit_taken d p i o) p) { state = update p.state i new }
unfolding with_state update
same_row d p i None new = refl
same_row d p i (Some (Block e n)) new = refl
same_row d p i (Some (Word w)) new = refl

pub is_row : (d : MachineDesc) (s : Shape) (p q : Copies) (i : ℕ) → s ≡ shape_of d → q ≡ after_unit s p i → IsUnitCopied d p q i
is_row d s p q i shape after m =
    let n = next_of (p.state i) in
    let units = units_of (shape_of d) i in
    let same : q ≡ with_unit d p i n (service_after (length units) (suc n)) =
    after ∙ (λ j. after_unit (shape j) p i) ∙ same_row d p i (slice_get units n) (service_after (length units) (n + 1)) ∙ ap (λ k. with_unit d p i n (service_after (length units) k)) (add-one n) in
    ap (λ (x : Copies). holding x m) same

module _ (s : Shape) (p q : Copies) (i : ℕ) (after : q ≡ after_unit s p i) where
  abbrev next : ℕ
  next = next_of (p.state i)

  abbrev count : ℕ
  count = length (units_of s i)

  state_is : q.state i ≡ service_after count (next + 1)
  state_is = ap (λ (x : Copies). x.state i) after ∙ (state_changes_alone (copies_after (taken_next s.memories p i (slice_get (units_of s i) (next_of (p.state i)))) p) i (service_after (length (units_of s i)) (next_of (p.state i) + 1))).here

  other_state : (j : ℕ) → j ≢ i → q.state j ≡ p.state j
  other_state j ne = ap (λ (x : Copies). x.state j) after ∙ (state_changes_alone (copies_after (taken_next s.memories p i (slice_get (units_of s i) (next_of (p.state i)))) p) i (service_after (length (units_of s i)) (next_of (p.state i) + 1))).elsewhere j ne

  -- the units up to the one that is copied are equal
  up_to : AreEqualBelow s p i (next_of (p.state i)) → (k : ℕ) (u : Unit) → k < next_of (p.state i) + 1 → slice_get (units_of s i) k ≡ Some u → IsEqual q u
  up_to known k u few is = subst (λ (x : Copies). IsEqual x u) (sym after)
      (equal_in_state (copies_after (taken_next s.memories p i (slice_get (units_of s i) (next_of (p.state i)))) p) i (service_after (length (units_of s i)) (next_of (p.state i) + 1)) u
      (elim (cases_eq k (next_of (p.state i))) [
        | inl same ↦
            let found : slice_get (units_of s i) (next_of (p.state i)) ≡ Some u = ap (slice_get (units_of s i)) (sym same) ∙ is in
            subst (λ (o : Option Unit). IsEqual (copies_after (taken_next s.memories p i o) p) u) (sym found) (equal_taken s.memories p i u)
        | inr other ↦ equal_stays s.memories p i (slice_get (units_of s i) (next_of (p.state i))) u (known.each u (k, omega (arith, few, other), is))
      ]))

  -- the memory is in service exactly where no unit is left
  in_service : nat_le (length (units_of s i)) (next_of (p.state i) + 1) ≡ true → q.state i ≡ InService
  in_service done = state_is ∙ cond-true _ _ _ done

  goes_on : nat_le (length (units_of s i)) (next_of (p.state i) + 1) ≡ false → q.state i ≡ Copying (next_of (p.state i) + 1)
  goes_on more = state_is ∙ cond-false _ _ _ more

  not_both : {n : ℕ} → q.state i ≡ InService → q.state i ≡ Copying n → ⊥
  not_both a b = false≢true (ap is_in_service (sym b ∙ a))

  pub copying_knows : CopyingKnows s p i → CopyingKnows s q i
  copying_knows known = record { each = λ u below. up_to known below.0 u (few below.0 below.1 (cases_Bool (nat_le (length (units_of s i)) (next_of (p.state i) + 1)))) below.2 }
    where
      few : (k : ℕ) → k < next_of (q.state i) → (nat_le (length (units_of s i)) (next_of (p.state i) + 1) ≡ true) ⊎ (nat_le (length (units_of s i)) (next_of (p.state i) + 1) ≡ false) → k < next_of (p.state i) + 1
      few k lt (inl done) = absurd (let none : next_of (q.state i) ≡ 0 = ap next_of (in_service done) in let no : ⊥ = omega (arith, lt, none) in no)
      few k lt (inr more) = omega (arith, lt, ap next_of (goes_on more))

  pub all_equal : CopyingKnows s p i → q.state i ≡ InService → AllEqual s q i
  all_equal known serves = record { each = λ k u is. up_to known k u (omega (arith, slice_get_within (units_of s i) k u is, done (cases_Bool (nat_le (length (units_of s i)) (next_of (p.state i) + 1))))) is }
    where
      done : (nat_le (length (units_of s i)) (next_of (p.state i) + 1) ≡ true) ⊎ (nat_le (length (units_of s i)) (next_of (p.state i) + 1) ≡ false) → length (units_of s i) ≤ next_of (p.state i) + 1
      done (inl t) = leb-true _ _ t
      done (inr f) = absurd (not_both serves (goes_on f))

  pub needs_next : CopyingNeeds s p i → q.state i ≢ InService → CopyingNeeds s q i
  needs_next needs out = go (cases_Bool (nat_le (length (units_of s i)) (next_of (p.state i) + 1)))
    where
      go : (nat_le (length (units_of s i)) (next_of (p.state i) + 1) ≡ true) ⊎ (nat_le (length (units_of s i)) (next_of (p.state i) + 1) ≡ false) → CopyingNeeds s q i
      go (inl t) = absurd (out (in_service t))
      go (inr f) = record {
        memory = needs.memory;
        returning = ap is_returning (goes_on f);
        next = λ n is.
            let same : next_of (p.state i) + 1 ≡ n = ap next_of (sym (goes_on f) ∙ is) in
            omega (arith, same, leb-false (length (units_of s i)) (next_of (p.state i) + 1) f);
        others = λ j few ne. ap is_in_service (other_state j ne) ∙ needs.others j few ne;
      }

-- the next unit's number is small
pub next_small : (s : Shape) (p : Copies) (i most : ℕ) → CopyingNeeds s p i → length (units_of s i) ≤ most → next_of (p.state i) ≤ most
next_small s p i most needs few = go (p.state i) refl
  where
    go : (s : State) → p.state i ≡ s → next_of s ≤ most
    go InService is = omega arith
    go Down is = omega arith
    go Stale is = omega arith
    go (Copying n) is = omega (arith, needs.next n is, few)

-- a described machine has few units
pub few_units : (s : Shape) (i : ℕ) → IsDescribed s → length (units_of s i) ≤ 200528
few_units s i (d, is, shape) =
    let blocks : sum (blocks_of d) ≤ 200448 = omega (arith, sum_by-le (λ (n : ℕ). n) 2088 (blocks_of d) (All-weaker (IsBetween 1 2088) (λ n. n ≤ 2088) (λ n b. b.high_at) (blocks_of d) (blocks_between d is)), extents_few d is) in
    omega (arith, ap (λ (x : Shape). length (units_of x i)) shape, units_are_few d i, blocks, is.processes.high_at, is.segments, is.few_lines)
