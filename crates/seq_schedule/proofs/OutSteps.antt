-- What an event makes of what is known of an element is what the events say of it.
use Rattle.std.proofs.Common.{◌≡◌, ℕ, zero, suc, ◌+◌, ◌*◌, ◌/◌, ◌<◌, ◌≤◌, ◌⊎◌, inl, inr, Bool, true, false, not, ◌&&◌, ◌||◌, nat_lt, nat_le, cond, List, [], ◌∷◌, length, refl, sym, ap, ◌∙◌, subst, arith, le-leb}
use Rattle.std.specs.Prelude.{count_by, sum}
use Rattle.std.proofs.lemmas.Bool.{cases_Bool, cases_lt, and_parts, and_from, cond-true, cond-false, lt-ltb, le-ltb, leb-true, false≢true}
use Rattle.std.proofs.lemmas.List.Sums.{sum_by-cons}
use Rattle.seq_words.specs.Description.{line_count}
use Rattle.seq_words.specs.declared.kinds.Element.{Element}
use Rattle.seq_words.specs.declared.kinds.Element.TheVariants as elements
use Rattle.seq_words.specs.declared.events.Event.{Event}
use Rattle.seq_words.specs.declared.events.Event.TheVariants as events
use Rattle.seq_words.specs.declared.description.MachineDesc.{MachineDesc}
use Rattle.seq_layout.specs.Shapes.{blocks_of}
use Rattle.seq_schedule.specs.declared.known.Trouble.{Trouble}
use Rattle.seq_schedule.specs.declared.known.Trouble.TheVariants.{Over, Failed, Upset, Mended}
use Rattle.seq_schedule.specs.declared.known.Known.{Known}
use Rattle.seq_schedule.specs.Rules.{same_element}
use Rattle.seq_schedule.specs.Below.{each_below, some_below}
use Rattle.seq_schedule.specs.Outs.{processor, io, fails, repairs, upsets, is_turn_of, disturbs, is_failed, has_failed_last, is_mended, turns_needed, half_needed, undisturbed, first_count, someone_works, each_has, have_reached, since_half, second_count, are_met, is_out}
use Rattle.seq_schedule.specs.Keeping.{at_most, trouble_by, known_of, unsettled_of}
use Rattle.seq_schedule.specs.Known.{mended_trouble, settled_trouble, settled, one_more, turned}
use Rattle.seq_schedule.specs.Steps.{step}
use Rattle.seq_schedule.proofs.Below.{each_weaker, some_same}

-- ---- counts that stop at a bound

pub at_most_low : (most n : ℕ) → n < most → at_most most n ≡ n
unfolding at_most
at_most_low most n lt = cond-true _ _ _ (lt-ltb n most lt)

pub at_most_high : (most n : ℕ) → most ≤ n → at_most most n ≡ most
unfolding at_most
at_most_high most n le = cond-false _ _ _ (le-ltb n most le)

more : (most n : ℕ) → one_more most (at_most most n) ≡ at_most most (1 + n)
more most n = elim (cases_lt n most) [
  | inl lt ↦ ap (one_more most) (at_most_low most n lt) ∙ cond-true _ _ _ (lt-ltb n most lt) ∙ next lt (cases_lt (1 + n) most)
  | inr le ↦ ap (one_more most) (at_most_high most n le) ∙ cond-false _ _ _ (le-ltb most most (omega arith)) ∙ sym (at_most_high most (1 + n) (omega (arith, le)))
]
  where
    next : n < most → ((1 + n) < most) ⊎ (most ≤ (1 + n)) → n + 1 ≡ at_most most (1 + n)
    next lt (inl low) = let e : n + 1 ≡ 1 + n = omega arith in e ∙ sym (at_most_low most (1 + n) low)
    next lt (inr high) = let e : n + 1 ≡ most = omega (arith, lt, high) in e ∙ sym (at_most_high most (1 + n) high)

-- a number up to the bound is reached by both or neither
pub reached_same : (most n k : ℕ) → k ≤ most → nat_le k (at_most most n) ≡ nat_le k n
reached_same most n k small = elim (cases_lt n most) [
  | inl lt ↦ ap (nat_le k) (at_most_low most n lt)
  | inr le ↦ ap (nat_le k) (at_most_high most n le) ∙ le-leb k most small ∙ sym (le-leb k n (omega (arith, le, small)))
]

-- so many turns are more than none
pub needed_some : (d : MachineDesc) → 0 < half_needed d
needed_some d =
    let parts : ℕ = sum (blocks_of d) + length d.processes + length d.segments + line_count d + d.cache + 8 in
    let k = grow parts (length d.processes) (omega arith) in
    omega (arith, k)
  where
    grow : (parts n : ℕ) → 8 ≤ parts → 2 ≤ 8 * parts * (n + 1)
    grow parts zero le = omega (arith, le)
    grow parts (suc n) le = let rest = grow parts n le in grind (arith, rest)

-- ---- counts of turns

plus_none : (n : ℕ) → n ≡ 0 + n
plus_none n = omega arith

counted_more : (test : Event → Bool) (x : Event) (xs : List Event) → count_by test (x ∷ xs) ≡ cond (test x) 1 0 + count_by test xs
counted_more test x xs = sum_by-cons (λ y. cond (test y) 1 0) x xs

-- ---- outs, by their cases

settles : (met f u o r h : Bool) → settled_trouble met (trouble_by (f || u || o) (not (f || u) && r) h) ≡ trouble_by (f || u || o && not ((not (f || u) && r) && met)) (not (f || u) && r) h
settles met true u o r true = refl
settles met true u o r false = refl
settles met false true o r true = refl
settles met false true o r false = refl
settles met false false false r h = refl
settles true false false true true h = refl
settles false false false true true h = refl
settles met false false true false true = refl
settles met false false true false false = refl

pub settled_is : (d : MachineDesc) (x : Event) (earlier : List Event) (e : Element) (met : Bool) → met ≡ are_met d (x ∷ earlier) e → settled met (unsettled_of d x earlier e) ≡ known_of d (x ∷ earlier) e
settled_is d x earlier e met same =
    let trouble = settles met (fails e x) (upsets e x) (is_out d earlier e) (repairs e x && has_failed_last e earlier || is_mended e earlier) (has_failed_last e (x ∷ earlier)) in
    let here = ap (λ (b : Bool). trouble_by (fails e x || upsets e x || is_out d earlier e && not (is_mended e (x ∷ earlier) && b)) (is_mended e (x ∷ earlier)) (has_failed_last e (x ∷ earlier))) same in
    λ i. record {
      trouble = (trouble ∙ here) i;
      failed = is_failed e (x ∷ earlier);
      first = at_most (turns_needed d) (first_count (x ∷ earlier) e);
      second = at_most (turns_needed d) (second_count d (x ∷ earlier) e);
    }

-- ---- second counts begin once

-- an event that doesn't disturb leaves who is failed, and lowers no first count
same_failed : (x : Event) (earlier : List Event) (e : Element) → disturbs x ≡ false → is_failed e (x ∷ earlier) ≡ is_failed e earlier
same_failed (events.Processor p) earlier e calm = refl
same_failed (events.Io i) earlier e calm = refl
same_failed (events.Input l byte) earlier e calm = refl
same_failed (events.Close l) earlier e calm = refl
same_failed (events.Fail f) earlier e calm = absurd (false≢true (sym calm))
same_failed (events.Repair f) earlier e calm = absurd (false≢true (sym calm))
same_failed (events.Upset p half reg mask) earlier e calm = refl
same_failed (events.Hangup l) earlier e calm = refl

firsts_grow : (x : Event) (earlier : List Event) (e : Element) → disturbs x ≡ false → first_count earlier e ≤ first_count (x ∷ earlier) e
firsts_grow x earlier e calm =
    let shown : first_count (x ∷ earlier) e ≡ count_by (is_turn_of e) (x ∷ undisturbed earlier) = ap (count_by (is_turn_of e)) (cond-false (disturbs x) [] (x ∷ undisturbed earlier) calm) in
    omega (arith, shown, counted_more (is_turn_of e) x (undisturbed earlier))

module _ (d : MachineDesc) (x : Event) (earlier : List Event) (calm : disturbs x ≡ false) (n : ℕ) where
  still : (e : Element) → (is_failed e earlier || nat_le n (first_count earlier e)) ≡ true → (is_failed e (x ∷ earlier) || nat_le n (first_count (x ∷ earlier) e)) ≡ true
  still e has = go (is_failed e earlier) refl has
    where
      go : (b : Bool) → is_failed e earlier ≡ b → (b || nat_le n (first_count earlier e)) ≡ true → (is_failed e (x ∷ earlier) || nat_le n (first_count (x ∷ earlier) e)) ≡ true
      go true is ok = ap (λ b. b || nat_le n (first_count (x ∷ earlier) e)) (same_failed x earlier e calm ∙ is)
      go false is ok = ap (λ b. b || nat_le n (first_count (x ∷ earlier) e)) (same_failed x earlier e calm ∙ is) ∙
          le-leb n (first_count (x ∷ earlier) e) (omega (arith, leb-true n (first_count earlier e) ok, firsts_grow x earlier e calm))

  reached_on : have_reached d earlier (first_count earlier) n ≡ true → have_reached d (x ∷ earlier) (first_count (x ∷ earlier)) n ≡ true
  reached_on reached =
      let parts = and_parts (someone_works d earlier) (each_has d earlier (first_count earlier) n) reached in
      let tables = and_parts (each_below (λ p. is_failed (processor p) earlier || nat_le n (first_count earlier (processor p))) d.processors) (each_below (λ i. is_failed (io i) earlier || nat_le n (first_count earlier (io i))) d.ios) parts.1 in
      let works : someone_works d (x ∷ earlier) ≡ true =
      (λ j. some_same (λ p. not (is_failed (processor p) (x ∷ earlier))) (λ p. not (is_failed (processor p) earlier)) d.processors (λ k lt. ap not (same_failed x earlier (processor k) calm)) j
      || some_same (λ i. not (is_failed (io i) (x ∷ earlier))) (λ i. not (is_failed (io i) earlier)) d.ios (λ k lt. ap not (same_failed x earlier (io k) calm)) j) ∙ parts.0 in
      and_from _ _ works (and_from _ _
      (each_weaker (λ p. is_failed (processor p) earlier || nat_le n (first_count earlier (processor p))) (λ p. is_failed (processor p) (x ∷ earlier) || nat_le n (first_count (x ∷ earlier) (processor p))) d.processors (λ k. still (processor k)) tables.0)
      (each_weaker (λ i. is_failed (io i) earlier || nat_le n (first_count earlier (io i))) (λ i. is_failed (io i) (x ∷ earlier) || nat_le n (first_count (x ∷ earlier) (io i))) d.ios (λ k. still (io k)) tables.1))

-- where the first counts haven't reached half, no second count has begun
none_begun : (d : MachineDesc) (events : List Event) → have_reached d events (first_count events) (half_needed d) ≡ false → since_half d events ≡ []
none_begun d [] short = refl
none_begun d (x ∷ earlier) short = go (disturbs x) refl (have_reached d earlier (first_count earlier) (half_needed d)) refl
  where
    go : (b : Bool) → disturbs x ≡ b → (r : Bool) → have_reached d earlier (first_count earlier) (half_needed d) ≡ r → cond (not (disturbs x) && have_reached d earlier (first_count earlier) (half_needed d)) (x ∷ since_half d earlier) [] ≡ []
    go true is r reached = ap (λ b. cond (not b && have_reached d earlier (first_count earlier) (half_needed d)) (x ∷ since_half d earlier) []) is
    go false is true reached = absurd (false≢true (sym short ∙ reached_on d x earlier is (half_needed d) reached))
    go false is false reached = (λ i. cond (not (is i) && reached i) (x ∷ since_half d earlier) [])

-- what a failure, a repair and an upset make of a trouble, of the element itself or of another
fail_step : (t o m h fl : Bool) → ◌≡◌ {A = Known} (cond t (record { trouble = Failed; failed = true; first = 0; second = 0 }) (record { trouble = trouble_by o m h; failed = fl; first = 0; second = 0 })) (record { trouble = trouble_by (t || false || o) (not (t || false) && (false && h || m)) (t || not false && h); failed = t || not false && fl; first = 0; second = 0 })
fail_step true o m h fl = refl
fail_step false o m h fl = refl

repair_step : (t o m h fl : Bool) → ◌≡◌ {A = Known} (cond t (record { trouble = mended_trouble (trouble_by o m h); failed = false; first = 0; second = 0 }) (record { trouble = trouble_by o m h; failed = fl; first = 0; second = 0 })) (record { trouble = trouble_by (false || false || o) (not (false || false) && (t && h || m)) (false || not false && h); failed = false || not t && fl; first = 0; second = 0 })
repair_step false o m h fl = refl
repair_step true false m h fl = refl
repair_step true true true true fl = refl
repair_step true true true false fl = refl
repair_step true true false true fl = refl
repair_step true true false false fl = refl

upset_step : (t o m h fl : Bool) → ◌≡◌ {A = Known} (cond t (record { trouble = Upset; failed = fl; first = 0; second = 0 }) (record { trouble = trouble_by o m h; failed = fl; first = 0; second = 0 })) (record { trouble = trouble_by (false || t || o) (not (false || t) && (false && h || m)) (false || not t && h); failed = false || not false && fl; first = 0; second = 0 })
upset_step true o m h fl = refl
upset_step false o m h fl = refl

-- ---- the step of each event

module _ (d : MachineDesc) (earlier : List Event) (e : Element) (begun : Bool) (is : begun ≡ have_reached d earlier (first_count earlier) (half_needed d)) where
  abbrev most : ℕ
  most = turns_needed d

  -- the counts after an event that doesn't disturb
  first_after : (x : Event) → disturbs x ≡ false → first_count (x ∷ earlier) e ≡ cond (is_turn_of e x) 1 0 + first_count earlier e
  first_after x calm = ap (count_by (is_turn_of e)) (cond-false (disturbs x) [] (x ∷ undisturbed earlier) calm) ∙ counted_more (is_turn_of e) x (undisturbed earlier)

  second_after : (x : Event) → disturbs x ≡ false → second_count d (x ∷ earlier) e ≡ cond begun (cond (is_turn_of e x) 1 0) 0 + second_count d earlier e
  second_after x calm = go begun is
    where
      go : (b : Bool) → b ≡ have_reached d earlier (first_count earlier) (half_needed d) → count_by (is_turn_of e) (cond (not (disturbs x) && have_reached d earlier (first_count earlier) (half_needed d)) (x ∷ since_half d earlier) []) ≡ cond b (cond (is_turn_of e x) 1 0) 0 + second_count d earlier e
      go true reached = (λ i. count_by (is_turn_of e) (cond (not (calm i) && sym reached i) (x ∷ since_half d earlier) [])) ∙ counted_more (is_turn_of e) x (since_half d earlier)
      go false reached = (λ i. count_by (is_turn_of e) (cond (not (calm i) && sym reached i) (x ∷ since_half d earlier) [])) ∙ ap (count_by (is_turn_of e)) (sym (none_begun d earlier (sym reached))) ∙ plus_none (count_by (is_turn_of e) (since_half d earlier))

  -- no count is above none after one that does
  firsts_gone : (x : Event) → disturbs x ≡ true → at_most most (first_count (x ∷ earlier) e) ≡ 0
  firsts_gone x stirs = ap (λ xs. at_most most (count_by (is_turn_of e) xs)) (cond-true (disturbs x) [] (x ∷ undisturbed earlier) stirs) ∙ at_most_low most 0 (omega (arith, needed_some d))

  seconds_gone : (x : Event) → disturbs x ≡ true → at_most most (second_count d (x ∷ earlier) e) ≡ 0
  seconds_gone x stirs = (λ i. at_most most (count_by (is_turn_of e) (cond (not (stirs i) && have_reached d earlier (first_count earlier) (half_needed d)) (x ∷ since_half d earlier) []))) ∙ at_most_low most 0 (omega (arith, needed_some d))

  -- a turn of some element
  turn_first : (x : Event) → disturbs x ≡ false → (t : Bool) → t ≡ is_turn_of e x → cond t (one_more most (at_most most (first_count earlier e))) (at_most most (first_count earlier e)) ≡ at_most most (first_count (x ∷ earlier) e)
  turn_first x calm true t = more most (first_count earlier e) ∙ ap (at_most most) ((λ i. cond (t i) 1 0 + first_count earlier e) ∙ sym (first_after x calm))
  turn_first x calm false t = ap (at_most most) (plus_none (first_count earlier e) ∙ (λ i. cond (t i) 1 0 + first_count earlier e) ∙ sym (first_after x calm))

  turn_second : (x : Event) → disturbs x ≡ false → (t : Bool) → t ≡ is_turn_of e x → cond t (cond begun (one_more most (at_most most (second_count d earlier e))) (at_most most (second_count d earlier e))) (at_most most (second_count d earlier e)) ≡ at_most most (second_count d (x ∷ earlier) e)
  turn_second x calm t same = go t begun refl ∙ ap (at_most most) ((λ i. cond begun (cond (same i) 1 0) 0 + second_count d earlier e) ∙ sym (second_after x calm))
    where
      go : (t b : Bool) → begun ≡ b → cond t (cond b (one_more most (at_most most (second_count d earlier e))) (at_most most (second_count d earlier e))) (at_most most (second_count d earlier e)) ≡ at_most most (cond b (cond t 1 0) 0 + second_count d earlier e)
      go true true eq = more most (second_count d earlier e)
      go true false eq = ap (at_most most) (plus_none (second_count d earlier e))
      go false true eq = ap (at_most most) (plus_none (second_count d earlier e))
      go false false eq = ap (at_most most) (plus_none (second_count d earlier e))

  -- what is known, with other counts
  abbrev with_counts : Known → ℕ → ℕ → Known
  with_counts k first second = record k { first = first; second = second }

  turn_step : (t : Bool) (k : Known) (first second : ℕ) → cond t (one_more most k.first) k.first ≡ first → cond t (cond begun (one_more most k.second) k.second) k.second ≡ second → cond t (turned k begun most) k ≡ with_counts k first second
  turn_step true k first second a b = λ i. record k { first = a i; second = b i }
  turn_step false k first second a b = λ i. record k { first = a i; second = b i }

  turns : (x : Event) → disturbs x ≡ false → (t : Bool) → t ≡ is_turn_of e x → cond t (turned (known_of d earlier e) begun most) (known_of d earlier e) ≡ with_counts (known_of d earlier e) (at_most most (first_count (x ∷ earlier) e)) (at_most most (second_count d (x ∷ earlier) e))
  turns x calm t same = turn_step t (known_of d earlier e) (at_most most (first_count (x ∷ earlier) e)) (at_most most (second_count d (x ∷ earlier) e)) (turn_first x calm t same) (turn_second x calm t same)

  uncounted : (x : Event) → disturbs x ≡ true → (k : Known) → with_counts k 0 0 ≡ with_counts k (at_most most (first_count (x ∷ earlier) e)) (at_most most (second_count d (x ∷ earlier) e))
  uncounted x stirs k = λ i. record k { first = sym (firsts_gone x stirs) i; second = sym (seconds_gone x stirs) i }

  pub step_is : (x : Event) → step begun most e x (known_of d earlier e) ≡ unsettled_of d x earlier e
  step_is (events.Processor p) = turns (events.Processor p) refl (same_element e (elements.Processor p)) refl
  step_is (events.Io i) = turns (events.Io i) refl (same_element e (elements.Io i)) refl
  step_is (events.Input l byte) = turns (events.Input l byte) refl false refl
  step_is (events.Close l) = turns (events.Close l) refl false refl
  step_is (events.Hangup l) = turns (events.Hangup l) refl false refl
  step_is (events.Fail f) = fail_step (same_element e f) (is_out d earlier e) (is_mended e earlier) (has_failed_last e earlier) (is_failed e earlier) ∙ uncounted (events.Fail f) refl (unsettled_of d (events.Fail f) earlier e)
  step_is (events.Repair f) = repair_step (same_element e f) (is_out d earlier e) (is_mended e earlier) (has_failed_last e earlier) (is_failed e earlier) ∙ uncounted (events.Repair f) refl (unsettled_of d (events.Repair f) earlier e)
  step_is (events.Upset p half reg mask) = upset_step (same_element e (elements.Processor p)) (is_out d earlier e) (is_mended e earlier) (has_failed_last e earlier) (is_failed e earlier) ∙ uncounted (events.Upset p half reg mask) refl (unsettled_of d (events.Upset p half reg mask) earlier e)
