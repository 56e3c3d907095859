-- What stays and what comes where a word is cleared.
use Rattle.std.proofs.Common.{◌≡◌, ◌≢◌, ◌⊎◌, inl, inr, ℕ, suc, ◌+◌, ◌*◌, ◌/◌, ◌%◌, ◌<◌, ◌≤◌, Bool, true, false, not, ◌&&◌, ◌==◌, length, Some, None, refl, sym, ap, ◌∙◌, subst, arith, eq-eqb}
use Rattle.std.proofs.lemmas.Bool.{cases_Bool, cases_lt, cases_order, cond_both, cond-true, and_parts, and_from, eqb-true, ne_eqb, not_from_false, false≢true, true≢false}
use Rattle.seq_words.specs.Masks.{has_bit}
use Rattle.seq_words.specs.declared.description.MachineDesc.{MachineDesc}
use Rattle.seq_layout.specs.Shapes.{Shape, shape_of, segment_extent}
use Rattle.seq_layout.specs.Copies.{Copies, serves, same_copy, with_word, word_written}
use Rattle.seq_layout.proofs.CopiesLaws.{word_changes_alone}
use Rattle.seq_recover.specs.declared.recovery.Closing.{Closing}
use Rattle.seq_recover.specs.declared.recovery.Recovery.{Recovery}
use Rattle.seq_recover.specs.Reading.{context_of, names, is_shadow, is_left, left_from}
use Rattle.seq_recover.specs.Turns.{status_set, lock_cleared}
use Rattle.seq_recover.specs.Stands.{AllServe, IsInArea, IsAreaEqual, NamesHeld, ClosingKnows, RecoveredKnows}
use Rattle.seq_recover.proofs.LeftFrom.{left_none, left_least}

-- a copy that is in service is written
pub written_is : (s : Shape) (p : Copies) (e n : ℕ) (c : Bool) (w : ℕ) → serves s p e c ≡ true → word_written s p e n c w ≡ with_word p e n c w
unfolding word_written
written_is s p e n c w serving = cond-true (serves s p e c) (with_word p e n c w) p serving

-- a copy of a word is cleared
module _ (d : MachineDesc) (p : Copies) (e n : ℕ) (c : Bool) where
  abbrev pub now : Copies
  now = with_word p e n c 0

  -- a word that names a process did so before
  named_before : (q t : ℕ) (c' : Bool) → names d now q t c' ≡ true → names d p q t c' ≡ true
  unfolding with_word
  named_before q t c' = cond_both ((segment_extent (shape_of d) t == e && 0 == n) && same_copy c' c) 0 (p.word (segment_extent (shape_of d) t) 0 c')
      (λ w. (serves (shape_of d) p (segment_extent (shape_of d) t) c' && (w == suc q)) ≡ true → names d p q t c' ≡ true)
      (λ _ is. absurd (let parts = and_parts (serves (shape_of d) p (segment_extent (shape_of d) t) c') (0 == suc q) is in let zero : 0 ≡ suc q = eqb-true 0 (suc q) parts.1 in let none : ⊥ = omega (arith, zero) in none))
      (λ _ is. is)

  context_stays : (q : ℕ) → context_of d now q ≡ context_of d p q
  unfolding context_of with_word
  context_stays q = refl

  in_area_before : (q e' : ℕ) → IsInArea d now q e' → IsInArea d p q e'
  in_area_before q e' (inl own) = inl own
  in_area_before q e' (inr (t, below, extent, is)) = inr (t, below, extent, named_before q t false is)

  pub area_stays : (q : ℕ) → IsAreaEqual d p q → IsAreaEqual d now q
  unfolding with_word
  area_stays q area = record { each = λ e' n' inside lt. area.each e' n' (in_area_before q e' inside) lt }

  pub held_stays : (q : ℕ) → NamesHeld d p q → NamesHeld d now q
  held_stays q held = record { each = λ t c' below is. ap (λ x. has_bit x.held t) (context_stays q) ∙ held.each t c' below (named_before q t c' is) }

-- the number of a copy of a segment's lock word
abbrev number : ℕ → Bool → ℕ
number t true = 2 * t
number t false = 2 * t + 1

number_segment : (t : ℕ) (c : Bool) → number t c / 2 ≡ t
number_segment t true = omega arith
number_segment t false = omega arith

number_copy : (t : ℕ) (c : Bool) → is_shadow (number t c) ≡ c
number_copy t true = eq-eqb (2 * t % 2) 0 (omega arith)
number_copy t false = ne_eqb ((2 * t + 1) % 2) 0 (omega arith)

number_few : (s t : ℕ) (c : Bool) → t < s → number t c < 2 * s
number_few s t true lt = omega (arith, lt)
number_few s t false lt = omega (arith, lt)

-- a lock word that names the process is to be cleared, or its segment is held
module _ (d : MachineDesc) (p : Copies) (q : ℕ) where
  left_or_held : (t : ℕ) (c : Bool) → names d p q t c ≡ true → is_left d p q (number t c) ≡ false → has_bit (context_of d p q).held t ≡ true
  left_or_held t c is out = elim (cases_Bool (has_bit (context_of d p q).held t)) [
    | inl held ↦ held
    | inr free ↦ absurd (false≢true (sym out ∙ left free))
  ]
    where
      left : has_bit (context_of d p q).held t ≡ false → is_left d p q (number t c) ≡ true
      left free = and_from _ _
          (not_from_false _ (ap (has_bit (context_of d p q).held) (number_segment t c) ∙ free))
          (ap (λ x. names d p q x (is_shadow (number t c))) (number_segment t c) ∙ ap (names d p q t) (number_copy t c) ∙ is)

  -- none is left behind the cursor
  module _ (n : ℕ) (behind : (k : ℕ) → k < n → is_left d p q k ≡ false) where
    -- where none is left from there on, all that name it are held
    pub none_left : left_from d p q n ≡ None → NamesHeld d p q
    none_left none = record {
      each = λ t c below is. left_or_held t c is (elim (cases_lt (number t c) n) [
        | inl lt ↦ behind (number t c) lt
        | inr le ↦ left_none d p q n none (number t c) le (number_few (length d.segments) t c below)
      ]);
    }

    out_below : (k : ℕ) → left_from d p q n ≡ Some k → (j : ℕ) → j < k → is_left d p q j ≡ false
    out_below k found j lt = elim (cases_lt j n) [
      | inl before ↦ behind j before
      | inr le ↦ left_least d p q n k found j le lt
    ]

  -- and so after the last that is left is cleared
  module _ (n : ℕ) (behind : (k : ℕ) → k < n → is_left d p q k ≡ false) (k : ℕ) (found : left_from d p q n ≡ Some k) where
    abbrev after : Copies
    after = lock_cleared d p k

    -- the lock word that is cleared doesn't name it
    gone : names d after q (k / 2) (is_shadow k) ≡ true → ⊥
    gone is =
        let here : after.word (segment_extent (shape_of d) (k / 2)) 0 (is_shadow k) ≡ 0 = (word_changes_alone p (segment_extent (shape_of d) (k / 2)) 0 (is_shadow k) 0).here in
        let parts = and_parts (serves (shape_of d) after (segment_extent (shape_of d) (k / 2)) (is_shadow k)) (after.word (segment_extent (shape_of d) (k / 2)) 0 (is_shadow k) == suc q) is in
        let named : after.word (segment_extent (shape_of d) (k / 2)) 0 (is_shadow k) ≡ suc q = eqb-true (after.word (segment_extent (shape_of d) (k / 2)) 0 (is_shadow k)) (suc q) parts.1 in
        omega (arith, here, named)

    -- behind it none is left
    pub behind_then : (j : ℕ) → j < k + 1 → is_left d after q j ≡ false
    behind_then j lt = elim (cases_Bool (is_left d after q j)) [
      | inl is ↦ absurd (still (and_parts (not (has_bit (context_of d after q).held (j / 2))) (names d after q (j / 2) (is_shadow j)) is) (cases_lt j k))
      | inr out ↦ out
    ]
      where
        still : (not (has_bit (context_of d after q).held (j / 2)) ≡ true) × (names d after q (j / 2) (is_shadow j) ≡ true) → (j < k) ⊎ (k ≤ j) → ⊥
        still parts (inl lower) =
            let free = ap (λ x. not (has_bit x.held (j / 2))) (sym (context_stays d p (segment_extent (shape_of d) (k / 2)) 0 (is_shadow k) q)) ∙ parts.0 in
            let before : is_left d p q j ≡ true = and_from _ _ free (named_before d p (segment_extent (shape_of d) (k / 2)) 0 (is_shadow k) q (j / 2) (is_shadow j) parts.1) in
            true≢false (sym before ∙ out_below n behind k found j lower)
        still parts (inr le) =
            let same : j ≡ k = omega (arith, lt, le) in
            gone (subst (λ x. names d after q (x / 2) (is_shadow x) ≡ true) same parts.1)

    cleared : (t : ℕ) (c : Bool) → number t c ≡ k → names d after q t c ≡ true → ⊥
    cleared t c e is =
        let segment : k / 2 ≡ t = ap (λ i. i / 2) (sym e) ∙ number_segment t c in
        let copy : is_shadow k ≡ c = ap is_shadow (sym e) ∙ number_copy t c in
        gone ((λ i. names d after q (segment i) (copy i)) ∙ is)

    pub last_left : left_from d p q (k + 1) ≡ None → NamesHeld d after q
    last_left last = record { each = λ t c below is. ap (λ x. has_bit x.held t) (context_stays d p (segment_extent (shape_of d) (k / 2)) 0 (is_shadow k) q) ∙ left_or_held t c (before t c is) (out t c below is (cases_order (number t c) k)) }
      where
        before : (t : ℕ) (c : Bool) → names d after q t c ≡ true → names d p q t c ≡ true
        before t c is = named_before d p (segment_extent (shape_of d) (k / 2)) 0 (is_shadow k) q t c is

        out : (t : ℕ) (c : Bool) → t < length d.segments → names d after q t c ≡ true → (number t c ≡ k) ⊎ ((number t c < k) ⊎ (k < number t c)) → is_left d p q (number t c) ≡ false
        out t c below is (inl e) = absurd (cleared t c e is)
        out t c below is (inr (inl lt)) = out_below n behind k found (number t c) lt
        out t c below is (inr (inr lt)) = left_none d p q (k + 1) last (number t c) (omega (arith, lt)) (number_few (length d.segments) t c below)

-- the turns of Closing
module _ (d : MachineDesc) (p : Copies) (r : Recovery Closing) (serve : AllServe (shape_of d) p) (knows : ClosingKnows d p r) where
  abbrev own : ℕ
  own = r.pid.0

  freed : (c : Bool) → status_set d p own c 0 ≡ with_word p own 0 c 0
  freed c = written_is (shape_of d) p own 0 c 0 (serve own c)

  pub closing_knows : ClosingKnows d (status_set d p own true 0) (record r { cursor = 1 })
  closing_knows = subst (λ (x : Copies). ClosingKnows d x (record r { cursor = 1 })) (sym (freed true)) (record {
    area = area_stays d p own 0 true own knows.area;
    locks = held_stays d p own 0 true own knows.locks;
    begun = λ _. (word_changes_alone p own 0 true 0).here;
  })

  pub recovered_knows : r.cursor ≢ 0 → RecoveredKnows d (status_set d p own false 0) own
  recovered_knows begun = subst (λ (x : Copies). RecoveredKnows d x own) (sym (freed false)) (record {
    area = area_stays d p own 0 false own knows.area;
    locks = held_stays d p own 0 false own knows.locks;
    primary = (word_changes_alone p own 0 false 0).here;
    shadow = (word_changes_alone p own 0 false 0).elsewhere own 0 true (λ same. false≢true same.copy) ∙ knows.begun begun;
  })
