-- The part at a place is found by the starts of a row.
use Rattle.std.proofs.Common.{◌≡◌, ℕ, ◌+◌, ◌-◌, ◌<◌, ◌≤◌, Bool, true, false, cond, List, length, get_or, arith, refl, ◌∙◌, inl, inr}
use Rattle.std.specs.List.Sorted.{IsNonDecreasing}
use Rattle.std.proofs.lemmas.List.Sorted.{IsNonDecreasingBy-from_default}
use Rattle.std.proofs.lemmas.Bool.{cases_lt}
use Rattle.seq_layout.specs.Places.{keeps, start_of}
use Rattle.seq_layout.specs.Tables.{Spread, IsRow, IsCount, IsPart}
use Rattle.seq_layout.proofs.Apart.{starts_rise, start_step, start_first}

-- the starts of a row rise
pub row_rises : (s : Spread) (m : ℕ) (row : List ℕ) → IsRow s m row → IsNonDecreasing row
row_rises s m row is = IsNonDecreasingBy-from_default (λ (x : ℕ). x) row 0 (λ i j h inside.
    let ordered = starts_rise s.memories s.sizes m i j h in
    omega (arith, is.columns, is.start i (omega (arith, is.columns)), is.start j (omega (arith, is.columns))))

module _ (s : Spread) (m place count : ℕ) (row : List ℕ) (is : IsRow s m row) (h : IsCount row place count) where
  -- the first start is 0
  pub some_start : 0 < count
  some_start =
      let first : get_or row 0 0 ≡ 0 = is.start 0 (omega arith) ∙ start_first s.memories s.sizes m in
      elim (cases_lt 0 count) [
        | inl some ↦ some
        | inr none ↦ let above = h.above 0 none (omega (arith, is.columns)) in absurd (omega arith)
      ]

  -- all starts are below the place: the memory keeps no more
  pub past_all : count ≡ length s.sizes + 1 → start_of s.memories s.sizes m (length s.sizes) ≤ place
  past_all all =
      let last = h.below (length s.sizes) (omega arith) in
      omega (arith, is.start (length s.sizes) (omega arith))

  -- an extent that starts at the place or below it, while the next one starts above, has the part
  step_kept : (e : ℕ) (kept : Bool) → keeps s.memories m e ≡ kept → start_of s.memories s.sizes m (e + 1) ≡ start_of s.memories s.sizes m e + cond kept (get_or s.sizes e 0) 0 → start_of s.memories s.sizes m e ≤ place → place < start_of s.memories s.sizes m (e + 1) → e < length s.sizes → IsPart s m place e (place - start_of s.memories s.sizes m e)
  step_kept e true kept next from until inside = record {
    part = record { extent_in = inside; part_in = omega arith };
    kept = kept;
    place_is = omega arith;
  }
  step_kept e false kept next from until inside = absurd (omega arith)

  -- the part is one of the last extent that starts at the place or below it
  pub part_found : (e : ℕ) → count ≡ e + 1 → e < length s.sizes → IsPart s m place e (place - get_or row e 0)
  part_found e here inside =
      let start = is.start e (omega arith) in
      let next = is.start (e + 1) (omega arith) in
      let from = h.below e (omega arith) in
      let until = h.above (e + 1) (omega arith) (omega (arith, is.columns)) in
      rw start (step_kept e (keeps s.memories m e) refl (start_step s.memories s.sizes m e) (omega arith) (omega arith) inside)
