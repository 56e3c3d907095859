-- A number that is kept within its limits is the number that was written.
use Rattle.std.proofs.Common.{◌≡◌, ℕ, ◌<◌, ◌^◌, Bool, true, false, ◌&&◌, leb, Option, Some, None, List, min, inl, inr, refl, sym, ap, ◌∙◌, arith}
use Rattle.std.specs.Option.{option_map}
use Rattle.std.proofs.Math.Nat.{min-eq_left, min-eq_right}
use Rattle.std.proofs.lemmas.Bool.{cases_lt, lt-leb}
use Rattle.seq_words.specs.declared.names.LineNo.{LineNo}
use Rattle.seq_text.specs.Numbers.{number_of, capped}
use Rattle.seq_schedule.specs.Numbers.{if_within, number_within, line_numbered, line_named}

and-false : (a b : Bool) → b ≡ false → (a && b) ≡ false
and-false true b e = e
and-false false b e = refl

above : (least most n : ℕ) → most < n → if_within least most (Some n) ≡ None
above least most n lt =
    let no : (leb least n && leb n most) ≡ false = and-false (leb least n) (leb n most) (lt-leb n most lt) in
    rw no refl

some_within : (least most n : ℕ) → most < 2 ^ 64 → if_within least most (Some (capped n)) ≡ if_within least most (Some n)
some_within least most n lt = elim (cases_lt n (2 ^ 64)) [
  | inl small ↦ ap (λ m. if_within least most (Some m)) (min-eq_left (omega arith))
  | inr large ↦ ap (λ m. if_within least most (Some m)) (min-eq_right large) ∙ above least most (2 ^ 64) lt ∙ sym (above least most n (omega arith))
]

same_within : (least most : ℕ) (p o : Option ℕ) → most < 2 ^ 64 → o ≡ option_map capped p → if_within least most o ≡ if_within least most p
same_within least most None o lt e = ap (if_within least most) e
same_within least most (Some n) o lt e = ap (if_within least most) e ∙ some_within least most n lt

pub within_is : (least most : ℕ) (word : List ℕ) (o : Option ℕ) → most < 2 ^ 64 → o ≡ option_map capped (number_of word) → if_within least most o ≡ number_within least most word
unfolding number_within
within_is least most word o lt e = same_within least most (number_of word) o lt e

same_line : (n : ℕ) → line_numbered (capped n) ≡ line_numbered n
same_line n = ap (λ (m : ℕ). let l : LineNo = record { 0 = m } in l) (twice n)
  where
    twice : (n : ℕ) → min (min n (2 ^ 64)) 255 ≡ min n 255
    twice n = elim (cases_lt n (2 ^ 64)) [
      | inl small ↦ ap (λ m. min m 255) (min-eq_left (omega arith))
      | inr large ↦ ap (λ m. min m 255) (min-eq_right large) ∙ sym (min-eq_right (omega arith))
    ]

lines : (p o : Option ℕ) → o ≡ option_map capped p → option_map line_numbered o ≡ option_map line_numbered p
lines None o e = ap (option_map line_numbered) e
lines (Some n) o e = ap (option_map line_numbered) e ∙ ap (λ l. Some l) (same_line n)

pub line_is : (word : List ℕ) (o : Option ℕ) → o ≡ option_map capped (number_of word) → option_map line_numbered o ≡ line_named word
unfolding line_named
line_is word o e = lines (number_of word) o e
