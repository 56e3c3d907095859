-- Numbers as they are kept.
use Rattle.std.proofs.Common.{◌≡◌, ℕ, zero, suc, ◌+◌, ◌*◌, ◌^◌, ◌<◌, ◌≤◌, true, false, ◌&&◌, ltb, List, [], ◌∷◌, take, drop, length, get_or, Option, Some, None, min, inl, inr, refl, sym, ap, ◌∙◌, arith}
use Rattle.std.specs.Prelude.{ℤ, pos, neg_ℤ, codes}
use Rattle.std.specs.Char.{digit_value}
use Rattle.std.specs.List.{fold, list_all}
use Rattle.std.specs.Option.{option_map}
use Rattle.std.specs.Str.{bytes_eq}
use Rattle.std.specs.Str.Parse.{digits_value, digits_value_after}
use Rattle.std.proofs.Math.Nat.{min-eq_left, min-eq_right}
use Rattle.std.proofs.lemmas.Bool.{and_parts, cases_lt, ltb-true}
use Rattle.std.proofs.lemmas.List.{take_all}
use Rattle.std.proofs.lemmas.List.Sums.{fold_more}
use Rattle.seq_text.specs.Numbers.{number_of, capped}
use Rattle.seq_mnemonics.specs.Numbers.{is_hexadecimal, hexadecimal_of, operand_of}
use Rattle.seq_source.specs.Numbers.{kept, kept_of, number_written}

-- ---- decimal numbers

twice : (n : ℕ) → min (min n (2 ^ 64)) (2 ^ 40) ≡ min n (2 ^ 40)
twice n = elim (cases_lt n (2 ^ 64)) [
  | inl small ↦ ap (λ m. min m (2 ^ 40)) (min-eq_left (omega arith))
  | inr large ↦ ap (λ m. min m (2 ^ 40)) (min-eq_right large) ∙ sym (min-eq_right (omega arith))
]

decimal_is : (p o : Option ℕ) → o ≡ option_map capped p → option_map (λ n. min n (2 ^ 40)) o ≡ option_map kept p
decimal_is None o e = ap (option_map (λ n. min n (2 ^ 40))) e
decimal_is (Some n) o e = ap (option_map (λ n. min n (2 ^ 40))) e ∙ ap (λ m. Some m) (twice n)

pub decimal_none : (word : List ℕ) → None ≡ option_map capped (number_of word) → None ≡ option_map kept (number_of word)
decimal_none word e = decimal_is (number_of word) None e

pub decimal_some : (word : List ℕ) (n m : ℕ) → Some n ≡ option_map capped (number_of word) → m ≡ min n (2 ^ 40) → Some m ≡ option_map kept (number_of word)
decimal_some word n m e f = ap (λ k. Some k) f ∙ decimal_is (number_of word) (Some n) e

-- ---- hexadecimal numbers

-- the number that bytes write, each as a digit
unfoldable pub hex_number : List ℕ → ℕ
hex_number digits = fold (λ n byte. n * 16 + min (digit_value byte) 16) 0 digits

-- one digit more
pub kept_more : (digits : List ℕ) (i number value : ℕ) → i < length digits → number ≡ kept (hex_number (take i digits)) → value ≡ min (digit_value (get_or digits i 0)) 16 → min (number * 16 + value) (2 ^ 40) ≡ kept (hex_number (take (i + 1) digits))
unfolding hex_number
kept_more digits i number value lt e v = step number (hex_number (take i digits)) value e ∙ ap kept (ap (λ x. hex_number (take i digits) * 16 + x) v ∙ sym (fold_more (λ n byte. n * 16 + min (digit_value byte) 16) 0 digits i 0 lt))
  where
    step : (number n value : ℕ) → number ≡ min n (2 ^ 40) → min (number * 16 + value) (2 ^ 40) ≡ min (n * 16 + value) (2 ^ 40)
    step number n value e = elim (cases_lt n (2 ^ 40)) [
      | inl small ↦ let same : number ≡ n = e ∙ min-eq_left (omega arith) in ap (λ k. min (k * 16 + value) (2 ^ 40)) same
      | inr large ↦ let most : number ≡ 2 ^ 40 = e ∙ min-eq_right large in min-eq_right (omega arith) ∙ sym (min-eq_right (omega arith))
    ]

pub kept-nil : 0 ≡ kept (hex_number [])
unfolding hex_number
kept-nil = refl

same_after : (n : ℕ) (digits : List ℕ) → list_all is_hexadecimal digits ≡ true → fold (λ n byte. n * 16 + min (digit_value byte) 16) n digits ≡ digits_value_after 16 n digits
same_after n [] e = refl
same_after n (d ∷ ds) e =
    let p = and_parts _ _ e in
    let small : digit_value d < 16 = ltb-true _ _ p.0 in
    same_after (n * 16 + min (digit_value d) 16) ds p.1 ∙ ap (λ v. digits_value_after 16 (n * 16 + v) ds) (min-eq_left (omega arith))

same_number : (digits : List ℕ) → list_all is_hexadecimal digits ≡ true → hex_number digits ≡ digits_value 16 digits
unfolding hex_number
same_number digits e = same_after 0 digits e

-- all digits
pub kept_all : (digits : List ℕ) (i number : ℕ) → length digits ≤ i → number ≡ kept (hex_number (take i digits)) → list_all is_hexadecimal digits ≡ true → number ≡ kept (digits_value 16 digits)
kept_all digits i number le e all = e ∙ ap (λ xs. kept (hex_number xs)) (take_all i digits le) ∙ ap kept (same_number digits all)

pub hexadecimal_none : (digits : List ℕ) → (ltb 0 (length digits) && list_all is_hexadecimal digits) ≡ false → None ≡ option_map kept (hexadecimal_of digits)
unfolding hexadecimal_of
hexadecimal_none digits e = rw e refl

pub hexadecimal_some : (digits : List ℕ) (n : ℕ) → (ltb 0 (length digits) && list_all is_hexadecimal digits) ≡ true → (list_all is_hexadecimal digits ≡ true → n ≡ kept (digits_value 16 digits)) → Some n ≡ option_map kept (hexadecimal_of digits)
unfolding hexadecimal_of
hexadecimal_some digits n e value = rw e (ap (λ k. Some k) (value (and_parts (ltb 0 (length digits)) (list_all is_hexadecimal digits) e).1))

-- ---- numbers with a sign

positive : (o : Option ℕ) → option_map pos (option_map kept o) ≡ option_map kept_of (option_map (λ n. pos n) o)
positive None = refl
positive (Some n) = refl

negated : (n : ℕ) → neg_ℤ (pos (kept n)) ≡ kept_of (neg_ℤ (pos n))
negated zero = refl
negated (suc n) = refl

negative : (o : Option ℕ) → option_map (λ n. neg_ℤ (pos n)) (option_map kept o) ≡ option_map kept_of (option_map (λ n. neg_ℤ (pos n)) o)
negative None = refl
negative (Some n) = ap (λ z. Some z) (negated n)

pub hexadecimal_written : (word digits : List ℕ) (o : Option ℕ) (r : Option ℤ) → bytes_eq (take 2 word) (codes "0x") ≡ true → digits ≡ drop 2 word → o ≡ option_map kept (hexadecimal_of digits) → r ≡ option_map pos o → r ≡ number_written word
unfolding number_written operand_of
hexadecimal_written word digits o r mark behind value e = rw mark (e ∙ ap (option_map pos) (value ∙ ap (λ ds. option_map kept (hexadecimal_of ds)) behind) ∙ positive (hexadecimal_of (drop 2 word)))

pub negative_written : (word digits : List ℕ) (o : Option ℕ) (r : Option ℤ) → bytes_eq (take 2 word) (codes "0x") ≡ false → bytes_eq (take 1 word) (codes "-") ≡ true → digits ≡ drop 1 word → o ≡ option_map kept (number_of digits) → r ≡ option_map (λ n. neg_ℤ (pos n)) o → r ≡ number_written word
unfolding number_written operand_of
negative_written word digits o r mark sign behind value e = rw mark (rw sign (e ∙ ap (option_map (λ n. neg_ℤ (pos n))) (value ∙ ap (λ ds. option_map kept (number_of ds)) behind) ∙ negative (number_of (drop 1 word))))

pub decimal_written : (word : List ℕ) (o : Option ℕ) (r : Option ℤ) → bytes_eq (take 2 word) (codes "0x") ≡ false → bytes_eq (take 1 word) (codes "-") ≡ false → o ≡ option_map kept (number_of word) → r ≡ option_map pos o → r ≡ number_written word
unfolding number_written operand_of
decimal_written word o r mark sign value e = rw mark (rw sign (e ∙ ap (option_map pos) value ∙ positive (number_of word)))
