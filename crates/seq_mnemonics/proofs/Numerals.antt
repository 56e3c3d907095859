-- Printed numbers are read.
use Rattle.std.proofs.Common.{◌≡◌, ℕ, zero, suc, ◌<◌, ◌≤◌, ◌^◌, Bool, true, false, not, ◌&&◌, ◌||◌, ◌==◌, nat_lt, nat_le, codes, List, [], ◌∷◌, ◌++◌, length, take, get_or, decimal, pos, negsuc, Some, refl, ap, arith}
use Rattle.std.specs.List.{list_all}
use Rattle.std.specs.Fmt.{digits}
use Rattle.std.specs.Str.{bytes_eq}
use Rattle.std.specs.Str.Parse.{AllDigits}
use Rattle.std.proofs.lemmas.Bool.{and_parts, and_from, leb-true, lt-ltb, le-leb, ne_eqb}
use Rattle.std.proofs.lemmas.Fmt.{decimal_is_IsNumeral, digits_is_IsNumeral, first_decimal}
use Rattle.std.proofs.lemmas.Str.Parse.{digit_from_value}
use Rattle.seq_text.specs.Numbers.{is_digit, is_number, number_of}
use Rattle.seq_mnemonics.specs.Numbers.{is_hexadecimal, hexadecimal_of, operand_of}
use Rattle.seq_mnemonics.specs.Laws.{PrintedNumbersAreRead}

-- ---- digits

pub decimal_digits : (ds : List ℕ) → AllDigits 10 ds → list_all is_digit ds ≡ true
decimal_digits [] h = refl
decimal_digits (c ∷ cs) h =
    let d = digit_from_value c h.0 in
    and_from _ _ (and_from _ _ (le-leb _ _ d.0) (le-leb _ _ d.1)) (decimal_digits cs h.1)

hexadecimal_digits : (ds : List ℕ) → AllDigits 16 ds → list_all is_hexadecimal ds ≡ true
hexadecimal_digits [] h = refl
hexadecimal_digits (c ∷ cs) h = and_from _ _ (lt-ltb _ _ h.0) (hexadecimal_digits cs h.1)

-- digits begin neither with `0x` nor with `-`
not_prefixed : (ds : List ℕ) → list_all is_digit ds ≡ true → bytes_eq (take 2 ds) (codes "0x") ≡ false
not_prefixed [] h = refl
not_prefixed (a ∷ []) h = never (a == 48)
  where
    never : (t : Bool) → (t && false) ≡ false
    never true = refl
    never false = refl
not_prefixed (a ∷ b ∷ rest) h =
    let parts : (is_digit a ≡ true) × ((is_digit b && list_all is_digit rest) ≡ true) = and_parts _ _ h in
    let behind : (is_digit b ≡ true) × (list_all is_digit rest ≡ true) = and_parts _ _ parts.1 in
    let high : b ≤ 57 = leb-true b 57 (and_parts (nat_le 48 b) (nat_le b 57) behind.0).1 in
    let other : (b == 120) ≡ false = ne_eqb _ _ (λ e. absurd (omega (arith, high, e))) in
    never (a == 48) (b == 120) other
  where
    never : (t u : Bool) → u ≡ false → (t && (u && true)) ≡ false
    never true u e = rw e refl
    never false u e = refl

not_negative : (ds : List ℕ) → list_all is_digit ds ≡ true → bytes_eq (take 1 ds) (codes "-") ≡ false
not_negative [] h = refl
not_negative (a ∷ rest) h =
    let low : 48 ≤ a = leb-true _ _ (and_parts _ _ (and_parts _ _ h).0).0 in
    let other : (a == 45) ≡ false = ne_eqb _ _ (λ e. absurd (omega (arith, low, e))) in
    rw other refl

-- ---- decimal numbers

leading : (n : ℕ) → n < 2 ^ 64 → (nat_lt (length (decimal n)) 2 || not (get_or (decimal n) 0 0 == 48)) ≡ true
unfolding digits
leading zero h = refl
leading (suc n) h =
    let first : 48 < get_or (decimal (suc n)) 0 0 = first_decimal (suc n) (omega arith) h in
    let other : (get_or (decimal (suc n)) 0 0 == 48) ≡ false = ne_eqb _ _ (λ e. absurd (omega (arith, first, e))) in
    rw other (either (nat_lt (length (decimal (suc n))) 2))
  where
    either : (t : Bool) → (t || not false) ≡ true
    either true = refl
    either false = refl

number_again : (n : ℕ) → n < 2 ^ 64 → number_of (decimal n) ≡ Some n
unfolding number_of
number_again n h =
    let d = decimal_is_IsNumeral n h in
    let passes : is_number (decimal n) ≡ true = and_from _ _ (and_from _ _ (decimal_digits _ d.0.1) (lt-ltb _ _ d.0.0)) (leading n h) in
    rw passes (ap Some d.1)

natural : (n : ℕ) → n < 2 ^ 64 → operand_of (decimal n) ≡ Some (pos n)
unfolding operand_of
natural n h =
    let ds = decimal_digits _ (decimal_is_IsNumeral n h).0.1 in
    rw (not_prefixed _ ds, not_negative _ ds, number_again n h) refl

negative : (n : ℕ) → suc n < 2 ^ 64 → operand_of (45 ∷ decimal (suc n)) ≡ Some (negsuc n)
unfolding operand_of
negative n h = rw (number_again (suc n) h) refl

-- ---- hexadecimal numbers

hexadecimal_again : (n : ℕ) → n < 2 ^ 64 → hexadecimal_of (digits 16 false n) ≡ Some n
unfolding hexadecimal_of
hexadecimal_again n h =
    let d = digits_is_IsNumeral 16 false (omega arith) (omega arith) n (omega arith) in
    let passes : (nat_lt 0 (length (digits 16 false n)) && list_all is_hexadecimal (digits 16 false n)) ≡ true = and_from _ _ (lt-ltb _ _ d.0.0) (hexadecimal_digits _ d.0.1) in
    rw passes (ap Some d.1)

prefixed : (n : ℕ) → n < 2 ^ 64 → operand_of (codes "0x" ++ digits 16 false n) ≡ Some (pos n)
unfolding operand_of
prefixed n h = rw (hexadecimal_again n h) refl

pub printed_numbers : PrintedNumbersAreRead
printed_numbers = record { naturals = natural; negatives = negative; hexadecimals = prefixed }
