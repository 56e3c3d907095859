-- Hexadecimal digits without leading zeros, the last one apart.
use Rattle.std.proofs.Common.{◌≡◌, ℕ, zero, suc, ◌*◌, ◌/◌, ◌%◌, ◌^◌, ◌<◌, ◌≤◌, Bool, true, false, cond, ◌==◌, List, [], ◌∷◌, ◌++◌, append_assoc, Result, Ok, Err, OnOk, refl, sym, ap, ◌∙◌, arith}
use Rattle.std.specs.Fmt.{digits, digits_onto, digit_glyph}
use Rattle.std.proofs.Math.Nat.{pow-suc}
use Rattle.std.proofs.lemmas.Bool.{eq-eqb, ne_eqb}
use Rattle.std.proofs.lemmas.Fmt.{hex_one_digit}

-- what is written before some digits stands before them
onto_append : (k n : ℕ) (acc : List ℕ) → digits_onto k 16 false n acc ≡ digits_onto k 16 false n [] ++ acc
onto_append zero n acc = refl
onto_append (suc k) n acc = choice (n / 16 == 0) (digit_glyph false (n % 16)) (onto_append k (n / 16) (digit_glyph false (n % 16) ∷ acc)) (onto_append k (n / 16) (digit_glyph false (n % 16) ∷ []))
  where
    choice : (t : Bool) (d : ℕ) → digits_onto k 16 false (n / 16) (d ∷ acc) ≡ digits_onto k 16 false (n / 16) [] ++ (d ∷ acc) → digits_onto k 16 false (n / 16) (d ∷ []) ≡ digits_onto k 16 false (n / 16) [] ++ (d ∷ []) → cond t (d ∷ acc) (digits_onto k 16 false (n / 16) (d ∷ acc)) ≡ cond t (d ∷ []) (digits_onto k 16 false (n / 16) (d ∷ [])) ++ acc
    choice true d e f = refl
    choice false d e f = e ∙ sym (ap (λ xs. xs ++ acc) f ∙ append_assoc (digits_onto k 16 false (n / 16) []) (d ∷ []) acc)

-- enough places are as good as one more
enough : (k n : ℕ) (acc : List ℕ) → n < 16 ^ suc k → digits_onto (suc k) 16 false n acc ≡ digits_onto (suc (suc k)) 16 false n acc
enough zero n acc h =
    let one : (n / 16 == 0) ≡ true = eq-eqb _ _ (omega arith) in
    rw one refl
enough (suc k) n acc h =
    let pow : 16 ^ suc (suc k) ≡ 16 ^ suc k * 16 = pow-suc 16 (suc k) in
    let less : n / 16 < 16 ^ suc k = omega (arith, pow, h) in
    choice (n / 16 == 0) (digit_glyph false (n % 16)) (enough k (n / 16) (digit_glyph false (n % 16) ∷ acc) less)
  where
    choice : (t : Bool) (d : ℕ) → digits_onto (suc k) 16 false (n / 16) (d ∷ acc) ≡ digits_onto (suc (suc k)) 16 false (n / 16) (d ∷ acc) → cond t (d ∷ acc) (digits_onto (suc k) 16 false (n / 16) (d ∷ acc)) ≡ cond t (d ∷ acc) (digits_onto (suc (suc k)) 16 false (n / 16) (d ∷ acc))
    choice true d e = refl
    choice false d e = e

pub hexadecimal_last : (n : ℕ) → n < 16 → digits 16 false n ≡ digit_glyph false (n % 16) ∷ []
hexadecimal_last n h =
    let same : n % 16 ≡ n = omega arith in
    hex_one_digit false n h ∙ ap (λ d. digit_glyph false d ∷ []) (sym same)

pub hexadecimal_step : (n : ℕ) → 16 ≤ n → n < 2 ^ 32 → digits 16 false n ≡ digits 16 false (n / 16) ++ digit_glyph false (n % 16) ∷ []
unfolding digits
hexadecimal_step n low high =
    let more : (n / 16 == 0) ≡ false = ne_eqb _ _ (λ e. absurd (omega (arith, low, e))) in
    let first : digits_onto 64 16 false n [] ≡ digits_onto 63 16 false (n / 16) (digit_glyph false (n % 16) ∷ []) = ap (λ t. cond t (digit_glyph false (n % 16) ∷ []) (digits_onto 63 16 false (n / 16) (digit_glyph false (n % 16) ∷ []))) more in
    first ∙ onto_append 63 (n / 16) (digit_glyph false (n % 16) ∷ []) ∙ ap (λ xs. xs ++ digit_glyph false (n % 16) ∷ []) (enough 62 (n / 16) [] (omega arith))

-- the digits of the front, and then the last one
pub digits_put : {T E : Type 0} (r : Result T E) (out before after : List ℕ) (n d : ℕ) → 16 ≤ n → n < 2 ^ 32 → before ≡ out ++ digits 16 false (n / 16) → d ≡ digit_glyph false (n % 16) → OnOk r (after ≡ before ++ d ∷ []) → OnOk r (after ≡ out ++ digits 16 false n)
digits_put (Err x) out before after n d low high e f h = tt
digits_put (Ok x) out before after n d low high e f h =
    h ∙ joined before (out ++ digits 16 false (n / 16)) d (digit_glyph false (n % 16)) e f ∙ append_assoc out (digits 16 false (n / 16)) (digit_glyph false (n % 16) ∷ []) ∙ ap (λ xs. out ++ xs) (sym (hexadecimal_step n low high))
  where
    joined : (xs ys : List ℕ) (c e : ℕ) → xs ≡ ys → c ≡ e → xs ++ c ∷ [] ≡ ys ++ e ∷ []
    joined xs ys c e f g = cc
