-- What digits write, from the front.
use Rattle.std.proofs.Common.{◌≡◌, ℕ, zero, suc, ◌+◌, ◌-◌, ◌*◌, ◌^◌, ◌<◌, ◌≤◌, Bool, true, false, not, ◌||◌, cond, ltb, eqb, List, [], ◌∷◌, length, take, get_or, min, Some, None, inl, inr, refl, sym, ap, subst, ◌∙◌, arith}
use Rattle.std.specs.List.{list_all}
use Rattle.std.specs.Char.{digit_value}
use Rattle.std.specs.Str.Parse.{digits_value, digits_value_after, AllDigits}
use Rattle.std.proofs.Math.Nat.{pow-suc, pow-le-pow_right, mul-le-mul_right, min-eq_right}
use Rattle.std.proofs.lemmas.Bool.{and_parts, leb-true, ltb-true, eqb-false, lt-ltb, le-ltb, or_cases, not-true, cases_lt, cases_order}
use Rattle.std.proofs.lemmas.List.{ext_get_or}
use Rattle.std.proofs.lemmas.Str.{digit_value_digit}
use Rattle.std.proofs.lemmas.Int.Digits.{digits_value-lt, digits_value_more}
use Rattle.std.proofs.lemmas.List.Sums.{AllPass-from_list_all}
use Rattle.seq_text.specs.Numbers.{is_digit, is_number, number_of, capped}
use Rattle.std.specs.Option.{option_map}

digit-value : (c : ℕ) → is_digit c ≡ true → (digit_value c + 48 ≡ c) × (digit_value c < 10)
digit-value c e =
    let p = and_parts _ _ e in
    let low : 48 ≤ c = leb-true _ _ p.0 in
    let high : c ≤ 57 = leb-true _ _ p.1 in
    let v = digit_value_digit c (low, high) in
    (v, omega (arith, v, high))

all_digits : (ds : List ℕ) → list_all is_digit ds ≡ true → AllDigits 10 ds
all_digits [] e = tt
all_digits (c ∷ cs) e = let p = and_parts _ _ e in ((digit-value c p.0).1, all_digits cs p.1)

value-after : (n : ℕ) (ds : List ℕ) → digits_value_after 10 n ds ≡ n * 10 ^ length ds + digits_value 10 ds
value-after n [] = omega arith
value-after n (c ∷ cs) =
    let a = value-after (n * 10 + digit_value c) cs in
    let b = value-after (0 * 10 + digit_value c) cs in
    let pow : 10 ^ suc (length cs) ≡ 10 ^ length cs * 10 = pow-suc 10 (length cs) in
    let out : n * 10 ^ suc (length cs) ≡ n * (10 ^ length cs * 10) = ap (λ p. n * p) pow in
    omega (arith, a, b, out)

value-cons : (c : ℕ) (cs : List ℕ) → digits_value 10 (c ∷ cs) ≡ digit_value c * 10 ^ length cs + digits_value 10 cs
value-cons c cs = omega (arith, value-after (0 * 10 + digit_value c) cs)

pub value-lt : (ds : List ℕ) → list_all is_digit ds ≡ true → digits_value 10 ds < 10 ^ length ds
value-lt ds e = digits_value-lt 10 ds (all_digits ds e)

pub record IsNumber (word : List ℕ) : Type 0 where
  pub digits : list_all is_digit word ≡ true
  pub some : 0 < length word
  pub leading : (ltb (length word) 2 || not (eqb (get_or word 0 0) 48)) ≡ true

pub IsNumber-from : (word : List ℕ) → is_number word ≡ true → IsNumber word
IsNumber-from word e =
    let p = and_parts _ _ e in
    let q = and_parts _ _ p.0 in
    record { digits = q.0; some = ltb-true _ _ q.1; leading = p.1 }

-- a number of several digits is at least the power of ten that its first digit counts
value-ge : (c : ℕ) (cs : List ℕ) → is_number (c ∷ cs) ≡ true → 0 < length cs → 10 ^ length cs ≤ digits_value 10 (c ∷ cs)
value-ge c cs e long =
    let n = IsNumber-from (c ∷ cs) e in
    let d = digit-value c (and_parts _ _ n.digits).0 in
    let first : c ≡ 48 → ⊥ = elim (or_cases _ _ n.leading) [
      | inl short ↦ let lt : suc (length cs) < 2 = ltb-true _ _ short in absurd (omega arith)
      | inr ne ↦ eqb-false _ _ (not-true _ ne)
    ] in
    let one : 1 ≤ digit_value c = above_zero (digit_value c) (λ z. first (omega (arith, d.0, z))) in
    let mul : 1 * 10 ^ length cs ≤ digit_value c * 10 ^ length cs = mul-le-mul_right (10 ^ length cs) one in
    omega (arith, value-cons c cs, mul)
  where
    above_zero : (n : ℕ) → (n ≡ 0 → ⊥) → 1 ≤ n
    above_zero zero h = absurd (h refl)
    above_zero (suc n) h = omega arith

-- more digits write more
longer : (a b : List ℕ) → is_number a ≡ true → is_number b ≡ true → length a < length b → digits_value 10 a < digits_value 10 b
longer a [] ea eb h = absurd (omega arith)
longer a (c ∷ cs) ea eb h =
    let na = IsNumber-from a ea in
    let some : 0 < length cs = omega (arith, na.some) in
    let low = value-ge c cs eb some in
    let high = value-lt a na.digits in
    let le : length a ≤ length cs = omega arith in
    let pow : 10 ^ length a ≤ 10 ^ length cs = pow-le-pow_right (omega arith) le in
    omega (arith, low, high, pow)

strict : (x y : ℕ) → y ≤ x → (x ≡ y → ⊥) → y < x
strict x y le ne = elim (cases_order x y) [ inl e ↦ absurd (ne e) | inr other ↦ elim other [ inl lt ↦ omega arith | inr lt ↦ lt ] ]

same_test : (a b c d : ℕ) → (a < b → c < d) → (b ≤ a → d ≤ c) → ltb a b ≡ ltb c d
same_test a b c d f g = elim (cases_lt a b) [
  | inl lt ↦ lt-ltb a b lt ∙ sym (lt-ltb c d (f lt))
  | inr le ↦ le-ltb a b le ∙ sym (le-ltb c d (g le))
]

pub by_length : (a b : List ℕ) → is_number a ≡ true → is_number b ≡ true → (length a ≡ length b → ⊥) → ltb (length a) (length b) ≡ ltb (digits_value 10 a) (digits_value 10 b)
by_length a b ea eb ne = same_test _ _ _ _ (longer a b ea eb) (λ le. let h = longer b a eb ea (strict _ _ le ne) in omega (arith, h))

ltb_add : (q x y : ℕ) → ltb (q + x) (q + y) ≡ ltb x y
ltb_add q x y = same_test _ _ _ _ (λ lt. omega arith) (λ le. omega arith)

-- of as many digits, the first that differ decide
pub by_digit : (a b : List ℕ) (k : ℕ) → list_all is_digit a ≡ true → list_all is_digit b ≡ true → length a ≡ length b → k < length a → ((j : ℕ) → j < k → get_or a j 0 ≡ get_or b j 0) → (get_or a k 0 ≡ get_or b k 0 → ⊥) → ltb (get_or a k 0) (get_or b k 0) ≡ ltb (digits_value 10 a) (digits_value 10 b)
by_digit [] b k da db len lt same ne = absurd (omega arith)
by_digit (x ∷ xs) [] k da db len lt same ne = absurd (omega arith)
by_digit (x ∷ xs) (y ∷ ys) zero da db len lt same ne =
    let px : (is_digit x ≡ true) × (list_all is_digit xs ≡ true) = and_parts _ _ da in
    let py : (is_digit y ≡ true) × (list_all is_digit ys ≡ true) = and_parts _ _ db in
    let vx = digit-value x px.0 in
    let vy = digit-value y py.0 in
    let lens : length xs ≡ length ys = omega (arith, len) in
    let same_pow : 10 ^ length ys ≡ 10 ^ length xs = ap (λ n. 10 ^ n) (sym lens) in
    let hx = value-lt xs px.1 in
    let hy = value-lt ys py.1 in
    let cx = value-cons x xs in
    let cy = value-cons y ys in
    first_digit x y (digit_value x) (digit_value y) (10 ^ length xs) (digits_value 10 xs) (digits_value 10 ys) (digits_value 10 (x ∷ xs)) (digits_value 10 (y ∷ ys)) vx.0 vy.0 ne hx (subst (λ p. digits_value 10 ys < p) same_pow hy) cx (subst (λ p. digits_value 10 (y ∷ ys) ≡ digit_value y * p + digits_value 10 ys) same_pow cy)
  where
    first_digit : (x y vx vy p u v m n : ℕ) → vx + 48 ≡ x → vy + 48 ≡ y → (x ≡ y → ⊥) → u < p → v < p → m ≡ vx * p + u → n ≡ vy * p + v → ltb x y ≡ ltb m n
    first_digit x y vx vy p u v m n ex ey ne lu lv em en = same_test x y m n
        (λ lt. let mul : (vx + 1) * p ≤ vy * p = mul-le-mul_right p (omega arith) in omega (arith, mul))
        (λ le. let lt : y < x = strict x y le ne in let mul : (vy + 1) * p ≤ vx * p = mul-le-mul_right p (omega arith) in omega (arith, mul))
by_digit (x ∷ xs) (y ∷ ys) (suc k) da db len lt same ne =
    let px : (is_digit x ≡ true) × (list_all is_digit xs ≡ true) = and_parts _ _ da in
    let py : (is_digit y ≡ true) × (list_all is_digit ys ≡ true) = and_parts _ _ db in
    let head : x ≡ y = same 0 (omega arith) in
    let lens : length xs ≡ length ys = omega (arith, len) in
    let rest = by_digit xs ys k px.1 py.1 lens (omega arith) (λ j h. same (suc j) (omega arith)) ne in
    let front : digit_value y * 10 ^ length ys ≡ digit_value x * 10 ^ length xs = same_front x y (length xs) (length ys) head lens in
    let cx = value-cons x xs in
    let cy : digits_value 10 (y ∷ ys) ≡ digit_value x * 10 ^ length xs + digits_value 10 ys = value-cons y ys ∙ ap (λ q. q + digits_value 10 ys) front in
    rest ∙ sym (ltb_add (digit_value x * 10 ^ length xs) (digits_value 10 xs) (digits_value 10 ys)) ∙ both _ _ _ _ (sym cx) (sym cy)
  where
    same_front : (x y m n : ℕ) → x ≡ y → m ≡ n → digit_value y * 10 ^ n ≡ digit_value x * 10 ^ m
    same_front x y m n e f = cc

    both : (a b c d : ℕ) → a ≡ c → b ≡ d → ltb a b ≡ ltb c d
    both a b c d e f = cc

pub same_digits : (a b : List ℕ) → length a ≡ length b → ((j : ℕ) → j < length a → get_or a j 0 ≡ get_or b j 0) → false ≡ ltb (digits_value 10 a) (digits_value 10 b)
same_digits a b len same =
    let e : a ≡ b = ext_get_or 0 a b len same in
    sym (le-ltb _ _ (omega (arith, ap (digits_value 10) e)))

-- more than twenty digits write more than 64 bits hold
pub capped-long : (word : List ℕ) → is_number word ≡ true → 20 < length word → min (digits_value 10 word) (2 ^ 64) ≡ 2 ^ 64
capped-long [] e h = absurd (omega arith)
capped-long (c ∷ cs) e h =
    let low = value-ge c cs e (omega arith) in
    let le : 20 ≤ length cs = omega arith in
    let pow : 10 ^ 20 ≤ 10 ^ length cs = pow-le-pow_right (omega arith) le in
    min-eq_right (omega (arith, low, pow))

pub value-small : (ds : List ℕ) → list_all is_digit ds ≡ true → length ds ≤ 20 → digits_value 10 ds < 10 ^ 20
value-small ds e few =
    let high = value-lt ds e in
    let pow : 10 ^ length ds ≤ 10 ^ 20 = pow-le-pow_right (omega arith) few in
    omega (arith, high, pow)

-- the bound on the number so far, one digit on
pub room : (value digit i : ℕ) → value < 10 ^ i → i < 20 → digit < 10 → (value * 10 + digit < 10 ^ (i + 1)) × (value * 10 + digit < 10 ^ 20)
room value digit i lt few small =
    let pow : 10 ^ suc i ≡ 10 ^ i * 10 = pow-suc 10 i in
    let one : i + 1 ≡ suc i = omega arith in
    let at : 10 ^ (i + 1) ≡ 10 ^ suc i = ap (λ n. 10 ^ n) one in
    let le : suc i ≤ 20 = omega arith in
    let top : 10 ^ suc i ≤ 10 ^ 20 = pow-le-pow_right (omega arith) le in
    (omega (arith, pow, at), omega (arith, pow, top))

-- one digit more
pub record Steps (word : List ℕ) (value i byte : ℕ) : Type 0 where
  pub low : 48 ≤ byte
  pub next : value * 10 + (byte - 48) ≡ digits_value 10 (take (i + 1) word)
  pub small : value * 10 + (byte - 48) < 10 ^ (i + 1)
  pub fits : value * 10 + (byte - 48) < 10 ^ 20

pub steps : (word : List ℕ) (value i : ℕ) → is_number word ≡ true → length word < 21 → i < length word → value ≡ digits_value 10 (take i word) → value < 10 ^ i → Steps word value i (get_or word i 0)
steps word value i e few lt so_far small =
    let digit : is_digit (get_or word i 0) ≡ true = AllPass-from_list_all is_digit word (IsNumber-from word e).digits i 0 lt in
    let v = digit-value (get_or word i 0) digit in
    let d : digit_value (get_or word i 0) ≡ get_or word i 0 - 48 = omega (arith, v.0) in
    let r = room value (get_or word i 0 - 48) i small (omega arith) (omega (arith, v.1, d)) in
    record {
      low = omega (arith, v.0);
      next = omega (arith, so_far, d, digits_value_more 10 word i lt);
      small = r.0;
      fits = r.1;
    }

pub number_of-none : (word : List ℕ) → is_number word ≡ false → number_of word ≡ None
unfolding number_of
number_of-none word e = rw e refl

pub number_of-some : (word : List ℕ) → is_number word ≡ true → number_of word ≡ Some (digits_value 10 word)
unfolding number_of
number_of-some word e = rw e refl

pub number-none : (word : List ℕ) → is_number word ≡ false → None ≡ option_map capped (number_of word)
number-none word e = rw (number_of-none word e) refl

pub number-long : (word : List ℕ) → is_number word ≡ true → 20 < length word → Some (2 ^ 64) ≡ option_map capped (number_of word)
number-long word e long = rw (number_of-some word e, capped-long word e long) refl

pub number-short : (word : List ℕ) (n k : ℕ) → is_number word ≡ true → n ≡ digits_value 10 word → k ≡ min n (2 ^ 64) → Some k ≡ option_map capped (number_of word)
number-short word n k e value kept = rw (number_of-some word e) (ap Some (kept ∙ ap (λ m. min m (2 ^ 64)) value))

-- what a word that writes a number is
pub number_of-found : (word : List ℕ) (n : ℕ) → number_of word ≡ Some n → (is_number word ≡ true) × (digits_value 10 word ≡ n)
unfolding number_of
number_of-found word n e = found (is_number word) (digits_value 10 word) n e
  where
    found : (b : Bool) (m n : ℕ) → cond b (Some m) None ≡ Some n → (b ≡ true) × (m ≡ n)
    found true m n e = (refl, cc)
    found false m n e = absurd cc

tests : (b : Bool) (x y m n : ℕ) → b ≡ ltb x y → x ≡ m → y ≡ n → b ≡ ltb m n
tests b x y m n e f g = cc

pub below-length : (a b : List ℕ) (m n : ℕ) → number_of a ≡ Some m → number_of b ≡ Some n → (length a ≡ length b → ⊥) → ltb (length a) (length b) ≡ ltb m n
below-length a b m n ea eb ne =
    let fa = number_of-found a m ea in
    let fb = number_of-found b n eb in
    tests _ _ _ m n (by_length a b fa.0 fb.0 ne) fa.1 fb.1

pub below-digit : (a b : List ℕ) (m n k : ℕ) → number_of a ≡ Some m → number_of b ≡ Some n → length a ≡ length b → k < length a → ((j : ℕ) → j < k → get_or a j 0 ≡ get_or b j 0) → (get_or a k 0 ≡ get_or b k 0 → ⊥) → ltb (get_or a k 0) (get_or b k 0) ≡ ltb m n
below-digit a b m n k ea eb len lt same ne =
    let fa = number_of-found a m ea in
    let fb = number_of-found b n eb in
    tests _ _ _ m n (by_digit a b k (IsNumber-from a fa.0).digits (IsNumber-from b fb.0).digits len lt same ne) fa.1 fb.1

pub below-same : (a b : List ℕ) (m n : ℕ) → number_of a ≡ Some m → number_of b ≡ Some n → length a ≡ length b → ((j : ℕ) → j < length a → get_or a j 0 ≡ get_or b j 0) → false ≡ ltb m n
below-same a b m n ea eb len same =
    let fa = number_of-found a m ea in
    let fb = number_of-found b n eb in
    tests _ _ _ m n (same_digits a b len same) fa.1 fb.1
