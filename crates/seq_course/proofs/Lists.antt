-- The same events several times, and the events at a place of a list.
use Rattle.std.proofs.Common.{◌≡◌, ℕ, zero, suc, ◌+◌, ◌-◌, ◌*◌, ◌<◌, ◌≤◌, List, [], ◌∷◌, ◌++◌, length, take, drop, get_or, refl, sym, ◌∙◌, ap, arith, append-nil, append_assoc, length-append}
use Rattle.std.proofs.lemmas.List.{take-append-drop, take_more, drop_more}
use Rattle.std.proofs.Math.Nat.{zero-mul, suc-mul}
use Rattle.seq_words.specs.declared.events.Event.{Event}
use Rattle.seq_schedule.specs.Scripted.{times}

-- so many times, and so many more
pub times_add : (a b n : ℕ) (es : List Event) → a + b ≡ n → times n es ≡ times a es ++ times b es
unfolding times
times_add zero b n es e = ap (λ k. times k es) (omega (arith, e))
times_add (suc a) b zero es e = absurd (omega (arith, e))
times_add (suc a) b (suc n) es e = ap (λ (xs : List Event). es ++ xs) (times_add a b n es (omega (arith, e))) ∙ sym (append_assoc es (times a es) (times b es))

times_one : (es : List Event) → times 1 es ≡ es
unfolding times
times_one es = append-nil es

-- once more, at the end
pub times_more : (n : ℕ) (es : List Event) → times (n + 1) es ≡ times n es ++ es
times_more n es = times_add n 1 (n + 1) es refl ∙ ap (λ (xs : List Event). times n es ++ xs) (times_one es)

-- once of what is left
pub times_left : (i n : ℕ) (es : List Event) → i < n → times (n - i) es ≡ es ++ times (n - (i + 1)) es
times_left i n es lt = times_add 1 (n - (i + 1)) (n - i) es (omega (arith, lt)) ∙ ap (λ (xs : List Event). xs ++ times (n - (i + 1)) es) (times_one es)

pub times_split : (i n : ℕ) (es : List Event) → i < n → times n es ≡ times i es ++ (es ++ times (n - (i + 1)) es)
times_split i n es lt = times_add i (n - i) n es (omega (arith, lt)) ∙ ap (λ (xs : List Event). times i es ++ xs) (times_left i n es lt)

pub length_times : (n : ℕ) (es : List Event) → length (times n es) ≡ n * length es
unfolding times
length_times zero es = sym (zero-mul (length es))
length_times (suc n) es = length-append es (times n es) ∙ (let rest = length_times n es in let more = suc-mul n (length es) in omega (arith, rest, more))

pub fewer_times : (k n : ℕ) (es : List Event) → k ≤ n → length (times k es) ≤ length (times n es)
fewer_times k n es le =
    let both = ap length (times_add k (n - k) n es (omega (arith, le))) in
    let sum = length-append (times k es) (times (n - k) es) in
    omega (arith, both, sum)

-- ---- the event at a place
module _ {A : Type 0} (xs : List A) (i : ℕ) (none x : A) (inside : i < length xs) (is : get_or xs i none ≡ x) where
  pub left_at : drop i xs ≡ (x ∷ []) ++ drop (i + 1) xs
  left_at = drop_more xs i none inside ∙ ap (λ (y : A). y ∷ drop (i + 1) xs) is

  pub next_at : take (i + 1) xs ≡ take i xs ++ (x ∷ [])
  next_at = take_more xs i none inside ∙ ap (λ (y : A). take i xs ++ (y ∷ [])) is

  pub split_at : xs ≡ take i xs ++ ((x ∷ []) ++ drop (i + 1) xs)
  split_at = sym (take-append-drop i xs) ∙ ap (λ (ys : List A). take i xs ++ ys) left_at
