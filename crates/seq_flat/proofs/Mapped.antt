-- A loop that replaces each element by what a function makes of it.
use Rattle.std.proofs.Common.{◌≡◌, ℕ, suc, ◌+◌, ◌<◌, List, [], ◌∷◌, ◌++◌, length, map, take, drop, get_or, set, arith, refl, add-one, append_assoc, drop-cons}
use Rattle.std.proofs.lemmas.List.{drop-set-lt}
use Rattle.std.proofs.lemmas.Grind.{take-set_at}

-- one element more
pub mapped_more : {A : Type 0} (f : A → A) (xs : List A) (i : ℕ) (y d : A) → i < length xs → y ≡ f (get_or xs i d) → take (i + 1) (set xs i y) ++ map f (drop (i + 1) (set xs i y)) ≡ take i xs ++ map f (drop i xs)
mapped_more f xs i y d lt made =
    let front : take (i + 1) (set xs i y) ≡ take i xs ++ y ∷ [] = take-set_at xs i (i + 1) y refl lt in
    let rest : drop (i + 1) (set xs i y) ≡ drop (i + 1) xs = drop-set-lt (i + 1) xs i y (omega arith) in
    let here : drop i xs ≡ get_or xs i d ∷ drop (suc i) xs = drop-cons xs i d lt in
    let next : i + 1 ≡ suc i = add-one i in
    rw (front, rest, here, next, made) (append_assoc (take i xs) (f (get_or xs i d) ∷ []) (map f (drop (suc i) xs)))
