-- A list that is taken element by element.
use Rattle.std.proofs.Common.{◌≡◌, ◌+◌, ◌<◌, ℕ, List, [], ◌∷◌, ◌++◌, Some, None, length, take, sym, ◌∙◌, arith}
use Rattle.std.specs.List.{slice_get}
use Rattle.std.proofs.lemmas.List.{take_more}
use Rattle.std.proofs.lemmas.Option.{slice_get_within, slice_get-get_or, get_or_from_slice_get, none-some}

pub take_next : (xs all : List ℕ) (n b : ℕ) → all ≡ take n xs → Some b ≡ slice_get xs n → all ++ b ∷ [] ≡ take (n + 1) xs
take_next xs all n b e s = grind (arith, e, take_more xs n 0 (slice_get_within xs n b (sym s)), get_or_from_slice_get xs n b 0 (sym s))

-- an index within the list has an element
pub has_none : (xs : List ℕ) (n : ℕ) → n < length xs → None ≡ slice_get xs n → ⊥
has_none xs n within e = none-some _ (e ∙ slice_get-get_or xs n 0 within)
