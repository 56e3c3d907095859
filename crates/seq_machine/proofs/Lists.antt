-- Lists that are changed at one place, read as functions.
use Rattle.std.proofs.Math.Path.{fun_ext}
use Rattle.std.proofs.Common.{◌≡◌, inl, inr, ℕ, ◌+◌, ◌<◌, Bool, false, List, [], ◌∷◌, ◌++◌, length, get_or, set, replicate, Some, arith, ap, sym, ◌∙◌, subst, get_or-set_same, get_or-set_other}
use Rattle.std.specs.Prelude.{slice_get, slice_index_or, slice_set}
use Rattle.std.proofs.lemmas.Bool.{cases_lt, cases_eq}
use Rattle.std.proofs.lemmas.List.{replicate-append-replicate, get_or-replicate, get_or_past, length-replicate}
use Rattle.std.proofs.lemmas.Option.{get_or_from_slice_get}
use Rattle.seq_turns.specs.Functions.{update}
use Rattle.seq_turns.proofs.Functions.{update_cases}

-- a list with another element at a place is the function that is changed there
pub set_is_update : {A : Type 0} (xs : List A) (k : ℕ) (y d : A) → k < length xs → (λ j. get_or (set xs k y) j d) ≡ update (λ j. get_or xs j d) k y
set_is_update {A} xs k y d inside = fun_ext (λ j. sym (update_cases (λ z. z ≡ get_or (set xs k y) j d) (λ j. get_or xs j d) k y j
    (λ e. let P : ℕ → Type 0 = λ i. y ≡ get_or (set xs k y) i d in subst P (sym e) (sym (get_or-set_same xs k y d inside)))
    (λ ne. sym (get_or-set_other xs k j y d ne))))

-- a list whose item at a place was found, and is changed by f
pub set_by : {A : Type 0} (f : A → A) (xs : List A) (k : ℕ) (found d : A) → k < length xs → slice_get xs k ≡ Some found → (λ j. get_or (set xs k (f found)) j d) ≡ update (λ j. get_or xs j d) k (f (get_or xs k d))
set_by f xs k found d inside is = set_is_update xs k (f found) d inside ∙ ap (λ x. update (λ j. get_or xs j d) k (f x)) (sym (get_or_from_slice_get xs k found d is))

-- one copy more
pub one_more : {A : Type 0} (n : ℕ) (x : A) → replicate n x ++ x ∷ [] ≡ replicate (n + 1) x
one_more n x = replicate-append-replicate n 1 x

-- whatever place is read of copies of the default
pub copies_of_one : {A : Type 0} (n k : ℕ) (x : A) → get_or (replicate n x) k x ≡ x
copies_of_one n k x = elim (cases_lt k n) [ inl lt ↦ get_or-replicate n k x x lt | inr past ↦ get_or_past (replicate n x) k x (omega (arith, past, length-replicate n x)) ]

-- marks below a place, and the one that is set there
pub marked_on : (marks : List Bool) (at : ℕ) (v : Bool) (f : ℕ → Bool) → at < length marks → ((p : ℕ) → p < at → slice_index_or marks p false ≡ f p) → v ≡ f at → (p : ℕ) → p < at + 1 → slice_index_or (slice_set marks at v) p false ≡ f p
marked_on marks at v f inside below here p under = elim (cases_eq p at) [
  | inl same ↦ rw same (get_or-set_same marks at v false inside ∙ here)
  | inr other ↦ get_or-set_other marks at p v false other ∙ below p (omega (arith, under, other))
]
