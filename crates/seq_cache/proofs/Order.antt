-- The order of blocks by extent, then place, and ascending lists.
use Rattle.std.proofs.Common.{◌≡◌, ℕ, zero, suc, ◌<◌, true, false, ◌&&◌, ◌==◌, All, List, ◌∷◌, length, get_or, subst, arith}
use Rattle.std.proofs.lemmas.Bool.Decides.{nat_tests}
use Rattle.std.proofs.lemmas.List.Elements.{All-cons}
use Rattle.seq_cache.specs.declared.change.Change.{Change}
use Rattle.seq_cache.specs.Changes.{is_before, IsAscending}

-- an order of any three blocks
pub before_trans : (e n e' n' e'' n'' : ℕ) → is_before e n e' n' ≡ true → is_before e' n' e'' n'' ≡ true → is_before e n e'' n'' ≡ true
before_trans e n e' n' e'' n'' p q = grind (arith, nat_tests)

-- of two blocks one comes first, or they are the same
pub before_cases : (e n e' n' : ℕ) → is_before e n e' n' ≡ false → (e' == e && n' == n) ≡ false → is_before e' n' e n ≡ true
before_cases e n e' n' p q = grind (arith, nat_tests)

-- a block that comes first is another
pub before_differs : (e n e' n' : ℕ) → is_before e n e' n' ≡ true → (e' == e && n' == n) ≡ false
before_differs e n e' n' p = grind (arith, nat_tests)

pub differs_before : (e n e' n' : ℕ) → is_before e n e' n' ≡ true → (e == e' && n == n') ≡ false
differs_before e n e' n' p = grind (arith, nat_tests)

-- nor does the other come before it
pub not_after : (e n e' n' : ℕ) → is_before e n e' n' ≡ true → is_before e' n' e n ≡ false
not_after e n e' n' p = grind (arith, nat_tests)

-- two blocks are the same
pub same_block : (e n e' n' : ℕ) → (e == e' && n == n') ≡ true → (e ≡ e') × (n ≡ n')
same_block e n e' n' p = (grind (arith, nat_tests), grind (arith, nat_tests))

-- all changes of a list come after a block
abbrev pub AllAfter : ℕ → ℕ → List Change → Type 0
AllAfter e n cs = All (λ d. is_before e n d.extent.0 d.place ≡ true) cs

-- the first change of an ascending list, and the rest
pub after_first : (c : Change) (cs : List Change) → IsAscending (c ∷ cs) → AllAfter c.extent.0 c.place cs
after_first c cs up k d inside = up.pairs 0 (suc k) d (omega arith) (omega arith)

pub rest_ascending : (c : Change) (cs : List Change) → IsAscending (c ∷ cs) → IsAscending cs
rest_ascending c cs up = record { pairs = λ i j d lt inside. up.pairs (suc i) (suc j) d (omega arith) (omega arith) }

pub cons_ascending : (c : Change) (cs : List Change) → AllAfter c.extent.0 c.place cs → IsAscending cs → IsAscending (c ∷ cs)
cons_ascending c cs after up = record { pairs = pairs }
  where
    pairs : (i j : ℕ) (d : Change) → i < j → j < length (c ∷ cs) → is_before (get_or (c ∷ cs) i d).extent.0 (get_or (c ∷ cs) i d).place (get_or (c ∷ cs) j d).extent.0 (get_or (c ∷ cs) j d).place ≡ true
    pairs i zero d lt inside = absurd (omega arith)
    pairs zero (suc j) d lt inside = after j d (omega arith)
    pairs (suc i) (suc j) d lt inside = up.pairs i j d (omega arith) (omega arith)

-- a block that comes before the first change comes before all
pub after_cons : (e n : ℕ) (c : Change) (cs : List Change) → is_before e n c.extent.0 c.place ≡ true → AllAfter c.extent.0 c.place cs → AllAfter e n (c ∷ cs)
after_cons e n c cs before after =
    All-cons (λ d. is_before e n d.extent.0 d.place ≡ true) c cs before
    (λ k d inside. before_trans e n c.extent.0 c.place _ _ before (after k d inside))

-- a block comes before what its change comes before
pub after_same : (e n : ℕ) (c : Change) (cs : List Change) → (c.extent.0 == e && c.place == n) ≡ true → AllAfter c.extent.0 c.place cs → AllAfter e n cs
after_same e n c cs same after =
    let is = same_block c.extent.0 c.place e n same in
    subst (λ m. AllAfter m n cs) is.0 (subst (λ m. AllAfter c.extent.0 m cs) is.1 after)
