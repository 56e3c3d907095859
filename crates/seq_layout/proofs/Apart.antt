-- Two copies of parts that stand at one place are the same copy of the same part.
use Rattle.std.proofs.Common.{cond, length, ◌≡◌, ℕ, zero, suc, ◌+◌, ◌%◌, ◌<◌, ◌≤◌, Bool, true, false, List, get_or, arith, refl, ◌*◌, ◌/◌, inl, inr, sym, subst, ap}
use Rattle.std.specs.Prelude.{if◌then◌else◌, ◌==◌}
use Rattle.std.proofs.Math.Nat.{suc-mod, mod_self, mod-eq_of_lt}
use Rattle.std.proofs.lemmas.Nat.{div-add-mod', mul-le, mod_below}
use Rattle.std.proofs.lemmas.Bool.Decides.{nat_tests}
use Rattle.std.proofs.lemmas.Bool.{cases_order, cases_lt, cases_eq, eq-eqb, ne_eqb}
use Rattle.seq_layout.specs.Places.{memory_of, keeps, start_of, place_of, IsPlace, IsSamePart, AreApart}

-- the starts rise
start_more : (m : ℕ) (sizes : List ℕ) (k i : ℕ) → start_of m sizes k i ≤ start_of m sizes k (suc i)
unfolding start_of
start_more m sizes k i = omega arith

start_next : (m : ℕ) (sizes : List ℕ) (k i : ℕ) → keeps m k i ≡ true → start_of m sizes k (suc i) ≡ start_of m sizes k i + get_or sizes i 0
unfolding start_of
start_next m sizes k i e = rw e refl

-- no start is above the last
pub starts_rise : (m : ℕ) (sizes : List ℕ) (k i j : ℕ) → i ≤ j → start_of m sizes k i ≤ start_of m sizes k j
starts_rise m sizes k i zero h = let same : i ≡ 0 = omega arith in rw same (omega arith)
starts_rise m sizes k i (suc j) h =
    let more = start_more m sizes k j in
    elim (cases_eq i (suc j)) [
      | inl same ↦ rw same (omega arith)
      | inr other ↦ let before = starts_rise m sizes k i j (omega arith) in omega arith
    ]

-- the start of the next extent
pub start_step : (m : ℕ) (sizes : List ℕ) (k i : ℕ) → start_of m sizes k (i + 1) ≡ start_of m sizes k i + cond (keeps m k i) (get_or sizes i 0) 0
unfolding start_of
start_step m sizes k i = let next : i + 1 ≡ suc i = omega arith in ap (start_of m sizes k) next

pub start_first : (m : ℕ) (sizes : List ℕ) (k : ℕ) → start_of m sizes k 0 ≡ 0
unfolding start_of
start_first m sizes k = refl

-- an extent that a memory keeps ends before the next one starts
pub ends_before : (m : ℕ) (sizes : List ℕ) (k i j : ℕ) → keeps m k i ≡ true → i < j → start_of m sizes k i + get_or sizes i 0 ≤ start_of m sizes k j
ends_before m sizes k i zero e h = absurd (omega arith)
ends_before m sizes k i (suc j) e h =
    let more = start_more m sizes k j in
    elim (cases_eq i j) [
      | inl same ↦ let next = start_next m sizes k i e in grind (arith, same)
      | inr other ↦ let before = ends_before m sizes k i j e (omega arith) in omega arith
    ]

-- the memory of a copy keeps the extent
pub keeps_copy : (m e : ℕ) (c : Bool) → keeps m (memory_of m e c) e ≡ true
keeps_copy m e false = grind (arith, nat_tests)
keeps_copy m e true = grind (arith, nat_tests)

-- the two copies of an extent stand on different memories
pub copies_apart : (m e : ℕ) → 2 ≤ m → e % m ≡ (e + 1) % m → ⊥
copies_apart m e two s =
    let first : e / m * m + e % m ≡ e = div-add-mod' e m in
    let second : (e + 1) / m * m + (e + 1) % m ≡ e + 1 = div-add-mod' (e + 1) m in
    elim (cases_lt (e / m) ((e + 1) / m)) [
      | inl above ↦ let more : (e / m + 1) * m ≤ (e + 1) / m * m = mul-le (e / m + 1) m ((e + 1) / m) m (omega arith) (omega arith) in omega arith
      | inr below ↦ let less : (e + 1) / m * m ≤ e / m * m = mul-le ((e + 1) / m) m (e / m) m (omega arith) (omega arith) in omega arith
    ]

same_copy_of : (m e : ℕ) (c c' : Bool) → 2 ≤ m → memory_of m e c ≡ memory_of m e c' → c ≡ c'
same_copy_of m e false false two h = refl
same_copy_of m e false true two h = absurd (copies_apart m e two h)
same_copy_of m e true false two h = absurd (copies_apart m e two (sym h))
same_copy_of m e true true two h = refl

-- no two extents have a place in common
extent_apart : (m : ℕ) (sizes : List ℕ) (e n : ℕ) (c : Bool) (e' n' : ℕ) (c' : Bool) → n < get_or sizes e 0 → memory_of m e c ≡ memory_of m e' c' → place_of m sizes e n c ≡ place_of m sizes e' n' c' → e < e' → ⊥
extent_apart m sizes e n c e' n' c' within same_memory same_place less =
    let before = ends_before m sizes (memory_of m e c) e e' (keeps_copy m e c) less in
    let there : start_of m sizes (memory_of m e c) e + n ≡ start_of m sizes (memory_of m e c) e' + n' = rw same_memory (rw same_memory at same_place) in
    omega arith

same_extent : (m : ℕ) (sizes : List ℕ) (e n : ℕ) (c : Bool) (e' n' : ℕ) (c' : Bool) → 2 ≤ m → memory_of m e c ≡ memory_of m e' c' → place_of m sizes e n c ≡ place_of m sizes e' n' c' → e ≡ e' → IsSamePart e n c e' n' c'
same_extent m sizes e n c e' n' c' two same_memory same_place same =
    let memory : memory_of m e c ≡ memory_of m e c' = subst (λ x. memory_of m e c ≡ memory_of m x c') (sym same) same_memory in
    let copy = same_copy_of m e c c' two memory in
    let place : place_of m sizes e n c ≡ place_of m sizes e n' c' = subst (λ x. place_of m sizes e n c ≡ place_of m sizes x n' c') (sym same) same_place in
    let start : place_of m sizes e n c ≡ place_of m sizes e n' c = subst (λ x. place_of m sizes e n c ≡ place_of m sizes e n' x) (sym copy) place in
    record { extent = same; part = omega arith; copy = copy }

pub apart : (m : ℕ) (sizes : List ℕ) → 2 ≤ m → AreApart m sizes
apart m sizes two e n c e' n' c' p q same_memory same_place =
    elim (cases_order e e') [
      | inl same ↦ same_extent m sizes e n c e' n' c' two same_memory same_place same
      | inr (inl less) ↦ absurd (extent_apart m sizes e n c e' n' c' p.part_in same_memory same_place less)
      | inr (inr more) ↦ absurd (extent_apart m sizes e' n' c' e n c q.part_in (sym same_memory) (sym same_place) more)
    ]

-- the memory of a copy is one of the memories
pub memory_in : (m e : ℕ) (c : Bool) → 0 < m → memory_of m e c < m
memory_in m e false h = mod_below e m h
memory_in m e true h = mod_below (e + 1) m h

-- a place is below the end of its memory
pub place_fits : (m : ℕ) (sizes : List ℕ) (k e n : ℕ) (c : Bool) (top : ℕ) → IsPlace sizes e n → k ≡ memory_of m e c → start_of m sizes k (length sizes) < top → start_of m sizes k e + n < top
place_fits m sizes k e n c top p here below =
    let kept : keeps m k e ≡ true = rw here (keeps_copy m e c) in
    omega (arith, p.part_in, ends_before m sizes k e (length sizes) kept p.extent_in)

-- the size of an extent that is kept can be added to its start
pub start_adds : (m : ℕ) (sizes : List ℕ) (k i j top : ℕ) → keeps m k i ≡ true → i < j → start_of m sizes k j < top → start_of m sizes k i + get_or sizes i 0 < top
start_adds m sizes k i j top kept less below = omega (arith, ends_before m sizes k i j kept less)

-- the memory after that of an extent's primary is its shadow's
pub next_memory : (e m : ℕ) → (e % m + 1) % m ≡ (e + 1) % m
next_memory e m =
    let one : e % m + 1 ≡ suc (e % m) = omega arith in
    let next : e + 1 ≡ suc e = omega arith in
    rw (one, next) (sym (suc-mod e m))

-- a memory after another one, where there are more, and where there is none
pub wrapped : (k m : ℕ) → k < m → (k + 1) % m ≡ (if k + 1 == m then 0 else k + 1)
wrapped k m below =
    elim (cases_eq (k + 1) m) [
      | inl last ↦ rw last (rw (eq-eqb m m refl) (mod_self m))
      | inr more ↦ rw (ne_eqb (k + 1) m more) (mod-eq_of_lt (omega (arith, more)))
    ]
