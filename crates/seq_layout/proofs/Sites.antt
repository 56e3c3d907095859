-- The sites of an extent are found at its number.
use Rattle.std.proofs.Common.{◌≡◌, ℕ, ◌+◌, ◌<◌, ◌≤◌, ◌^◌, Bool, true, false, List, get_or, [], ◌∷◌, ◌++◌, length, map, slice_get, Some, arith, sym, subst, ◌∙◌}
use Rattle.std.specs.List.{range_with_len}
use Rattle.std.proofs.lemmas.List.FromFn.{map-range_with_len_more, get_or-map-range_with_len, length-map-range_with_len}
use Rattle.std.proofs.lemmas.Option.{get_or_from_slice_get}
use Rattle.seq_layout.specs.declared.starts.Sites.{Sites}
use Rattle.seq_layout.specs.Places.{memory_of}
use Rattle.seq_layout.specs.Tables.{Spread, AreStarts, site_of, sites_at, sites_of}
use Rattle.seq_layout.proofs.Apart.{memory_in, keeps_copy, start_adds}

-- the sites of one more extent
pub one_more : (s : Spread) (e : ℕ) → map (sites_at s) (range_with_len 0 (e + 1)) ≡ map (sites_at s) (range_with_len 0 e) ++ sites_at s e ∷ []
one_more s e = map-range_with_len_more (sites_at s) 0 e e (omega arith)

-- there are sites of each extent
pub all : (s : Spread) → length (sites_of s) ≡ length s.sizes
all s = length-map-range_with_len (sites_at s) 0 (length s.sizes)

pub found : (s : Spread) (e : ℕ) (t : Sites) → e < length s.sizes → slice_get (sites_of s) e ≡ Some t → t ≡ sites_at s e
found s e t inside there = sym (get_or_from_slice_get (sites_of s) e t t there) ∙ get_or-map-range_with_len (sites_at s) 0 (length s.sizes) e e t inside (omega arith)

-- the memory of a site is one of the memories
pub is_inside : (s : Spread) (e : ℕ) (c : Bool) → 2 ≤ s.memories → (site_of s e c).memory.0 < s.memories
is_inside s e c two = memory_in s.memories e c (omega (arith, two))

-- an extent ends where numbers of 32 bits do, or before
fits : (s : Spread) (starts : List (List ℕ)) (sites : List Sites) (e : ℕ) (c : Bool) → AreStarts s starts sites → e < length s.sizes → (site_of s e c).start + get_or s.sizes e 0 < 2 ^ 32
fits s starts sites e c are inside =
    let m = memory_of s.memories e c in
    start_adds s.memories s.sizes m e (length s.sizes) (2 ^ 32) (keeps_copy s.memories e c) inside (are.fits m (memory_in s.memories e c (omega (arith, are.enough))))

pub primary_fits : (s : Spread) (starts : List (List ℕ)) (sites : List Sites) (e : ℕ) (t : Sites) → AreStarts s starts sites → e < length s.sizes → slice_get sites e ≡ Some t → t.primary.start + get_or s.sizes e 0 < 2 ^ 32
primary_fits s starts sites e t are inside there =
    rw (found s e t inside (subst (λ l. slice_get l e ≡ Some t) are.site_is there)) (fits s starts sites e false are inside)

pub shadow_fits : (s : Spread) (starts : List (List ℕ)) (sites : List Sites) (e : ℕ) (t : Sites) → AreStarts s starts sites → e < length s.sizes → slice_get sites e ≡ Some t → t.shadow.start + get_or s.sizes e 0 < 2 ^ 32
shadow_fits s starts sites e t are inside there =
    rw (found s e t inside (subst (λ l. slice_get l e ≡ Some t) are.site_is there)) (fits s starts sites e true are inside)
