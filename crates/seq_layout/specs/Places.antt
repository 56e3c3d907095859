-- Where the copies of extents stand. Every extent has two copies: its primary, and its shadow on the memory after it.
use Rattle.std.specs.Prelude.{◌≡◌, ℕ, zero, suc, ◌+◌, ◌%◌, ◌<◌, Bool, true, false, if◌then◌else◌, ◌==◌, ◌||◌, ◌&&◌, nat_lt, List, length, slice_index}

-- the memory of a copy of an extent
abbrev pub memory_of : ℕ → ℕ → Bool → ℕ
memory_of memories extent false = extent % memories
memory_of memories extent true = (extent + 1) % memories

-- whether a memory keeps a copy of an extent
abbrev pub keeps : ℕ → ℕ → ℕ → Bool
keeps memories memory extent = (extent % memories == memory) || ((extent + 1) % memories == memory)

-- With the sizes of all extents: how much a memory keeps for the extents before this one.
unfoldable pub start_of : ℕ → List ℕ → ℕ → ℕ → ℕ
start_of memories sizes memory zero = 0
start_of memories sizes memory (suc extent) = start_of memories sizes memory extent + (if keeps memories memory extent then slice_index sizes extent else 0)

-- the place of the n-th part of an extent in the memory of its copy
abbrev pub place_of : ℕ → List ℕ → ℕ → ℕ → Bool → ℕ
place_of memories sizes extent n shadow = start_of memories sizes (memory_of memories extent shadow) extent + n

-- the extent has an n-th part
pub record IsPlace (sizes : List ℕ) (extent n : ℕ) : Type 0 where
  pub extent_in : extent < length sizes
  pub part_in : n < slice_index sizes extent

abbrev pub is_place : List ℕ → ℕ → ℕ → Bool
is_place sizes extent n = nat_lt extent (length sizes) && nat_lt n (slice_index sizes extent)

-- Two parts of extents are the same copy of the same part.
pub record IsSamePart (e n : ℕ) (c : Bool) (e' n' : ℕ) (c' : Bool) : Type 0 where
  pub extent : e ≡ e'
  pub part : n ≡ n'
  pub copy : c ≡ c'

-- Places are apart: two copies of parts that stand at one place of one memory are the same copy of the same part.
abbrev pub AreApart : ℕ → List ℕ → Type 0
AreApart memories sizes =
    (e n : ℕ) (c : Bool) (e' n' : ℕ) (c' : Bool) → IsPlace sizes e n → IsPlace sizes e' n' →
    memory_of memories e c ≡ memory_of memories e' c' → place_of memories sizes e n c ≡ place_of memories sizes e' n' c' → IsSamePart e n c e' n' c'
