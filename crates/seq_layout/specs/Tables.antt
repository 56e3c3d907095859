-- The tables of a layout: for each memory, where each extent starts in it; for each extent, where its two copies stand.
use Rattle.std.specs.Prelude.{◌≡◌, ℕ, ◌+◌, ◌<◌, ◌≤◌, ◌^◌, Bool, List, [], length, map, slice_index, slice_index_or, true, false}
use Rattle.std.specs.List.{range_with_len}
use Rattle.seq_layout.specs.declared.starts.Site.{Site}
use Rattle.seq_layout.specs.declared.starts.Sites.{Sites}
use Rattle.seq_layout.specs.Places.{memory_of, keeps, start_of, IsPlace}

-- extents of these sizes, with their copies on so many memories
pub record Spread : Type 0 where
  pub memories : ℕ
  pub sizes : List ℕ

-- the start of each extent in memory m, and after them how much it keeps of all extents
pub record IsRow (s : Spread) (m : ℕ) (starts : List ℕ) : Type 0 where
  pub columns : length starts ≡ length s.sizes + 1
  pub start : (e : ℕ) → e ≤ length s.sizes → slice_index starts e ≡ start_of s.memories s.sizes m e

-- where a copy of an extent stands
abbrev pub site_of : Spread → ℕ → Bool → Site
site_of s e c = record { memory = record { 0 = memory_of s.memories e c }; start = start_of s.memories s.sizes (memory_of s.memories e c) e }

-- where both of its copies stand
abbrev pub sites_at : Spread → ℕ → Sites
sites_at s e = record { primary = site_of s e false; shadow = site_of s e true }

-- where the copies of all extents stand
abbrev pub sites_of : Spread → List Sites
sites_of s = map (sites_at s) (range_with_len 0 (length s.sizes))

-- a row for each memory, whose numbers fit 32 bits, and the sites of each extent
pub record AreStarts (s : Spread) (starts : List (List ℕ)) (sites : List Sites) : Type 0 where
  pub enough : 2 ≤ s.memories
  pub few : length s.sizes < 2 ^ 32
  pub rows : length starts ≡ s.memories
  pub row_is : (m : ℕ) → m < s.memories → IsRow s m (slice_index_or starts m [])
  pub fits : (m : ℕ) → m < s.memories → start_of s.memories s.sizes m (length s.sizes) < 2 ^ 32
  pub site_is : sites ≡ sites_of s

-- so many starts of a row are at this place or below it, and the others are above
pub record IsCount (starts : List ℕ) (place count : ℕ) : Type 0 where
  pub within : count ≤ length starts
  pub below : (e : ℕ) → e < count → slice_index starts e ≤ place
  pub above : (e : ℕ) → count ≤ e → e < length starts → place < slice_index starts e

-- memory m keeps the n-th part of extent e at this place
pub record IsPart (s : Spread) (m place e n : ℕ) : Type 0 where
  pub part : IsPlace s.sizes e n
  pub kept : keeps s.memories m e ≡ true
  pub place_is : start_of s.memories s.sizes m e + n ≡ place

-- of each extent how many units it has, its blocks and words together
pub record AreUnits (blocks words units : List ℕ) : Type 0 where
  pub extents : length units ≡ length blocks
  pub unit : (e : ℕ) → e < length blocks → slice_index units e ≡ slice_index blocks e + slice_index words e

-- the tables of a layout are of the same extents on the same memories
pub record AreTables (blocks words units : Spread) : Type 0 where
  pub word_memories : words.memories ≡ blocks.memories
  pub unit_memories : units.memories ≡ blocks.memories
  pub word_sizes : length words.sizes ≡ length blocks.sizes
  pub unit_sizes : AreUnits blocks.sizes words.sizes units.sizes
