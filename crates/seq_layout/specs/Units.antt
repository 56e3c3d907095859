-- The units of a memory, in the order in which it is copied: extent by extent, first the blocks and then the words.
use Rattle.std.specs.Prelude.{◌≡◌, ℕ, zero, suc, ◌+◌, ◌*◌, ◌≤◌, Bool, false, not, ◌==◌, if◌then◌else◌, List, [], ◌++◌, map, sum, length, slice_get, slice_index, Some}
use Rattle.std.specs.List.{range_with_len}
use Rattle.seq_words.specs.Description.{line_count}
use Rattle.seq_words.specs.declared.description.MachineDesc.{MachineDesc}
use Rattle.seq_layout.specs.declared.units.Unit.{Unit}
use Rattle.seq_layout.specs.declared.units.Unit.TheVariants.{Block, Word}
use Rattle.seq_layout.specs.Places.{memory_of, keeps, IsPlace}
use Rattle.seq_layout.specs.Shapes.{Shape, blocks_of, shape_of}

-- the units of one extent
abbrev pub extent_units : Shape → ℕ → List Unit
extent_units s e =
    map (λ n. Block (record { 0 = e }) n) (range_with_len 0 (slice_index s.blocks e)) ++
    map (λ n. Word (record { extent = record { 0 = e }; word = n })) (range_with_len 0 (slice_index s.words e))

-- the units of a memory in the extents below this one
unfoldable pub units_below : Shape → ℕ → ℕ → List Unit
units_below s m zero = []
units_below s m (suc e) = units_below s m e ++ (if keeps s.memories m e then extent_units s e else [])

abbrev pub units_of : Shape → ℕ → List Unit
units_of s m = units_below s m (length s.blocks)

-- the extent of a unit
abbrev pub extent_of : Unit → ℕ
extent_of (Block e n) = e.0
extent_of (Word at) = at.extent.0

-- its extent has such a block, or such a word
abbrev pub HasPlace : Shape → Unit → Type 0
HasPlace s (Block e n) = IsPlace s.blocks e.0 n
HasPlace s (Word at) = IsPlace s.words at.extent.0 at.word

-- of an extent that memory m keeps, the copy that it keeps: the primary where that is on it, else the shadow
abbrev pub copy_on : ℕ → ℕ → ℕ → Bool
copy_on memories m e = not (memory_of memories e false == m)

-- A unit has a place, and stands on memory m by one of its copies.
pub record StandsOn (s : Shape) (m : ℕ) (u : Unit) : Type 0 where
  pub place : HasPlace s u
  pub copy : memory_of s.memories (extent_of u) (copy_on s.memories m (extent_of u)) ≡ m

-- Each unit of a memory stands on it; whatever stands on it is one of its units, and it is one alone.
abbrev pub UnitsStand : Type 0
UnitsStand = (s : Shape) (m k : ℕ) (u : Unit) → slice_get (units_of s m) k ≡ Some u → StandsOn s m u

abbrev pub StandingAreUnits : Type 0
StandingAreUnits = (s : Shape) (m : ℕ) (u : Unit) → length s.words ≡ length s.blocks → StandsOn s m u → (k : ℕ) × (slice_get (units_of s m) k ≡ Some u)

abbrev pub UnitsAreOnce : Type 0
UnitsAreOnce = (s : Shape) (m k k' : ℕ) (u : Unit) → slice_get (units_of s m) k ≡ Some u → slice_get (units_of s m) k' ≡ Some u → k ≡ k'

-- A memory of a machine has at most as many units as the machine has blocks, processes and segments, and lines three times.
abbrev pub UnitsAreFew : Type 0
UnitsAreFew = (d : MachineDesc) (m : ℕ) → length (units_of (shape_of d) m) ≤ sum (blocks_of d) + length d.processes + length d.segments + 3 * line_count d
