-- The memory that a process sees on the hardware: each address names a byte of an extent, and a block of it is read from
-- the cache, else from its first copy.
use Rattle.std.specs.Prelude.{◌≡◌, ℕ, ◌/◌, ◌%◌, ◌<◌, if◌then◌else◌, Option, Some, None, length, option_map, slice_index}
use Rattle.seq_words.specs.Description.{IsDescription}
use Rattle.seq_words.specs.declared.block.Block.{Block}
use Rattle.seq_words.specs.declared.description.MachineDesc.{MachineDesc}
use Rattle.seq_isa.specs.Meaning.{Bytes}
use Rattle.seq_rv32.specs.declared.port.Admit.{Admit}
use Rattle.seq_rv32.specs.declared.port.Admit.TheVariants.{Fits, Outside, Full}
use Rattle.seq_rv32.specs.ByteMemory.{bytes_stored}
use Rattle.seq_layout.specs.declared.extents.Extent.{Extent}
use Rattle.seq_layout.specs.Shapes.{Shape, shape_of}
use Rattle.seq_memory.specs.declared.element.Memories.{Memories}
use Rattle.seq_layout.specs.Copies.{Copies, Matches, copies}
use Rattle.seq_cache.specs.Changes.{Changes, admits, with_change}
use Rattle.seq_cache.specs.Overlay.{overlay}
use Rattle.seq_segments.specs.Map.{mapped}
use Rattle.seq_kernel.specs.Bounds.{AreReadable}

-- blocks by extent and number, as a processor reads them
abbrev pub Blocks : Type 0
Blocks = ℕ → ℕ → Block

-- what a processor of description d's machine reads with these changes in its cache
abbrev pub read_by : MachineDesc → Copies → Changes → Blocks
read_by d p c = overlay (shape_of d) p c.changes

-- a byte of an extent
abbrev pub byte_in : Blocks → ℕ → ℕ → ℕ
byte_in o e at = slice_index (o e (at / 32)).bytes (at % 32)

-- the byte at each address that process `pid` has while it holds these segments
unfoldable pub seen : MachineDesc → ℕ → ℕ → Blocks → Bytes
seen d pid held o = λ a. option_map (λ at. byte_in o at.0.0 at.1) (mapped d pid held a)

-- a block after the low bytes of a number are put into it
abbrev pub block_stored : Block → ℕ → ℕ → ℕ → Block
block_stored b at width value = record b { bytes = bytes_stored b.bytes at width value }

-- the answer to a store at a place of an extent, or outside
abbrev pub admission_at : Changes → Option (Extent × ℕ) → Admit
admission_at c (Some at) = if admits c at.0.0 (at.1 / 32) then Fits else Full
admission_at c None = Outside

-- the answer to a store at an address with a width
unfoldable pub admission : MachineDesc → ℕ → ℕ → Changes → ℕ → ℕ → Admit
admission d pid held c at width = admission_at c (mapped d pid held at)

-- the cache after a store at a place of an extent
abbrev pub stored_at : Blocks → Changes → Option (Extent × ℕ) → ℕ → ℕ → Changes
stored_at o c (Some at) width value = with_change c at.0.0 (at.1 / 32) (block_stored (o at.0.0 (at.1 / 32)) (at.1 % 32) width value)
stored_at o c None width value = c

-- the cache after a store at an address with a width and a value
unfoldable pub stored : MachineDesc → ℕ → ℕ → Copies → Changes → ℕ → ℕ → ℕ → Changes
stored d pid held p c at width value = stored_at (read_by d p c) c (mapped d pid held at) width value

-- the cache after the store of an instruction, if it makes one
abbrev pub with_store : MachineDesc → ℕ → ℕ → Copies → Changes → Option (ℕ × ℕ × ℕ) → Changes
with_store d pid held p c (Some s) = stored d pid held p c s.0 s.1 s.2
with_store d pid held p c None = c

-- the memory of process `pid` of description d's machine can be read in memories of this shape
pub record IsReady (d : MachineDesc) (pid : ℕ) (s : Shape) (m : Memories) : Type 0 where
  pub description : IsDescription d
  pub process : pid < length d.processes
  pub shape : s ≡ shape_of d
  pub matches : Matches s m
  pub readable : AreReadable d (copies s m)
