-- The bounds of blocks: of contexts, block by block, so that they hold amid a flush, when some blocks of a copy are the old
-- context's and some the new one's.
use Rattle.std.specs.Prelude.{◌≡◌, ◌⊎◌, ℕ, ◌+◌, ◌*◌, ◌/◌, ◌%◌, ◌<◌, ◌≤◌, Bool, true, ◌==◌, if◌then◌else◌, List, All, length, slice_index_or}
use Rattle.seq_words.specs.Masks.{has_bit}
use Rattle.seq_words.specs.Blocks.{zero_block, word_at}
use Rattle.seq_words.specs.declared.block.Block.{Block}
use Rattle.seq_words.specs.declared.description.MachineDesc.{MachineDesc}
use Rattle.seq_layout.specs.Places.{IsPlace}
use Rattle.seq_layout.specs.Shapes.{shape_of, segment_extent}
use Rattle.seq_layout.specs.Contexts.{AreContextNumbers}
use Rattle.seq_layout.specs.Copies.{Copies}
use Rattle.seq_cache.specs.declared.change.Change.{Change}

-- The numbers of a context are inside the format. Segments that are held are there, a trap's cause is a byte, no more is read
-- than a journal has, and no more written than may be.
pub record ContextNumbersFit (d : MachineDesc) (number : ℕ → ℕ) : Type 0 where
  pub inside : AreContextNumbers number
  pub held : (t : ℕ) → has_bit (number 36) t ≡ true → t < length d.segments
  pub cause : number 33 ≡ 2 → number 34 ≤ 255
  pub reads : (k : ℕ) → k < 4 → number (40 + 2 * k) ≤ d.journal
  pub writes : (k : ℕ) → k < 4 → number (41 + 2 * k) ≤ 1048576

-- the numbers of a context with this block for its block k, and seven blocks of zeros
abbrev pub numbers_with : ℕ → Block → ℕ → ℕ
numbers_with k b i = if i / 8 == k then word_at b.bytes (4 * (i % 8)) else 0

-- a block fits as block k of a context
abbrev pub ContextBlockFits : MachineDesc → ℕ → Block → Type 0
ContextBlockFits d k b = ContextNumbersFit d (numbers_with k b)

-- a block has its 32 bytes
abbrev pub IsWholeBlock : Block → Type 0
IsWholeBlock b = length b.bytes ≡ 32

-- every block has its bytes, and those of contexts fit, on both copies
pub record BlocksFit (d : MachineDesc) (p : Copies) : Type 0 where
  pub whole : (e n : ℕ) (shadow : Bool) → IsWholeBlock (p.block e n shadow)
  pub contexts : (q k : ℕ) (shadow : Bool) → q < length d.processes → k < 8 → ContextBlockFits d k (p.block q k shadow)

-- eight blocks of a context that fit, whole
pub record ContextBlocksFit (d : MachineDesc) (blocks : List Block) : Type 0 where
  pub whole : (k : ℕ) → k < 8 → IsWholeBlock (slice_index_or blocks k zero_block)
  pub fit : (k : ℕ) → k < 8 → ContextBlockFits d k (slice_index_or blocks k zero_block)

-- a block of process q past its context, or of a segment
pub record IsPastContexts (d : MachineDesc) (q : ℕ) (change : Change) : Type 0 where
  pub place : IsPlace (shape_of d).blocks change.extent.0 change.place
  pub past : ((change.extent.0 ≡ q) × (8 ≤ change.place)) ⊎ ((t : ℕ) × (t < length d.segments) × (change.extent.0 ≡ segment_extent (shape_of d) t))

-- each changed block is one of these
abbrev pub ArePastContexts : MachineDesc → ℕ → List Change → Type 0
ArePastContexts d q changes = All (IsPastContexts d q) changes

-- each changed block has its bytes
abbrev pub AreWhole : List Change → Type 0
AreWhole changes = All (λ c. IsWholeBlock c.block) changes
