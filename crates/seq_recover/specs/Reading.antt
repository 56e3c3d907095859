-- What a recovery reads: the context of its process, which lock words name the process, and which blocks and lock words are its.
use Rattle.std.specs.Prelude.{ℕ, zero, suc, ◌+◌, ◌*◌, ◌/◌, ◌%◌, ◌^◌, Bool, false, not, ◌&&◌, ◌==◌, if◌then◌else◌, nat_le, List, [], ◌++◌, map, length, slice_index, Option}
use Rattle.std.specs.List.{range_with_len}
use Rattle.seq_words.specs.Masks.{has_bit}
use Rattle.seq_words.specs.declared.block.Block.{Block}
use Rattle.seq_words.specs.declared.description.MachineDesc.{MachineDesc}
use Rattle.seq_layout.specs.Shapes.{shape_of, segment_extent}
use Rattle.seq_layout.specs.Copies.{Copies, serves, first_block}
use Rattle.seq_layout.specs.Contexts.{number_at}
use Rattle.seq_layout.specs.declared.context.Context.{Context}
use Rattle.seq_layout.specs.declared.extents.Extent.{Extent}
use Rattle.seq_ruling.specs.Lowest.{lowest}

-- the context in these blocks
abbrev pub context_in : List Block → Context
context_in b = record {
  regs = record { x = map (number_at b) (range_with_len 0 32); pc = number_at b 32 };
  end = number_at b 33;
  value = number_at b 34;
  end_pc = number_at b 35;
  held = number_at b 36;
  commits = number_at b 38 + 2 ^ 32 * number_at b 39;
  reads = map (λ i. number_at b (40 + 2 * i)) (range_with_len 0 4);
  writes = map (λ i. number_at b (41 + 2 * i)) (range_with_len 0 4);
}

-- the context of process q at its first copy
unfoldable pub context_of : MachineDesc → Copies → ℕ → Context
context_of d p q = context_in (map (first_block (shape_of d) p q) (range_with_len 0 8))

-- a copy of a segment's lock word is in service and names the process
abbrev pub names : MachineDesc → Copies → ℕ → ℕ → Bool → Bool
names d p q t shadow =
    let e = segment_extent (shape_of d) t in
    serves (shape_of d) p e shadow && (p.word e 0 shadow == suc q)

-- a block by its extent and its number
abbrev pub block_of : Extent × ℕ → ℕ × ℕ
block_of b = (b.0.0, b.1)

-- the blocks of an extent
abbrev pub blocks_in : MachineDesc → ℕ → List (ℕ × ℕ)
blocks_in d e = map (λ n. (e, n)) (range_with_len 0 (slice_index (shape_of d).blocks e))

-- the blocks of a segment if its primary lock word names the process, else none
abbrev pub named_blocks : MachineDesc → Copies → ℕ → ℕ → List (ℕ × ℕ)
named_blocks d p q t = if names d p q t false then blocks_in d (segment_extent (shape_of d) t) else []

-- those of the segments below this one
abbrev pub blocks_below : MachineDesc → Copies → ℕ → ℕ → List (ℕ × ℕ)
blocks_below d p q zero = []
blocks_below d p q (suc t) = blocks_below d p q t ++ named_blocks d p q t

-- the blocks that a recovery of process q copies
unfoldable pub recovered_blocks : MachineDesc → Copies → ℕ → List (ℕ × ℕ)
recovered_blocks d p q = blocks_in d q ++ blocks_below d p q (length d.segments)

-- Lock words are counted two for each segment: first its shadow, then its primary.
abbrev pub is_shadow : ℕ → Bool
is_shadow k = k % 2 == 0

-- lock word k names the process, whose context doesn't hold the segment
abbrev pub is_left : MachineDesc → Copies → ℕ → ℕ → Bool
is_left d p q k = not (has_bit (context_of d p q).held (k / 2)) && names d p q (k / 2) (is_shadow k)

-- the lowest lock word from a number on that is to be cleared
abbrev pub left_from : MachineDesc → Copies → ℕ → ℕ → Option ℕ
left_from d p q n = lowest (λ k. nat_le n k && is_left d p q k) (2 * length d.segments)
