-- The image of a flat state: what the blocks of its processes and segments hold. Journals of lines are no part of it.
use Rattle.std.specs.Prelude.{ℕ, zero, suc, ◌+◌, ◌-◌, ◌*◌, ◌/◌, ◌%◌, ◌==◌, ◌&&◌, not, if◌then◌else◌, nat_lt, count_ones, Option, Some, None, List, [], ◌∷◌, map, length, slice_index, slice_index_or}
use Rattle.std.specs.List.{range_with_len}
use Rattle.seq_words.specs.Blocks.{zero_block}
use Rattle.seq_words.specs.Masks.{has_bit}
use Rattle.seq_words.specs.declared.block.Block.{Block}
use Rattle.seq_words.specs.declared.description.MachineDesc.{MachineDesc}
use Rattle.seq_words.specs.Description.{process_of}
use Rattle.seq_flat.specs.declared.state.SegmentState.{SegmentState}
use Rattle.seq_flat.specs.declared.state.LineState.{LineState}
use Rattle.seq_flat.specs.declared.state.FlatState.{FlatState}
use Rattle.seq_flat.specs.State.{no_line, process_at, segment_at, line_at}
use Rattle.seq_flat.specs.Memory.{is_owner}
use Rattle.seq_layout.specs.Places.{is_place}
use Rattle.seq_layout.specs.Shapes.{shape_of, index_of}
use Rattle.seq_layout.specs.Contexts.{context_blocks}
use Rattle.seq_layout.specs.declared.context.Context.{Context}
use Rattle.seq_process.specs.Contexts.{end_kind, end_value, end_pc}
use Rattle.seq_kernel.specs.Views.{Blocks}
use Rattle.seq_kernel.specs.Shown.{outbox_byte}

-- block i of bytes, with zeros after them
unfoldable pub block_of_bytes : List ℕ → ℕ → Block
block_of_bytes bytes i = record { bytes = map (λ k. slice_index bytes (32 * i + k)) (range_with_len 0 32) }

-- block i of the outbox of a line with this output
unfoldable pub block_of_outbox : List ℕ → ℕ → Block
block_of_outbox output i = record { bytes = map (λ k. outbox_byte output (32 * i + k)) (range_with_len 0 32) }

-- the line below number n that has number i among the lines of a mask
unfoldable pub own_line_below : ℕ → ℕ → ℕ → Option ℕ
own_line_below lines i zero = None
own_line_below lines i (suc n) = if has_bit lines n && index_of lines n == i then Some n else own_line_below lines i n

-- what the flat state has of a line, and where there is none, of a line that has read and put out nothing
abbrev pub line_if : FlatState → Option ℕ → LineState
line_if f (Some l) = line_at f l
line_if f None = no_line

-- the line with number i among those of process p
unfoldable pub own_line : MachineDesc → FlatState → ℕ → ℕ → LineState
own_line d f p i = line_if f (own_line_below (process_of d p).lines i 16)

-- the mask of the segments that process p owns
unfoldable pub held_among : ℕ → List SegmentState → ℕ
held_among p [] = 0
held_among p (s ∷ ss) = (if is_owner p s.owner then 1 else 0) + 2 * held_among p ss

-- the context of process p after so many commits
abbrev pub context_of : MachineDesc → FlatState → ℕ → ℕ → Context
context_of d f p commits = record {
  regs = (process_at f p).regs;
  end = end_kind (process_at f p).end;
  value = end_value (process_at f p).end;
  end_pc = end_pc (process_at f p).end;
  held = held_among p f.segments;
  commits = commits;
  reads = (own_line d f p 0).read ∷ (own_line d f p 1).read ∷ (own_line d f p 2).read ∷ (own_line d f p 3).read ∷ [];
  writes = length (own_line d f p 0).output ∷ length (own_line d f p 1).output ∷ length (own_line d f p 2).output ∷ length (own_line d f p 3).output ∷ [];
}

-- block n of process p: the context, then the outboxes, then the private bytes
unfoldable pub process_block : MachineDesc → FlatState → ℕ → ℕ → ℕ → Block
process_block d f p commits n =
    let outboxes = count_ones (process_of d p).lines in
    if nat_lt n 8 then slice_index_or (context_blocks (context_of d f p commits)) n zero_block
    else if nat_lt n (8 + 8 * outboxes) then block_of_outbox (own_line d f p (n / 8 - 1)).output (n % 8)
    else block_of_bytes (process_at f p).bytes (n - (8 + 8 * outboxes))

-- The image of a flat state, with the number of commits of each process: zeros stand where the description's machine has no
-- such block, and in the extents of lines.
unfoldable pub image : MachineDesc → FlatState → (ℕ → ℕ) → Blocks
image d f commits e n =
    if not (is_place (shape_of d).blocks e n) then zero_block
    else if nat_lt e (length d.processes) then process_block d f e (commits e) n
    else if nat_lt e (length d.processes + length d.segments) then block_of_bytes (segment_at f (e - length d.processes)).bytes n
    else zero_block
