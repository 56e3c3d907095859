-- The image of the flat start: what the memories hold at first.
use Rattle.std.specs.Prelude.{◌≡◌, ℕ, ◌+◌, ◌*◌, ◌/◌, ◌<◌, ◌≤◌, [], ◌∷◌, length, count_ones, slice_index_or}
use Rattle.seq_words.specs.Blocks.{zero_block}
use Rattle.seq_words.specs.Description.{IsDescription, process_of, segment_of}
use Rattle.seq_words.specs.declared.description.MachineDesc.{MachineDesc}
use Rattle.seq_words.specs.declared.description.ProcessDesc.{ProcessDesc}
use Rattle.seq_flat.specs.State.{start, start_regs}
use Rattle.seq_layout.specs.Places.{IsPlace}
use Rattle.seq_layout.specs.Shapes.{shape_of, process_extent, segment_extent}
use Rattle.seq_layout.specs.Contexts.{context_blocks}
use Rattle.seq_layout.specs.declared.context.Context.{Context}
use Rattle.seq_kernel.specs.Views.{Blocks}
use Rattle.seq_image.specs.Images.{block_of_bytes, image}

-- the context of a process at the start
abbrev pub start_context : ProcessDesc → Context
start_context p = record {
  regs = start_regs p.size p.entry;
  end = 0;
  value = 0;
  end_pc = 0;
  held = 0;
  commits = 0;
  reads = 0 ∷ 0 ∷ 0 ∷ 0 ∷ [];
  writes = 0 ∷ 0 ∷ 0 ∷ 0 ∷ [];
}

-- no process has committed yet
abbrev pub no_commits : ℕ → ℕ
no_commits p = 0

-- The blocks of processes are their contexts, outboxes of zeros, and their images with zeros after them; those of segments are
-- their first bytes with zeros after them.
pub record IsStartImage (d : MachineDesc) (o : Blocks) : Type 0 where
  pub context : (p n : ℕ) → p < length d.processes → n < 8 → o (process_extent p) n ≡ slice_index_or (context_blocks (start_context (process_of d p))) n zero_block
  pub outboxes : (p n : ℕ) → p < length d.processes → 8 ≤ n → n < 8 + 8 * count_ones (process_of d p).lines → o (process_extent p) n ≡ zero_block
  pub private : (p i : ℕ) → p < length d.processes → i < (process_of d p).size / 32 → o (process_extent p) (8 + 8 * count_ones (process_of d p).lines + i) ≡ block_of_bytes (process_of d p).image i
  pub segment : (t i : ℕ) → t < length d.segments → i < (segment_of d t).size / 32 → o (segment_extent (shape_of d) t) i ≡ block_of_bytes (segment_of d t).first i
  pub lines : (e n : ℕ) → length d.processes + length d.segments ≤ e → o e n ≡ zero_block
  pub nowhere : (e n : ℕ) → ¬ (IsPlace (shape_of d).blocks e n) → o e n ≡ zero_block

-- so is the image of the flat start, and no other blocks are
abbrev pub StartHasImage : Type 0
StartHasImage =
    (d : MachineDesc) → IsDescription d →
    (IsStartImage d (image d (start d) no_commits)) × ((o : Blocks) → IsStartImage d o → o ≡ image d (start d) no_commits)
