-- A processor takes up a process from the image of a flat state.
use Rattle.std.specs.Prelude.{◌≡◌, ℕ, ◌≤◌, ◌<◌, true, List, map, length}
use Rattle.std.specs.List.{range_with_len}
use Rattle.seq_words.specs.Masks.{has_bit}
use Rattle.seq_words.specs.Description.{IsDescription, process_of}
use Rattle.seq_words.specs.declared.block.Block.{Block}
use Rattle.seq_words.specs.declared.description.MachineDesc.{MachineDesc}
use Rattle.seq_flat.specs.declared.state.End.TheVariants.{Live}
use Rattle.seq_flat.specs.declared.state.FlatState.{FlatState}
use Rattle.seq_flat.specs.State.{process_at}
use Rattle.seq_layout.specs.Contexts.{context_blocks, IsContext, IsContextBlocks}
use Rattle.seq_layout.specs.declared.context.Context.{Context}
use Rattle.seq_process.specs.declared.running.Running.{Running}
use Rattle.seq_process.specs.Contexts.{started}
use Rattle.seq_kernel.specs.Views.{Blocks}
use Rattle.seq_kernel.specs.Bounds.{IsWithin, IsRunning, LeavesUnused}
use Rattle.seq_kernel.specs.Shown.{Shows}
use Rattle.seq_image.specs.Images.{context_of, image}
use Rattle.seq_image.specs.Areas.{AreAlike, in_area, owned_by}
use Rattle.seq_flat.specs.Reached.{IsReached}

-- the eight blocks of the context of process q, as they are read
abbrev pub context_read : Blocks → ℕ → List Block
context_read o q = map (λ k. o q k) (range_with_len 0 8)

-- the lists of a context are as long as its arrays
pub record HasLengths (c : Context) : Type 0 where
  pub registers : length c.regs.x ≡ 32
  pub reads : length c.reads ≡ 4
  pub writes : length c.writes ≡ 4

-- process q, as a processor takes it up from its context in the image
abbrev pub taken_up : MachineDesc → FlatState → ℕ → ℕ → Running
taken_up d f q commits = started (record { 0 = q }) (context_of d f q commits)

-- The blocks that are read hold the context of the image, which is inside the format, and no other. The process that is taken
-- up from it shows the flat state within its bounds, and runs where it lives.
pub record TakesUp (d : MachineDesc) (f : FlatState) (o : Blocks) (q commits : ℕ) : Type 0 where
  pub blocks : context_read o q ≡ context_blocks (context_of d f q commits)
  pub inside : IsContextBlocks (context_read o q)
  pub context : IsContext (context_of d f q commits)
  pub only : (c : Context) → HasLengths c → context_blocks c ≡ context_read o q → c ≡ context_of d f q commits
  pub cause : (context_of d f q commits).end ≡ 2 → (context_of d f q commits).value ≤ 255
  pub shows : Shows d f o (taken_up d f q commits)
  pub within : IsWithin d (taken_up d f q commits)
  pub unused : LeavesUnused d (taken_up d f q commits)
  pub running : (process_at f q).end ≡ Live → IsRunning d (taken_up d f q commits)

-- That is so wherever the blocks that are read are those of the image, in the extents of the process and of the segments that it
-- owns.
abbrev pub ImageIsTakenUp : Type 0
ImageIsTakenUp =
    (d : MachineDesc) (f : FlatState) (commits : ℕ → ℕ) (o : Blocks) (q : ℕ) →
    IsDescription d → IsReached d f → q < length d.processes → ((e n : ℕ) → length (o e n).bytes ≡ 32) →
    AreAlike (in_area d q (owned_by f q)) o (image d f commits) → TakesUp d f o q (commits q)
