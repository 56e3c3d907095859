-- What the memories hold while the image of the flat start is written to them, and afterwards.
use Rattle.std.specs.Prelude.{◌≡◌, ℕ, ◌<◌, Bool, true, ◌||◌, ◌&&◌, ◌==◌, if◌then◌else◌, nat_lt}
use Rattle.seq_words.specs.Blocks.{zero_block}
use Rattle.seq_words.specs.declared.description.MachineDesc.{MachineDesc}
use Rattle.seq_memory.specs.declared.element.State.TheVariants.{InService}
use Rattle.seq_flat.specs.State.{start}
use Rattle.seq_layout.specs.Shapes.{Shape}
use Rattle.seq_layout.specs.Copies.{Copies, serves}
use Rattle.seq_kernel.specs.Views.{Blocks}
use Rattle.seq_image.specs.Images.{image}
use Rattle.seq_image.specs.Begun.{no_commits}

-- the image of the flat start, before any commit
abbrev pub start_image : MachineDesc → Blocks
start_image d = image d (start d) no_commits

-- the blocks before block k of extent e, in the order of extents and of their blocks; zeros from there on
unfoldable pub up_to : Blocks → ℕ → ℕ → Blocks
up_to o e k e' n' = if nat_lt e' e || (e' == e && nat_lt n' k) then o e' n' else zero_block

-- Every memory is in service, every word is zero, and both copies of each block are one of these blocks.
pub record Hold (s : Shape) (p : Copies) (o : Blocks) : Type 0 where
  pub state : (i : ℕ) → i < s.memories → p.state i ≡ InService
  pub served : (e : ℕ) (c : Bool) → serves s p e c ≡ true
  pub word : (e n : ℕ) (c : Bool) → p.word e n c ≡ 0
  pub block : (e n : ℕ) (c : Bool) → p.block e n c ≡ o e n
