-- Blocks that are alike in some extents; the area of a process; the copies of one kind that are in service.
use Rattle.std.specs.Prelude.{◌≡◌, ℕ, Bool, true, ◌&&◌, ◌↔◌, ◌<◌, if◌then◌else◌, All, length}
use Rattle.seq_words.specs.Blocks.{zero_block}
use Rattle.seq_words.specs.Masks.{has_bit}
use Rattle.seq_words.specs.declared.description.MachineDesc.{MachineDesc}
use Rattle.seq_words.specs.Description.{process_of}
use Rattle.seq_flat.specs.declared.state.FlatState.{FlatState}
use Rattle.seq_flat.specs.State.{process_at, segment_at, line_at}
use Rattle.seq_memory.specs.declared.element.Memories.{Memories}
use Rattle.seq_layout.specs.Places.{IsPlace}
use Rattle.seq_layout.specs.Shapes.{Shape, shape_of}
use Rattle.seq_layout.specs.Copies.{Copies, copies, element_of, serves}
use Rattle.seq_kernel.specs.Views.{Blocks}
pub use Rattle.seq_kernel.specs.Areas.{AreAlike, owned_by, AgreeOn}
unfoldable pub use Rattle.seq_kernel.specs.Areas.{in_area}
use Rattle.seq_image.specs.Images.{image}

-- the blocks in the extents of a mask, and zeros elsewhere
unfoldable pub only : (ℕ → Bool) → Blocks → Blocks
only mask o = λ e n. if mask e then o e n else zero_block

-- blocks are alike in a mask where what is left of them in it is one
abbrev pub AlikeIsOneView : Type 0
AlikeIsOneView = (mask : ℕ → Bool) (o o' : Blocks) → AreAlike mask o o' ↔ (only mask o ≡ only mask o')

-- the blocks of the copies of one kind
abbrev pub copy_of : Copies → Bool → Blocks
copy_of p shadow = λ e n. p.block e n shadow

-- the extents of an area whose copy of this kind is in service
abbrev pub served_in : Shape → Copies → Bool → (ℕ → Bool) → ℕ → Bool
served_in s p shadow area e = area e && serves s p e shadow

-- in an area, the copies of this kind that are in service hold these blocks
abbrev pub CopyHolds : Shape → Copies → Bool → (ℕ → Bool) → Blocks → Type 0
CopyHolds s p shadow area o = AreAlike (served_in s p shadow area) (copy_of p shadow) o

-- the image in an area depends on these alone
abbrev pub ImageIsOfTheArea : Type 0
ImageIsOfTheArea =
    (d : MachineDesc) (q : ℕ) (segments : ℕ → Bool) (f g : FlatState) (commits commits' : ℕ → ℕ) →
    q < length d.processes → AgreeOn d q segments f g → commits q ≡ commits' q → AreAlike (in_area d q segments) (image d f commits) (image d g commits')

-- and every block of it has its 32 bytes
abbrev pub ImageIsWhole : Type 0
ImageIsWhole = (d : MachineDesc) (f : FlatState) (commits : ℕ → ℕ) (e n : ℕ) → length (image d f commits e n).bytes ≡ 32

-- Flat states agree on an area that has every segment that the process owns in either, where they do on what stands in it.
abbrev pub AgreeByOwners : Type 0
AgreeByOwners =
    (d : MachineDesc) (q : ℕ) (segments : ℕ → Bool) (f g : FlatState) →
    process_at f q ≡ process_at g q → ((l : ℕ) → has_bit (process_of d q).lines l ≡ true → line_at f l ≡ line_at g l) → ((t : ℕ) → segments t ≡ true → segment_at f t ≡ segment_at g t) →
    ((t : ℕ) → owned_by f q t ≡ true → segments t ≡ true) → ((t : ℕ) → owned_by g q t ≡ true → segments t ≡ true) → AgreeOn d q segments f g

-- The copies that memories hold are alike to an image in a mask where they are so at its places.
abbrev pub CopiesByPlaces : Type 0
CopiesByPlaces =
    (d : MachineDesc) (m : Memories) (shadow : Bool) (mask : ℕ → Bool) (f : FlatState) (commits : ℕ → ℕ) →
    ((e n : ℕ) → mask e ≡ true → IsPlace (shape_of d).blocks e n → (copies (shape_of d) m).block e n shadow ≡ image d f commits e n) →
    AreAlike mask (copy_of (copies (shape_of d) m) shadow) (image d f commits)

-- Where every block of the memories has its 32 bytes, so has every copy.
abbrev pub CopiesAreWhole : Type 0
CopiesAreWhole =
    (s : Shape) (m : Memories) → ((i : ℕ) → All (λ b. length b.bytes ≡ 32) (element_of m i).blocks) →
    (e n : ℕ) (c : Bool) → length ((copies s m).block e n c).bytes ≡ 32
