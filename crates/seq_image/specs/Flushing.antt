-- What a flush makes of an image.
use Rattle.std.specs.Prelude.{◌≡◌, ◌≢◌, ℕ, ◌+◌, ◌<◌, ◌≤◌, Bool, true, false, All, List, length, unwrap_or}
use Rattle.seq_words.specs.Description.{IsDescription}
use Rattle.seq_words.specs.declared.description.MachineDesc.{MachineDesc}
use Rattle.seq_flat.specs.declared.state.FlatState.{FlatState}
use Rattle.seq_flat.specs.State.{segment_at}
use Rattle.seq_layout.specs.Places.{IsPlace}
use Rattle.seq_layout.specs.Shapes.{Shape, shape_of, segment_extent}
use Rattle.seq_layout.specs.Contexts.{context_blocks}
use Rattle.seq_layout.specs.Copies.{Copies, serves, first_block}
use Rattle.seq_process.specs.declared.running.Running.{Running}
use Rattle.seq_process.specs.Contexts.{saved}
use Rattle.seq_cache.specs.declared.change.Change.{Change}
use Rattle.seq_cache.specs.Changes.{Changes, IsCache, changed}
use Rattle.seq_flush.specs.Units.{HavePlaces, units_of}
use Rattle.seq_flush.specs.Facts.{AreApart, Avoid, all_written}
use Rattle.seq_kernel.specs.Views.{Blocks, read_by}
use Rattle.seq_kernel.specs.Bounds.{IsWithin, LeavesUnused}
use Rattle.seq_kernel.specs.Shown.{HoldBytes, Shows}
use Rattle.seq_flat.specs.Reached.{IsFlat}
use Rattle.seq_kernel.specs.Kept.{AreOwn}
use Rattle.seq_image.specs.Images.{image}
use Rattle.seq_image.specs.Areas.{AreAlike, in_area, CopyHolds}

-- these units lie over blocks
abbrev pub with_units : List Change → Blocks → Blocks
with_units us o = λ e n. unwrap_or (changed us e n) (o e n)

-- what a flush of this process writes, with these changes in its cache
abbrev pub flushed : Running → Changes → List Change
flushed r c = units_of r.pid.0 (context_blocks (saved r r.pair.a)) c.changes

-- a block of an area, and none of the context of its process
pub record IsInside (d : MachineDesc) (q : ℕ) (segments : ℕ → Bool) (change : Change) : Type 0 where
  pub place : IsPlace (shape_of d).blocks change.extent.0 change.place
  pub area : in_area d q segments change.extent.0 ≡ true
  pub beside : change.extent.0 ≡ q → 8 ≤ change.place

-- A running process may be flushed, with these blocks as it reads them: it shows a process of flat state g, with the bytes of
-- each segment of its area, also of those that it no longer holds.
pub record MayFlush (d : MachineDesc) (g : FlatState) (segments : ℕ → Bool) (o : Blocks) (r : Running) (c : Changes) : Type 0 where
  pub within : IsWithin d r
  pub unused : LeavesUnused d r
  pub flat : IsFlat d g
  pub shows : Shows d g o r
  pub bytes : (t : ℕ) → t < length d.segments → segments t ≡ true → HoldBytes o (segment_extent (shape_of d) t) 0 (segment_at g t).bytes
  pub inside : All (IsInside d r.pid.0 segments) c.changes

-- Where its halves agree, and its changes lie over the image of flat state f in its area, the units of its flush make the image
-- of g of that, with one commit more.
abbrev pub FlushMakesImage : Type 0
FlushMakesImage =
    (d : MachineDesc) (f g : FlatState) (commits commits' : ℕ → ℕ) (segments : ℕ → Bool) (o : Blocks) (r : Running) (c : Changes) →
    IsDescription d → MayFlush d g segments o r c → r.pair.a ≡ r.pair.b → commits' r.pid.0 ≡ r.commits + 1 →
    AreAlike (in_area d r.pid.0 segments) o (with_units c.changes (image d f commits)) →
    AreAlike (in_area d r.pid.0 segments) (with_units (flushed r c) (image d f commits)) (image d g commits')

-- What a processor reads are its changes over the first copies: so over the image where these hold it.
abbrev pub ReadsOverFirst : Type 0
ReadsOverFirst =
    (d : MachineDesc) (p : Copies) (c : Changes) (area : ℕ → Bool) (o : Blocks) →
    AreAlike area (first_block (shape_of d) p) o → AreAlike area (read_by d p c) (with_units c.changes o)

-- What a flush writes has places where the changes are blocks of its process's own.
abbrev pub OwnBlocksHavePlaces : Type 0
OwnBlocksHavePlaces =
    (d : MachineDesc) (r : Running) (changes : List Change) →
    r.pid.0 < length d.processes → AreOwn d r changes → HavePlaces (shape_of d) r.pid.0 changes

-- The units of a flush have places, and are apart where the changes are in order. None is outside its area.
pub record AreFlushed (d : MachineDesc) (segments : ℕ → Bool) (r : Running) (c : Changes) : Type 0 where
  pub places : HavePlaces (shape_of d) r.pid.0 c.changes
  pub apart : AreApart (flushed r c)
  pub avoid : (e : ℕ) → in_area d r.pid.0 segments e ≡ false → Avoid (flushed r c) e

abbrev pub FlushStaysInside : Type 0
FlushStaysInside =
    (d : MachineDesc) (g : FlatState) (segments : ℕ → Bool) (o : Blocks) (r : Running) (c : Changes) →
    IsDescription d → IsCache c → MayFlush d g segments o r c → AreFlushed d segments r c

-- Units that are apart, written to copies of either kind, lie over what these held.
abbrev pub WritingLaysOver : Type 0
WritingLaysOver =
    (s : Shape) (p : Copies) (shadow : Bool) (area : ℕ → Bool) (us : List Change) (before after : Blocks) →
    AreApart us → CopyHolds s p shadow area before → AreAlike area (with_units us before) after → CopyHolds s (all_written s p shadow us) shadow area after

-- In an area, each copy of a kind that is in service now was so before, and holds the same.
pub record KeepsCopies (s : Shape) (before now : Copies) (shadow : Bool) (area : ℕ → Bool) : Type 0 where
  pub served : (e : ℕ) → area e ≡ true → serves s now e shadow ≡ true → serves s before e shadow ≡ true
  pub block : (e n : ℕ) → area e ≡ true → serves s now e shadow ≡ true → now.block e n shadow ≡ before.block e n shadow

-- What the copies of an area will hold once what is left of a pass is written, stays whatever happens elsewhere.
abbrev pub WhatIsLeftStays : Type 0
WhatIsLeftStays =
    (s : Shape) (before now : Copies) (shadow : Bool) (area : ℕ → Bool) (left : List Change) (o : Blocks) →
    AreApart left → KeepsCopies s before now shadow area → CopyHolds s (all_written s before shadow left) shadow area o → CopyHolds s (all_written s now shadow left) shadow area o

-- So a pass of a flush, over copies of either kind that hold the image of f in its area, leaves copies that hold that of g.
abbrev pub PassesMakeImage : Type 0
PassesMakeImage =
    (d : MachineDesc) (f g : FlatState) (commits commits' : ℕ → ℕ) (segments : ℕ → Bool) (o : Blocks) (p : Copies) (shadow : Bool) (r : Running) (c : Changes) →
    IsDescription d → IsCache c → MayFlush d g segments o r c → r.pair.a ≡ r.pair.b → commits' r.pid.0 ≡ r.commits + 1 →
    AreAlike (in_area d r.pid.0 segments) o (with_units c.changes (image d f commits)) →
    CopyHolds (shape_of d) p shadow (in_area d r.pid.0 segments) (image d f commits) →
    CopyHolds (shape_of d) (all_written (shape_of d) p shadow (flushed r c)) shadow (in_area d r.pid.0 segments) (image d g commits')
