-- What the states of a recovery know of the memories.
use Rattle.std.specs.Prelude.{◌≡◌, ◌≢◌, ℕ, ◌<◌, ◌⊎◌, Bool, true, false, length, slice_get, slice_index, Some}
use Rattle.seq_words.specs.Masks.{has_bit}
use Rattle.seq_words.specs.declared.description.MachineDesc.{MachineDesc}
use Rattle.seq_layout.specs.Shapes.{Shape, shape_of, segment_extent}
use Rattle.seq_layout.specs.Copies.{Copies, serves}
use Rattle.seq_recover.specs.declared.recovery.Copying.{Copying}
use Rattle.seq_recover.specs.declared.recovery.Locks.{Locks}
use Rattle.seq_recover.specs.declared.recovery.Closing.{Closing}
use Rattle.seq_recover.specs.declared.recovery.Recovery.{Recovery}
use Rattle.seq_recover.specs.Reading.{context_of, names, recovered_blocks, is_left}

-- both copies of every extent are in service
abbrev pub AllServe : Shape → Copies → Type 0
AllServe s p = (e : ℕ) (shadow : Bool) → serves s p e shadow ≡ true

-- block n of extent e is equal on both copies
abbrev pub IsEqual : Copies → ℕ → ℕ → Type 0
IsEqual p e n = p.block e n false ≡ p.block e n true

-- an extent of the area of process q: its own, or that of a segment whose primary lock word names it
abbrev pub IsInArea : MachineDesc → Copies → ℕ → ℕ → Type 0
IsInArea d p q e = (e ≡ q) ⊎ ((t : ℕ) × (t < length d.segments) × (e ≡ segment_extent (shape_of d) t) × (names d p q t false ≡ true))

-- the whole area of process q is equal on both copies
pub record IsAreaEqual (d : MachineDesc) (p : Copies) (q : ℕ) : Type 0 where
  pub each : (e n : ℕ) → IsInArea d p q e → n < slice_index (shape_of d).blocks e → IsEqual p e n

-- a lock word in service names process q only where its context holds the segment
pub record NamesHeld (d : MachineDesc) (p : Copies) (q : ℕ) : Type 0 where
  pub each : (t : ℕ) (shadow : Bool) → t < length d.segments → names d p q t shadow ≡ true → has_bit (context_of d p q).held t ≡ true

-- Copying: the blocks behind the cursor are equal on both copies
pub record CopyingKnows (d : MachineDesc) (p : Copies) (r : Recovery Copying) : Type 0 where
  pub behind : (k : ℕ) (b : ℕ × ℕ) → k < r.cursor → slice_get (recovered_blocks d p r.pid.0) k ≡ Some b → IsEqual p b.0 b.1

-- Locks: the area is equal on both copies, and no lock word behind the cursor is left to be cleared
pub record LocksKnows (d : MachineDesc) (p : Copies) (r : Recovery Locks) : Type 0 where
  pub area : IsAreaEqual d p r.pid.0
  pub behind : (k : ℕ) → k < r.cursor → is_left d p r.pid.0 k ≡ false

-- Closing: so it is, no lock word names the process but those of segments that it holds, and the shadow of its status word is
-- Idle after the first turn
pub record ClosingKnows (d : MachineDesc) (p : Copies) (r : Recovery Closing) : Type 0 where
  pub area : IsAreaEqual d p r.pid.0
  pub locks : NamesHeld d p r.pid.0
  pub begun : r.cursor ≢ 0 → p.word r.pid.0 0 true ≡ 0

-- Recovered: so it is, and both copies of the status word are Idle
pub record RecoveredKnows (d : MachineDesc) (p : Copies) (q : ℕ) : Type 0 where
  pub area : IsAreaEqual d p q
  pub locks : NamesHeld d p q
  pub primary : p.word q 0 false ≡ 0
  pub shadow : p.word q 0 true ≡ 0
