-- The area of a process: its own extent and the extents of segments. Blocks that are alike there.
use Rattle.std.specs.Prelude.{◌≡◌, ℕ, ◌+◌, ◌-◌, Bool, true, false, ◌==◌, ◌&&◌, ◌||◌, nat_lt, nat_le, length}
use Rattle.seq_words.specs.Description.{process_of}
use Rattle.seq_words.specs.Masks.{has_bit}
use Rattle.seq_words.specs.declared.description.MachineDesc.{MachineDesc}
use Rattle.seq_flat.specs.declared.state.FlatState.{FlatState}
use Rattle.seq_flat.specs.State.{process_at, segment_at, line_at}
use Rattle.seq_flat.specs.Memory.{is_owner}
use Rattle.seq_process.specs.declared.running.Running.{Running}
use Rattle.seq_kernel.specs.Views.{Blocks}

-- the same blocks in each extent of a mask
pub record AreAlike (mask : ℕ → Bool) (o o' : Blocks) : Type 0 where
  pub each : (e n : ℕ) → mask e ≡ true → o e n ≡ o' e n

-- every block has its 32 bytes
pub record AreWhole (o : Blocks) : Type 0 where
  pub block : (e n : ℕ) → length (o e n).bytes ≡ 32

-- the extents of process q and of these segments
unfoldable pub in_area : MachineDesc → ℕ → (ℕ → Bool) → ℕ → Bool
in_area d q segments e = e == q || (nat_le (length d.processes) e && (nat_lt e (length d.processes + length d.segments) && segments (e - length d.processes)))

-- the segments that a process holds are among these
abbrev pub HoldsAmong : Running → (ℕ → Bool) → Type 0
HoldsAmong r segments = (t : ℕ) → has_bit r.held t ≡ true → segments t ≡ true

-- the segments that process q owns
abbrev pub owned_by : FlatState → ℕ → ℕ → Bool
owned_by f q t = is_owner q (segment_at f t).owner

-- Two flat states agree on process q, on its lines, and on these segments, and it owns the same of the others.
pub record AgreeOn (d : MachineDesc) (q : ℕ) (segments : ℕ → Bool) (f g : FlatState) : Type 0 where
  pub process : process_at f q ≡ process_at g q
  pub line : (l : ℕ) → has_bit (process_of d q).lines l ≡ true → line_at f l ≡ line_at g l
  pub segment : (t : ℕ) → segments t ≡ true → segment_at f t ≡ segment_at g t
  pub other : (t : ℕ) → segments t ≡ false → owned_by f q t ≡ owned_by g q t
