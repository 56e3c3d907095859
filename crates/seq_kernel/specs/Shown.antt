-- A running process shows a process of the flat machine: what the halves, the cache and the first copies hold is its state.
use Rattle.std.specs.Prelude.{◌≡◌, ℕ, ◌+◌, ◌-◌, ◌*◌, ◌%◌, ◌<◌, true, if◌then◌else◌, nat_lt, List, length, slice_index, slice_get, Some}
use Rattle.seq_words.specs.Masks.{has_bit}
use Rattle.seq_words.specs.declared.description.MachineDesc.{MachineDesc}
use Rattle.seq_words.specs.Description.{process_of}
use Rattle.seq_flat.specs.declared.inputs.LineInput.{LineInput}
use Rattle.seq_flat.specs.declared.state.FlatState.{FlatState}
use Rattle.seq_flat.specs.State.{process_at, segment_at, line_at, input_at}
use Rattle.seq_flat.specs.Memory.{is_owner}
use Rattle.seq_pair.specs.Turns.{unstruck}
use Rattle.seq_layout.specs.Shapes.{shape_of, segment_extent}
use Rattle.seq_layout.specs.Copies.{Copies}
use Rattle.seq_process.specs.declared.running.Running.{Running}
use Rattle.seq_segments.specs.Map.{before_private}
use Rattle.seq_kernel.specs.Views.{Blocks, byte_in}
use Rattle.seq_kernel.specs.Calls.{lines_of, line_index, line_word, journal_byte}

-- the blocks of an extent hold these bytes from one of its bytes on
pub record HoldBytes (o : Blocks) (e from : ℕ) (bytes : List ℕ) : Type 0 where
  pub each : (k : ℕ) → k < length bytes → byte_in o e (from + k) ≡ slice_index bytes k

-- The byte at place q of an outbox, after this output: that with the greatest number that is q modulo 256, or 0 where there
-- is none.
unfoldable pub outbox_byte : List ℕ → ℕ → ℕ
outbox_byte output q = if nat_lt q (length output) then slice_index output (length output - 1 - (length output - 1 - q) % 256) else 0

-- line l of the process: its read position, the number of bytes written, and its outbox
pub record ShowsLine (d : MachineDesc) (f : FlatState) (o : Blocks) (r : Running) (l : ℕ) : Type 0 where
  pub read : slice_index r.reads (line_index d r l) ≡ (line_at f l).read
  pub written : slice_index r.writes (line_index d r l) ≡ length (line_at f l).output
  pub outbox : (q : ℕ) → q < 256 → byte_in o r.pid.0 (256 + 256 * line_index d r l + q) ≡ outbox_byte (line_at f l).output q

-- the segments that the process holds are those that it owns, and it sees their bytes
pub record ShowsSegment (d : MachineDesc) (f : FlatState) (o : Blocks) (r : Running) (t : ℕ) : Type 0 where
  pub held : has_bit r.held t ≡ is_owner r.pid.0 (segment_at f t).owner
  pub bytes : has_bit r.held t ≡ true → HoldBytes o (segment_extent (shape_of d) t) 0 (segment_at f t).bytes

-- the running process is the process with its number in the flat state, and every block that is read has its 32 bytes
pub record Shows (d : MachineDesc) (f : FlatState) (o : Blocks) (r : Running) : Type 0 where
  pub whole : (e n : ℕ) → length (o e n).bytes ≡ 32
  pub registers : unstruck r.pair ≡ (process_at f r.pid.0).regs
  pub end : r.end ≡ (process_at f r.pid.0).end
  pub private : HoldBytes o r.pid.0 (before_private (process_of d r.pid.0)) (process_at f r.pid.0).bytes
  pub segment : (t : ℕ) → t < length d.segments → ShowsSegment d f o r t
  pub line : (l : ℕ) → has_bit (lines_of d r) l ≡ true → ShowsLine d f o r l

-- The journal of each line holds the first of the bytes that arrived, and its closed word is 1 only where the line's input is
-- closed and all of it stands in the journal.
pub record HoldsInput (d : MachineDesc) (p : Copies) (inputs : List LineInput) (l : ℕ) : Type 0 where
  pub bytes : (k : ℕ) → k < line_word d p l 0 → slice_get (input_at inputs l).bytes k ≡ Some (journal_byte d p l k)
  pub closed : line_word d p l 1 ≡ 1 → ((input_at inputs l).closed ≡ true) × (length (input_at inputs l).bytes ≡ line_word d p l 0)
