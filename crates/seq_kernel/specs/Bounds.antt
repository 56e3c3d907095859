-- The bounds that hold of a running process and of the memories under it.
use Rattle.std.specs.Prelude.{◌≡◌, ℕ, ◌<◌, ◌≤◌, true, length, slice_index, count_ones}
use Rattle.seq_words.specs.Masks.{has_bit}
use Rattle.seq_words.specs.declared.description.MachineDesc.{MachineDesc}
use Rattle.seq_words.specs.Description.{process_of}
use Rattle.seq_flat.specs.declared.state.End.TheVariants.{Live}
use Rattle.seq_pair.specs.Turns.{IsAligned}
use Rattle.seq_layout.specs.Shapes.{shape_of, line_extent}
use Rattle.seq_layout.specs.Copies.{Copies, IsServed, first_word}
use Rattle.seq_process.specs.declared.running.Running.{Running}

-- what its type says of a running process: it keeps four positions of each kind
pub record HasPositions (r : Running) : Type 0 where
  pub reads : length r.reads ≡ 4
  pub writes : length r.writes ≡ 4

-- The bounds of a process of the description, whether it lives or has ended, and whether it has steps left or not.
pub record IsWithin (d : MachineDesc) (r : Running) : Type 0 where
  pub process : r.pid.0 < length d.processes
  pub aligned : IsAligned r.pair.struck r.pair.a r.pair.b
  pub held : (t : ℕ) → has_bit r.held t ≡ true → t < length d.segments
  pub positions : HasPositions r
  pub reads : (i : ℕ) → slice_index r.reads i ≤ d.journal
  pub writes : (i : ℕ) → slice_index r.writes i ≤ 1048576
  pub steps : r.steps ≤ r.used
  pub used : r.used ≤ d.quantum

-- a process that takes turns: it is within its bounds, lives, and has steps left
pub record IsRunning (d : MachineDesc) (r : Running) : Type 0 where
  pub within : IsWithin d r
  pub live : r.end ≡ Live
  pub left : r.used < d.quantum

-- the positions that a running process keeps for lines that it doesn't have are 0
pub record LeavesUnused (d : MachineDesc) (r : Running) : Type 0 where
  pub reads : (i : ℕ) → count_ones (process_of d r.pid.0).lines ≤ i → slice_index r.reads i ≡ 0
  pub writes : (i : ℕ) → count_ones (process_of d r.pid.0).lines ≤ i → slice_index r.writes i ≡ 0

-- every extent has a copy in service, and no line has more bytes than its journal
pub record AreReadable (d : MachineDesc) (p : Copies) : Type 0 where
  pub served : (e : ℕ) → IsServed (shape_of d) p e
  pub counts : (l : ℕ) → first_word (shape_of d) p (line_extent (shape_of d) l) 0 ≤ d.journal
