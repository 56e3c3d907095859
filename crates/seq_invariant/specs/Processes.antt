-- What the machine's state is at every moment, in plain words: lock words, and processes that run ahead of what is committed.
use Rattle.std.specs.Prelude.{◌≡◌, ◌⊎◌, ℕ, suc, ◌+◌, ◌*◌, ◌<◌, ◌≤◌, Bool, true, false, List, length, Option, Some, None, slice_index}
use Rattle.seq_words.specs.Masks.{has_bit}
use Rattle.seq_words.specs.Description.{IsDescription, process_of}
use Rattle.seq_words.specs.declared.description.MachineDesc.{MachineDesc}
use Rattle.seq_words.specs.declared.events.Event.{Event}
use Rattle.seq_flat.specs.declared.inputs.LineInput.{LineInput}
use Rattle.seq_flat.specs.declared.state.FlatState.{FlatState}
use Rattle.seq_flat.specs.State.{process_at, segment_at, line_at}
use Rattle.seq_flat.specs.Memory.{is_owner}
use Rattle.seq_flat.specs.Run.{steps}
use Rattle.seq_pair.specs.Turns.{unstruck}
use Rattle.seq_layout.specs.Shapes.{shape_of, segment_extent}
use Rattle.seq_layout.specs.Copies.{serves, first_word}
use Rattle.seq_process.specs.declared.running.Running.{Running}
use Rattle.seq_segments.specs.Map.{before_private}
use Rattle.seq_kernel.specs.Calls.{lines_of, line_index}
use Rattle.seq_kernel.specs.Views.{Blocks, byte_in, read_by}
use Rattle.seq_kernel.specs.Shown.{HoldBytes, outbox_byte}
use Rattle.seq_turns.specs.declared.hand.Hand.{Hand}
use Rattle.seq_turns.specs.declared.hand.Hand.TheVariants as hand
use Rattle.seq_turns.specs.declared.hand.FlushAt.{FlushAt}
use Rattle.seq_turns.specs.declared.hand.FlushAt.TheVariants as flush
use Rattle.seq_turns.specs.declared.hand.ReleaseAt.TheVariants as release
use Rattle.seq_recover.specs.declared.recovery.Locks.{Locks}
use Rattle.seq_recover.specs.declared.recovery.Recovery.{Recovery}
use Rattle.seq_turns.specs.declared.hand.RecoveryAt.TheVariants as recovery
use Rattle.seq_turns.specs.Machines.{Machine}
use Rattle.seq_recover.specs.Reading.{is_left}
use Rattle.seq_turns.specs.Reading.{ruling, awaits, lock_word}
use Rattle.seq_lines.specs.Arrivals.{arrived}
use Rattle.seq_invariant.specs.Holds.{AllHolds}
use Rattle.seq_invariant.specs.Orders.{running_in}

-- one copy of the lock word of a segment, and the first of them
abbrev pub lock_copy : MachineDesc → Machine → ℕ → Bool → ℕ
lock_copy d m t c = m.copies.word (segment_extent (shape_of d) t) 0 c

abbrev pub lock : MachineDesc → Machine → ℕ → ℕ
lock d m t = first_word (shape_of d) m.copies (segment_extent (shape_of d) t) 0

-- it is process q that runs, and holds segment t
abbrev pub HoldsIn : Option Running → ℕ → ℕ → Type 0
HoldsIn None q t = ⊥
HoldsIn (Some r) q t = (r.pid.0 ≡ q) × (has_bit r.held t ≡ true)

-- the hand claims segment t for process q
abbrev pub Claims : Hand → ℕ → ℕ → Type 0
Claims hand.Down q t = ⊥
Claims hand.Seek q t = ⊥
Claims (hand.Claiming x c) q t = ⊥
Claims (hand.Running r) q t = ⊥
Claims (hand.Acquiring r s c) q t = (r.pid.0 ≡ q) × (s.0 ≡ t)
Claims (hand.Flushing r why mask f) q t = ⊥
Claims (hand.Unlocking r why mask l) q t = ⊥
Claims (hand.Leaving x l) q t = ⊥
Claims (hand.Recovering x) q t = ⊥

-- the hand is amid an operation whose cause releases segment t of process q, and hasn't yet done so
abbrev pub Releases : Hand → ℕ → ℕ → Type 0
Releases hand.Down q t = ⊥
Releases hand.Seek q t = ⊥
Releases (hand.Claiming x c) q t = ⊥
Releases (hand.Running r) q t = ⊥
Releases (hand.Acquiring r s c) q t = ⊥
Releases (hand.Flushing r why mask f) q t = (r.pid.0 ≡ q) × (has_bit mask t ≡ true)
Releases (hand.Unlocking r why mask l) q t = (r.pid.0 ≡ q) × (has_bit mask t ≡ true)
Releases (hand.Leaving x l) q t = ⊥
Releases (hand.Recovering x) q t = ⊥

-- a processor runs process q, which holds segment t
pub record IsHeld (m : Machine) (q t : ℕ) : Type 0 where
  pub processor : ℕ
  pub holds : HoldsIn (running_in (m.hand processor)) q t

-- a processor claims segment t for process q, or releases it
pub record IsMoved (m : Machine) (q t : ℕ) : Type 0 where
  pub processor : ℕ
  pub moves : Claims (m.hand processor) q t ⊎ Releases (m.hand processor) q t

-- The hand has set one copy of the lock word of segment t for process q, and the other is to be: amid a claim, and amid a release.
abbrev pub SetsOneLock : MachineDesc → Hand → ℕ → ℕ → Type 0
SetsOneLock d hand.Down q t = ⊥
SetsOneLock d hand.Seek q t = ⊥
SetsOneLock d (hand.Claiming x c) q t = ⊥
SetsOneLock d (hand.Running r) q t = ⊥
SetsOneLock d (hand.Acquiring r s c) q t = (r.pid.0 ≡ q) × (s.0 ≡ t)
SetsOneLock d (hand.Flushing r why mask f) q t = ⊥
SetsOneLock d (hand.Unlocking r why mask (release.Shadow l)) q t = ⊥
SetsOneLock d (hand.Unlocking r why mask (release.Primary l)) q t = (r.pid.0 ≡ q) × (l.at ≡ lock_word d t)
SetsOneLock d (hand.Leaving x l) q t = ⊥
SetsOneLock d (hand.Recovering x) q t = ⊥

-- a processor has set one copy of the lock word of segment t for process q
pub record IsHalfLocked (d : MachineDesc) (m : Machine) (q t : ℕ) : Type 0 where
  pub processor : ℕ
  pub sets : SetsOneLock d (m.hand processor) q t

-- process q awaits recovery
abbrev pub Awaits : MachineDesc → Machine → ℕ → Type 0
Awaits d m q = awaits m.incarnation (ruling d m.copies q) ≡ true

-- Process q owns segment t in what is committed. Or nobody does, and q holds it, or claims it, or releases it, or awaits recovery.
abbrev pub IsOf : MachineDesc → FlatState → Machine → ℕ → ℕ → Type 0
IsOf d f m q t = ((segment_at f t).owner ≡ Some (record { 0 = q })) ⊎ (((segment_at f t).owner ≡ None) × (IsHeld m q t ⊎ IsMoved m q t ⊎ Awaits d m q))

-- A segment whose lock is free has no owner, and nobody holds it. Else it is of the process that its lock names. Two copies in
-- service are one word, but while a processor has set one of them alone, amid a claim or release, and where the process that the
-- primary names awaits recovery; a shadow isn't set while the primary is free.
pub record LocksName (d : MachineDesc) (f : FlatState) (m : Machine) : Type 0 where
  pub unowned : (t : ℕ) → t < length d.segments → lock d m t ≡ 0 → (segment_at f t).owner ≡ None
  pub unheld : (t q : ℕ) → t < length d.segments → lock d m t ≡ 0 → IsHeld m q t → ⊥
  pub named : (t q : ℕ) → t < length d.segments → lock d m t ≡ suc q → IsOf d f m q t
  pub same : (t q : ℕ) → t < length d.segments → serves (shape_of d) m.copies (segment_extent (shape_of d) t) false ≡ true → serves (shape_of d) m.copies (segment_extent (shape_of d) t) true ≡ true → lock_copy d m t false ≡ suc q →
      (lock_copy d m t true ≡ suc q) ⊎ ((lock_copy d m t true ≡ 0) × (IsHalfLocked d m q t ⊎ Awaits d m q))
  pub shadow : (t : ℕ) → t < length d.segments → serves (shape_of d) m.copies (segment_extent (shape_of d) t) false ≡ true → serves (shape_of d) m.copies (segment_extent (shape_of d) t) true ≡ true → lock_copy d m t false ≡ 0 → lock_copy d m t true ≡ 0

-- What a processor has of its process is what the flat state has: registers and pc in a half that isn't struck, whether it has
-- ended, the segments that it holds, and of each line how many bytes it has read and written.
pub record HasProcess (d : MachineDesc) (g : FlatState) (r : Running) : Type 0 where
  pub registers : unstruck r.pair ≡ (process_at g r.pid.0).regs
  pub end : r.end ≡ (process_at g r.pid.0).end
  pub held : (t : ℕ) → t < length d.segments → has_bit r.held t ≡ is_owner r.pid.0 (segment_at g t).owner
  pub read : (l : ℕ) → has_bit (lines_of d r) l ≡ true → slice_index r.reads (line_index d r l) ≡ (line_at g l).read
  pub written : (l : ℕ) → has_bit (lines_of d r) l ≡ true → slice_index r.writes (line_index d r l) ≡ length (line_at g l).output

-- These blocks are what the process has in memory: its private bytes, its outboxes, and the segments that it holds.
pub record HasBytes (d : MachineDesc) (g : FlatState) (o : Blocks) (r : Running) : Type 0 where
  pub private : HoldBytes o r.pid.0 (before_private (process_of d r.pid.0)) (process_at g r.pid.0).bytes
  pub outbox : (l k : ℕ) → has_bit (lines_of d r) l ≡ true → k < 256 → byte_in o r.pid.0 (256 + 256 * line_index d r l + k) ≡ outbox_byte (line_at g l).output k
  pub segment : (t : ℕ) → t < length d.segments → has_bit r.held t ≡ true → HoldBytes o (segment_extent (shape_of d) t) 0 (segment_at g t).bytes

-- after the commit of a flush
abbrev pub FlushIsAfter : FlushAt → Type 0
FlushIsAfter (flush.Mark f) = ⊥
FlushIsAfter (flush.First f) = ⊥
FlushIsAfter (flush.Second f) = Unit {0}
FlushIsAfter (flush.Close f) = Unit {0}

-- it is so of a hand, also while segments are released
abbrev pub IsAfterCommit : Hand → Type 0
IsAfterCommit hand.Down = ⊥
IsAfterCommit hand.Seek = ⊥
IsAfterCommit (hand.Claiming q c) = ⊥
IsAfterCommit (hand.Running r) = ⊥
IsAfterCommit (hand.Acquiring r t c) = ⊥
IsAfterCommit (hand.Flushing r why mask f) = FlushIsAfter f
IsAfterCommit (hand.Unlocking r why mask l) = Unit {0}
IsAfterCommit (hand.Leaving q l) = ⊥
IsAfterCommit (hand.Recovering x) = ⊥

-- Processor p runs a process: its steps since its last checkpoint, at most the quantum, are enabled from the committed state f one
-- after the other, and after them the process is what the processor has; in memory it is what the cache over the first copies has,
-- also amid both passes of a flush. After the commit no step is left. Where no half is struck, both are equal.
pub record IsAheadIn (d : MachineDesc) (inputs : List LineInput) (f : FlatState) (m : Machine) (p : ℕ) (r : Running) : Type 0 where
  pub state : FlatState
  pub steps : steps d inputs r.pid.0 r.steps f ≡ Some state
  pub quantum : r.steps ≤ d.quantum
  pub has : HasProcess d state r
  pub bytes : HasBytes d state (read_by d m.copies (m.cache p)) r
  pub equal : r.pair.struck ≡ None → r.pair.a ≡ r.pair.b
  pub committed : IsAfterCommit (m.hand p) → r.steps ≡ 0

-- So it is of each processor that runs a process.
pub record RunningIsAhead (d : MachineDesc) (inputs : List LineInput) (f : FlatState) (m : Machine) : Type 0 where
  pub each : (p : ℕ) (r : Running) → running_in (m.hand p) ≡ Some r → IsAheadIn d inputs f m p r

-- Amid the lock words of a recovery, none behind the cursor is left to be cleared.
pub record NoneIsLeft (d : MachineDesc) (m : Machine) : Type 0 where
  pub behind : (p k : ℕ) (r : Recovery Locks) → m.hand p ≡ hand.Recovering (recovery.Locks r) → k < r.cursor → k < 2 * length d.segments → is_left d m.copies r.pid.0 k ≡ false

-- So it is at every moment.
abbrev pub LocksNameAlways : Type 0
LocksNameAlways = (d : MachineDesc) (events : List Event) (m : Machine) → IsDescription d → (all : AllHolds d events m) → LocksName d all.at.state m

abbrev pub NoneIsLeftAlways : Type 0
NoneIsLeftAlways = (d : MachineDesc) (events : List Event) (m : Machine) → IsDescription d → AllHolds d events m → NoneIsLeft d m

abbrev pub RunningIsAheadAlways : Type 0
RunningIsAheadAlways = (d : MachineDesc) (events : List Event) (m : Machine) → IsDescription d → (all : AllHolds d events m) → RunningIsAhead d (arrived d events) all.at.state m
