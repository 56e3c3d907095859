-- What a turn of an operation needs of the hand, the cache and the memories.
use Rattle.std.specs.Prelude.{◌≡◌, ℕ, ◌+◌, ◌^◌, ◌<◌, ◌≤◌, true, false, List, length, map}
use Rattle.std.specs.List.{range_with_len}
use Rattle.seq_words.specs.Masks.{has_bit}
use Rattle.seq_words.specs.declared.description.MachineDesc.{MachineDesc}
use Rattle.seq_layout.specs.Shapes.{Shape, shape_of}
use Rattle.seq_layout.specs.Copies.{Copies, IsServed, first_block}
use Rattle.seq_layout.specs.Contexts.{IsContextBlocks}
use Rattle.seq_layout.specs.declared.units.WordAt.{WordAt}
use Rattle.seq_cache.specs.Changes.{Changes}
use Rattle.seq_cache.specs.declared.change.Change.{Change}
use Rattle.seq_process.specs.declared.running.Running.{Running}
use Rattle.seq_pair.specs.Turns.{IsAligned}
use Rattle.seq_kernel.specs.Kept.{HasZeros}
use Rattle.seq_flush.specs.Units.{HavePlaces}
use Rattle.seq_flush.specs.declared.flush.Flush.{Flush}
use Rattle.seq_locks.specs.declared.claim.Claim.{Claim}
use Rattle.seq_locks.specs.declared.stages.Shadow.{Shadow}
use Rattle.seq_locks.specs.Turns.{is_taken, word_at}
use Rattle.seq_recover.specs.Needs.{ClaimedNeeds, CopyingNeeds, LocksNeeds, ClosingNeeds}
use Rattle.seq_turns.specs.declared.hand.Hand.{Hand}
use Rattle.seq_turns.specs.declared.hand.Hand.TheVariants as hand
use Rattle.seq_turns.specs.declared.hand.FlushAt.{FlushAt}
use Rattle.seq_turns.specs.declared.hand.FlushAt.TheVariants as flush
use Rattle.seq_turns.specs.declared.hand.ReleaseAt.{ReleaseAt}
use Rattle.seq_turns.specs.declared.hand.ReleaseAt.TheVariants as release
use Rattle.seq_turns.specs.declared.hand.RecoveryAt.{RecoveryAt}
use Rattle.seq_turns.specs.declared.hand.RecoveryAt.TheVariants as recovery
use Rattle.seq_turns.specs.Reading.{status_word, lock_word, context_of}

-- the processor is amid an operation, and that isn't a recovery
abbrev pub IsOperating : Hand → Type 0
IsOperating hand.Down = ⊥
IsOperating hand.Seek = ⊥
IsOperating (hand.Claiming q c) = Unit {0}
IsOperating (hand.Running r) = ⊥
IsOperating (hand.Acquiring r t c) = Unit {0}
IsOperating (hand.Flushing r cause mask f) = Unit {0}
IsOperating (hand.Unlocking r cause mask l) = Unit {0}
IsOperating (hand.Leaving q l) = Unit {0}
IsOperating (hand.Recovering r) = ⊥

-- The context of a process may be saved: of each half that isn't struck, x0 is 0 and pc a multiple of four; and one more commit
-- may be counted.
pub record MayBeSaved (r : Running) : Type 0 where
  pub aligned : IsAligned r.pair.struck r.pair.a r.pair.b
  pub zeros : HasZeros r.pair
  pub commits : r.commits < 2 ^ 47

-- Process q may be taken up: its context stands on a copy in service, inside the format, and a trap that it tells of has a
-- cause of one byte.
pub record MayBeTakenUp (d : MachineDesc) (p : Copies) (q : ℕ) : Type 0 where
  pub served : IsServed (shape_of d) p q
  pub inside : IsContextBlocks (map (first_block (shape_of d) p q) (range_with_len 0 8))
  pub cause : (context_of d p q).end ≡ 2 → (context_of d p q).value ≤ 255

-- the status word of process q, which is one of the machine's
pub record IsStatusWord (d : MachineDesc) (q : ℕ) (at : WordAt) : Type 0 where
  pub process : q < length d.processes
  pub word : at ≡ status_word q

-- the lock word of a segment of the machine that is in the mask
pub record IsLockIn (d : MachineDesc) (mask : ℕ) (at : WordAt) : Type 0 where
  pub segment : ℕ
  pub inside : segment < length d.segments
  pub word : at ≡ lock_word d segment
  pub bit : has_bit mask segment ≡ true

-- The claim of process q is of its status word, and the process may be taken up.
pub record ClaimNeeds (d : MachineDesc) (p : Copies) (q : ℕ) (c : Claim Shadow) : Type 0 where
  pub word : IsStatusWord d q c.at
  pub context : MayBeTakenUp d p q

-- Segment t is claimed for a process that may take a step and doesn't hold it; where its lock's shadow is taken, that names a
-- process.
pub record AcquireNeeds (d : MachineDesc) (p : Copies) (r : Running) (t : ℕ) (c : Claim Shadow) : Type 0 where
  pub segment : t < length d.segments
  pub word : c.at ≡ lock_word d t
  pub named : is_taken (shape_of d) p c.at true ≡ true → word_at p c.at true ≤ length d.processes
  pub free : has_bit r.held t ≡ false
  pub steps : r.steps ≤ r.used
  pub left : r.used < d.quantum
  pub process : MayBeSaved r

-- What a flush writes has places, and its holder may be written.
pub record FlushNeeds {S : Type 0} (s : Shape) (changes : List Change) (f : Flush S) : Type 0 where
  pub places : HavePlaces s f.pid.0 changes
  pub incarnation : f.holder.incarnation < 2 ^ 48

-- in the second pass, a unit is left to write
pub record SecondNeeds {S : Type 0} (s : Shape) (changes : List Change) (f : Flush S) : Type 0 where
  pub flush : FlushNeeds s changes f
  pub cursor : f.cursor ≤ length changes + 8

-- the same by the flush's stage
abbrev pub FlushAtNeeds : Shape → List Change → FlushAt → Type 0
FlushAtNeeds s changes (flush.Mark f) = FlushNeeds s changes f
FlushAtNeeds s changes (flush.First f) = FlushNeeds s changes f
FlushAtNeeds s changes (flush.Second f) = SecondNeeds s changes f
FlushAtNeeds s changes (flush.Close f) = FlushNeeds s changes f

-- the flush of a process of which one more commit may be counted
pub record FlushingNeeds (s : Shape) (changes : List Change) (r : Running) (f : FlushAt) : Type 0 where
  pub flush : FlushAtNeeds s changes f
  pub commits : r.commits < 2 ^ 47

-- a release is of the lock word of a segment in the mask
abbrev pub UnlockNeeds : MachineDesc → ℕ → ReleaseAt → Type 0
UnlockNeeds d mask (release.Shadow l) = IsLockIn d mask l.at
UnlockNeeds d mask (release.Primary l) = IsLockIn d mask l.at

-- or of the status word of the process that is left
abbrev pub LeaveNeeds : MachineDesc → ℕ → ReleaseAt → Type 0
LeaveNeeds d q (release.Shadow l) = IsStatusWord d q l.at
LeaveNeeds d q (release.Primary l) = IsStatusWord d q l.at

-- what the next turn of a hand needs that is amid an operation, with these memories and this cache
abbrev pub NeedsOf : MachineDesc → Copies → Changes → Hand → Type 0
NeedsOf d p cache hand.Down = Unit {0}
NeedsOf d p cache hand.Seek = Unit {0}
NeedsOf d p cache (hand.Claiming q c) = ClaimNeeds d p q.0 c
NeedsOf d p cache (hand.Running r) = Unit {0}
NeedsOf d p cache (hand.Acquiring r t c) = AcquireNeeds d p r t.0 c
NeedsOf d p cache (hand.Flushing r cause mask f) = FlushingNeeds (shape_of d) cache.changes r f
NeedsOf d p cache (hand.Unlocking r cause mask l) = UnlockNeeds d mask l
NeedsOf d p cache (hand.Leaving q l) = LeaveNeeds d q.0 l
NeedsOf d p cache (hand.Recovering r) = Unit {0}

-- what a turn of a recovery needs, by its stage
abbrev pub RecoveryNeeds : MachineDesc → Copies → RecoveryAt → Type 0
RecoveryNeeds d p (recovery.Claimed r) = ClaimedNeeds d r
RecoveryNeeds d p (recovery.Copying r) = CopyingNeeds d r
RecoveryNeeds d p (recovery.Locks r) = LocksNeeds d p r
RecoveryNeeds d p (recovery.Closing r) = ClosingNeeds d r
