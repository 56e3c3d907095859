-- Each turn of a processor keeps what its hand knows.
use Rattle.std.specs.Prelude.{◌≡◌, ◌≢◌, ℕ, ◌+◌, ◌<◌, Bool, true, false, nat_le, length, None}
use Rattle.seq_words.specs.Masks.{has_bit}
use Rattle.seq_words.specs.Description.{IsDescription}
use Rattle.seq_words.specs.declared.description.MachineDesc.{MachineDesc}
use Rattle.seq_flat.specs.declared.state.FlatState.{FlatState}
use Rattle.seq_layout.specs.Shapes.{Shape, shape_of, segment_extent}
use Rattle.seq_layout.specs.Copies.{Copies, IsServed, first_block}
use Rattle.seq_process.specs.declared.running.Running.{Running}
use Rattle.seq_cache.specs.Changes.{Changes}
use Rattle.seq_flush.specs.declared.flush.Flush.{Flush}
use Rattle.seq_flush.specs.declared.stages.First as first_stage
use Rattle.seq_kernel.specs.Bounds.{AreReadable}
use Rattle.seq_kernel.specs.Calls.{lines_of}
use Rattle.seq_kernel.specs.Shown.{HoldsInput}
use Rattle.seq_kernel.specs.declared.outcomes.Cause.{Cause}
use Rattle.seq_runs.specs.Orders.{AreApart}
use Rattle.seq_image.specs.Areas.{in_area}
use Rattle.seq_image.specs.Flushing.{KeepsCopies}
use Rattle.seq_flat.specs.Reached.{IsReached, FitJournals}
use Rattle.seq_image.specs.Depends.{AreWhole}
use Rattle.seq_stands.specs.Hands.{IsHand}
use Rattle.seq_turns.specs.declared.hand.Hand.{Hand}
use Rattle.seq_turns.specs.declared.hand.Hand.TheVariants as hand
use Rattle.seq_turns.specs.declared.hand.FlushAt.{FlushAt}
use Rattle.seq_turns.specs.declared.hand.FlushAt.TheVariants as flush
use Rattle.seq_turns.specs.declared.hand.ReleaseAt.{ReleaseAt}
use Rattle.seq_turns.specs.declared.hand.RecoveryAt.{RecoveryAt}
use Rattle.seq_turns.specs.Machines.{Machine, Move, Turn, copies_after}
use Rattle.seq_turns.specs.Machines.Turn.{Moves, Looks, Copies_unit, Stops}
use Rattle.seq_turns.specs.Operations.{unit_count, flush_move, first_move, unlock_move, acquires, claims}
use Rattle.seq_turns.specs.Processors.{runs}
use Rattle.seq_turns.specs.Reading
use Rattle.seq_image.specs.Images
use Rattle.seq_image.specs.Areas.{owned_by}
use Rattle.seq_cache.specs.Changes.{IsCache}
use Rattle.seq_words.specs.declared.names.Seg.{Seg}
use Rattle.seq_flat.specs.State.{segment_at}
use Rattle.seq_locks.specs.declared.claim.Claim.{Claim}
use Rattle.seq_locks.specs.declared.stages.Shadow as shadow_stage
use Rattle.seq_invariant.specs.BlockAreas.{segments_of, hand_area, BothHold, Rests}
use Rattle.seq_invariant.specs.BlockWorks.{Committed, committed_blocks, with_commit, Commits}
use Rattle.seq_invariant.specs.BlockHands.{RecoveryKnows, HandKnows}

-- what a hand knows after a move, and after a turn
abbrev pub AfterMove : MachineDesc → Committed → Machine → Move → Type 0
AfterMove d at m move = HandKnows d at (copies_after move.change m.copies) move.cache move.hand

abbrev pub AfterTurn : MachineDesc → Committed → Machine → Turn → Type 0
AfterTurn d at m (Moves move) = AfterMove d at m move
AfterTurn d at m (Looks next move) = AfterMove d at m move
AfterTurn d at m (Copies_unit i) = Unit {0}
AfterTurn d at m Stops = Unit {0}

-- the copies of both kinds in an area are kept
pub record KeepBoth (s : Shape) (before now : Copies) (area : ℕ → Bool) : Type 0 where
  pub primaries : KeepsCopies s before now false area
  pub shadows : KeepsCopies s before now true area

-- What a hand knows stays whatever happens outside its area.
abbrev pub HandsStay : Type 0
HandsStay =
    (d : MachineDesc) (at : Committed) (before now : Copies) (c : Changes) (h : Hand) →
    KeepBoth (shape_of d) before now (hand_area d h) → ((r : RecoveryAt) → h ≡ hand.Recovering r → RecoveryKnows d before r → RecoveryKnows d now r) →
    HandKnows d at before c h → HandKnows d at now c h

-- the process of a hand is another than q, with an area apart from these segments
abbrev pub IsOther : MachineDesc → (ℕ → Bool) → ℕ → Hand → Type 0
IsOther d segments q hand.Down = Unit {0}
IsOther d segments q hand.Seek = Unit {0}
IsOther d segments q (hand.Claiming x k) = Unit {0}
IsOther d segments q (hand.Running r) = (r.pid.0 ≢ q) × AreApart segments (segments_of d (hand.Running r))
IsOther d segments q (hand.Acquiring r t k) = (r.pid.0 ≢ q) × AreApart segments (segments_of d (hand.Acquiring r t k))
IsOther d segments q (hand.Flushing r why mask x) = (r.pid.0 ≢ q) × AreApart segments (segments_of d (hand.Flushing r why mask x))
IsOther d segments q (hand.Unlocking r why mask l) = (r.pid.0 ≢ q) × AreApart segments (segments_of d (hand.Unlocking r why mask l))
IsOther d segments q (hand.Leaving x l) = Unit {0}
IsOther d segments q (hand.Recovering x) = Unit {0}

-- It stays when another process commits.
abbrev pub HandsStayAtCommits : Type 0
HandsStayAtCommits =
    (d : MachineDesc) (at : Committed) (segments : ℕ → Bool) (q n : ℕ) (g : FlatState) (p : Copies) (c : Changes) (h : Hand) →
    IsDescription d → FitJournals d at.inputs → IsReached d at.state → Commits d at segments q n g → IsOther d segments q h → HandKnows d at p c h → HandKnows d (with_commit at q g) p c h

-- A commit changes what is committed in the area of its process alone.
abbrev pub CommitsStayInside : Type 0
CommitsStayInside =
    (d : MachineDesc) (at : Committed) (segments : ℕ → Bool) (q n : ℕ) (g : FlatState) →
    IsDescription d → q < length d.processes → Commits d at segments q n g → (e k : ℕ) → e < length d.processes + length d.segments → in_area d q segments e ≡ false →
    committed_blocks d at e k ≡ committed_blocks d (with_commit at q g) e k

-- the turns of a flush, but for the commit
abbrev pub FlushesKeep : Type 0
FlushesKeep =
    (d : MachineDesc) (at : Committed) (m : Machine) (p : ℕ) (r : Running) (why : Cause) (mask : ℕ) (f : FlushAt) →
    (flush_move d m p r why mask f).commit ≡ None → HandKnows d at m.copies (m.cache p) (hand.Flushing r why mask f) → AfterMove d at m (flush_move d m p r why mask f)

-- The commit: what the units make is committed then.
abbrev pub CommitsKeep : Type 0
CommitsKeep =
    (d : MachineDesc) (at : Committed) (m : Machine) (p : ℕ) (r : Running) (why : Cause) (mask : ℕ) (f : Flush first_stage.First) →
    IsDescription d → nat_le (unit_count m p f) f.cursor ≡ true → (k : HandKnows d at m.copies (m.cache p) (hand.Flushing r why mask (flush.First f))) →
    AfterMove d (with_commit at r.pid.0 k.0.works.ahead.state) m (first_move d m p r why mask f)

-- the releases of locks
abbrev pub ReleasesKeep : Type 0
ReleasesKeep =
    (d : MachineDesc) (at : Committed) (m : Machine) (p i : ℕ) (r : Running) (why : Cause) (mask : ℕ) (l : ReleaseAt) →
    IsHand d p i (hand.Unlocking r why mask l) → HandKnows d at m.copies (m.cache p) (hand.Unlocking r why mask l) → AfterMove d at m (unlock_move d m p r why mask l)

-- A turn of a running process, where the memories can be read and the journals of its lines hold what arrived: an instruction, each
-- call, the first turn of an acquire, and each cause that is found.
abbrev pub StepsKeep : Type 0
StepsKeep =
    (d : MachineDesc) (at : Committed) (m : Machine) (p : ℕ) (r : Running) →
    IsDescription d → FitJournals d at.inputs → IsReached d at.state → AreWhole (first_block (shape_of d) m.copies) → AreReadable d m.copies →
    ((l : ℕ) → has_bit (lines_of d r) l ≡ true → HoldsInput d m.copies at.inputs l) →
    HandKnows d at m.copies (m.cache p) (hand.Running r) → AfterTurn d at m (runs d m p r)

-- The second turn of an acquire, where nobody owns the segment and its copies are at rest.
abbrev pub AcquiresKeep : Type 0
AcquiresKeep =
    (d : MachineDesc) (at : Committed) (m : Machine) (p i : ℕ) (r : Running) (t : Seg) (c : Claim shadow_stage.Shadow) →
    IsDescription d → FitJournals d at.inputs → IsReached d at.state → IsHand d p i (hand.Acquiring r t c) →
    (segment_at at.state t.0).owner ≡ None → Rests (shape_of d) m.copies (committed_blocks d at) (segment_extent (shape_of d) t.0) →
    HandKnows d at m.copies (m.cache p) (hand.Acquiring r t c) → AfterTurn d at m (acquires d m p r t c)

-- The copies of a process and of the segments that it owns hold what was committed, and can be read.
pub record CanBeTakenUp (d : MachineDesc) (at : Committed) (p : Copies) (q : ℕ) : Type 0 where
  pub inside : q < length d.processes
  pub whole : AreWhole (first_block (shape_of d) p)
  pub served : (e : ℕ) → IsServed (shape_of d) p e
  pub both : BothHold (shape_of d) p (in_area d q (owned_by at.state q)) (committed_blocks d at)

-- Its context is what was committed then.
abbrev pub ContextsAreCommitted : Type 0
ContextsAreCommitted =
    (d : MachineDesc) (at : Committed) (p : Copies) (q : ℕ) → IsDescription d → IsReached d at.state → CanBeTakenUp d at p q →
    Reading.context_of d p q ≡ Images.context_of d at.state q (at.commits q)

-- The second turn of a process's claim takes it up.
abbrev pub ClaimsKeep : Type 0
ClaimsKeep =
    (d : MachineDesc) (at : Committed) (m : Machine) (p q : ℕ) (c : Claim shadow_stage.Shadow) →
    IsDescription d → IsReached d at.state → CanBeTakenUp d at m.copies q → IsCache (m.cache p) → AfterMove d at m (claims d m p q c)
