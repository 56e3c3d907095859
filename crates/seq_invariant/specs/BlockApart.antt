-- Words and locks keep the extents of hands apart.
use Rattle.std.specs.Prelude.{◌≡◌, ◌≢◌, ℕ, suc, Option, Some, None, true, false}
use Rattle.seq_words.specs.declared.description.MachineDesc.{MachineDesc}
use Rattle.seq_words.specs.declared.names.Pid.{Pid}
use Rattle.seq_flat.specs.declared.state.FlatState.{FlatState}
use Rattle.seq_flat.specs.State.{segment_at}
use Rattle.seq_process.specs.declared.running.Running.{Running}
use Rattle.seq_flush.specs.declared.flush.Flush.{Flush}
use Rattle.seq_flush.specs.declared.stages.First as first_stage
use Rattle.seq_kernel.specs.declared.outcomes.Cause.{Cause}
use Rattle.seq_flat.specs.Reached.{IsFlat, IsReached}
use Rattle.seq_turns.specs.declared.hand.Hand.TheVariants as hand
use Rattle.seq_turns.specs.declared.hand.FlushAt.TheVariants as flush
use Rattle.seq_turns.specs.Machines.{Machine}
use Rattle.seq_invariant.specs.BlockWorks.{Committed, Commits}
use Rattle.seq_invariant.specs.BlockHands.{HandKnows}
use Rattle.seq_stands.specs.Words.{words_of, WordsStand}
use Rattle.seq_words.specs.Description.{IsDescription}
use Rattle.seq_layout.specs.Copies.{Copies}
use Rattle.seq_stands.specs.Locks.{LocksStand, ContextOwns}
use Rattle.seq_invariant.specs.BlockTurns.{CanBeTakenUp}
use Rattle.seq_invariant.specs.BlockAreas.{segments_of, hand_area}

-- no extent is one of those of two hands
abbrev pub HandsAreApart : Type 0
HandsAreApart =
    (d : MachineDesc) (owner : ℕ → ℕ) (m : Machine) (p r e : ℕ) → WordsStand (words_of d m) → LocksStand d owner m →
    r ≢ p → hand_area d (m.hand p) e ≡ true → hand_area d (m.hand r) e ≡ false

-- the owners of a flat state, as lock words name them
abbrev pub number_of : Option Pid → ℕ
number_of None = 0
number_of (Some p) = suc p.0

abbrev pub owners_of : FlatState → ℕ → ℕ
owners_of f t = number_of (segment_at f t).owner

-- So a flush commits in an area in which nobody else owns a segment.
abbrev pub FlushesCommitAlone : Type 0
FlushesCommitAlone =
    (d : MachineDesc) (at : Committed) (m : Machine) (p : ℕ) (r : Running) (why : Cause) (mask : ℕ) (f : Flush first_stage.First) →
    WordsStand (words_of d m) → LocksStand d (owners_of at.state) m → IsFlat d at.state → m.hand p ≡ hand.Flushing r why mask (flush.First f) →
    (k : HandKnows d at m.copies (m.cache p) (hand.Flushing r why mask (flush.First f))) →
    Commits d at (segments_of d (hand.Flushing r why mask (flush.First f))) r.pid.0 r.steps k.0.works.ahead.state

-- What the context of a process that can be taken up says of its segments is what the owners say.
abbrev pub ContextsOwn : Type 0
ContextsOwn =
    (d : MachineDesc) (at : Committed) (p : Copies) (q : ℕ) → IsDescription d → IsReached d at.state → CanBeTakenUp d at p q → ContextOwns d (owners_of at.state) p q
