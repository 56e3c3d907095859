-- The bounds of all that the machine's elements hold. They say nothing of what was committed and sent.
use Rattle.std.specs.Prelude.{◌≡◌, ◌⊎◌, ℕ, ◌+◌, ◌*◌, ◌<◌, ◌≤◌, Bool, false, List, [], length, sum}
use Rattle.seq_words.specs.Description.{IsDescription, line_count}
use Rattle.seq_words.specs.declared.block.Block.{Block}
use Rattle.seq_words.specs.declared.description.MachineDesc.{MachineDesc}
use Rattle.seq_words.specs.declared.events.Event.{Event}
use Rattle.seq_memory.specs.declared.element.State.{State}
use Rattle.seq_memory.specs.declared.element.State.TheVariants.{InService, Down, Stale, Copying}
use Rattle.seq_flat.specs.declared.state.End.{End}
use Rattle.seq_flat.specs.declared.state.End.TheVariants.{Live, Exited, Trapped}
use Rattle.seq_layout.specs.Shapes.{shape_of, blocks_of, segment_extent, line_extent}
use Rattle.seq_layout.specs.Copies.{Copies, AtMostOneOut}
use Rattle.seq_layout.specs.Units.{units_of}
use Rattle.seq_status.specs.Words.{IsStatusWord}
use Rattle.seq_ruling.specs.Ruling.{status_in, NamesOneOf}
use Rattle.seq_cache.specs.Changes.{Changes, IsCache}
use Rattle.seq_cache.specs.declared.change.Change.{Change}
use Rattle.seq_flush.specs.declared.flush.Flush.{Flush}
use Rattle.seq_process.specs.declared.running.Running.{Running}
use Rattle.seq_process.specs.Contexts.{IsWhole}
use Rattle.seq_kernel.specs.Kept.{AreOwn}
use Rattle.seq_turns.specs.declared.hand.Hand.{Hand}
use Rattle.seq_turns.specs.declared.hand.Hand.TheVariants as hand
use Rattle.seq_turns.specs.declared.hand.FlushAt.{FlushAt}
use Rattle.seq_turns.specs.declared.hand.FlushAt.TheVariants as flush
use Rattle.seq_turns.specs.declared.hand.RecoveryAt.{RecoveryAt}
use Rattle.seq_turns.specs.declared.hand.RecoveryAt.TheVariants as recovery
use Rattle.seq_turns.specs.Machines.{Machine}
use Rattle.seq_turns.specs.Start.{start}
use Rattle.seq_turns.specs.Allowed.{Allowed}
use Rattle.seq_turns.specs.Events.{happens, is_check}
use Rattle.seq_stands.specs.Hands.{IsHand}
use Rattle.seq_stands.specs.FitBlocks.{ContextBlockFits, BlocksFit, ContextBlocksFit, ArePastContexts, AreWhole, IsWholeBlock}
use Rattle.seq_stands.specs.FitHands.{HandFits}
use Rattle.seq_stands.specs.FitLines.{PortFits}

-- the unit that is copied next to memory i is one of the memory's
abbrev pub StateFits : MachineDesc → ℕ → State → Type 0
StateFits d i InService = Unit {0}
StateFits d i Down = Unit {0}
StateFits d i Stale = Unit {0}
StateFits d i (Copying next) = next < length (units_of (shape_of d) i)

-- at most one memory isn't in service
pub record StatesFit (d : MachineDesc) (p : Copies) : Type 0 where
  pub one_out : AtMostOneOut (shape_of d) p
  pub next : (i : ℕ) → i < d.memories → StateFits d i (p.state i)

-- a status word has its format, and names only a processor that is there
pub record StatusFits (d : MachineDesc) (w : ℕ) : Type 0 where
  pub format : IsStatusWord w
  pub named : NamesOneOf d.processors (status_in w)

-- On both copies: status words; lock words, which name a process or are 0; of each line its journal count and its closed word.
pub record WordsFit (d : MachineDesc) (p : Copies) : Type 0 where
  pub status : (q : ℕ) (shadow : Bool) → q < length d.processes → StatusFits d (p.word q 0 shadow)
  pub locks : (t : ℕ) (shadow : Bool) → t < length d.segments → p.word (segment_extent (shape_of d) t) 0 shadow ≤ length d.processes
  pub counts : (l : ℕ) (shadow : Bool) → p.word (line_extent (shape_of d) l) 0 shadow ≤ d.journal
  pub closed : (l : ℕ) (shadow : Bool) → p.word (line_extent (shape_of d) l) 1 shadow ≤ 1

-- the cause of a trap is a byte
abbrev pub EndFits : End → Type 0
EndFits Live = Unit {0}
EndFits (Exited code) = Unit {0}
EndFits (Trapped cause pc) = cause ≤ 255

-- a process that a processor has has 32 registers in each half, and four positions of each kind
pub record RunningFits (r : Running) : Type 0 where
  pub whole : IsWhole r
  pub end : EndFits r.end

-- of a flush its context, and how many turns of its stage were taken, at most so many
pub record FlushFits {S : Type 0} (d : MachineDesc) (most : ℕ) (f : Flush S) : Type 0 where
  pub context : ContextBlocksFit d f.context
  pub cursor : f.cursor ≤ most

-- two words are written, or the changed blocks and eight of the context
abbrev pub FlushAtFits : MachineDesc → List Change → FlushAt → Type 0
FlushAtFits d changes (flush.Mark f) = FlushFits d 1 f
FlushAtFits d changes (flush.First f) = FlushFits d (length changes + 8) f
FlushAtFits d changes (flush.Second f) = FlushFits d (length changes + 8) f
FlushAtFits d changes (flush.Close f) = FlushFits d 1 f

-- a recovery is of a process that is there, with its cursor at most at this number
pub record RecoveryFits (d : MachineDesc) (most q cursor : ℕ) : Type 0 where
  pub process : q < length d.processes
  pub turns : cursor ≤ most

-- two words are written, or blocks copied, or of the lock words, two for each segment, so many are passed
abbrev pub RecoveryAtFits : MachineDesc → RecoveryAt → Type 0
RecoveryAtFits d (recovery.Claimed r) = RecoveryFits d 1 r.pid.0 r.cursor
RecoveryAtFits d (recovery.Copying r) = RecoveryFits d (sum (blocks_of d)) r.pid.0 r.cursor
RecoveryAtFits d (recovery.Locks r) = RecoveryFits d (2 * length d.segments) r.pid.0 r.cursor
RecoveryAtFits d (recovery.Closing r) = RecoveryFits d 1 r.pid.0 r.cursor

-- What a hand holds beside its bounds, with these changes in its processor's cache. They are of the process that it runs, and
-- amid a flush of no context; after the flush there are none.
abbrev pub HandHolds : MachineDesc → List Change → Hand → Type 0
HandHolds d changes hand.Down = Unit {0}
HandHolds d changes hand.Seek = Unit {0}
HandHolds d changes (hand.Claiming q c) = q.0 < length d.processes
HandHolds d changes (hand.Running r) = RunningFits r × AreOwn d r changes
HandHolds d changes (hand.Acquiring r t c) = RunningFits r × AreOwn d r changes
HandHolds d changes (hand.Flushing r cause mask f) = RunningFits r × ArePastContexts d r.pid.0 changes × FlushAtFits d changes f
HandHolds d changes (hand.Unlocking r cause mask l) = RunningFits r × (changes ≡ [])
HandHolds d changes (hand.Leaving q l) = q.0 < length d.processes
HandHolds d changes (hand.Recovering r) = RecoveryAtFits d r

-- a cache of the machine
pub record CacheFits (d : MachineDesc) (c : Changes) : Type 0 where
  pub cache : IsCache c
  pub capacity : c.capacity ≡ d.cache
  pub whole : AreWhole c.changes

-- a processor in this incarnation, which looks at process q next
pub record ProcessorFits (d : MachineDesc) (p incarnation : ℕ) (hand : Hand) (c : Changes) (q : ℕ) : Type 0 where
  pub bounds : HandFits d hand
  pub own : IsHand d p incarnation hand
  pub holds : HandHolds d c.changes hand
  pub cache : CacheFits d c
  pub scan : q < length d.processes

pub record Fit (d : MachineDesc) (m : Machine) : Type 0 where
  pub states : StatesFit d m.copies
  pub words : WordsFit d m.copies
  pub blocks : BlocksFit d m.copies
  pub processors : (p : ℕ) → p < d.processors → ProcessorFits d p (m.incarnation p) (m.hand p) (m.cache p) (m.scan p)
  pub ports : (l : ℕ) → l < line_count d → PortFits d (m.port l)
  -- an element serves a line, or there is none
  pub cursors : (i : ℕ) → i < d.ios → ((m.io i).cursor ≡ 0) ⊎ ((m.io i).cursor < line_count d)

-- The start fits, with blocks that have their bytes and of which those of contexts fit.
pub record ImageFits (d : MachineDesc) (image : ℕ → ℕ → Block) : Type 0 where
  pub whole : (e n : ℕ) → IsWholeBlock (image e n)
  pub contexts : (q k : ℕ) → q < length d.processes → k < 8 → ContextBlockFits d k (image q k)

abbrev pub StartFit : Type 0
StartFit = (d : MachineDesc) (image : ℕ → ℕ → Block) → IsDescription d → ImageFits d image → Fit d (start d image)

-- every event that ends no run keeps what fits
abbrev pub EventsKeepFit : Type 0
EventsKeepFit = (d : MachineDesc) (m : Machine) (e : Event) → IsDescription d → Allowed d m e → is_check d m e ≡ false → Fit d m → Fit d (happens d m e)
