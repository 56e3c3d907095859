-- A turn of a processor by which no memory is copied: what it needs, and what it leaves; and which turns copy one.
use Rattle.std.specs.Prelude.{◌≡◌, ℕ, ◌+◌, ◌^◌, ◌<◌, ◌≤◌, Bool, true, false, if◌then◌else◌, List, [], length, slice_index, slice_set, Option, Some, None}
use Rattle.seq_words.specs.declared.description.MachineDesc.{MachineDesc}
use Rattle.seq_words.specs.declared.kinds.Element.TheVariants as element
use Rattle.seq_flat.specs.declared.state.End.TheVariants.{Live}
use Rattle.seq_layout.specs.Shapes.{shape_of}
use Rattle.seq_layout.specs.Copies.{Copies, copies}
use Rattle.seq_cache.specs.Changes.{Changes}
use Rattle.seq_process.specs.declared.running.Running.{Running}
use Rattle.seq_ruling.specs.Ruling.{HaveRulingWords, AreHeldByOneOf}
use Rattle.seq_reintegrate.specs.Needs.{CopyingNeeds}
use Rattle.seq_kernel.specs.Bounds.{IsWithin, AreReadable}
use Rattle.seq_kernel.specs.declared.outcomes.Note.{Note}
use Rattle.seq_kernel.specs.declared.outcomes.Note.TheVariants.{Nothing, Stopped as StopsElement}
use Rattle.seq_locks.specs.Turns.{is_taken, word_at}
use Rattle.seq_turns.specs.declared.hand.Hand.{Hand}
use Rattle.seq_turns.specs.declared.hand.Hand.TheVariants as hand
use Rattle.seq_turns.specs.Machines.{Machine, Turn}
use Rattle.seq_turns.specs.Machines.Turn.{Moves, Looks, Copies_unit, Stops}
use Rattle.seq_io.specs.Changes.Change.{Unchanged}
use Rattle.seq_turns.specs.Reading.{status_word, lock_word, copied_memory}
use Rattle.seq_turns.specs.Processors.{is_free, deserted, seeks, runs, turn}
use Rattle.seq_machine.specs.Here.{here, among, turned, cache_after}
use Rattle.seq_machine.specs.Needs.{MayBeSaved, NeedsOf, RecoveryNeeds}
use Rattle.seq_machine.specs.Checking.{MayBeChecked}
use Rattle.seq_machine.specs.declared.turned.Turned.{Turned}
use Rattle.seq_machine.specs.declared.turned.Turned.TheVariants as left
use Rattle.seq_machine.specs.declared.hardware.Processor.{Processor}
use Rattle.seq_machine.specs.declared.hardware.Hardware.{Hardware}
use Rattle.seq_machine.specs.Plain.{processor_of}

-- A process may take its next step: it lives within its bounds, its context may be saved, the memories may be read, and each lock
-- word is 0 or names a process.
pub record RunNeeds (d : MachineDesc) (p : Copies) (r : Running) : Type 0 where
  pub readable : AreReadable d p
  pub within : IsWithin d r
  pub saved : MayBeSaved r
  pub live : r.end ≡ Live
  pub named : (t : ℕ) → t < length d.segments → word_at p (lock_word d t) false ≤ length d.processes

-- Status words may be read, and process q may be looked at: where it may be claimed, its status word isn't taken at the primary.
pub record SeekNeeds (d : MachineDesc) (p : Copies) (q : ℕ) : Type 0 where
  pub words : HaveRulingWords (shape_of d) p
  pub holders : AreHeldByOneOf d.processors (shape_of d) p
  pub process : q < length d.processes
  pub untaken : (c : Changes) (i : ℕ) → is_free d (here p c i) q ≡ true → is_taken (shape_of d) p (status_word q) false ≡ false

-- what the turn needs of a processor with this cache, which looks at this process next, and with this hand
abbrev pub TurnNeeds : MachineDesc → Copies → Changes → ℕ → Hand → Type 0
TurnNeeds d p cache scan hand.Down = Unit {0}
TurnNeeds d p cache scan hand.Seek = SeekNeeds d p scan
TurnNeeds d p cache scan (hand.Claiming q c) = NeedsOf d p cache (hand.Claiming q c)
TurnNeeds d p cache scan (hand.Running r) = RunNeeds d p r
TurnNeeds d p cache scan (hand.Acquiring r t c) = NeedsOf d p cache (hand.Acquiring r t c)
TurnNeeds d p cache scan (hand.Flushing r cause mask f) = NeedsOf d p cache (hand.Flushing r cause mask f)
TurnNeeds d p cache scan (hand.Unlocking r cause mask l) = NeedsOf d p cache (hand.Unlocking r cause mask l)
TurnNeeds d p cache scan (hand.Leaving q l) = NeedsOf d p cache (hand.Leaving q l)
TurnNeeds d p cache scan (hand.Recovering r) = RecoveryNeeds d p r

-- a processor that seeks recovers the lowest process whose holder isn't live, else it looks at a process
abbrev pub seeks_among : MachineDesc → Machine → ℕ → Turn
seeks_among d m pe = seeks d m pe (deserted d m)

-- the turn of processor pe by what it reads; the incarnations of others are read by one that seeks
abbrev pub local_turn : MachineDesc → Copies → Changes → (ℕ → ℕ) → ℕ → ℕ → Hand → Turn
local_turn d p cache i scan pe hand.Down = Moves (record { change = Unchanged; hand = hand.Down; cache = cache; commit = None; note = Nothing })
local_turn d p cache i scan pe hand.Seek = seeks_among d (among p cache i scan) pe
local_turn d p cache i scan pe (hand.Claiming q c) = turn d (here p cache (i pe)) pe (hand.Claiming q c)
local_turn d p cache i scan pe (hand.Running r) = runs d (here p cache (i pe)) pe r
local_turn d p cache i scan pe (hand.Acquiring r t c) = turn d (here p cache (i pe)) pe (hand.Acquiring r t c)
local_turn d p cache i scan pe (hand.Flushing r cause mask f) = turn d (here p cache (i pe)) pe (hand.Flushing r cause mask f)
local_turn d p cache i scan pe (hand.Unlocking r cause mask l) = turn d (here p cache (i pe)) pe (hand.Unlocking r cause mask l)
local_turn d p cache i scan pe (hand.Leaving q l) = turn d (here p cache (i pe)) pe (hand.Leaving q l)
local_turn d p cache i scan pe (hand.Recovering r) = turn d (here p cache (i pe)) pe (hand.Recovering r)

-- A processor that stops loses what it is about, and its changes.
abbrev pub hand_left : Turned → Hand
hand_left (left.Moved hand note) = hand
hand_left left.Stopped = hand.Down

abbrev pub cache_left : Turned → Changes → Changes
cache_left (left.Moved hand note) cache = cache
cache_left left.Stopped cache = record cache { changes = [] }

-- the processor after a turn
abbrev pub processor_after : Turn → Processor → Processor
processor_after t before = record { hand = hand_left (turned t); cache = cache_left (turned t) (cache_after before.cache t) }

-- the turn's note; none where the processor stops
abbrev pub note_left : Turned → Option Note
note_left (left.Moved hand note) = Some note
note_left left.Stopped = None

-- which process it looks at next
abbrev pub cursor_after : Turn → ℕ → ℕ
cursor_after (Moves move) scan = scan
cursor_after (Looks next move) scan = next
cursor_after (Copies_unit memory) scan = scan
cursor_after Stops scan = scan

-- and the note of a processor that stops
abbrev pub noted : ℕ → Option Note → Note
noted pe (Some note) = note
noted pe None = StopsElement (element.Processor (record { 0 = pe }))

-- how often each processor has stopped, after a turn of processor pe
abbrev pub incarnations_after : Option Note → List ℕ → ℕ → List ℕ
incarnations_after (Some note) incarnations pe = incarnations
incarnations_after None incarnations pe = slice_set incarnations pe (slice_index incarnations pe + 1)

-- a processor that seeks or runs copies a memory, where one is to be copied
abbrev pub is_copier : Hand → Bool
is_copier hand.Down = false
is_copier hand.Seek = true
is_copier (hand.Claiming q c) = false
is_copier (hand.Running r) = true
is_copier (hand.Acquiring r t c) = false
is_copier (hand.Flushing r cause mask f) = false
is_copier (hand.Unlocking r cause mask l) = false
is_copier (hand.Leaving q l) = false
is_copier (hand.Recovering r) = false

abbrev pub copied_by : Option ℕ → Hand → Option ℕ
copied_by found h = if is_copier h then found else None

-- Processor pe of the hardware may take a turn: all that the turn needs is there, also where it copies a unit of a memory, or stops.
pub record MayTurn (h : Hardware) (pe : ℕ) : Type 0 where
  pub processor : pe < h.desc.processors
  pub incarnation : slice_index h.incarnations pe < 2 ^ 48
  pub copying : (i : ℕ) → copied_memory h.desc (copies h.layout h.memories) ≡ Some i → CopyingNeeds h.layout (copies h.layout h.memories) i
  pub checked : MayBeChecked h.desc (copies h.layout h.memories)
  pub needs : TurnNeeds h.desc (copies h.layout h.memories) (processor_of h pe).cache (slice_index h.scan pe) (processor_of h pe).hand
