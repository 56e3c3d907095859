-- How many turns of its own a processor may still take amid its operation, by its hand and the changed blocks in its cache alone,
-- whatever memories hold.
use Rattle.std.specs.Prelude.{◌≡◌, ℕ, zero, suc, ◌+◌, ◌-◌, ◌*◌, ◌<◌, ◌≤◌, Bool, true, false, ◌==◌, if◌then◌else◌, List, [], ◌∷◌, length, sum, Some}
use Rattle.seq_words.specs.Masks.{has_bit}
use Rattle.seq_words.specs.Description.{IsDescription}
use Rattle.seq_words.specs.declared.description.MachineDesc.{MachineDesc}
use Rattle.seq_words.specs.declared.events.Event.{Event}
use Rattle.seq_words.specs.declared.events.Event.TheVariants as event
use Rattle.seq_words.specs.declared.names.Pe.{Pe}
use Rattle.seq_layout.specs.Shapes.{blocks_of}
use Rattle.seq_kernel.specs.declared.outcomes.Cause.{Cause}
use Rattle.seq_kernel.specs.declared.outcomes.Cause.TheVariants as cause
use Rattle.seq_turns.specs.declared.hand.Hand.{Hand}
use Rattle.seq_turns.specs.declared.hand.Hand.TheVariants as hand
use Rattle.seq_turns.specs.declared.hand.FlushAt.{FlushAt}
use Rattle.seq_turns.specs.declared.hand.FlushAt.TheVariants as flush
use Rattle.seq_turns.specs.declared.hand.ReleaseAt.TheVariants as release
use Rattle.seq_turns.specs.declared.hand.RecoveryAt.{RecoveryAt}
use Rattle.seq_turns.specs.declared.hand.RecoveryAt.TheVariants as recovery
use Rattle.seq_turns.specs.Machines.{Machine}
use Rattle.seq_turns.specs.Reading.{copied_memory, is_amid}
use Rattle.seq_turns.specs.Allowed.{Allowed}
use Rattle.seq_turns.specs.Events.{happens, run}
use Rattle.seq_stands.specs.Fit.{Fit}

-- how many of the segments below a number a mask has
abbrev pub segments_below : ℕ → ℕ → ℕ
segments_below zero mask = 0
segments_below (suc n) mask = segments_below n mask + (if has_bit mask n then 1 else 0)

-- a cause after which the process doesn't run on takes two turns more, which release its status word
abbrev pub leaving_turns : Cause → ℕ
leaving_turns (cause.Release segment) = 0
leaving_turns cause.Exit = 2
leaving_turns cause.Trap = 2
leaving_turns cause.Commit = 0
leaving_turns cause.Yield = 2
leaving_turns (cause.Wait reason) = 2
leaving_turns cause.Room = 0
leaving_turns cause.Quantum = 2

-- after the flush: two turns for each lock word that is still to be released, and those that leave the process
abbrev pub releasing_turns : MachineDesc → Cause → ℕ → ℕ
releasing_turns d why mask = 2 * segments_below (length d.segments) mask + leaving_turns why

-- A flush of so many units: two turns of Mark; one for each unit and the commit; one for the shadow word and one for each unit; two
-- of Close.
abbrev pub flush_left : ℕ → FlushAt → ℕ
flush_left units (flush.Mark f) = 2 * units + 6 - f.cursor
flush_left units (flush.First f) = 2 * units + 4 - f.cursor
flush_left units (flush.Second f) = units + 3 - f.cursor
flush_left units (flush.Close f) = 2 - f.cursor

-- A recovery: two turns claim it; one copies each block; one clears each lock word, two of a segment, or finds none; two close it.
abbrev pub recovery_left : MachineDesc → RecoveryAt → ℕ
recovery_left d (recovery.Claimed r) = sum (blocks_of d) + 2 * length d.segments + 6 - r.cursor
recovery_left d (recovery.Copying r) = sum (blocks_of d) + 2 * length d.segments + 4 - r.cursor
recovery_left d (recovery.Locks r) = 2 * length d.segments + 3 - r.cursor
recovery_left d (recovery.Closing r) = 2 - r.cursor

-- With so many changed blocks, and eight of the context. A claim of a process may find that it ended, and leave it; one of a lock
-- may be refused, whereupon the process is flushed and left.
abbrev pub left : MachineDesc → ℕ → Hand → ℕ
left d changes hand.Down = 0
left d changes hand.Seek = 0
left d changes (hand.Claiming q c) = 3
left d changes (hand.Running r) = 0
left d changes (hand.Acquiring r t c) = 2 * (changes + 8) + 9
left d changes (hand.Flushing r why mask f) = flush_left (changes + 8) f + releasing_turns d why mask
left d changes (hand.Unlocking r why mask (release.Shadow l)) = releasing_turns d why mask
left d changes (hand.Unlocking r why mask (release.Primary l)) = releasing_turns d why mask - 1
left d changes (hand.Leaving q (release.Shadow l)) = 2
left d changes (hand.Leaving q (release.Primary l)) = 1
left d changes (hand.Recovering r) = recovery_left d r

-- how many turns processor p may still take
abbrev pub left_of : MachineDesc → Machine → ℕ → ℕ
left_of d m p = left d (length (m.cache p).changes) (m.hand p)

-- the most turns of an operation
abbrev pub most_left : MachineDesc → ℕ
most_left d = sum (blocks_of d) + 2 * d.cache + 2 * length d.segments + 32

-- There are turns left exactly amid an operation, and at most so many.
pub record LeavesFew (d : MachineDesc) (m : Machine) (p : ℕ) : Type 0 where
  pub none : is_amid (m.hand p) ≡ false → left_of d m p ≡ 0
  pub some : is_amid (m.hand p) ≡ true → 0 < left_of d m p
  pub most : left_of d m p ≤ most_left d

abbrev pub LeftIsFew : Type 0
LeftIsFew = (d : MachineDesc) (m : Machine) (p : ℕ) → Fit d m → p < d.processors → LeavesFew d m p

-- So it is after every event that may be made of a machine that fits: what begins an operation leaves at most so many.
abbrev pub EventsLeaveFew : Type 0
EventsLeaveFew =
    (d : MachineDesc) (m : Machine) (e : Event) (p : ℕ) → IsDescription d → Fit d m → Allowed d m e → p < d.processors → left_of d (happens d m e) p ≤ most_left d

-- Each turn of a processor amid an operation leaves fewer.
abbrev pub OwnTurnsLower : Type 0
OwnTurnsLower = (d : MachineDesc) (m : Machine) (p : Pe) → Fit d m → p.0 < d.processors → is_amid (m.hand p.0) ≡ true → left_of d (happens d m (event.Processor p)) p.0 < left_of d m p.0

-- the event is a turn of this processor
abbrev pub is_turn_of : ℕ → Event → Bool
is_turn_of p (event.Processor q) = q.0 == p
is_turn_of p _ = false

-- No other event leaves more, whatever the machine.
abbrev pub OthersRaiseNone : Type 0
OthersRaiseNone = (d : MachineDesc) (m : Machine) (e : Event) (p : ℕ) → is_turn_of p e ≡ false → left_of d (happens d m e) p ≤ left_of d m p

-- how many of these events are turns of this processor
abbrev pub turns_of : ℕ → List Event → ℕ
turns_of p [] = 0
turns_of p (e ∷ es) = (if is_turn_of p e then 1 else 0) + turns_of p es

-- Before each of these events the machine fits, and none of them begins an operation of the processor.
abbrev pub BeginsNone : MachineDesc → ℕ → List Event → Machine → Type 0
BeginsNone d p [] m = Unit {0}
BeginsNone d p (e ∷ es) m = Fit d m × (is_amid (m.hand p) ≡ false → is_amid ((happens d m e).hand p) ≡ false) × BeginsNone d p es (happens d m e)

-- Then its turns run out: as many are less as it takes, until none is left.
abbrev pub LeftRunsOut : Type 0
LeftRunsOut = (d : MachineDesc) (p : ℕ) (es : List Event) (m : Machine) → p < d.processors → BeginsNone d p es m → left_of d (run d es m) p ≤ left_of d m p - turns_of p es

-- While a memory is to be copied no event begins an operation.
abbrev pub CopyingBeginsNone : Type 0
CopyingBeginsNone = (d : MachineDesc) (m : Machine) (e : Event) (p i : ℕ) → copied_memory d m.copies ≡ Some i → is_amid (m.hand p) ≡ false → is_amid ((happens d m e).hand p) ≡ false
