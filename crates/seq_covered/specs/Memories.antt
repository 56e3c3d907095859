-- Where events are covered, a memory that isn't out is in service: while one is to be copied no operation begins, those that are going
-- on end within a quarter of the turns that end an out, and within the rest every unit is copied.
use Rattle.std.specs.Prelude.{◌≡◌, ℕ, ◌+◌, ◌-◌, ◌*◌, ◌<◌, ◌≤◌, true, false, List, ◌++◌, reverse, length}
use Rattle.std.specs.List.{list_any}
use Rattle.seq_words.specs.Description.{IsDescription}
use Rattle.seq_words.specs.declared.description.MachineDesc.{MachineDesc}
use Rattle.seq_words.specs.declared.events.Event.{Event}
use Rattle.seq_memory.specs.declared.element.State.TheVariants.{InService}
use Rattle.seq_layout.specs.Shapes.{shape_of}
use Rattle.seq_layout.specs.Units.{units_of}
use Rattle.seq_turns.specs.Machines.{Machine}
use Rattle.seq_turns.specs.Reading.{is_copied}
use Rattle.seq_turns.specs.Recoveries.{next_of}
use Rattle.seq_turns.specs.Events.{run}
use Rattle.seq_stands.specs.Standing.{AllAllowed}
use Rattle.seq_stands.specs.CountLeft.{left_of, most_left}
use Rattle.seq_schedule.specs.Outs.{processor, memory, fails, turns_needed, first_count, is_out, IsCovered}
use Rattle.seq_invariant.specs.Gives.{at_first}

-- A quarter of the turns that end an out are as many as any operation takes.
abbrev pub OperationsTakeAQuarter : Type 0
OperationsTakeAQuarter = (d : MachineDesc) → IsDescription d → 4 * most_left d ≤ turns_needed d

-- Half of them are as many as any memory has units.
abbrev pub UnitsTakeAHalf : Type 0
UnitsTakeAHalf = (d : MachineDesc) (i : ℕ) → IsDescription d → 2 * length (units_of (shape_of d) i) ≤ turns_needed d

-- How far the copying of memory i has come, by the first counts after these events, the newest first. Of the most turns that an
-- operation takes, no processor has more left than those that it hasn't counted. Where each has counted n turns past them, n units are
-- copied.
pub record CopyingKeepsUp (d : MachineDesc) (events : List Event) (m : Machine) (i : ℕ) : Type 0 where
  pub left : (p : ℕ) → p < d.processors → left_of d m p ≤ most_left d - first_count events (processor p)
  pub copied : (n : ℕ) → ((p : ℕ) → p < d.processors → most_left d + n ≤ first_count events (processor p)) → n ≤ next_of (m.copies.state i)

-- So it is of a memory that is to be copied.
abbrev pub CopyingKeepsUpWhenCovered : Type 0
CopyingKeepsUpWhenCovered =
    (d : MachineDesc) (es : List Event) (i : ℕ) →
    IsDescription d →
    AllAllowed d es (at_first d) →
    IsCovered d (reverse es) →
    i < d.memories →
    is_copied ((run d es (at_first d)).copies.state i) ≡ true →
    CopyingKeepsUp d (reverse es) (run d es (at_first d)) i

-- Hence a memory that isn't out is in service.
abbrev pub MemoriesServeWhenCovered : Type 0
MemoriesServeWhenCovered =
    (d : MachineDesc) (es : List Event) (i : ℕ) →
    IsDescription d →
    AllAllowed d es (at_first d) →
    IsCovered d (reverse es) →
    i < d.memories →
    is_out d (reverse es) (memory i) ≡ false →
    (run d es (at_first d)).copies.state i ≡ InService

-- Whatever happens to a memory in service, it stays so until it fails.
abbrev pub ServiceLasts : Type 0
ServiceLasts = (d : MachineDesc) (es : List Event) (m : Machine) (i : ℕ) → list_any (fails (memory i)) es ≡ false → m.copies.state i ≡ InService → (run d es m).copies.state i ≡ InService

-- So a memory that was out no longer, where the events up to then are covered, is in service until its next failure.
abbrev pub MemoriesServeOn : Type 0
MemoriesServeOn =
    (d : MachineDesc) (es later : List Event) (i : ℕ) →
    IsDescription d →
    AllAllowed d es (at_first d) →
    IsCovered d (reverse es) →
    i < d.memories →
    is_out d (reverse es) (memory i) ≡ false →
    list_any (fails (memory i)) later ≡ false →
    (run d (es ++ later) (at_first d)).copies.state i ≡ InService
