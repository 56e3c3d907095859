-- Who is down, and who is out. Events from the start are listed the oldest first; `reverse` lists them the newest first.
use Rattle.std.specs.Prelude.{◌≡◌, ℕ, ◌<◌, true, List, reverse, Some}
use Rattle.seq_words.specs.Description.{IsDescription}
use Rattle.seq_words.specs.declared.description.MachineDesc.{MachineDesc}
use Rattle.seq_words.specs.declared.events.Event.{Event}
use Rattle.seq_words.specs.declared.half.Half.{Half}
use Rattle.seq_process.specs.declared.running.Running.{Running}
use Rattle.seq_turns.specs.declared.hand.Hand.TheVariants as hand
use Rattle.seq_turns.specs.Processors.{turn}
use Rattle.seq_turns.specs.Events.{stops, run}
use Rattle.seq_stands.specs.Standing.{AllAllowed}
use Rattle.seq_schedule.specs.Outs.{processor, is_out}
use Rattle.seq_invariant.specs.Gives.{at_first}
use Rattle.seq_invariant.specs.Orders.{running_in}

-- a processor that is down is out
abbrev pub DownIsOut : Type 0
DownIsOut =
    (d : MachineDesc) (es : List Event) (p : ℕ) →
    IsDescription d → AllAllowed d es (at_first d) → p < d.processors → (run d es (at_first d)).hand p ≡ hand.Down → is_out d (reverse es) (processor p) ≡ true

-- and so is one that has a process of which a half is struck
abbrev pub StruckIsOut : Type 0
StruckIsOut =
    (d : MachineDesc) (es : List Event) (p : ℕ) (r : Running) (half : Half) →
    IsDescription d → AllAllowed d es (at_first d) → p < d.processors → running_in ((run d es (at_first d)).hand p) ≡ Some r → r.pair.struck ≡ Some half → is_out d (reverse es) (processor p) ≡ true

-- and one whose turn stops it, since its halves differ
abbrev pub DifferingIsOut : Type 0
DifferingIsOut =
    (d : MachineDesc) (es : List Event) (p : ℕ) →
    IsDescription d → AllAllowed d es (at_first d) → p < d.processors → stops (turn d (run d es (at_first d)) p ((run d es (at_first d)).hand p)) ≡ true → is_out d (reverse es) (processor p) ≡ true
