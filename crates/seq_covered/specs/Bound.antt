-- Where events are covered no machine check comes: while no processor is out no process awaits recovery.
use Rattle.std.specs.Prelude.{◌≡◌, ℕ, suc, ◌*◌, ◌<◌, ◌≤◌, false, List, [], ◌∷◌, ◌++◌, reverse, length, Some, None}
use Rattle.seq_words.specs.Description.{IsDescription}
use Rattle.seq_words.specs.declared.description.MachineDesc.{MachineDesc}
use Rattle.seq_words.specs.declared.events.Event.{Event}
use Rattle.seq_words.specs.declared.kinds.Blocker.{Blocker}
use Rattle.seq_turns.specs.Allowed.{Allowed}
use Rattle.seq_turns.specs.Events.{awaiting, check, run}
use Rattle.seq_stands.specs.Standing.{AllAllowed}
use Rattle.seq_stands.specs.CountLeft.{most_left}
use Rattle.seq_schedule.specs.Outs.{processor, half_needed, is_out, IsCovered}
use Rattle.seq_invariant.specs.Gives.{at_first}

-- Half of the turns that end an out are as many as the recoveries of all processes take, one after the other.
abbrev pub RecoveriesTakeAHalf : Type 0
RecoveriesTakeAHalf = (d : MachineDesc) → IsDescription d → length d.processes * suc (most_left d) ≤ half_needed d

-- no processor is out
abbrev pub NoneIsOut : MachineDesc → List Event → Type 0
NoneIsOut d events = (p : ℕ) → p < d.processors → is_out d events (processor p) ≡ false

-- Then no process awaits recovery.
abbrev pub NoneAwaitsWhenMended : Type 0
NoneAwaitsWhenMended =
    (d : MachineDesc) (es : List Event) →
    IsDescription d → AllAllowed d es (at_first d) → IsCovered d (reverse es) → NoneIsOut d (reverse es) → awaiting d (run d es (at_first d)) ≡ None

-- No event is a machine check after which the events are covered still.
abbrev pub ChecksAreUncovered : Type 0
ChecksAreUncovered =
    (d : MachineDesc) (es : List Event) (e : Event) (b : Blocker) →
    IsDescription d →
    AllAllowed d es (at_first d) →
    Allowed d (run d es (at_first d)) e →
    check d (run d es (at_first d)) e ≡ Some b →
    IsCovered d (reverse (es ++ e ∷ [])) →
    ⊥
