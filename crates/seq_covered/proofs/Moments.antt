-- The machine after events that are listed the newest first.
use mathlib.Core.List.{reverse_aux}
use Rattle.std.proofs.Common.{◌≡◌, false, List, [], ◌∷◌, ◌++◌, reverse, refl}
use Rattle.seq_words.specs.Description.{IsDescription}
use Rattle.seq_words.specs.declared.description.MachineDesc.{MachineDesc}
use Rattle.seq_words.specs.declared.events.Event.{Event}
use Rattle.seq_turns.specs.Machines.{Machine}
use Rattle.seq_turns.specs.Allowed.{Allowed}
use Rattle.seq_turns.specs.Events.{happens, is_check, run}
use Rattle.seq_stands.specs.Standing.{AllAllowed}
use Rattle.seq_invariant.specs.Gives.{at_first}
use Rattle.seq_invariant.specs.Within.{HoldsWithin}
use Rattle.seq_invariant.proofs.Within.{start_holds_within, events_keep_within}

abbrev pub moment : MachineDesc → List Event → Machine
moment d [] = at_first d
moment d (x ∷ earlier) = happens d (moment d earlier) x

-- each of them may be made, and none ends the run
abbrev pub AllMade : MachineDesc → List Event → Type 0
AllMade d [] = Unit {0}
AllMade d (x ∷ earlier) = AllMade d earlier × Allowed d (moment d earlier) x × (is_check d (moment d earlier) x ≡ false)

unwound : (d : MachineDesc) (es before : List Event) → run d es (moment d before) ≡ moment d (reverse_aux es before)
unwound d [] before = refl
unwound d (e ∷ es) before = unwound d es (e ∷ before)

made_on : (d : MachineDesc) (es before : List Event) → AllMade d before → AllAllowed d es (moment d before) → AllMade d (reverse_aux es before)
made_on d [] before made may = made
made_on d (e ∷ es) before made may = made_on d es (e ∷ before) (made, may.0, may.1) may.2

pub in_order : (d : MachineDesc) (es : List Event) → run d es (at_first d) ≡ moment d (reverse es)
in_order d es = unwound d es []

pub made_in_order : (d : MachineDesc) (es : List Event) → AllAllowed d es (at_first d) → AllMade d (reverse es)
made_in_order d es may = made_on d es [] tt may

-- and the other way round
made_again : (d : MachineDesc) (xs es : List Event) → AllMade d xs → AllAllowed d es (moment d xs) → AllAllowed d (reverse_aux xs es) (at_first d)
made_again d [] es made may = may
made_again d (x ∷ xs) es made may = made_again d xs (x ∷ es) made.0 (made.1, made.2, may)

pub allowed_of : (d : MachineDesc) (xs : List Event) → AllMade d xs → AllAllowed d (reverse xs) (at_first d)
allowed_of d xs made = made_again d xs [] made tt

-- all that stands of a machine stands of it after some events
pub record Holds (d : MachineDesc) (m : Machine) : Type 0 where
  pub events : List Event
  pub within : HoldsWithin d events m

pub all_holds : (d : MachineDesc) (xs : List Event) → IsDescription d → AllMade d xs → Holds d (moment d xs)
all_holds d [] described made = record { events = []; within = start_holds_within d described }
all_holds d (x ∷ xs) described made =
    let before = all_holds d xs described made.0 in
    record { events = before.events ++ x ∷ []; within = events_keep_within d before.events (moment d xs) x described made.1 made.2 before.within }
