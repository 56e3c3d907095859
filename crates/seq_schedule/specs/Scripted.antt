-- The events that the items of a schedule stand for.
use Rattle.std.specs.Prelude.{ℕ, zero, suc, List, [], ◌∷◌, ◌++◌, map}
use Rattle.std.specs.List.{range_with_len}
use Rattle.seq_words.specs.declared.kinds.Element.{Element}
use Rattle.seq_words.specs.declared.kinds.Element.TheVariants as elements
use Rattle.seq_words.specs.declared.events.Event.{Event}
use Rattle.seq_words.specs.declared.events.Event.TheVariants as events
use Rattle.seq_words.specs.declared.description.MachineDesc.{MachineDesc}
use Rattle.seq_schedule.specs.declared.script.Script.{Script}
use Rattle.seq_schedule.specs.declared.script.Script.TheVariants as scripts
use Rattle.seq_schedule.specs.declared.script.Item.{Item}

-- a turn of an element: a memory has none
abbrev pub turn_of : Element → List Event
turn_of (elements.Processor p) = events.Processor p ∷ []
turn_of (elements.Memory m) = []
turn_of (elements.Io i) = events.Io i ∷ []

-- so many times the same events
unfoldable pub times : ℕ → List Event → List Event
times zero es = []
times (suc n) es = es ++ times n es

-- a round: a turn of each processor, then of each I/O element, in ascending order
unfoldable pub round_of : MachineDesc → List Event
round_of d =
    map (λ n. events.Processor (record { 0 = n })) (range_with_len 0 d.processors)
    ++ map (λ n. events.Io (record { 0 = n })) (range_with_len 0 d.ios)

-- The events of a script. How many rounds a `finish` makes is asked of `rounds`, from its number.
unfoldable pub events_in : MachineDesc → (ℕ → ℕ) → Script → List Event
events_in d rounds (scripts.One e) = e ∷ []
events_in d rounds (scripts.Bytes l bytes) = map (λ byte. events.Input l byte) bytes
events_in d rounds (scripts.Turns e n) = times n (turn_of e)
events_in d rounds (scripts.Rounds n) = times n (round_of d)
events_in d rounds (scripts.Finish n) = times (rounds n) (round_of d)

-- The events of a list of items behind those made so far. How many rounds a `finish` makes depends on what the machine
-- has come to: it is asked of `rounds`, from the events before it and its number.
unfoldable pub events_behind : MachineDesc → (List Event → ℕ → ℕ) → List Event → List Item → List Event
events_behind d rounds made [] = made
events_behind d rounds made (i ∷ items) = events_behind d rounds (made ++ events_in d (rounds made) i.script) items

-- the events that a schedule's items stand for
abbrev pub events_of : MachineDesc → (List Event → ℕ → ℕ) → List Item → List Event
events_of d rounds items = events_behind d rounds [] items
