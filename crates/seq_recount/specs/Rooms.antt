-- How many entries a history has at most, by the turns that a schedule has.
use Rattle.std.specs.Prelude.{◌≡◌, ℕ, ◌/◌, ◌<◌, ◌≤◌, List, [], ◌∷◌, ◌++◌, length, Some}
use Rattle.std.specs.List.{sum_by}
use Rattle.seq_words.specs.declared.description.MachineDesc.{MachineDesc}
use Rattle.seq_words.specs.declared.events.Entry.{Entry}
use Rattle.seq_words.specs.declared.events.Event.{Event}
use Rattle.seq_schedule.specs.declared.script.Item.{Item}
use Rattle.seq_schedule.specs.Rules.{turns_in}
use Rattle.seq_stands.specs.Counts.{commit}
use Rattle.seq_course.specs.Course.{machine_after, Passes, EndsAt, ComesTo}

-- how many turns these items make, where each `finish` makes all its rounds
abbrev pub turns_of : MachineDesc → List Item → ℕ
turns_of d items = sum_by (λ i. turns_in d i.script) items

-- an entry for each eleven of them
abbrev pub entries_for : MachineDesc → List Item → ℕ
entries_for d items = turns_of d items / 11

-- the history has no more entries after these events
abbrev pub HistoryFits : MachineDesc → List Item → List Event → Type 0
HistoryFits d items es = length (machine_after d es).history ≤ entries_for d items

-- So it is wherever a course of the items ends.
abbrev pub PassesFit : Type 0
PassesFit = (d : MachineDesc) (items : List Item) (es : List Event) → Passes d [] items es → HistoryFits d items es

abbrev pub EndsFit : Type 0
EndsFit = (d : MachineDesc) (items : List Item) (line : ℕ) (es : List Event) → EndsAt d items line es → HistoryFits d items es

abbrev pub StopsFit : Type 0
StopsFit = (d : MachineDesc) (items : List Item) (line : ℕ) (es : List Event) (e : Event) → ComesTo d items line es e → HistoryFits d items es

-- with the next event made too, as where it is a machine check
abbrev pub NextsFit : Type 0
NextsFit = (d : MachineDesc) (items : List Item) (line : ℕ) (es : List Event) (e : Event) → ComesTo d items line es e → HistoryFits d items (es ++ e ∷ [])

-- And before an event that commits an entry there is room for one more.
abbrev pub CommitsFit : Type 0
CommitsFit = (d : MachineDesc) (items : List Item) (line : ℕ) (es : List Event) (e : Event) (entry : Entry) → ComesTo d items line es e → commit d (machine_after d es) e ≡ Some entry → length (machine_after d es).history < entries_for d items
