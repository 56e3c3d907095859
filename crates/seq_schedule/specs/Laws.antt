-- Laws of schedules.
use Rattle.std.specs.Prelude.{◌≡◌, ℕ, false, None, List, All}
use Rattle.std.specs.List.{sum_by}
use Rattle.seq_words.specs.declared.kinds.Element.TheVariants.{Memory}
use Rattle.seq_words.specs.declared.elements.Me.{Me}
use Rattle.seq_words.specs.declared.description.MachineDesc.{MachineDesc}
use Rattle.seq_schedule.specs.declared.script.Script.{Script}
use Rattle.seq_schedule.specs.declared.script.Script.TheVariants.{Turns}
use Rattle.seq_schedule.specs.declared.forms.Gate.{Gate}
use Rattle.seq_schedule.specs.declared.forms.Gate.TheVariants.{Built, Open}
use Rattle.seq_schedule.specs.Rules.{is_absent, turns_of_event, turns_in, items_of, first_fault}
use Rattle.seq_schedule.specs.Scripted.{events_in}

-- All that the items of a faultless text name is in the description.
abbrev pub ItemsAreThere : Type 0
ItemsAreThere = (gate : Gate) (d : MachineDesc) (text : List ℕ) → first_fault gate d text ≡ None → All (λ i. is_absent d i.script ≡ false) (items_of gate text)

-- The turns that are counted are those of the events, where a `finish` makes all its rounds. A memory has no turn.
abbrev pub TurnsAreCounted : Type 0
TurnsAreCounted = (d : MachineDesc) (s : Script) → ((m : Me) (n : ℕ) → s ≡ Turns (Memory m) n → ⊥) → sum_by turns_of_event (events_in d (λ n. n) s) ≡ turns_in d s

-- A text that is faultless behind the gate is faultless without it, and has the same items: no later form changes what is
-- taken today.
abbrev pub GateKeepsTexts : Type 0
GateKeepsTexts = (d : MachineDesc) (text : List ℕ) → first_fault Built d text ≡ None → (first_fault Open d text ≡ None) × (items_of Built text ≡ items_of Open text)
