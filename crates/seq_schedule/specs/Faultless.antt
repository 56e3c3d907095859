-- What the items of a faultless schedule are.
use Rattle.std.specs.Prelude.{◌≡◌, ℕ, ◌≤◌, None, All, List, [], ◌∷◌, length}
use Rattle.seq_words.specs.declared.kinds.Element.{Element}
use Rattle.seq_words.specs.declared.kinds.Element.TheVariants as elements
use Rattle.seq_words.specs.declared.events.Event.{Event}
use Rattle.seq_words.specs.declared.events.Event.TheVariants as events
use Rattle.seq_words.specs.declared.description.MachineDesc.{MachineDesc}
use Rattle.seq_schedule.specs.declared.script.Script.{Script}
use Rattle.seq_schedule.specs.declared.script.Script.TheVariants as scripts
use Rattle.seq_schedule.specs.declared.script.Item.{Item}
use Rattle.seq_schedule.specs.declared.forms.Gate.TheVariants.{Built}
use Rattle.seq_schedule.specs.Limits.{most_lines}
use Rattle.seq_schedule.specs.Rules.{past, rule_of, first_fault, items_of}

-- the registers that may be struck: x1 to x31 by their numbers, and pc as 32
abbrev pub MayBeStruck : ℕ → Type 0
MayBeStruck r = (1 ≤ r) × (r ≤ 32)

-- an event that a line says by itself, and that the machine makes: a turn, the end of an input, a failure or repair, a strike
abbrev pub IsBuiltEvent : Event → Type 0
IsBuiltEvent (events.Processor p) = Unit {0}
IsBuiltEvent (events.Io i) = Unit {0}
IsBuiltEvent (events.Close l) = Unit {0}
IsBuiltEvent (events.Input l byte) = ⊥
IsBuiltEvent (events.Fail e) = Unit {0}
IsBuiltEvent (events.Repair e) = Unit {0}
IsBuiltEvent (events.Upset p h r mask) = MayBeStruck r
IsBuiltEvent (events.Hangup l) = ⊥

-- an element that takes turns
abbrev pub TakesTurns : Element → Type 0
TakesTurns (elements.Processor p) = Unit {0}
TakesTurns (elements.Memory m) = ⊥
TakesTurns (elements.Io i) = Unit {0}

-- a script that the machine makes
abbrev pub IsBuiltScript : Script → Type 0
IsBuiltScript (scripts.One e) = IsBuiltEvent e
IsBuiltScript (scripts.Bytes l bytes) = Unit {0}
IsBuiltScript (scripts.Turns e n) = TakesTurns e
IsBuiltScript (scripts.Rounds n) = Unit {0}
IsBuiltScript (scripts.Finish n) = Unit {0}

-- The items violate no rule, each behind the scripts before it, of which the newest is the first.
unfoldable pub FollowRules : MachineDesc → List Script → List Item → Type 0
FollowRules d before [] = Unit {0}
FollowRules d before (i ∷ items) = (rule_of d (past d before) i.script ≡ None) × FollowRules d (i.script ∷ before) items

-- The items of a faultless schedule: they violate no rule, the machine makes all of them, and there is at most one a line.
pub record AreFaultless (d : MachineDesc) (items : List Item) : Type 0 where
  pub follow : FollowRules d [] items
  pub built : All (λ i. IsBuiltScript i.script) items
  pub few : length items ≤ most_lines

-- So are those of a faultless text.
abbrev pub FaultlessTexts : Type 0
FaultlessTexts = (d : MachineDesc) (text : List ℕ) → first_fault Built d text ≡ None → AreFaultless d (items_of Built text)
