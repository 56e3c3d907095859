-- What the failures, repairs and strikes of a schedule leave of a machine, whatever is made between them.
use Rattle.std.specs.Prelude.{◌≡◌, ◌≢◌, ℕ, ◌<◌, true, false, not, Option, Some, None, List, ◌∷◌}
use Rattle.seq_words.specs.declared.half.Half.{Half}
use Rattle.seq_words.specs.declared.names.Pe.{Pe}
use Rattle.seq_words.specs.declared.elements.Me.{Me}
use Rattle.seq_words.specs.declared.names.Ioe.{Ioe}
use Rattle.seq_words.specs.declared.kinds.Element.TheVariants as elements
use Rattle.seq_words.specs.declared.description.MachineDesc.{MachineDesc}
use Rattle.seq_words.specs.declared.events.Event.{Event}
use Rattle.seq_words.specs.declared.events.Event.TheVariants as events
use Rattle.seq_memory.specs.declared.element.State.TheVariants.{Down}
use Rattle.seq_schedule.specs.declared.script.Script.{Script}
use Rattle.seq_schedule.specs.declared.script.Script.TheVariants as scripts
use Rattle.seq_schedule.specs.Scripted.{events_in}
use Rattle.seq_schedule.specs.Rules.{is_failed, is_struck, past, rule_of}
use Rattle.seq_schedule.specs.Faultless.{IsBuiltEvent}
use Rattle.seq_turns.specs.declared.hand.Hand.{Hand}
use Rattle.seq_turns.specs.declared.hand.Hand.TheVariants as hand
use Rattle.seq_turns.specs.Machines.{Machine}
use Rattle.seq_turns.specs.Allowed.{Allowed}
use Rattle.seq_turns.specs.Events.{happens, run}

-- the half that is struck of what a hand runs
abbrev pub struck_in : Hand → Option Half
struck_in hand.Down = None
struck_in hand.Seek = None
struck_in (hand.Claiming q c) = None
struck_in (hand.Running r) = r.pair.struck
struck_in (hand.Acquiring r t c) = r.pair.struck
struck_in (hand.Flushing r cause mask f) = r.pair.struck
struck_in (hand.Unlocking r cause mask l) = r.pair.struck
struck_in (hand.Leaving q l) = None
struck_in (hand.Recovering r) = None

-- Behind these scripts, the newest first: a processor that has failed is down; a memory is down exactly where it has failed, and an
-- I/O element is up exactly where it hasn't; a half is struck only where a script struck it.
pub record Agrees (d : MachineDesc) (before : List Script) (m : Machine) : Type 0 where
  pub processors : (p : Pe) → is_failed (elements.Processor p) before ≡ true → m.hand p.0 ≡ hand.Down
  pub down : (i : Me) → is_failed (elements.Memory i) before ≡ true → m.copies.state i.0 ≡ Down
  pub up : (i : Me) → i.0 < d.memories → is_failed (elements.Memory i) before ≡ false → m.copies.state i.0 ≢ Down
  pub ios : (i : Ioe) → (m.io i.0).up ≡ not (is_failed (elements.Io i) before)
  pub halves : (p : Pe) (h : Half) → struck_in (m.hand p.0) ≡ Some h → is_struck p h before ≡ true

-- Each event keeps it that violates no rule of the schedule, and so do all events of a script, with any number of rounds of a
-- `finish`. It isn't asked whether an event ends the run.
abbrev pub EventsAgree : Type 0
EventsAgree = (d : MachineDesc) (m : Machine) (e : Event) (before : List Script) → rule_of d (past d before) (scripts.One e) ≡ None → Agrees d before m → Agrees d (scripts.One e ∷ before) (happens d m e)

abbrev pub ScriptsAgree : Type 0
ScriptsAgree = (d : MachineDesc) (m : Machine) (s : Script) (rounds : ℕ) (before : List Script) → rule_of d (past d before) s ≡ None → Agrees d before m → Agrees d (s ∷ before) (run d (events_in d (λ n. rounds) s) m)

-- a failure, a repair or a strike
abbrev pub IsTrouble : Event → Type 0
IsTrouble (events.Fail e) = Unit {0}
IsTrouble (events.Repair e) = Unit {0}
IsTrouble (events.Upset p half reg mask) = Unit {0}
IsTrouble (events.Processor p) = ⊥
IsTrouble (events.Io i) = ⊥
IsTrouble (events.Input l byte) = ⊥
IsTrouble (events.Close l) = ⊥
IsTrouble (events.Hangup l) = ⊥

-- What violates no rule of a schedule may then be made.
abbrev pub TroublesAreAllowed : Type 0
TroublesAreAllowed =
    (d : MachineDesc) (m : Machine) (e : Event) (before : List Script) → Agrees d before m →
    IsTrouble e → IsBuiltEvent e → rule_of d (past d before) (scripts.One e) ≡ None → Allowed d m e
