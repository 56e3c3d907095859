-- The course of a schedule: the events that its items make of the machine, from its start.
use Rattle.std.specs.Prelude.{◌≡◌, ℕ, ◌<◌, ◌≤◌, None, List, [], ◌∷◌, ◌++◌}
use Rattle.seq_words.specs.declared.description.MachineDesc.{MachineDesc}
use Rattle.seq_words.specs.declared.events.Event.{Event}
use Rattle.seq_schedule.specs.declared.script.Script.{Script}
use Rattle.seq_schedule.specs.declared.script.Script.TheVariants as scripts
use Rattle.seq_schedule.specs.declared.script.Item.{Item}
use Rattle.seq_schedule.specs.Scripted.{times, round_of, events_in}
use Rattle.seq_turns.specs.Machines.{Machine}
use Rattle.seq_turns.specs.Events.{happens, check, run}
use Rattle.seq_lines.specs.Settled.{IsSettled}
use Rattle.seq_machine.specs.Starting.{machine_at_start}

-- the machine of a description after these events, from its start
abbrev pub machine_after : MachineDesc → List Event → Machine
machine_after d es = run d es (machine_at_start d)

-- None of these events, made one after the other, is a machine check.
abbrev pub AreUnchecked : MachineDesc → List Event → Machine → Type 0
AreUnchecked d [] m = Unit {0}
AreUnchecked d (e ∷ es) m = (check d m e ≡ None) × AreUnchecked d es (happens d m e)

-- it is settled then
abbrev pub SettledAfter : MachineDesc → List Event → Type 0
SettledAfter d es = IsSettled d (machine_after d es)

-- A `finish` has made k of its n rounds behind these events: the machine wasn't settled before any of them.
pub record HasMadeRounds (d : MachineDesc) (es : List Event) (n k : ℕ) : Type 0 where
  pub most : k ≤ n
  pub unsettled : (j : ℕ) → j < k → SettledAfter d (es ++ times j (round_of d)) → ⊥

-- Behind these events a script makes k rounds, where it is a `finish`; else k says nothing.
abbrev pub HasMade : MachineDesc → List Event → Script → ℕ → Type 0
HasMade d es (scripts.Finish n) k = HasMadeRounds d es n k
HasMade d es (scripts.One e) k = Unit {0}
HasMade d es (scripts.Bytes l bytes) k = Unit {0}
HasMade d es (scripts.Turns e n) k = Unit {0}
HasMade d es (scripts.Rounds n) k = Unit {0}

-- the events of a script, with k rounds of a `finish`
abbrev pub made_by : MachineDesc → Script → ℕ → List Event
made_by d s k = events_in d (λ n. k) s

-- With these events made, a script has ended and the next one follows: a `finish` where the machine is settled.
abbrev pub GoesOn : MachineDesc → Script → List Event → Type 0
GoesOn d (scripts.Finish n) es = SettledAfter d es
GoesOn d (scripts.One e) es = Unit {0}
GoesOn d (scripts.Bytes l bytes) es = Unit {0}
GoesOn d (scripts.Turns e n) es = Unit {0}
GoesOn d (scripts.Rounds n) es = Unit {0}

-- A `finish` has made all its k rounds and the machine isn't settled: nothing follows.
abbrev pub RunsOut : MachineDesc → Script → ℕ → List Event → Type 0
RunsOut d (scripts.Finish n) k es = (k ≡ n) × (SettledAfter d es → ⊥)
RunsOut d (scripts.One e) k es = ⊥
RunsOut d (scripts.Bytes l bytes) k es = ⊥
RunsOut d (scripts.Turns e n) k es = ⊥
RunsOut d (scripts.Rounds n) k es = ⊥

-- The script of an item is made behind some events, with k rounds of a `finish`: all of it, without a machine check, and the next
-- item follows.
pub record GoesOnTo (d : MachineDesc) (es : List Event) (s : Script) (after : List Event) : Type 0 where
  pub rounds : ℕ
  pub made : HasMade d es s rounds
  pub after_is : after ≡ es ++ made_by d s rounds
  pub unchecked : AreUnchecked d (made_by d s rounds) (machine_after d es)
  pub goes_on : GoesOn d s after

-- All items are made behind some events, and these are the events then.
unfoldable pub Passes : MachineDesc → List Event → List Item → List Event → Type 0
Passes d es [] after = after ≡ es
Passes d es (i ∷ items) after = (next : List Event) × GoesOnTo d es i.script next × Passes d next items after

-- Some items are made, and the `finish` of the next one, on this line, runs out of turns without a machine check.
pub record EndsAt (d : MachineDesc) (items : List Item) (line : ℕ) (after : List Event) : Type 0 where
  pub front : List Item
  pub item : Item
  pub back : List Item
  pub split : items ≡ front ++ item ∷ back
  pub line_is : item.line ≡ line
  pub before : List Event
  pub passes : Passes d [] front before
  pub rounds : ℕ
  pub made : HasMade d before item.script rounds
  pub after_is : after ≡ before ++ made_by d item.script rounds
  pub unchecked : AreUnchecked d (made_by d item.script rounds) (machine_after d before)
  pub runs_out : RunsOut d item.script rounds after

-- Some items are made, and a part of the next one, on this line, without a machine check: after these events its next event is e.
pub record ComesTo (d : MachineDesc) (items : List Item) (line : ℕ) (after : List Event) (e : Event) : Type 0 where
  pub front : List Item
  pub item : Item
  pub back : List Item
  pub split : items ≡ front ++ item ∷ back
  pub line_is : item.line ≡ line
  pub before : List Event
  pub passes : Passes d [] front before
  pub rounds : ℕ
  pub made : HasMade d before item.script rounds
  pub part : List Event
  pub rest : List Event
  pub parts : made_by d item.script rounds ≡ part ++ e ∷ rest
  pub after_is : after ≡ before ++ part
  pub unchecked : AreUnchecked d part (machine_after d before)
