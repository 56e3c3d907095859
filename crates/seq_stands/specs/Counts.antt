-- How often a history can grow: each commit has eleven turns of its processor to itself.
use Rattle.std.specs.Prelude.{◌≡◌, ◌≢◌, ℕ, zero, suc, ◌+◌, ◌*◌, ◌≤◌, Bool, true, false, List, [], ◌∷◌, length, Option, Some, None}
use Rattle.seq_words.specs.declared.block.Block.{Block}
use Rattle.seq_words.specs.declared.description.MachineDesc.{MachineDesc}
use Rattle.seq_words.specs.declared.events.Entry.{Entry}
use Rattle.seq_words.specs.declared.events.Event.{Event}
use Rattle.seq_words.specs.declared.events.Event.TheVariants as event
use Rattle.seq_words.specs.declared.names.Pe.{Pe}
use Rattle.seq_turns.specs.Machines.{Machine, Turn, history_after}
use Rattle.seq_turns.specs.Machines.Turn.{Moves, Looks, Copies_unit, Stops}
use Rattle.seq_turns.specs.Processors.{turn}
use Rattle.seq_turns.specs.Events.{happens, run}
use Rattle.seq_turns.specs.Start.{start}
use Rattle.seq_stands.specs.CountAhead.{ahead}

-- what a turn commits
abbrev pub commit_of : Turn → Option Entry
commit_of (Moves move) = move.commit
commit_of (Looks next move) = move.commit
commit_of (Copies_unit i) = None
commit_of Stops = None

-- what an event commits: none does but a processor's turn
abbrev pub commit : MachineDesc → Machine → Event → Option Entry
commit d m (event.Processor p) = commit_of (turn d m p.0 (m.hand p.0))
commit d m _ = None

-- the event is a turn of a processor
abbrev pub is_turn : Event → Bool
is_turn (event.Processor p) = true
is_turn _ = false

-- how far processor p is ahead
abbrev pub ahead_of : Machine → ℕ → ℕ
ahead_of m p = ahead (m.hand p)

-- a turn brings its processor ahead by one at most
abbrev pub TurnsGoOnByOne : Type 0
TurnsGoOnByOne = (d : MachineDesc) (m : Machine) (p : Pe) → ahead_of (happens d m (event.Processor p)) p.0 ≤ suc (ahead_of m p.0)

-- and leaves every other where it is
abbrev pub OthersStay : Type 0
OthersStay = (d : MachineDesc) (m : Machine) (p : Pe) (other : ℕ) → other ≢ p.0 → ahead_of (happens d m (event.Processor p)) other ≡ ahead_of m other

-- no other event brings a processor ahead
abbrev pub OnlyTurnsGoOn : Type 0
OnlyTurnsGoOn = (d : MachineDesc) (m : Machine) (e : Event) (p : ℕ) → is_turn e ≡ false → ahead_of (happens d m e) p ≤ ahead_of m p

-- A processor that commits is ten turns ahead, and is so no longer.
pub record CommitsLate (before after : ℕ) : Type 0 where
  pub late : 10 ≤ before
  pub anew : after ≡ 0

abbrev pub CommitsComeLate : Type 0
CommitsComeLate = (d : MachineDesc) (m : Machine) (p : Pe) (entry : Entry) → commit d m (event.Processor p) ≡ Some entry → CommitsLate (ahead_of m p.0) (ahead_of (happens d m (event.Processor p)) p.0)

-- an event adds what it commits to the history, and nothing else does
abbrev pub HistoriesGrowByCommits : Type 0
HistoriesGrowByCommits = (d : MachineDesc) (m : Machine) (e : Event) → (happens d m e).history ≡ history_after (commit d m e) m.history

-- how far the processors below n are ahead together
abbrev pub ahead_below : Machine → ℕ → ℕ
ahead_below m zero = 0
ahead_below m (suc n) = ahead_below m n + ahead_of m n

-- how many of these events are turns of processors
abbrev pub turns_in : List Event → ℕ
turns_in [] = 0
turns_in (event.Processor p ∷ es) = suc (turns_in es)
turns_in (_ ∷ es) = turns_in es

-- eleven turns for each commit, and those that the processors of the machine are ahead, are no more than were taken
abbrev pub CommitsAreCounted : Type 0
CommitsAreCounted = (d : MachineDesc) (image : ℕ → ℕ → Block) (events : List Event) →
    let m = run d events (start d image) in 11 * length m.history + ahead_below m d.processors ≤ turns_in events
