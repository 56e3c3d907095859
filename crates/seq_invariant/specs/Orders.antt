-- The steps that aren't committed yet: of all processes, in any order, they lead on from what is committed.
use Rattle.std.specs.Prelude.{◌≡◌, ℕ, Bool, false, ◌==◌, List, ◌++◌, Option, Some, None}
use Rattle.seq_words.specs.Description.{IsDescription}
use Rattle.seq_words.specs.declared.description.MachineDesc.{MachineDesc}
use Rattle.seq_words.specs.declared.events.Entry.{Entry}
use Rattle.seq_words.specs.declared.events.Event.{Event}
use Rattle.seq_flat.specs.declared.state.FlatState.{FlatState}
use Rattle.seq_flat.specs.Run.{flat_run}
use Rattle.seq_process.specs.declared.running.Running.{Running}
use Rattle.seq_runs.specs.Orders.{among, AreDifferent, entries}
use Rattle.seq_turns.specs.Functions.{lowest}
use Rattle.seq_turns.specs.declared.hand.Hand.{Hand}
use Rattle.seq_turns.specs.declared.hand.Hand.TheVariants as hand
use Rattle.seq_turns.specs.Machines.{Machine}
use Rattle.seq_lines.specs.Arrivals.{arrived}
use Rattle.seq_invariant.specs.Holds.{AllHolds}

-- the process that a hand runs
abbrev pub running_in : Hand → Option Running
running_in hand.Down = None
running_in hand.Seek = None
running_in (hand.Claiming q c) = None
running_in (hand.Running r) = Some r
running_in (hand.Acquiring r t c) = Some r
running_in (hand.Flushing r why mask f) = Some r
running_in (hand.Unlocking r why mask l) = Some r
running_in (hand.Leaving q l) = None
running_in (hand.Recovering x) = None

-- it is process q
abbrev pub is_process : ℕ → Option Running → Bool
is_process q None = false
is_process q (Some r) = r.pid.0 == q

-- the processor that runs process q, if one does
abbrev pub runner : MachineDesc → Machine → ℕ → Option ℕ
runner d m q = lowest (λ p. is_process q (running_in (m.hand p))) d.processors

abbrev pub steps_in : Option Running → ℕ
steps_in None = 0
steps_in (Some r) = r.steps

abbrev pub steps_by : Machine → Option ℕ → ℕ
steps_by m None = 0
steps_by m (Some p) = steps_in (running_in (m.hand p))

-- how many steps of process q aren't committed
abbrev pub uncommitted : MachineDesc → Machine → ℕ → ℕ
uncommitted d m q = steps_by m (runner d m q)

-- the history, with the uncommitted steps of these processes in this order
abbrev pub with_steps : MachineDesc → Machine → List ℕ → List Entry
with_steps d m qs = m.history ++ entries (uncommitted d m) qs

-- both orders are flat runs, and lead to one state
pub record RunToOne (d : MachineDesc) (events : List Event) (m : Machine) (ps qs : List ℕ) : Type 0 where
  pub state : FlatState
  pub first : flat_run d (arrived d events) (with_steps d m ps) ≡ Some state
  pub second : flat_run d (arrived d events) (with_steps d m qs) ≡ Some state

-- So it is of any processes, in any order.
abbrev pub StepsInAnyOrder : Type 0
StepsInAnyOrder =
    (d : MachineDesc) (events : List Event) (m : Machine) (ps qs : List ℕ) →
    IsDescription d → AllHolds d events m → AreDifferent ps → AreDifferent qs → ((q : ℕ) → among qs q ≡ among ps q) → RunToOne d events m ps qs
