-- One turn of a running process: an instruction, a kernel call or a trap.
use Rattle.std.specs.Prelude.{◌≡◌, Bool, true, false}
use Rattle.seq_words.specs.declared.description.MachineDesc.{MachineDesc}
use Rattle.seq_flat.specs.declared.state.End.TheVariants.{Trapped}
use Rattle.seq_rv32.specs.declared.effects.Effect.{Effect}
use Rattle.seq_rv32.specs.declared.effects.Effect.TheVariants as effect
use Rattle.seq_pair.specs.declared.halves.Turn.{Turn}
use Rattle.seq_pair.specs.declared.halves.Turn.TheVariants as turn
use Rattle.seq_pair.specs.Turns.{turn_of, pair_after, Differ}
use Rattle.seq_layout.specs.Copies.{Copies}
use Rattle.seq_process.specs.declared.running.Running.{Running}
use Rattle.seq_cache.specs.Changes.{Changes}
use Rattle.seq_kernel.specs.declared.outcomes.Outcome.TheVariants.{Done, NeedsFlush, Diverged}
use Rattle.seq_kernel.specs.declared.outcomes.Cause.TheVariants as cause
use Rattle.seq_kernel.specs.declared.steps.Kind.{Kind}
use Rattle.seq_kernel.specs.declared.steps.Kind.TheVariants as kind
use Rattle.seq_kernel.specs.Views.{read_by, seen, admission, with_store}
use Rattle.seq_kernel.specs.Turns.{Turned, stays, counted, ended}
use Rattle.seq_kernel.specs.Calls.{AgreeOnCall, call_of}

-- what a turn of the pair comes to, whatever it wrote
abbrev pub kind_of : Turn → Kind
kind_of (turn.Agreed (effect.Next wrote store next)) = kind.Made
kind_of (turn.Agreed effect.Call) = kind.Call
kind_of (turn.Agreed (effect.Trap code)) = kind.Trap code
kind_of (turn.Agreed effect.Full) = kind.Full
kind_of turn.Diverged = kind.Diverged

-- whether it is an instruction that was made, after which the next one follows
abbrev pub is_plain : Turn → Bool
is_plain (turn.Agreed (effect.Next wrote store next)) = true
is_plain (turn.Agreed effect.Call) = false
is_plain (turn.Agreed (effect.Trap code)) = false
is_plain (turn.Agreed effect.Full) = false
is_plain turn.Diverged = false

-- after both halves agreed on an effect
abbrev pub after_effect : MachineDesc → Copies → Running → Changes → Effect → Turned
after_effect d p r c (effect.Next wrote store next) =
    record { outcome = Done; running = counted (record r { pair = pair_after r.pair (turn.Agreed (effect.Next wrote store next)) }); cache = with_store d r.pid.0 r.held p c store }
after_effect d p r c effect.Call = call_of d p r c
after_effect d p r c (effect.Trap code) = record { outcome = NeedsFlush cause.Trap; running = ended r (Trapped code r.pair.a.pc); cache = c }
after_effect d p r c effect.Full = stays (NeedsFlush cause.Room) r c

abbrev pub after_turn : MachineDesc → Copies → Running → Changes → Turn → Turned
after_turn d p r c (turn.Agreed e) = after_effect d p r c e
after_turn d p r c turn.Diverged = stays Diverged r c

-- the turn of the pair, over what the process sees
abbrev pub pair_turn : MachineDesc → Copies → Running → Changes → Turn
pair_turn d p r c = turn_of (admission d r.pid.0 r.held c) (seen d r.pid.0 r.held (read_by d p c)) r.pair

-- the halves differ in their pcs or in their effects
abbrev pub DifferInTurn : MachineDesc → Copies → Running → Changes → Type 0
DifferInTurn d p r c = Differ (admission d r.pid.0 r.held c) (seen d r.pid.0 r.held (read_by d p c)) r.pair

-- they call the kernel, and differ in pc or in what it reads of them, x10 to x17
abbrev pub DifferInCall : MachineDesc → Copies → Running → Changes → Type 0
DifferInCall d p r c = (pair_turn d p r c ≡ turn.Agreed effect.Call) × (¬ (AgreeOnCall r.pair))

-- the whole turn
unfoldable pub step_of : MachineDesc → Copies → Running → Changes → Turned
step_of d p r c = after_turn d p r c (pair_turn d p r c)
