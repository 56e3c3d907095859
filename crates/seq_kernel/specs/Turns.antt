-- What a turn of a process leaves.
use Rattle.std.specs.Prelude.{ℕ, ◌+◌, Some}
use Rattle.seq_words.specs.declared.regs.Regs.{Regs}
use Rattle.seq_isa.specs.Meaning.{registers_after, following}
use Rattle.seq_flat.specs.declared.state.End.{End}
use Rattle.seq_pair.specs.declared.halves.Pair.{Pair}
use Rattle.seq_process.specs.declared.running.Running.{Running}
use Rattle.seq_cache.specs.Changes.{Changes}
use Rattle.seq_kernel.specs.declared.outcomes.Outcome.{Outcome}

pub record Turned : Type 0 where
  pub outcome : Outcome
  pub running : Running
  pub cache : Changes

-- nothing changes
abbrev pub stays : Outcome → Running → Changes → Turned
stays o r c = record { outcome = o; running = r; cache = c }

-- a step is taken: it counts once since the checkpoint, and once since the claim
abbrev pub counted : Running → Running
counted r = record r { steps = r.steps + 1; used = r.used + 1 }

-- an answer in x10, and the next instruction
abbrev pub half_answered : Regs → ℕ → Regs
half_answered h answer = registers_after h (Some (10, answer)) (following h)

abbrev pub pair_answered : Pair → ℕ → Pair
pair_answered p answer = record p { a = half_answered p.a answer; b = half_answered p.b answer }

-- the step of a call that is answered
abbrev pub answered : Running → ℕ → Running
answered r answer = counted (record r { pair = pair_answered r.pair answer })

-- the step with which a process ends: it holds nothing any more
abbrev pub ended : Running → End → Running
ended r end = counted (record r { end = end; held = 0 })
