-- Each turn that takes a step is the flat machine's step, where kernel calls are.
use Rattle.std.proofs.Common.{◌≡◌, refl, ◌∙◌}
use Rattle.seq_words.specs.Description.{IsDescription}
use Rattle.seq_words.specs.declared.description.MachineDesc.{MachineDesc}
use Rattle.seq_isa.specs.Meaning.{call}
use Rattle.seq_rv32.specs.declared.effects.Effect.{Effect}
use Rattle.seq_rv32.specs.declared.effects.Effect.TheVariants as effect
use Rattle.seq_flat.specs.declared.state.FlatState.{FlatState}
use Rattle.seq_flat.specs.Step.{outcome}
use Rattle.seq_pair.specs.declared.halves.Turn.{Turn}
use Rattle.seq_pair.specs.declared.halves.Turn.TheVariants as turn
use Rattle.seq_layout.specs.Copies.{Copies}
use Rattle.seq_process.specs.declared.running.Running.{Running}
use Rattle.seq_cache.specs.Changes.{Changes}
use Rattle.seq_kernel.specs.Views.{read_by, seen, admission}
use Rattle.seq_kernel.specs.Steps.{after_effect, after_turn, pair_turn, step_of}
use Rattle.seq_kernel.specs.Bounds.{IsRunning}
use Rattle.seq_flat.specs.Reached.{IsFlat}
use Rattle.seq_kernel.specs.Shown.{Shows}
use Rattle.seq_kernel.specs.Refinement.{takes_step}
use Rattle.seq_kernel.proofs.RefineStepsTaken.{Taken, TurnsTake, CallsTake}
use Rattle.seq_kernel.proofs.RefineStepsPair.{agrees, agreed_calls}
use Rattle.seq_kernel.proofs.RefineStepsInstruction.{outcome_shown, instruction_is_flat}
use Rattle.seq_kernel.proofs.RefineStepsTrap.{trap_is_flat}

-- a call of the halves is a call of the flat process
pub call_shown : (d : MachineDesc) (f : FlatState) (p : Copies) (r : Running) (c : Changes) → IsDescription d → IsRunning d r → IsFlat d f → Shows d f (read_by d p c) r → pair_turn d p r c ≡ turn.Agreed effect.Call → outcome f r.pid.0 ≡ call
call_shown d f p r c described running flat shows turned =
    outcome_shown d f (read_by d p c) r described running flat shows
    ∙ agreed_calls (admission d r.pid.0 r.held c) (seen d r.pid.0 r.held (read_by d p c)) r.pair (agrees (admission d r.pid.0 r.held c) (seen d r.pid.0 r.held (read_by d p c)) r.pair effect.Call turned)

-- Where kernel calls are steps of the flat machine, every turn that takes a step is.
pub steps_are_flat : CallsTake → TurnsTake
unfolding step_of
steps_are_flat calls d inputs f p r c described readable running cached flat shows arrived taken = by_turn (pair_turn d p r c) refl taken
  where
    by_effect : (e : Effect) → pair_turn d p r c ≡ turn.Agreed e → takes_step (after_effect d p r c e).outcome → Taken d inputs f p r.pid.0 (after_effect d p r c e)
    by_effect (effect.Next wrote store next) turned _ = instruction_is_flat d inputs f p r c wrote store next described running flat shows turned
    by_effect effect.Call turned step = calls d inputs f p r c described readable running cached flat shows arrived (call_shown d f p r c described running flat shows turned) step
    by_effect (effect.Trap code) turned _ = trap_is_flat d inputs f p r c code described running flat shows turned
    by_effect effect.Full turned step = absurd step

    by_turn : (t : Turn) → pair_turn d p r c ≡ t → takes_step (after_turn d p r c t).outcome → Taken d inputs f p r.pid.0 (after_turn d p r c t)
    by_turn (turn.Agreed e) turned step = by_effect e turned step
    by_turn turn.Diverged turned step = absurd step
