use Rattle.std.proofs.Common.{◌≡◌, suc, ◌+◌, ◌-◌, None, sym, ◌∙◌, arith}
use Rattle.seq_words.specs.declared.description.MachineDesc.{MachineDesc}
use Rattle.seq_flat.specs.declared.state.StepError.{StepError}
use Rattle.seq_flat.specs.declared.state.StepError.TheVariants.{Waits as Waiting}
use Rattle.seq_flat.specs.declared.state.Waits.{Waits}
use Rattle.seq_flat.specs.State.{rights_of}
use Rattle.seq_flat.specs.Run.{steps}
use Rattle.seq_retell.proofs.Steps.{handed, one_step, waits_none, none_left}
use Rattle.seq_retell.proofs.again.take_steps.Goals as goal

pub returns-in_err-step-clause-waits : goal.returns-in_err-step-clause-waits
returns-in_err-step-clause-waits c =
    let left : c.args.entry.count - c.loop-taken.taken ≡ suc (c.args.entry.count - (c.loop-taken.taken + 1)) = omega (arith, c.loop-taken-test.true) in
    handed _ _ (λ (e : StepError). (w : Waits) → e ≡ Waiting w → (d : MachineDesc) → rights_of d ≡ c.args.flat.now.rights → steps d c.args.inputs.now.lines c.args.entry.pid.0 c.args.entry.count c.args.flat.now.state ≡ None) c.from_residual.ensures.1
    (λ w is d r.
    sym (c.loop-taken.invariant.same d r)
    ∙ waits_none d c.args.inputs.now.lines c.args.entry.pid.0 _ _ c.loop-taken.flat.rights c.loop-taken.flat.state _ w left (r ∙ sym c.loop-taken.invariant.rights) is c.in_err-step.ensures.waits)

pub loop-taken-preserved : goal.loop-taken-preserved
loop-taken-preserved c =
    let left : c.args.entry.count - c.loop-taken.taken ≡ suc (c.args.entry.count - (c.loop-taken.taken + 1)) = omega (arith, c.loop-taken-test.true) in
    record {
      rights = c.step.ensures.rights ∙ c.loop-taken.invariant.rights;
      same = λ d r. sym (one_step d c.args.inputs.now.lines c.args.entry.pid.0 _ _ c.loop-taken.flat.rights c.loop-taken.flat.state c.step.new.self.state left (r ∙ sym c.loop-taken.invariant.rights) c.in_ok-step.ensures.ok) ∙ c.loop-taken.invariant.same d r;
      shape = λ d has. c.step.ensures.shape d (c.loop-taken.invariant.shape d has);
    }

pub returns-clause-ok : goal.returns-clause-ok
returns-clause-ok c = λ d r.
    (let left : c.args.entry.count - c.loop-taken.taken ≡ 0 = omega (arith, c.loop-taken-test.false) in
    sym (c.loop-taken.invariant.same d r) ∙ none_left d c.args.inputs.now.lines c.args.entry.pid.0 _ c.loop-taken.flat.state left)
