use Rattle.std.proofs.Common.{◌≡◌, sym, ◌∙◌}
use Rattle.seq_flat.specs.declared.state.StepError.TheVariants.{Waits as Waiting}
use Rattle.seq_retell.proofs.Steps.{handed_on, entry_at, stopped_at, all_told}
use Rattle.seq_retell.proofs.again.retell.Goals as goal

pub returns-in_err-take_steps-clause-waits : goal.returns-in_err-take_steps-clause-waits
returns-in_err-take_steps-clause-waits c = λ w is.
    (let same : c.in_err-take_steps.field-0.0 ≡ Waiting w = handed_on _ _ w c.from_residual.ensures.1 is in
    sym c.loop-entry.invariant.same
    ∙ stopped_at c.args.desc.now c.args.inputs.now.lines c.loop-entry.flat.state c.args.history.now c.loop-entry.entry-index _ c.loop-entry-test.true (c.in_err-take_steps.ensures.waits w same c.args.desc.now (sym c.loop-entry.invariant.rights)))

pub loop-entry-preserved : goal.loop-entry-preserved
loop-entry-preserved c = record {
  rights = c.take_steps.ensures.rights ∙ c.loop-entry.invariant.rights;
  same = sym (entry_at c.args.desc.now c.args.inputs.now.lines c.loop-entry.flat.state c.take_steps.new.flat.state c.args.history.now c.loop-entry.entry-index _ c.loop-entry-test.true (c.in_ok-take_steps.ensures.ok c.args.desc.now (sym c.loop-entry.invariant.rights))) ∙ c.loop-entry.invariant.same;
  shape = c.take_steps.ensures.shape c.args.desc.now c.loop-entry.invariant.shape;
}

pub returns-clause-ok : goal.returns-clause-ok
returns-clause-ok c =
    sym c.loop-entry.invariant.same ∙ all_told c.args.desc.now c.args.inputs.now.lines c.loop-entry.flat.state c.args.history.now c.loop-entry.entry-index c.loop-entry-test.false
