use Rattle.seq_flat.proofs.ReachedStates.{answers_shaped}
use Rattle.seq_flat.proofs.Wholes.{answers_whole}
use Rattle.seq_flat.proofs.machine.Flat.step.Goals as goal

pub invariant_of-self : goal.invariant_of-self
invariant_of-self c = record {
  whole = answers_whole c.step.result _ _ c.args.self.now.state c.step.new.self _ c.args.self.now.whole c.step.ensures.ok c.step.ensures.same;
}

pub returns-clause-shape : goal.returns-clause-shape
returns-clause-shape c d shape = answers_shaped d c.step.result _ _ c.args.self.now.state c.step.new.self _ shape c.step.ensures.ok c.step.ensures.same
