use Rattle.seq_schedule.proofs.OutStates.{covered_is}
use Rattle.seq_schedule.proofs.outs.OutState.covered.Goals as goal

pub returns : goal.returns
returns c d events keeps = covered_is d events c.args.self.now.covered keeps.covered
