use Rattle.seq_machine.proofs.Seeking.{end_place}
use Rattle.seq_machine.proofs.seeks.end.Goals as goal

pub first_block-block-requires-clause-place : goal.first_block-block-requires-clause-place
first_block-block-requires-clause-place c = end_place c.args.desc.now c.args.layout.now c.args.pid.0 c.process.result.0 c.requires.layout c.requires.process c.process.ensures
