use Rattle.seq_machine.proofs.EventParts.{commit_told}
use Rattle.seq_machine.proofs.hardware.Hardware.commit.Goals as goal

pub returns : goal.returns
returns c o = commit_told c.args.self.now c.args.pe.0 o c.at-processor.result.now c.at-processor.ensures c.commit_of.result c.commit_of.ensures.entry c.commit_of.ensures.none
