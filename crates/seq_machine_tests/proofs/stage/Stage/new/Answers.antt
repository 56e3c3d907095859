use Rattle.seq_machine.proofs.Readiness.{starts_ready}
use Rattle.seq_machine_tests.proofs.stage.Stage.new.Goals as goal

pub returns : goal.returns
returns c = starts_ready c.in_ok-hardware.hardware c.args.desc c.requires c.in_ok-hardware.ensures.hardware c.in_ok-hardware.ensures.desc c.in_ok-hardware.ensures.starts
