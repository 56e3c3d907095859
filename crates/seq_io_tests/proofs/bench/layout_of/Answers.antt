use Rattle.seq_io.proofs.Wired.{wired}
use Rattle.seq_io_tests.proofs.bench.layout_of.Goals as goal

pub returns : goal.returns
returns c = rw c.in_ok-layout.ensures (wired c.args.desc.now c.requires)
