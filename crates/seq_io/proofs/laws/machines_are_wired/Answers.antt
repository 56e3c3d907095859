use Rattle.seq_io.proofs.Wired.{wired}
use Rattle.seq_io.proofs.laws.machines_are_wired.Goals as goal

pub returns : goal.returns
returns c = wired
