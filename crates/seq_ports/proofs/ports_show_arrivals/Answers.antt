use Rattle.seq_ports.proofs.Inputs.{ports_show_arrivals}
use Rattle.seq_ports.proofs.ports_show_arrivals.Goals as goal

pub returns : goal.returns
returns c = ports_show_arrivals
