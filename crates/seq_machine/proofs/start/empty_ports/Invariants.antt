-- the ports that stand already
use Rattle.std.proofs.Common.{◌≡◌, replicate}
use Rattle.seq_machine.specs.Plain.{empty_port}
use Rattle.seq_machine.proofs.start.empty_ports.Given as goal

abbrev pub invariant-loop-line : goal.invariant-loop-line
invariant-loop-line l = l.ports ≡ replicate l.line (empty_port l.desc)
