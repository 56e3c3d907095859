use Rattle.std.proofs.Common.{◌≡◌, map, take}
use Rattle.seq_retell.specs.Shown.{input_shown}
use Rattle.seq_retell.proofs.shown.inputs_shown.Given as goal

abbrev pub invariant-loop-port : goal.invariant-loop-port
invariant-loop-port l = l.lines ≡ map input_shown (take l.port-index l.ports)
