use Rattle.std.proofs.Common.{◌≡◌, drop}
use Rattle.seq_layout.specs.Shapes.{owner_from}
use Rattle.seq_layout.proofs.described.owner_of.Given as goal

abbrev pub invariant-loop-pid : goal.invariant-loop-pid
invariant-loop-pid l = owner_from 0 l.processes l.line ≡ owner_from l.pid (drop l.pid l.processes) l.line
