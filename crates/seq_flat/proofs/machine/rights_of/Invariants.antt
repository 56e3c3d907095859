use Rattle.std.proofs.Common.{◌≡◌, map, take}
use Rattle.seq_flat.proofs.machine.rights_of.Given as goal

abbrev pub invariant-loop-process : goal.invariant-loop-process
invariant-loop-process l = l.rights ≡ map (λ p. record { lines = p.lines; grants = p.grants }) (take l.process-index l.processes)
