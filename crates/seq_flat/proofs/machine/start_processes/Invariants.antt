use Rattle.std.proofs.Common.{◌≡◌, map, take}
use Rattle.seq_flat.specs.State.{start_process}
use Rattle.seq_flat.proofs.machine.start_processes.Given as goal

abbrev pub invariant-loop-process : goal.invariant-loop-process
invariant-loop-process l = l.started ≡ map start_process (take l.process-index l.processes)
