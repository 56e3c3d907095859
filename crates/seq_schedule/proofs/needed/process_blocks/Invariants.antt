use Rattle.std.proofs.Common.{◌≡◌, take}
use Rattle.std.specs.Prelude.{sum_by}
use Rattle.seq_layout.specs.Shapes.{process_blocks}
use Rattle.seq_schedule.proofs.needed.process_blocks.Given as goal

abbrev pub invariant-loop-process : goal.invariant-loop-process
invariant-loop-process l = l.blocks ≡ sum_by process_blocks (take l.process-index l.desc.processes)
