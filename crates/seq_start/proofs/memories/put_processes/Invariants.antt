-- the processes that stand already
use Rattle.seq_layout.specs.Copies.{Matches, copies}
use Rattle.seq_start.specs.Begun.{start_image, up_to, Hold}
use Rattle.seq_start.proofs.memories.put_processes.Given as goal

abbrev pub invariant-loop-pid : goal.invariant-loop-pid
invariant-loop-pid l = record {
  matches : Matches l.layout l.memories;
  holds : Hold l.layout (copies l.layout l.memories) (up_to (start_image l.desc) l.pid 0);
}
