use Rattle.std.proofs.Common.{arith}
use Rattle.seq_machine_tests.proofs.Staged.{sharing-is}
use Rattle.seq_machine_tests.proofs.stage.sharing.Goals as goal

pub returns : goal.returns
returns g c = record {
  described =
      rw (c.machine.ensures, c.from_vec.ensures, c.from_vec-2.ensures, c.in_ok-processes.ensures.items, c.in_ok-segments.ensures.items, c.in_ok-first.ensures, c.in_ok-second.ensures, c.new.ensures)
      (sharing-is c.args.size c.args.image.now c.requires.size (omega arith));
}
