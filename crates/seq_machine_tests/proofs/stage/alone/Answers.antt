use Rattle.std.proofs.Common.{arith}
use Rattle.seq_machine_tests.proofs.Staged.{alone-is}
use Rattle.seq_machine_tests.proofs.stage.alone.Goals as goal

pub returns : goal.returns
returns g c = record {
  described =
      rw (c.machine.ensures, c.from_vec.ensures, c.in_ok-processes.ensures.items, c.in_ok-only.ensures, c.new.ensures)
      (alone-is c.args.processors c.args.quantum c.args.size c.args.image.now c.requires.processors c.requires.quantum c.requires.size (omega arith));
}
