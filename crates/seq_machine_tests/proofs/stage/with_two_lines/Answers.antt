use Rattle.std.proofs.Common.{arith}
use Rattle.seq_machine_tests.proofs.Staged.{with_two_lines-is}
use Rattle.seq_machine_tests.proofs.stage.with_two_lines.Goals as goal

pub returns : goal.returns
returns g c = record {
  described =
      rw (c.machine.ensures, c.from_vec.ensures, c.in_ok-processes.ensures.items, c.in_ok-only.ensures, c.new.ensures)
      (with_two_lines-is c.args.size c.args.image.now c.requires.size (omega arith));
}
