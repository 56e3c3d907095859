use Rattle.seq_layout.specs.Copies.{copies}
use Rattle.seq_layout.proofs.Held.{both_by_primary}
use Rattle.seq_locks.proofs.release.Release+Primary.turn.Goals as goal

pub returns-clause-both : goal.returns-clause-both
returns-clause-both c shadow =
    rw (c.write_word.ensures.written) (both_by_primary c.args.layout.now (copies c.args.layout.now c.args.memories.now) c.args.self.at 0 0 shadow)
