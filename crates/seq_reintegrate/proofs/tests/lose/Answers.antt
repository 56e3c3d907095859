use Rattle.std.proofs.Common.{ap, ◌∙◌}
use Rattle.seq_layout.specs.Copies.{Copies, copies}
use Rattle.seq_layout.proofs.CopiesLaws.{memory_fails_alone}
use Rattle.seq_reintegrate.proofs.tests.lose.Goals as goal

pub repair-requires-clause-down : goal.repair-requires-clause-down
repair-requires-clause-down c =
    ap (λ (x : Copies). x.state c.args.m.0) c.fail.ensures.fails ∙ (memory_fails_alone c.args.layout.now (copies c.args.layout.now c.args.memories.now) c.args.m.0).down
