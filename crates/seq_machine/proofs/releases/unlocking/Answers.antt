use Rattle.std.proofs.Common.{◌∙◌}
use Rattle.seq_layout.specs.Copies.{copies}
use Rattle.seq_machine.specs.Here.{here}
use Rattle.seq_machine.proofs.Rows.{released_shadow, released_primary}
use Rattle.seq_machine.proofs.releases.unlocking.Goals as goal

pub returns-in-Shadow-clause-copies : goal.returns-in-Shadow-clause-copies
returns-in-Shadow-clause-copies c cache i p =
    let m = here (copies c.args.layout.now c.args.memories.now) cache i in
    rw c.in-Shadow.is (c.turn-next.ensures.copies ∙ released_shadow c.args.desc.now m c.in-Shadow.release c.args.layout.now c.requires.layout)

pub returns-in-Primary-clause-copies : goal.returns-in-Primary-clause-copies
returns-in-Primary-clause-copies c cache i p =
    let m = here (copies c.args.layout.now c.args.memories.now) cache i in
    rw c.in-Primary.is (c.turn.ensures.copies ∙ released_primary c.args.desc.now m c.in-Primary.release c.args.layout.now c.requires.layout)
