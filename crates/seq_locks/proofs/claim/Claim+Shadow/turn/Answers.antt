use Rattle.seq_layout.specs.Copies.{copies}
use Rattle.seq_layout.proofs.Held.{both_by_shadow}
use Rattle.seq_locks.proofs.claim.Claim+Shadow.turn.Goals as goal

pub returns-in-Ok-clause-held : goal.returns-in-Ok-clause-held
returns-in-Ok-clause-held c h same primary =
    rw (c.in-Ok.ensures.ok) (both_by_shadow c.args.layout.now (copies c.args.layout.now c.args.memories.now) c.args.self.at c.args.self.value c.args.self.value primary)
