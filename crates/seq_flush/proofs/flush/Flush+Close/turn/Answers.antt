use Rattle.seq_layout.specs.Copies.{copies}
use Rattle.seq_flush.proofs.Known.{close_again, close_next}
use Rattle.seq_flush.proofs.flush.Flush+Close.turn.Goals as goal

pub returns-then-self-eq0-clause-close : goal.returns-then-self-eq0-clause-close
returns-then-self-eq0-clause-close c f same knows =
    rw (c.write_status.ensures.copies)
    (close_again c.args.layout.now (copies c.args.layout.now c.args.memories.now) c.args.cache.now.changes c.args.self f c.if-self-eq0.true (cc) knows)

pub returns-else-self-eq0-clause-closed : goal.returns-else-self-eq0-clause-closed
returns-else-self-eq0-clause-closed c f same knows =
    rw (c.write_status-else-self-eq0.ensures.copies)
    (close_next c.args.layout.now (copies c.args.layout.now c.args.memories.now) c.args.cache.now.changes c.args.self c.if-self-eq0.false knows)
