use Rattle.std.proofs.Common.{true, false}
use Rattle.seq_layout.specs.Copies.{copies}
use Rattle.seq_layout.proofs.CopiesWritten.{word_blocks}
use Rattle.seq_status.specs.Words.{word_of}
use Rattle.seq_status.specs.declared.status.Status.TheVariants.{Pass1}
use Rattle.seq_flush.proofs.Known.{mark_again, mark_next}
use Rattle.seq_flush.proofs.flush.Flush+Mark.turn.Goals as goal

pub returns-then-self-eq0-clause-no_unit_written : goal.returns-then-self-eq0-clause-no_unit_written
returns-then-self-eq0-clause-no_unit_written c =
    rw (c.write_status.ensures.copies) (word_blocks c.args.layout.now (copies c.args.layout.now c.args.memories.now) c.args.self.pid.0 0 false (word_of (Pass1 c.args.self.holder)))

pub returns-else-self-eq0-clause-no_unit_written : goal.returns-else-self-eq0-clause-no_unit_written
returns-else-self-eq0-clause-no_unit_written c =
    rw (c.write_status-else-self-eq0.ensures.copies) (word_blocks c.args.layout.now (copies c.args.layout.now c.args.memories.now) c.args.self.pid.0 0 true (word_of (Pass1 c.args.self.holder)))

pub returns-then-self-eq0-clause-mark : goal.returns-then-self-eq0-clause-mark
returns-then-self-eq0-clause-mark c f same =
    rw (c.write_status.ensures.copies) (mark_again c.args.layout.now (copies c.args.layout.now c.args.memories.now) c.args.self f (cc))

pub returns-else-self-eq0-clause-first : goal.returns-else-self-eq0-clause-first
returns-else-self-eq0-clause-first c f same knows =
    rw (c.write_status-else-self-eq0.ensures.copies)
    (mark_next c.args.layout.now (copies c.args.layout.now c.args.memories.now) c.args.cache.now.changes c.args.self f c.if-self-eq0.false (cc) knows)
