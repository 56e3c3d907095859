use Rattle.seq_layout.specs.Copies.{copies}
use Rattle.seq_machine.proofs.Recovering.{claimed_row, copying_row, locks_row, closing_row}
use Rattle.seq_machine.proofs.recovers.recovering.Goals as goal

pub turn-requires-clause-needs : goal.turn-requires-clause-needs
turn-requires-clause-needs c = rw c.in-Claimed.is at c.requires.needs

pub returns-in-Claimed-clause-row : goal.returns-in-Claimed-clause-row
returns-in-Claimed-clause-row c =
    rw c.in-Claimed.is (claimed_row c.args.desc.now (copies c.args.layout.now c.args.memories.now) (copies c.args.layout.now c.turn.new.memories) c.after_claimed.result c.in-Claimed.recovery c.turn.result c.turn.ensures.copies c.turn.ensures.step c.after_claimed.ensures)

pub turn-requires-in-Copying-clause-needs : goal.turn-requires-in-Copying-clause-needs
turn-requires-in-Copying-clause-needs c = rw c.in-Copying.is at c.requires.needs

pub returns-in-Copying-clause-row : goal.returns-in-Copying-clause-row
returns-in-Copying-clause-row c =
    rw c.in-Copying.is (copying_row c.args.desc.now (copies c.args.layout.now c.args.memories.now) (copies c.args.layout.now c.turn-in-Copying.new.memories) c.after_copying.result c.in-Copying.recovery c.turn-in-Copying.result c.turn-in-Copying.ensures.copies c.turn-in-Copying.ensures.step c.after_copying.ensures)

pub turn-requires-in-Locks-clause-needs : goal.turn-requires-in-Locks-clause-needs
turn-requires-in-Locks-clause-needs c = rw c.in-Locks.is at c.requires.needs

pub returns-in-Locks-clause-row : goal.returns-in-Locks-clause-row
returns-in-Locks-clause-row c =
    rw c.in-Locks.is (locks_row c.args.desc.now (copies c.args.layout.now c.args.memories.now) (copies c.args.layout.now c.turn-in-Locks.new.memories) c.after_locks.result c.in-Locks.recovery c.turn-in-Locks.result c.turn-in-Locks.ensures.copies c.turn-in-Locks.ensures.step c.after_locks.ensures)

pub turn-requires-in-Closing-clause-needs : goal.turn-requires-in-Closing-clause-needs
turn-requires-in-Closing-clause-needs c = rw c.in-Closing.is at c.requires.needs

pub returns-in-Closing-clause-row : goal.returns-in-Closing-clause-row
returns-in-Closing-clause-row c =
    rw c.in-Closing.is (closing_row c.args.desc.now (copies c.args.layout.now c.args.memories.now) (copies c.args.layout.now c.turn-in-Closing.new.memories) c.after_closing.result c.in-Closing.recovery c.turn-in-Closing.result c.turn-in-Closing.ensures.copies c.turn-in-Closing.ensures.step c.after_closing.ensures)
