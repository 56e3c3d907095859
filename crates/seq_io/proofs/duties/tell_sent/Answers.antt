use Rattle.seq_io.proofs.duties.tell_sent.Goals as goal

pub returns-clause-note : goal.returns-clause-note
returns-clause-note c = rw (← c.goal-told.ensures) c.follow.ensures.note

pub returns-clause-copies : goal.returns-clause-copies
returns-clause-copies c = rw (← c.goal-told.ensures) c.follow.ensures.copies

pub returns-clause-port : goal.returns-clause-port
returns-clause-port c = rw (← c.goal-told.ensures) c.follow.ensures.port
