use Rattle.seq_course.proofs.Events.{enough, built_next, allowed_next, numbers_next, event_made, event_breaks}
use Rattle.seq_course.proofs.Scenes.{breaks_from}
use Rattle.seq_course.proofs.making.one.Goals as goal

pub event-requires-clause-hardware : goal.event-requires-clause-hardware
event-requires-clause-hardware g c = c.requires.ready.ready.hardware

pub event-requires-clause-fit : goal.event-requires-clause-fit
event-requires-clause-fit g c = c.requires.ready.ready.fit

pub event-requires-clause-numbers : goal.event-requires-clause-numbers
event-requires-clause-numbers g c = numbers_next c.args.event _ c.requires

pub event-requires-clause-built : goal.event-requires-clause-built
event-requires-clause-built g c = built_next c.args.event _ c.requires

pub event-requires-clause-allowed : goal.event-requires-clause-allowed
event-requires-clause-allowed g c = allowed_next c.args.event _ c.requires

pub event-requires-clause-lines : goal.event-requires-clause-lines
event-requires-clause-lines g c = enough (λ z. (goal.Line-dyn g z).line z.1) c.args.lines.now.items _ c.requires.lines

pub returns-clause-ok : goal.returns-clause-ok
returns-clause-ok g c =
    let made = c.in_ok-note.ensures in
    event_made c.args.event c.args.hardware.now c.event.new.self _ _ _ _ _ _ _ _ _ c.requires made.desc made.machine made.unchecked made.note made.sent made.entries made.counts made.outside c.keep_commit.ensures.first made.hung c.keep_commit.ensures.room made.hardware made.fit

pub returns-in_err-note-clause-err : goal.returns-in_err-note-clause-err
returns-in_err-note-clause-err g c =
    let broken = c.in_err-note.ensures in
    breaks_from _ _ _ _ _ c.from_residual.ensures.1 (event_breaks c.args.event c.args.hardware.now c.event.new.self _ _ _ _ _ _ _ _ broken.err_lines broken.err_entries broken.cause broken.stopped broken.hardware broken.desc broken.hung)
