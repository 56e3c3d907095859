-- the events up to here are made
use Rattle.std.proofs.Common.{take, drop}
use Rattle.seq_shelf.specs.Outlets.{views, marks}
use Rattle.seq_course.specs.Making.{scene}
use Rattle.seq_course.proofs.Scenes.{Amid}
use Rattle.seq_course.proofs.making.make.Given as goal

abbrev pub invariant-loop-event : goal.invariant-loop-event
invariant-loop-event g l = Amid (take l.event-index l.events) (drop l.event-index l.events)
    (scene l.fn.hardware (g.C.Chronicle.chronicle l.fn.chronicle) (views (λ z. (goal.Line-dyn g z).line z.1) l.fn.lines.items) (marks l.fn.lines.items) l.fn.kept)
    (scene l.hardware (g.C.Chronicle.chronicle l.chronicle) (views (λ z. (goal.Line-dyn g z).line z.1) l.lines.items) (marks l.lines.items) l.kept)
