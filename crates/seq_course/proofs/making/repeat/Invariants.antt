-- they are made so many times
use Rattle.std.proofs.Common.{◌-◌}
use Rattle.seq_shelf.specs.Outlets.{views, marks}
use Rattle.seq_schedule.specs.Scripted.{times}
use Rattle.seq_course.specs.Making.{scene}
use Rattle.seq_course.proofs.Scenes.{Amid}
use Rattle.seq_course.proofs.making.repeat.Given as goal

abbrev pub invariant-loop-made : goal.invariant-loop-made
invariant-loop-made g l = Amid (times l.made l.events) (times (l.count - l.made) l.events)
    (scene l.fn.hardware (g.C.Chronicle.chronicle l.fn.chronicle) (views (λ z. (goal.Line-dyn g z).line z.1) l.fn.lines.items) (marks l.fn.lines.items) l.fn.kept)
    (scene l.hardware (g.C.Chronicle.chronicle l.chronicle) (views (λ z. (goal.Line-dyn g z).line z.1) l.lines.items) (marks l.lines.items) l.kept)
