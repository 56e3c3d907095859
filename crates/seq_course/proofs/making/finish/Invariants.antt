-- so many rounds are made, and the machine wasn't settled before any of them
use Rattle.seq_shelf.specs.Outlets.{views, marks}
use Rattle.seq_course.specs.Making.{scene}
use Rattle.seq_course.proofs.Finishes.{Rounding}
use Rattle.seq_course.proofs.making.finish.Given as goal

abbrev pub invariant-loop-made : goal.invariant-loop-made
invariant-loop-made g l = Rounding l.most l.made l.round
    (scene l.fn.hardware (g.C.Chronicle.chronicle l.fn.chronicle) (views (λ z. (goal.Line-dyn g z).line z.1) l.fn.lines.items) (marks l.fn.lines.items) l.fn.kept)
    (scene l.hardware (g.C.Chronicle.chronicle l.chronicle) (views (λ z. (goal.Line-dyn g z).line z.1) l.lines.items) (marks l.lines.items) l.kept)
