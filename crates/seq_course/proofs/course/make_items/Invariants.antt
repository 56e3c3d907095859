-- the items up to here are made
use Rattle.seq_shelf.specs.Outlets.{views, marks}
use Rattle.seq_course.specs.Making.{scene}
use Rattle.seq_course.proofs.Items.{ItemsMade}
use Rattle.seq_course.proofs.course.make_items.Given as goal

abbrev pub invariant-loop-item : goal.invariant-loop-item
invariant-loop-item g l = ItemsMade l.fn.hardware.desc l.items l.item-index
    (scene l.fn.hardware (g.C.Chronicle.chronicle l.fn.chronicle) (views (λ z. (goal.Line-dyn g z).line z.1) l.fn.lines.items) (marks l.fn.lines.items) l.fn.kept)
    (scene l.hardware (g.C.Chronicle.chronicle l.chronicle) (views (λ z. (goal.Line-dyn g z).line z.1) l.lines.items) (marks l.lines.items) l.kept)
