use Rattle.seq_course.proofs.Events.{enough_shown}
use Rattle.seq_course.proofs.Begun.{may_begin}
use Rattle.seq_course.proofs.course.run.Goals as goal

pub make_items-requires-clause-begins : goal.make_items-requires-clause-begins
make_items-requires-clause-begins g c =
    may_begin c.args.items.now c.args.hardware.now _ _ _ _ c.requires.hardware c.requires.start c.requires.items (enough_shown (λ z. (goal.Line-dyn g z).line z.1) c.args.lines.now.items _ c.requires.lines) c.requires.fresh c.requires.empty
