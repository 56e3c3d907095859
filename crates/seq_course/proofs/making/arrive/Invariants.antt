-- the bytes up to here have arrived
use Rattle.std.proofs.Common.{take, drop, map}
use Rattle.seq_words.specs.declared.events.Event.TheVariants.{Input}
use Rattle.seq_shelf.specs.Outlets.{views, marks}
use Rattle.seq_course.specs.Making.{scene}
use Rattle.seq_course.proofs.Scenes.{Amid}
use Rattle.seq_course.proofs.making.arrive.Given as goal

abbrev pub invariant-loop-byte : goal.invariant-loop-byte
invariant-loop-byte g l = Amid (take l.byte-index (map (λ byte. Input l.number byte) l.bytes)) (drop l.byte-index (map (λ byte. Input l.number byte) l.bytes))
    (scene l.fn.hardware (g.C.Chronicle.chronicle l.fn.chronicle) (views (λ z. (goal.Line-dyn g z).line z.1) l.fn.lines.items) (marks l.fn.lines.items) l.fn.kept)
    (scene l.hardware (g.C.Chronicle.chronicle l.chronicle) (views (λ z. (goal.Line-dyn g z).line z.1) l.lines.items) (marks l.lines.items) l.kept)
