use Rattle.std.proofs.Common.{◌<◌, ◌*◌, length, sym, ap, ◌∙◌, arith}
use Rattle.seq_layout.specs.Shapes.{Shape}
use Rattle.seq_layout.specs.Copies.{copies}
use Rattle.seq_recover.proofs.LeftFrom.{none_before, one_more, found_at}
use Rattle.seq_recover.proofs.locks.left_from.Goals as goal

pub loop-k-init : goal.loop-k-init
loop-k-init c = record { above = omega arith; none = none_before c.args.desc.now (copies c.args.layout.now c.args.memories.now) c.args.pid.0 c.args.from }

pub returns-then-is_left : goal.returns-then-is_left
returns-then-is_left c =
    let d = c.args.desc.now in
    let few : c.loop-k.k < 2 * length d.segments = omega (arith, c.loop-k-test.true, c.segments-k-end.ensures, ap (λ (x : Shape). x.segments) c.requires.layout) in
    sym (found_at d (copies c.args.layout.now c.args.memories.now) c.args.pid.0 c.args.from c.loop-k.k c.loop-k.invariant.above c.loop-k.invariant.none (sym c.is_left.ensures ∙ c.if-is_left.true) few)

pub loop-k-preserved : goal.loop-k-preserved
loop-k-preserved c = record {
  above = omega (arith, c.loop-k.invariant.above);
  none = one_more c.args.desc.now (copies c.args.layout.now c.args.memories.now) c.args.pid.0 c.args.from c.loop-k.k c.loop-k.invariant.none (sym c.is_left.ensures ∙ c.if-is_left.false);
}
