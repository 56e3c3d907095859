use Rattle.std.proofs.Common.{◌≡◌, ◌^◌, true, length, arith, sym, ◌∙◌}
use Rattle.seq_layout.specs.Places.{keeps}
use Rattle.seq_layout.proofs.Apart.{start_adds}
use Rattle.seq_layout.proofs.starts.start_of.Goals as goal

pub overflow_add-total : goal.overflow_add-total
overflow_add-total c =
    let kept : keeps c.args.memories c.args.memory c.loop-earlier.earlier ≡ true = sym c.keeps.ensures ∙ c.if-keeps.true in
    let below = start_adds c.args.memories c.args.sizes.now c.args.memory c.loop-earlier.earlier (length c.args.sizes.now) (2 ^ 32) kept (omega arith) c.requires.fits in
    omega arith
