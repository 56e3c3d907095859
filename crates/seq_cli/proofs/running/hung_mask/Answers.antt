use Rattle.std.proofs.Common.{subst, sym}
use Rattle.std.specs.Prelude.{ℕ, ◌+◌, ◌-◌, ◌^◌, ◌<◌, ◌≡◌, false, get_or}
use Rattle.seq_shelf.specs.Outlets.{marks}
use Rattle.seq_words.specs.Masks.{has_bit}
use Rattle.seq_cli.proofs.Masks.{one_lower, one_larger}
use Rattle.seq_cli.proofs.running.hung_mask.Goals as goal

pub loop-above-preserved : goal.loop-above-preserved
loop-above-preserved g c =
    let from : ℕ = c.loop-above.above in
    record {
      small = subst (λ (m : ℕ). m < 2 ^ (from + 1)) (sym c.with_line-mask.ensures) (one_larger c.loop-above.mask from c.is_hung.result c.loop-above.invariant.small);
      bits = subst (λ (m : ℕ). (k : ℕ) → k < from + 1 → has_bit m k ≡ get_or (marks c.args.lines.now) (16 - (from + 1) + k) false) (sym c.with_line-mask.ensures)
          (one_lower c.loop-above.mask from c.is_hung.result (marks c.args.lines.now) c.loop-above-test.true c.is_hung.ensures c.loop-above.invariant.bits);
    }
