use Rattle.std.proofs.Common.{[], ◌<◌, length, sym, ◌∙◌, refl, arith, length-set}
use Rattle.seq_flat.proofs.Gathered.{gathered_first, gathered_more}
use Rattle.seq_kernel.proofs.calls.gather.Goals as goal

pub loop-i-init : goal.loop-i-init
loop-i-init c = record { gathered = gathered_first _ _ []; full = refl }

pub loop-i-preserved : goal.loop-i-preserved
loop-i-preserved c =
    let room : c.loop-i.i < length c.loop-i.gathered = omega arith in
    record {
      gathered = gathered_more _ _ _ _ _ c.loop-i.invariant.gathered (sym c.in-Some.ensures) room;
      full = length-set _ _ _ ∙ c.loop-i.invariant.full;
    }
