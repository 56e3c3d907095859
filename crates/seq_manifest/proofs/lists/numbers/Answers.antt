use Rattle.seq_manifest.proofs.Sequences.{so_far-first, so_far-next}
use Rattle.seq_manifest.proofs.lists.numbers.Goals as goal

pub parts-init : goal.parts-init
parts-init c = so_far-first c.args.word.now _ _ c.with-list.result _ c.cut_at.ensures.parts c.in_ok-number.ensures.value c.with-list.ensures.count c.with-list.ensures.ascends c.with-list.ensures.mask c.with-list.ensures.end c.cut_at.ensures.shorter

pub parts-preserved : goal.parts-preserved
parts-preserved c =
    let so_far = rw c.in-Some.is at c.parts.invariant in
    so_far-next c.args.word.now _ c.in-Some.after.now _ _ c.parts.list c.with-list-in-Some.result _ c.is_below.result so_far c.cut_at-in-Some.ensures.parts c.in_ok-number-2.ensures.value c.is_below.ensures c.with-list-in-Some.ensures.count c.with-list-in-Some.ensures.ascends c.with-list-in-Some.ensures.mask c.with-list-in-Some.ensures.end c.cut_at-in-Some.ensures.shorter
