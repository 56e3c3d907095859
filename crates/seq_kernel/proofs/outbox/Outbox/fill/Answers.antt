use Rattle.std.proofs.Common.{◌≡◌, true, ◌∙◌, ap}
use Rattle.seq_cache.specs.Changes.{admits}
use Rattle.seq_kernel.specs.Outboxes.{outbox_block, touched_block}
use Rattle.seq_kernel.proofs.OutboxFills.{filling_begins, filling_admits, filling_more, of_success}
use Rattle.seq_kernel.proofs.outbox.Outbox.fill.Goals as goal

pub loop-i-init : goal.loop-i-init
loop-i-init c = filling_begins _ _ _ _ _ _ _ _ c.is_in_order.ensures c.touched_count-i-end.ensures.value c.requires.few c.requires.room

pub loop-i-preserved : goal.loop-i-preserved
loop-i-preserved c =
    let place : c.block-place.result ≡ outbox_block c.args.self.now.index (touched_block c.args.self.now.from c.loop-i.i) = c.block-place.ensures ∙ ap (outbox_block c.args.self.now.index) c.touched-k.ensures.value in
    let admitted : admits c.loop-i.cache c.args.self.now.owner.0 c.block-place.result ≡ true = rw place (filling_admits _ _ _ _ _ _ _ _ _ _ c.loop-i.invariant c.loop-i-test.true) in
    let written = of_success c.write.result (c.write.ensures.admitted ∙ admitted) c.write.ensures.ok in
    filling_more _ _ _ _ _ _ _ _ _ _ _ _ _ _ _ c.loop-i.invariant c.loop-i-test.true c.touched_count-i-end.ensures.few c.touched-k.ensures.value c.block-place.ensures c.read-block.ensures.value c.filled-filled.ensures written
