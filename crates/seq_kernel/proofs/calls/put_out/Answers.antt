use Rattle.std.proofs.Common.{get_or, sym, ap, ◌∙◌, not, arith}
use Rattle.seq_layout.specs.Shapes.{Shape}
use Rattle.seq_layout.specs.Copies.{copies}
use Rattle.seq_cache.specs.Overlay.{overlay}
use Rattle.seq_kernel.specs.Outboxes.{outbox_filled}
use Rattle.seq_kernel.specs.Turns.{Turned}
use Rattle.seq_kernel.proofs.CallCases.{put_out_full, put_out_done}
use Rattle.seq_kernel.proofs.calls.put_out.Goals as goal

-- the cache has no room
pub returns-then-not-fits : goal.returns-then-not-fits
returns-then-not-fits c =
    let p = copies c.args.layout.now c.args.memories.now in
    let full = put_out_full c.args.desc.now p c.args.r.now c.args.cache.now c.args.line.0 c.args.bytes.now c.index_of-index.result c.index_of-index.ensures.index (omega arith) (omega (arith, c.line_word-sent.ensures)) (c.fits.ensures.full ∙ ap not c.if-not-fits.true) in
    record {
      outcome = ap (λ (t : Turned). t.outcome) (sym full);
      running = ap (λ (t : Turned). t.running) (sym full);
      cache = ap (λ (t : Turned). t.cache) (sym full);
    }

-- the outbox is filled, over the memories of the description's machine
pub returns : goal.returns
returns c =
    let p = copies c.args.layout.now c.args.memories.now in
    let index = c.index_of-index.result in
    let done = put_out_done c.args.desc.now p c.args.r.now c.args.cache.now c.args.line.0 c.args.bytes.now index c.index_of-index.ensures.index (omega arith) (omega (arith, c.line_word-sent.ensures)) (c.fits.ensures.full ∙ ap not c.if-not-fits.false) in
    let over = ap (λ (s : Shape). outbox_filled (overlay s p c.args.cache.now.changes) c.args.cache.now c.args.r.now.pid.0 index (get_or c.args.r.now.writes index 0) c.args.bytes.now) c.requires.layout in
    record {
      outcome = c.answer-2.ensures.outcome ∙ ap (λ (t : Turned). t.outcome) (sym done);
      running = c.answer-2.ensures.running ∙ ap (λ (t : Turned). t.running) (sym done);
      cache = c.fill.ensures ∙ (over ∙ ap (λ (t : Turned). t.cache) (sym done));
    }
