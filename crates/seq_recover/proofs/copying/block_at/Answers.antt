use Rattle.std.proofs.Common.{◌≡◌, ℕ, ◌<◌, length, slice_index, Some, sym, ap, ◌∙◌, subst, arith, add-one}
use Rattle.seq_layout.specs.Places.{IsPlace}
use Rattle.seq_layout.specs.Shapes.{Shape, shape_of, segment_extent}
use Rattle.seq_layout.specs.Copies.{copies}
use Rattle.seq_recover.proofs.Listed.{so_far, count_none, count_more, place_named, found, found_own, found_none}
use Rattle.seq_recover.proofs.copying.block_at.Goals as goal

pub returns-then-n-count-clause-block : goal.returns-then-n-count-clause-block
returns-then-n-count-clause-block c =
    let s = c.args.layout.now in
    let q = c.args.pid.0 in
    let count = c.blocks-count.ensures ∙ ap (slice_index s.blocks) c.process-own.ensures ∙ ap (λ (x : Shape). slice_index x.blocks q) c.requires.layout in
    ap (λ (e : ℕ). Some (e, c.args.n)) c.process-own.ensures ∙
    sym (found_own c.args.desc.now (copies s c.args.memories.now) q c.args.n (subst (λ k. c.args.n < k) count c.if-n-count.true))

pub loop-segment-init : goal.loop-segment-init
loop-segment-init c =
    let s = c.args.layout.now in
    let q = c.args.pid.0 in
    let count = c.blocks-count.ensures ∙ ap (slice_index s.blocks) c.process-own.ensures ∙ ap (λ (x : Shape). slice_index x.blocks q) c.requires.layout in
    omega (arith, count, count_none c.args.desc.now (copies s c.args.memories.now) q, c.if-n-count.false)

pub returns-then-left-count-clause-block : goal.returns-then-left-count-clause-block
returns-then-left-count-clause-block c =
    let d = c.args.desc.now in
    let s = c.args.layout.now in
    let p = copies s c.args.memories.now in
    let t = c.loop-segment.segment in
    let extent = c.segment.ensures ∙ ap (λ (x : Shape). segment_extent x t) c.requires.layout in
    let below : t < length d.segments = omega (arith, c.loop-segment-test.true, c.segments-segment-end.ensures, ap (λ (x : Shape). x.segments) c.requires.layout) in
    ap (λ (e : ℕ). Some (e, c.loop-segment.left)) extent ∙
    sym (found d p c.args.pid.0 t c.args.n c.loop-segment.left below c.loop-segment.invariant (subst (λ k. c.loop-segment.left < k) c.named_blocks-count.ensures c.if-left-count.true))

pub returns-then-left-count-clause-place : goal.returns-then-left-count-clause-place
returns-then-left-count-clause-place c =
    let d = c.args.desc.now in
    let s = c.args.layout.now in
    let p = copies s c.args.memories.now in
    let t = c.loop-segment.segment in
    let extent = c.segment.ensures ∙ ap (λ (x : Shape). segment_extent x t) c.requires.layout in
    let below : t < length d.segments = omega (arith, c.loop-segment-test.true, c.segments-segment-end.ensures, ap (λ (x : Shape). x.segments) c.requires.layout) in
    let placed = place_named d p c.args.pid.0 t c.loop-segment.left below (subst (λ k. c.loop-segment.left < k) c.named_blocks-count.ensures c.if-left-count.true) in
    subst (λ (x : Shape). IsPlace x.blocks c.segment.result.0 c.loop-segment.left) (sym c.requires.layout) (subst (λ e. IsPlace (shape_of d).blocks e c.loop-segment.left) (sym extent) placed)

pub loop-segment-preserved : goal.loop-segment-preserved
loop-segment-preserved c =
    let d = c.args.desc.now in
    let p = copies c.args.layout.now c.args.memories.now in
    let q = c.args.pid.0 in
    let t = c.loop-segment.segment in
    omega (arith, c.loop-segment.invariant, c.named_blocks-count.ensures, c.if-left-count.false, count_more d p q t, ap (λ i. length (so_far d p q i)) (add-one t))

pub returns-clause-block : goal.returns-clause-block
returns-clause-block c =
    let d = c.args.desc.now in
    let p = copies c.args.layout.now c.args.memories.now in
    let q = c.args.pid.0 in
    let t = c.loop-segment.segment in
    let end : t ≡ length d.segments = omega (arith, c.loop-segment-test.false, c.loop-segment.auto.segment-end, c.segments-segment-end.ensures, ap (λ (x : Shape). x.segments) c.requires.layout) in
    sym (found_none d p q c.args.n (omega (arith, c.loop-segment.invariant, ap (λ i. length (so_far d p q i)) end)))
