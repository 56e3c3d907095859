use Rattle.std.proofs.Common.{slice_index, sym, ap, ◌∙◌}
use Rattle.seq_layout.specs.Shapes.{Shape, segment_extent}
use Rattle.seq_layout.specs.Copies.{copies}
use Rattle.seq_recover.proofs.Listed.{count_named, count_other}
use Rattle.seq_recover.proofs.copying.named_blocks.Goals as goal

pub returns-then-names : goal.returns-then-names
returns-then-names c =
    let s = c.args.layout.now in
    let t = c.args.segment.0 in
    c.blocks-then-names.ensures ∙
    ap (slice_index s.blocks) c.segment.ensures ∙
    ap (λ (x : Shape). slice_index x.blocks (segment_extent x t)) c.requires.layout ∙
    sym (count_named c.args.desc.now (copies s c.args.memories.now) c.args.pid.0 t (sym c.names.ensures ∙ c.if-names.true))

pub returns-else-names : goal.returns-else-names
returns-else-names c = sym (count_other c.args.desc.now (copies c.args.layout.now c.args.memories.now) c.args.pid.0 c.args.segment.0 (sym c.names.ensures ∙ c.if-names.false))
