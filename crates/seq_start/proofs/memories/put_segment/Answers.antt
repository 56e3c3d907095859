use Rattle.std.proofs.Common.{◌/◌, ◌<◌, ap, sym, subst, zero-add}
use Rattle.std.proofs.lemmas.Option.{get_or_from_slice_get}
use Rattle.seq_words.specs.Description.{no_segment, segment_of}
use Rattle.seq_words.specs.declared.description.SegmentDesc.{SegmentDesc}
use Rattle.seq_layout.specs.Shapes.{Shape}
use Rattle.seq_layout.specs.Copies.{copies}
use Rattle.seq_layout.proofs.Sizes.{segment_has_blocks}
use Rattle.seq_start.proofs.Begun.{segment_put}
use Rattle.seq_start.proofs.memories.put_segment.Goals as goal

pub put_bytes-requires-clause-places : goal.put_bytes-requires-clause-places
put_bytes-requires-clause-places c = λ i lt.
    let d = c.args.desc.now in
    let is = get_or_from_slice_get d.segments c.args.segment.0 c.at-described.result.now no_segment c.at-described.ensures in
    let few : i < (segment_of d c.args.segment.0).size / 32 = subst (λ (x : SegmentDesc). i < x.size / 32) (sym is) lt in
    rw (c.segment-extent.ensures, c.requires.layout, zero-add i) (segment_has_blocks d c.args.segment.0 i no_segment c.requires.segment few)

pub returns-clause-holds : goal.returns-clause-holds
returns-clause-holds c =
    let d = c.args.desc.now in
    let is = get_or_from_slice_get d.segments c.args.segment.0 c.at-described.result.now no_segment c.at-described.ensures in
    segment_put d c.args.layout.now (copies c.args.layout.now c.args.memories.now) (copies c.args.layout.now c.put_bytes.new.memories)
    c.args.layout.now.processes c.args.segment.0 c.segment-extent.result.0 c.at-described.result.now c.as_slice-bytes.result.now c.requires.described
    (ap (λ (s : Shape). s.processes) c.requires.layout) c.requires.segment is c.segment-extent.ensures c.as_slice-bytes.ensures c.put_bytes.ensures.holds c.requires.holds
