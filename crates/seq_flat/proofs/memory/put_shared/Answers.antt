use Rattle.std.proofs.Common.{◌≡◌, ◌-◌, ◌/◌, slice_index_or, refl}
use Rattle.std.proofs.lemmas.Option.{get_or_from_slice_get}
use Rattle.seq_flat.specs.State.{no_segment}
use Rattle.seq_flat.proofs.Stores.{segments_after_high}
use Rattle.seq_flat.proofs.memory.put_shared.Goals as goal

pub returns : goal.returns
returns c =
    let same : slice_index_or c.args.segments.now ((c.args.at - 0x40000000) / 65536) no_segment ≡ c.at_mut-segment.result.now = get_or_from_slice_get c.args.segments.now ((c.args.at - 0x40000000) / 65536) c.at_mut-segment.result.now no_segment c.at_mut-segment.ensures.value in
    rw (segments_after_high c.args.segments.now c.args.at c.args.width c.args.value c.requires.high, same, c.put.ensures) refl
