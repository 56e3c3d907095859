use Rattle.std.proofs.Common.{sym, ◌∙◌}
use Rattle.seq_kernel.proofs.CallPlaces.{mapped_place}
use Rattle.seq_kernel.proofs.calls.byte.Goals as goal

pub first_block-block-requires-clause-place : goal.first_block-block-requires-clause-place
first_block-block-requires-clause-place c =
    mapped_place c.args.desc.now c.args.layout.now c.args.r.now.pid.0 c.args.r.now.held c.args.address (c.in_ok-extent.extent, c.in_ok-extent.at) c.requires.description c.requires.layout c.requires.process (sym c.map.ensures ∙ c.in_ok-extent.was)
