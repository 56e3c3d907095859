use Rattle.std.proofs.Common.{◌≡◌, map}
use Rattle.std.specs.List.{range_with_len}
use Rattle.seq_layout.specs.Tables.{sites_at}
use Rattle.seq_layout.proofs.starts.sites_of.Given as goal

abbrev pub invariant-loop-extent : goal.invariant-loop-extent
invariant-loop-extent l = l.sites ≡ map (sites_at (record { memories = l.fn.memories; sizes = l.sizes })) (range_with_len 0 l.extent)
