use Rattle.std.proofs.Common.{◌≡◌, map}
use Rattle.std.specs.List.{range_with_len}
use Rattle.seq_layout.specs.Shapes.{owner_from}
use Rattle.seq_layout.proofs.described.owners_of.Given as goal

abbrev pub invariant-loop-line : goal.invariant-loop-line
invariant-loop-line l = l.owners ≡ map (owner_from 0 l.desc.processes) (range_with_len 0 l.line)
