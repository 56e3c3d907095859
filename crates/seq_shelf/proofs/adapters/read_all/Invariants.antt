use Rattle.std.proofs.Common.{◌≡◌, ◌≤◌, ◌+◌, ◌-◌, length}
use Rattle.std.specs.Io.KnownBytes.{Consumes}
use Rattle.seq_shelf.proofs.adapters.read_all.Given as goal

abbrev pub invariant-loop-source : goal.invariant-loop-source
invariant-loop-source g l = record {
  taken : Consumes (g.F.Read.remaining l.initial.source.file) (g.F.Read.remaining l.source.file) l.bytes;
  within : length l.bytes ≤ l.limit;
  given : l.source.given ≡ length l.bytes;
}

abbrev pub decreases-loop-source : goal.decreases-loop-source
decreases-loop-source g l = l.limit - length l.bytes
