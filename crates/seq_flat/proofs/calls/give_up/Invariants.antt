use Rattle.std.proofs.Common.{◌≡◌, ◌++◌, take, drop, map, length}
use Rattle.seq_flat.specs.Calls.{given_up}
use Rattle.seq_flat.proofs.calls.give_up.Given as goal

abbrev pub invariant-loop-i : goal.invariant-loop-i
invariant-loop-i l = record {
  done : take l.i l.segments ++ map (given_up l.pid.0) (drop l.i l.segments) ≡ map (given_up l.pid.0) l.initial.segments;
  number : length l.segments ≡ l.i-end;
}
