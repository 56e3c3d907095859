use Rattle.std.proofs.Common.{◌≡◌, ◌<◌, ◌≤◌, arith, refl}
use Rattle.seq_flat.specs.declared.state.End.{End}
use Rattle.seq_flat.specs.declared.state.End.TheVariants.{Live, Exited, Trapped}
use Rattle.seq_process.specs.Contexts.{end_kind, end_value, end_pc, SavedIsInside}
use Rattle.seq_process.proofs.laws.saved_is_inside.Goals as goal

-- the numbers of an end are inside the format
kind_small : (end : End) → end_kind end ≤ 2
kind_small Live = omega arith
kind_small (Exited code) = omega arith
kind_small (Trapped cause pc) = omega arith

live_alone : (end : End) → end_kind end ≡ 0 → end_value end ≡ 0
live_alone Live is = refl
live_alone (Exited code) is = absurd (omega arith)
live_alone (Trapped cause pc) is = absurd (omega arith)

trap_alone : (end : End) → end_kind end < 2 → end_pc end ≡ 0
trap_alone Live below = refl
trap_alone (Exited code) below = refl
trap_alone (Trapped cause pc) below = absurd (omega arith)

inside : SavedIsInside
inside r regs zero aligned = record {
  zero = zero;
  aligned = aligned;
  end = kind_small r.end;
  live = live_alone r.end;
  trapped = trap_alone r.end;
}

pub returns : goal.returns
returns c = inside
