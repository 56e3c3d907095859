use Rattle.std.proofs.Common.{subst, sym}
use Rattle.seq_flat.specs.Whole.{IsWhole}
use Rattle.seq_flat.specs.Reached.{HasShape}
use Rattle.seq_flat.proofs.ReachedStart.{start_has_shape}
use Rattle.seq_flat.proofs.Wholes.{start_whole}
use Rattle.seq_flat.proofs.machine.Flat.new.Goals as goal

pub invariant_of-result : goal.invariant_of-result
invariant_of-result c = record { whole = subst IsWhole (sym c.in_ok-state.ensures) (start_whole c.args.desc.now c.requires) }

pub returns-clause-shape : goal.returns-clause-shape
returns-clause-shape c = subst (HasShape c.args.desc.now) (sym c.in_ok-state.ensures) (start_has_shape c.args.desc.now c.requires)
