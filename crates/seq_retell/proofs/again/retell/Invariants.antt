use Rattle.std.proofs.Common.{◌≡◌, drop}
use Rattle.seq_flat.specs.State.{rights_of}
use Rattle.seq_flat.specs.Run.{run_from, flat_run}
use Rattle.seq_flat.specs.Reached.{HasShape}
use Rattle.seq_retell.proofs.again.retell.Given as goal

abbrev pub invariant-loop-entry : goal.invariant-loop-entry
invariant-loop-entry l = record {
  rights : l.flat.rights ≡ rights_of l.desc;
  same : run_from l.desc l.inputs.lines l.flat.state (drop l.entry-index l.history) ≡ flat_run l.desc l.inputs.lines l.history;
  shape : HasShape l.desc l.flat.state;
}
