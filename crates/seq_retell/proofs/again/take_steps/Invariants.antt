use Rattle.std.proofs.Common.{◌≡◌, ◌-◌}
use Rattle.seq_words.specs.declared.description.MachineDesc.{MachineDesc}
use Rattle.seq_flat.specs.State.{rights_of}
use Rattle.seq_flat.specs.Run.{steps}
use Rattle.seq_flat.specs.Reached.{HasShape}
use Rattle.seq_retell.proofs.again.take_steps.Given as goal

abbrev pub invariant-loop-taken : goal.invariant-loop-taken
invariant-loop-taken l = record {
  rights : l.flat.rights ≡ l.initial.flat.rights;
  same : (d : MachineDesc) → rights_of d ≡ l.initial.flat.rights → steps d l.inputs.lines l.entry.pid.0 (l.entry.count - l.taken) l.flat.state ≡ steps d l.inputs.lines l.entry.pid.0 l.entry.count l.initial.flat.state;
  shape : (d : MachineDesc) → HasShape d l.initial.flat.state → HasShape d l.flat.state;
}
