use Rattle.std.proofs.Common.{ℕ, ◌<◌}
use Rattle.seq_turns.specs.Reading.{ruling}
use Rattle.seq_lines.specs.Settled.{IsCalm}
use Rattle.seq_machine.specs.Plain.{Outside, machine_of}
use Rattle.seq_machine.specs.Settling.{held_copies}
use Rattle.seq_machine.proofs.hardware.Hardware.all_calm.Given as goal

abbrev pub invariant-loop-q : goal.invariant-loop-q
invariant-loop-q l = (o : Outside) (q : ℕ) → q < l.q → IsCalm (machine_of l.fn.self o) (ruling l.fn.self.desc (held_copies l.fn.self) q)
