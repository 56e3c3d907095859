-- Hardware of which an event may be made.
use Rattle.std.specs.Prelude.{ℕ}
use Rattle.seq_stands.specs.Fit.{Fit}
use Rattle.seq_stands.specs.FitNumbers.{NumbersBelow}
use Rattle.seq_machine.specs.declared.hardware.Hardware.{Hardware}
use Rattle.seq_machine.specs.Plain.{machine_of, IsHardware}
use Rattle.seq_machine.specs.Starting.{no_outside}

-- it is within its bounds, and its incarnations and numbers of commits are below n
pub record IsReady (n : ℕ) (h : Hardware) : Type 0 where
  pub hardware : IsHardware h
  pub fit : Fit h.desc (machine_of h no_outside)
  pub numbers : NumbersBelow n h.desc (machine_of h no_outside)
