-- The plain turn of a processor: its process takes a step and goes on, and nothing else happens.
use Rattle.std.specs.Prelude.{◌≡◌, None, Ok}
use Rattle.seq_words.specs.declared.events.Event.TheVariants as event
use Rattle.seq_words.specs.declared.names.Pe.{Pe}
use Rattle.seq_words.specs.declared.names.Pid.{Pid}
use Rattle.seq_cache.specs.Changes.{Changes}
use Rattle.seq_io.specs.Changes.Change.{Unchanged}
use Rattle.seq_kernel.specs.declared.outcomes.Note.TheVariants.{Ran as StepTaken}
use Rattle.seq_turns.specs.declared.hand.Hand.{Hand}
use Rattle.seq_turns.specs.Machines.{Turn}
use Rattle.seq_turns.specs.Machines.Turn.{Moves}
use Rattle.seq_turns.specs.Events.{happens}
use Rattle.seq_machine.specs.Plain.{Outside, machine_of, outside_of}
use Rattle.seq_machine.specs.Checking.{answer}
use Rattle.seq_machine.specs.declared.hardware.Hardware.{Hardware}

-- it changes its own processor's hand and cache alone, and its note is that the process took a step
abbrev pub plain_move : Hand → Changes → Pid → Turn
plain_move h cache pid = Moves (record { change = Unchanged; hand = h; cache = cache; commit = None; note = StepTaken pid })

-- What such a turn of processor pe makes of the hardware is what the table makes of it, and so is its note.
pub record GoesOn (old new : Hardware) (pe : Pe) (pid : Pid) : Type 0 where
  pub machine : (o : Outside) → machine_of new (outside_of (happens old.desc (machine_of old o) (event.Processor pe))) ≡ happens old.desc (machine_of old o) (event.Processor pe)
  pub answer : (o : Outside) → Ok (StepTaken pid) ≡ answer old.desc (machine_of old o) (event.Processor pe)
  pub desc : new.desc ≡ old.desc
