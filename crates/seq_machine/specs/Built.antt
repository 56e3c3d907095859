-- The events that the hardware makes so far: all but hangups.
use Rattle.seq_words.specs.declared.events.Event.{Event}
use Rattle.seq_words.specs.declared.events.Event.TheVariants as event

-- turns, what arrives from outside, failures, repairs and strikes
abbrev pub IsBuilt : Event → Type 0
IsBuilt (event.Processor p) = Unit {0}
IsBuilt (event.Io i) = Unit {0}
IsBuilt (event.Input l byte) = Unit {0}
IsBuilt (event.Close l) = Unit {0}
IsBuilt (event.Fail e) = Unit {0}
IsBuilt (event.Repair e) = Unit {0}
IsBuilt (event.Upset p half reg mask) = Unit {0}
IsBuilt (event.Hangup l) = ⊥
