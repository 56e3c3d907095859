-- How much room a script wants.
use Rattle.std.specs.Prelude.{ℕ, ◌+◌}
use Rattle.seq_words.specs.declared.description.MachineDesc.{MachineDesc}
use Rattle.seq_schedule.specs.declared.script.Script.{Script}
use Rattle.seq_schedule.specs.Rules.{turns_in}

-- the most events that a script makes: its turns, or else as many bytes as a journal has at most
abbrev pub most_of : MachineDesc → Script → ℕ
most_of d s = turns_in d s + 65536
