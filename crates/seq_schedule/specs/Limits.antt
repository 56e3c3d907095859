-- The limits of a schedule.
use Rattle.std.specs.Prelude.{ℕ}

-- the most lines
abbrev pub most_lines : ℕ
most_lines = 1000000

-- the most turns
abbrev pub most_turns : ℕ
most_turns = 200000000

-- the most turns or rounds of one line
abbrev pub most_times : ℕ
most_times = 10000000
