-- The turns of a flush, as the table of the machine has them. With u units they are 2u + 6: two of Mark, u + 1 of First,
-- of which the last is the commit, u + 1 of Second, two of Close. Each turn names one copy; where that copy isn't in
-- service, the turn changes nothing and the flush moves on.
use Rattle.std.specs.Prelude.{ℕ, ◌+◌, ◌-◌, Bool, true, false, if◌then◌else◌, ◌==◌, nat_le, List, length, slice_index_or}
use Rattle.seq_words.specs.Blocks.{zero_block}
use Rattle.seq_layout.specs.Shapes.{Shape}
use Rattle.seq_layout.specs.Copies.{Copies, block_written, word_written}
use Rattle.seq_status.specs.declared.status.Status.{Status}
use Rattle.seq_status.specs.declared.status.Status.TheVariants.{Run, Pass1, Pass2}
use Rattle.seq_status.specs.declared.step.Step.{Step}
use Rattle.seq_status.specs.declared.step.Step.TheVariants.{Again, Next}
use Rattle.seq_status.specs.Words.{word_of}
use Rattle.seq_cache.specs.declared.change.Change.{Change}
use Rattle.seq_flush.specs.declared.stages.Mark.{Mark}
use Rattle.seq_flush.specs.declared.stages.First.{First}
use Rattle.seq_flush.specs.declared.stages.Second.{Second}
use Rattle.seq_flush.specs.declared.stages.Close.{Close}
use Rattle.seq_flush.specs.declared.stages.Closed.{Closed}
use Rattle.seq_flush.specs.declared.flush.Flush.{Flush}
use Rattle.seq_flush.specs.Units.{units_of}

-- what a turn leaves: what the memories hold, and the next state
pub record Turned (A : Type 0) : Type 0 where
  pub copies : Copies
  pub step : A

unfoldable pub no_change : Change
no_change = record { extent = record { 0 = 0 }; place = 0; block = zero_block }

-- the flush's units, and one of them
abbrev pub units : {S : Type 0} → Flush S → List Change → List Change
units f changes = units_of f.pid.0 f.context changes

abbrev pub unit_at : List Change → ℕ → Change
unit_at us i = slice_index_or us i no_change

-- one copy of the process's status word is set; one copy of a unit is written
abbrev pub status_written : Shape → Copies → ℕ → Bool → Status → Copies
status_written s p pid shadow status = word_written s p pid 0 shadow (word_of status)

abbrev pub unit_written : Shape → Copies → Bool → Change → Copies
unit_written s p shadow unit = block_written s p unit.extent.0 unit.place shadow unit.block

-- the same flush at the beginning of another stage
abbrev pub into_stage : {S T : Type 0} → Flush S → T → Flush T
into_stage f stage = record { pid = f.pid; holder = f.holder; context = f.context; cursor = 0; stage = stage }

-- Mark: Pass1 at the primary word, then at the shadow word
unfoldable pub mark_turn : Shape → Copies → Flush Mark → Turned (Step (Flush Mark) (Flush First))
mark_turn s p f =
    if f.cursor == 0
    then record { copies = status_written s p f.pid.0 false (Pass1 f.holder); step = Again (record f { cursor = 1 }) }
    else record { copies = status_written s p f.pid.0 true (Pass1 f.holder); step = Next (into_stage f (record {})) }

-- First: each unit at its primary; then the commit, which writes Pass2 at the primary word
unfoldable pub first_turn : Shape → Copies → List Change → Flush First → Turned (Step (Flush First) (Flush Second))
first_turn s p changes f =
    if nat_le (length (units f changes)) f.cursor
    then record { copies = status_written s p f.pid.0 false (Pass2 f.holder); step = Next (into_stage f (record {})) }
    else record { copies = unit_written s p false (unit_at (units f changes) f.cursor); step = Again (record f { cursor = f.cursor + 1 }) }

-- Second: Pass2 at the shadow word, then each unit at its shadow
unfoldable pub second_turn : Shape → Copies → List Change → Flush Second → Turned (Step (Flush Second) (Flush Close))
second_turn s p changes f =
    if f.cursor == 0
    then record { copies = status_written s p f.pid.0 true (Pass2 f.holder); step = Again (record f { cursor = 1 }) }
    else record {
      copies = unit_written s p true (unit_at (units f changes) (f.cursor - 1));
      step = if nat_le (length (units f changes)) f.cursor then Next (into_stage f (record {})) else Again (record f { cursor = f.cursor + 1 });
    }

-- Close: Run at the primary word, then at the shadow word
unfoldable pub close_turn : Shape → Copies → Flush Close → Turned (Step (Flush Close) Closed)
close_turn s p f =
    if f.cursor == 0
    then record { copies = status_written s p f.pid.0 false (Run f.holder); step = Again (record f { cursor = 1 }) }
    else record { copies = status_written s p f.pid.0 true (Run f.holder); step = Next (record {}) }

-- how many turns of Mark and First a flush has taken that is in Mark, and one that is in First
abbrev pub taken_in_mark : Flush Mark → ℕ
taken_in_mark f = f.cursor

abbrev pub taken_in_first : Flush First → ℕ
taken_in_first f = f.cursor + 2
