-- A turn of a flush at any of its stages.
use Rattle.std.specs.Prelude.{Bool, false, if◌then◌else◌, nat_le, List, length, Option, Some, None}
use Rattle.seq_words.specs.declared.events.Entry.{Entry}
use Rattle.seq_layout.specs.Shapes.{Shape}
use Rattle.seq_layout.specs.Copies.{Copies}
use Rattle.seq_status.specs.declared.step.Step.{Step}
use Rattle.seq_status.specs.declared.step.Step.TheVariants.{Again, Next}
use Rattle.seq_cache.specs.declared.change.Change.{Change}
use Rattle.seq_process.specs.declared.running.Running.{Running}
use Rattle.seq_kernel.specs.declared.outcomes.Note.{Note}
use Rattle.seq_kernel.specs.declared.outcomes.Note.TheVariants.{Moved, Committed}
use Rattle.seq_flush.specs.declared.flush.Flush.{Flush}
use Rattle.seq_flush.specs.declared.stages.Mark.{Mark}
use Rattle.seq_flush.specs.declared.stages.First.{First}
use Rattle.seq_flush.specs.declared.stages.Second.{Second}
use Rattle.seq_flush.specs.declared.stages.Close.{Close}
use Rattle.seq_flush.specs.declared.stages.Closed.{Closed}
use Rattle.seq_flush.specs.Turns.{Turned, units, mark_turn, first_turn, second_turn, close_turn}
use Rattle.seq_turns.specs.declared.hand.FlushAt.{FlushAt}
use Rattle.seq_turns.specs.declared.hand.FlushAt.TheVariants as flush
use Rattle.seq_turns.specs.Operations.{committed}

-- the stage of a flush after a turn, or none where the flush is done
abbrev pub after_mark : Step (Flush Mark) (Flush First) → Option FlushAt
after_mark (Again f) = Some (flush.Mark f)
after_mark (Next f) = Some (flush.First f)

abbrev pub after_first : Step (Flush First) (Flush Second) → Option FlushAt
after_first (Again f) = Some (flush.First f)
after_first (Next f) = Some (flush.Second f)

abbrev pub after_second : Step (Flush Second) (Flush Close) → Option FlushAt
after_second (Again f) = Some (flush.Second f)
after_second (Next f) = Some (flush.Close f)

abbrev pub after_close : Step (Flush Close) Closed → Option FlushAt
after_close (Again f) = Some (flush.Close f)
after_close (Next c) = None

-- with another next state
abbrev pub turned_to : {A B : Type 0} → (A → B) → Turned A → Turned B
turned_to f t = record { copies = t.copies; step = f t.step }

-- what a turn of a flush leaves in the memories, and its stage then
abbrev pub flush_turn : Shape → Copies → List Change → FlushAt → Turned (Option FlushAt)
flush_turn s p changes (flush.Mark f) = turned_to after_mark (mark_turn s p f)
flush_turn s p changes (flush.First f) = turned_to after_first (first_turn s p changes f)
flush_turn s p changes (flush.Second f) = turned_to after_second (second_turn s p changes f)
flush_turn s p changes (flush.Close f) = turned_to after_close (close_turn s p f)

-- the next turn is the commit
abbrev pub is_commit : List Change → FlushAt → Bool
is_commit changes (flush.Mark f) = false
is_commit changes (flush.First f) = nat_le (length (units f changes)) f.cursor
is_commit changes (flush.Second f) = false
is_commit changes (flush.Close f) = false

-- the process after a turn that commits, or that doesn't
abbrev pub running_after : Bool → Running → Running
running_after commits r = if commits then committed r else r

-- the note of such a turn, and what it commits
abbrev pub note_of : Bool → Running → Note
note_of commits r = if commits then Committed r.pid r.steps else Moved

abbrev pub entry_of : Bool → Running → Option Entry
entry_of commits r = if commits then Some (record { pid = r.pid; count = r.steps }) else None
