-- The memories are those of the layout, which stays.
use Rattle.seq_layout.specs.Copies.{Matches}
use Rattle.seq_io.specs.Bounds.{IsWired}
use Rattle.seq_io_tests.proofs.course_tests.take_turns.Given as goal

abbrev pub invariant-loop-turn : goal.invariant-loop-turn
invariant-loop-turn g l = record { matches : Matches l.course.layout l.course.memories; wired : IsWired l.course.layout }
