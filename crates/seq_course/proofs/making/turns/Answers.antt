use Rattle.seq_course.proofs.Scenes.{turns_may, times_of_none}
use Rattle.seq_course.proofs.making.turns.Goals as goal

pub repeat-requires : goal.repeat-requires
repeat-requires g c = turns_may c.args.count _ _ _ c.in-Processor.is c.requires

pub repeat-requires-in-Io : goal.repeat-requires-in-Io
repeat-requires-in-Io g c = turns_may c.args.count _ _ _ c.in-Io.is c.requires

pub returns-in-Memory-clause-ok : goal.returns-in-Memory-clause-ok
returns-in-Memory-clause-ok g c = rw c.in-Memory.is (times_of_none c.args.count _)
