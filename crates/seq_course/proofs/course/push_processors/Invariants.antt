-- the turns up to here are added
use Rattle.std.proofs.Common.{◌≡◌, ◌++◌, map}
use Rattle.std.specs.List.{range_with_len}
use Rattle.seq_words.specs.declared.events.Event.TheVariants.{Processor}
use Rattle.seq_course.proofs.course.push_processors.Given as goal

abbrev pub invariant-loop-processor : goal.invariant-loop-processor
invariant-loop-processor l = l.round ≡ l.fn.round ++ map (λ n. Processor (record { 0 = n })) (range_with_len 0 l.processor)
