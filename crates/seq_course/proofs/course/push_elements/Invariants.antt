-- the turns up to here are added
use Rattle.std.proofs.Common.{◌≡◌, ◌++◌, map}
use Rattle.std.specs.List.{range_with_len}
use Rattle.seq_words.specs.declared.events.Event.TheVariants.{Io}
use Rattle.seq_course.proofs.course.push_elements.Given as goal

abbrev pub invariant-loop-element : goal.invariant-loop-element
invariant-loop-element l = l.round ≡ l.fn.round ++ map (λ n. Io (record { 0 = n })) (range_with_len 0 l.element)
