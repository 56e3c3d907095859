use Rattle.std.specs.Option.{option_map}
use Rattle.seq_text.specs.Cuts.{left}
use Rattle.seq_manifest.proofs.Sequences.{IsSoFar}
use Rattle.seq_manifest.proofs.lists.numbers.Given as goal

abbrev pub invariant-parts : goal.invariant-parts
invariant-parts l = IsSoFar l.word l.part (option_map (λ rest. rest.now) l.rest) l.list

abbrev pub decreases-parts : goal.decreases-parts
decreases-parts l = left (option_map (λ rest. rest.now) l.rest)
