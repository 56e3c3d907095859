use Rattle.std.proofs.Common.{◌≡◌, take, map as list_map, string_bytes}
use Rattle.gallery.proofs.trial.words_of.Given as goal

abbrev pub invariant-loop-word : goal.invariant-loop-word
invariant-loop-word l = list_map string_bytes l.all.items ≡ list_map (λ w. w.now) (take l.word-index l.words)
