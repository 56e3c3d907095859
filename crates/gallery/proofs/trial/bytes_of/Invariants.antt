use Rattle.std.proofs.Common.{◌≡◌, ℕ, List, Some, take}
use Rattle.seq_shelf.specs.Outlets.{view}
use Rattle.gallery.proofs.trial.bytes_of.Given as goal

abbrev pub invariant-loop-n : goal.invariant-loop-n
invariant-loop-n g l = (bytes : List ℕ) → (view (λ z. (goal.Line-dyn g z).line z.1) l.outlet).told ≡ Some bytes → l.all ≡ take l.n bytes
