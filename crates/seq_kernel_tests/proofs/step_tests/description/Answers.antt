use Rattle.std.proofs.Common.{◌≡◌, ℕ, List, [], ◌∷◌, refl}
use Rattle.std.specs.Prelude.{count_ones}
use lib.Count.{ones}
use Rattle.seq_layout.specs.Shapes.{shape_of}
use Rattle.seq_samples.specs.Samples.{two_images}
use Rattle.seq_kernel_tests.proofs.step_tests.description.Goals as goal

one : count_ones 1 ≡ 1
unfolding ones
one = refl

none : count_ones 0 ≡ 0
unfolding ones
none = refl

blocks : (a b : List ℕ) → (shape_of (two_images 128 a 32 b)).blocks ≡ 20 ∷ 9 ∷ 1 ∷ 1 ∷ 1 ∷ 1 ∷ 1 ∷ []
blocks a b = rw (one, none) refl

words : (a b : List ℕ) → (shape_of (two_images 128 a 32 b)).words ≡ 1 ∷ 1 ∷ 1 ∷ 1 ∷ 1 ∷ 1 ∷ 3 ∷ []
words a b = rw (one, none) refl

pub returns-clause-blocks : goal.returns-clause-blocks
returns-clause-blocks c = rw c.in_ok-desc.ensures.value (blocks c.new.result c.new-2.result)

pub returns-clause-words : goal.returns-clause-words
returns-clause-words c = rw c.in_ok-desc.ensures.value (words c.new.result c.new-2.result)
