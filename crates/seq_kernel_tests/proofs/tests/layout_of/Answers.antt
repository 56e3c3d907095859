use Rattle.std.proofs.Common.{◌≡◌, [], ◌∷◌, refl, ap, ◌∙◌}
use Rattle.std.specs.Prelude.{count_ones}
use lib.Count.{ones}
use Rattle.seq_words.specs.declared.description.MachineDesc.{MachineDesc}
use Rattle.seq_layout.specs.Shapes.{Shape, shape_of}
use Rattle.seq_samples.specs.Samples.{one_line}
use Rattle.seq_kernel_tests.proofs.tests.layout_of.Goals as goal

one : count_ones 1 ≡ 1
unfolding ones
one = refl

blocks : (shape_of one_line).blocks ≡ 18 ∷ 1 ∷ 1 ∷ 1 ∷ 1 ∷ []
blocks = rw one refl

words : (shape_of one_line).words ≡ 1 ∷ 1 ∷ 1 ∷ 1 ∷ 3 ∷ []
words = rw one refl

blocks_of : (d : MachineDesc) (s : Shape) → d ≡ one_line → s ≡ shape_of d → s.blocks ≡ 18 ∷ 1 ∷ 1 ∷ 1 ∷ 1 ∷ []
blocks_of d s is shape = ap (λ (s : Shape). s.blocks) shape ∙ ap (λ (d : MachineDesc). (shape_of d).blocks) is ∙ blocks

words_of : (d : MachineDesc) (s : Shape) → d ≡ one_line → s ≡ shape_of d → s.words ≡ 1 ∷ 1 ∷ 1 ∷ 1 ∷ 3 ∷ []
words_of d s is shape = ap (λ (s : Shape). s.words) shape ∙ ap (λ (d : MachineDesc). (shape_of d).words) is ∙ words

pub returns-clause-blocks : goal.returns-clause-blocks
returns-clause-blocks c = blocks_of c.args.desc.now c.in_ok-layout.layout c.requires.value c.in_ok-layout.ensures

pub returns-clause-words : goal.returns-clause-words
returns-clause-words c = words_of c.args.desc.now c.in_ok-layout.layout c.requires.value c.in_ok-layout.ensures
