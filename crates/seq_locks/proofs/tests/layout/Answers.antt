use Rattle.std.proofs.Common.{◌≡◌, [], ◌∷◌, refl, ap, ◌∙◌}
use Rattle.std.specs.Prelude.{count_ones}
use lib.Count.{ones}
use Rattle.seq_words.specs.declared.description.MachineDesc.{MachineDesc}
use Rattle.seq_layout.specs.Shapes.{Shape, shape_of}
use Rattle.seq_samples.specs.Samples.{lone_process}
use Rattle.seq_locks.proofs.tests.layout.Goals as goal

none : count_ones 0 ≡ 0
unfolding ones
none = refl

made_blocks : (shape_of lone_process).blocks ≡ 9 ∷ []
made_blocks = rw none refl

made_words : (shape_of lone_process).words ≡ 1 ∷ []
made_words = rw none refl

memories_of : (d : MachineDesc) (s : Shape) → d ≡ lone_process → s ≡ shape_of d → s.memories ≡ 2
memories_of d s is shape = ap (λ (s : Shape). s.memories) shape ∙ ap (λ (d : MachineDesc). d.memories) is

blocks_of : (d : MachineDesc) (s : Shape) → d ≡ lone_process → s ≡ shape_of d → s.blocks ≡ 9 ∷ []
blocks_of d s is shape = ap (λ (s : Shape). s.blocks) shape ∙ ap (λ (d : MachineDesc). (shape_of d).blocks) is ∙ made_blocks

words_of : (d : MachineDesc) (s : Shape) → d ≡ lone_process → s ≡ shape_of d → s.words ≡ 1 ∷ []
words_of d s is shape = ap (λ (s : Shape). s.words) shape ∙ ap (λ (d : MachineDesc). (shape_of d).words) is ∙ made_words

pub returns-clause-memories : goal.returns-clause-memories
returns-clause-memories c = memories_of c.in_ok-desc.desc c.in_ok-layout.layout c.in_ok-desc.ensures.value c.in_ok-layout.ensures

pub returns-clause-blocks : goal.returns-clause-blocks
returns-clause-blocks c = blocks_of c.in_ok-desc.desc c.in_ok-layout.layout c.in_ok-desc.ensures.value c.in_ok-layout.ensures

pub returns-clause-words : goal.returns-clause-words
returns-clause-words c = words_of c.in_ok-desc.desc c.in_ok-layout.layout c.in_ok-desc.ensures.value c.in_ok-layout.ensures
