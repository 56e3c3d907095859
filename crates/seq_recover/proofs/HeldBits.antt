-- Which segments a process holds, as its context says.
use Rattle.std.proofs.Common.{◌≡◌, ℕ, ◌<◌, length, refl, lit<}
use Rattle.seq_words.specs.Blocks.{word_at}
use Rattle.seq_words.specs.declared.description.MachineDesc.{MachineDesc}
use Rattle.seq_layout.specs.Places.{IsPlace}
use Rattle.seq_layout.specs.Shapes.{Shape, shape_of}
use Rattle.seq_layout.specs.Copies.{Copies, first_block}
use Rattle.seq_layout.proofs.Sizes.{process_has_context}
use Rattle.seq_recover.specs.Reading.{context_of}

-- they are the fifth number of block four
pub held_is : (d : MachineDesc) (p : Copies) (q : ℕ) → (context_of d p q).held ≡ word_at (first_block (shape_of d) p q 4).bytes 16
unfolding context_of
held_is d p q = refl

pub held_place : (d : MachineDesc) (s : Shape) (q e : ℕ) → s ≡ shape_of d → q < length d.processes → e ≡ q → IsPlace s.blocks e 4
held_place d s q e same inside is = rw (same, is) (process_has_context d q 4 inside (lit< tt))
