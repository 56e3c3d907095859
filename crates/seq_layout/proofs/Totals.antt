-- What a memory keeps is little where each extent has little.
use Rattle.std.proofs.Common.{◌≡◌, ℕ, zero, suc, ◌+◌, ◌*◌, ◌^◌, ◌<◌, ◌≤◌, List, length, get_or, arith, suc-mul}
use Rattle.std.proofs.Common.{inl, inr}
use Rattle.std.proofs.Math.ListN.{get_or-eq_default}
use Rattle.std.specs.Prelude.{All}
use Rattle.std.proofs.lemmas.Bool.{cases_lt}
use Rattle.std.proofs.lemmas.List.Elements.{All-get_or}
use Rattle.seq_words.specs.Description.{IsBetween, IsDescription}
use Rattle.seq_words.specs.declared.description.MachineDesc.{MachineDesc}
use Rattle.seq_layout.specs.Places.{start_of}
use Rattle.seq_layout.specs.Shapes.{blocks_of, words_of}
use Rattle.seq_layout.proofs.Sizes.{blocks_between, words_between, extents_few, length_blocks, length_words}
use Rattle.seq_layout.specs.Tables.{AreUnits}
use Rattle.seq_layout.proofs.Apart.{start_first}

-- one more extent adds no more than its size
step_le : (m : ℕ) (sizes : List ℕ) (k e : ℕ) → start_of m sizes k (suc e) ≤ start_of m sizes k e + get_or sizes e 0
unfolding start_of
step_le m sizes k e = grind arith

-- at most so much for each of the extents before
pub start_le : (m : ℕ) (sizes : List ℕ) (k e most : ℕ) → ((i : ℕ) → get_or sizes i 0 ≤ most) → start_of m sizes k e ≤ e * most
start_le m sizes k zero most small = omega (arith, start_first m sizes k)
start_le m sizes k (suc e) most small = omega (arith, start_le m sizes k e most small, small e, step_le m sizes k e, suc-mul e most)

-- the sizes past the end of a list are 0
bounded : (sizes : List ℕ) (most : ℕ) → All (IsBetween 1 most) sizes → (i : ℕ) → get_or sizes i 0 ≤ most
bounded sizes most all i = elim (cases_lt i (length sizes)) [
  | inl inside ↦ (All-get_or (IsBetween 1 most) sizes i 0 inside all).high_at
  | inr outside ↦ let none : get_or sizes i 0 ≡ 0 = get_or-eq_default sizes 0 outside in omega arith
]

-- all that a memory keeps of at most 96 extents, each with at most 4096 parts
pub total_fits : (m : ℕ) (sizes : List ℕ) (k : ℕ) → length sizes ≤ 96 → ((i : ℕ) → get_or sizes i 0 ≤ 4096) → start_of m sizes k (length sizes) < 2 ^ 32
total_fits m sizes k few small =
    omega (arith, start_le m sizes k (length sizes) 4096 small)

-- the blocks of a description's machine on one memory, its words, and both together
pub blocks_fit : (d : MachineDesc) (m k : ℕ) → IsDescription d → start_of m (blocks_of d) k (length (blocks_of d)) < 2 ^ 32
blocks_fit d m k is = total_fits m (blocks_of d) k (extents_few d is) (λ i. omega (arith, bounded (blocks_of d) 2088 (blocks_between d is) i))

pub words_fit : (d : MachineDesc) (m k : ℕ) → IsDescription d → start_of m (words_of d) k (length (words_of d)) < 2 ^ 32
words_fit d m k is = total_fits m (words_of d) k (omega (arith, extents_few d is, length_blocks d, length_words d)) (λ i. omega (arith, bounded (words_of d) 3 (words_between d) i))

pub unit_small : (d : MachineDesc) (e : ℕ) → IsDescription d → get_or (blocks_of d) e 0 + get_or (words_of d) e 0 ≤ 4096
unit_small d e is = omega (arith, bounded (blocks_of d) 2088 (blocks_between d is) e, bounded (words_of d) 3 (words_between d) e)

pub units_fit : (d : MachineDesc) (units : List ℕ) (m k : ℕ) → IsDescription d → AreUnits (blocks_of d) (words_of d) units → start_of m units k (length units) < 2 ^ 32
units_fit d units m k is are = total_fits m units k (omega (arith, are.extents, extents_few d is)) (λ i. elim (cases_lt i (length units)) [
  | inl inside ↦ omega (arith, unit_small d i is, are.unit i (omega (arith, are.extents)))
  | inr outside ↦ let none : get_or units i 0 ≡ 0 = get_or-eq_default units 0 outside in omega arith
])
