-- Contexts block by block: eight blocks fit where each does, and each of them where they do.
use Rattle.std.proofs.Common.{◌≡◌, ◌≢◌, ◌⊎◌, inl, inr, ℕ, zero, suc, ◌+◌, ◌*◌, ◌/◌, ◌%◌, ◌^◌, ◌<◌, ◌≤◌, true, false, ◌==◌, List, length, get_or, arith, refl, sym, ◌∙◌, ap, subst, eq-eqb}
use Rattle.std.proofs.Math.Path.{fun_ext}
use Rattle.std.specs.Prelude.{if◌then◌else◌, slice_index_or}
use Rattle.std.proofs.lemmas.Bool.{cases_eq, cond-true, cond-false, ne_eqb, true≢false}
use Rattle.std.proofs.lemmas.Nat.Bits.{bit_at-zero}
use Rattle.seq_words.specs.Masks.{has_bit}
use Rattle.seq_words.specs.Blocks.{zero_block, word_at}
use Rattle.seq_words.specs.declared.block.Block.{Block}
use Rattle.seq_words.specs.declared.description.MachineDesc.{MachineDesc}
use Rattle.seq_layout.specs.Contexts.{number_at, AreContextNumbers}
use Rattle.seq_layout.proofs.Contexts.{below_four}
use Rattle.seq_stands.specs.FitBlocks.{ContextNumbersFit, numbers_with, ContextBlockFits}

-- numbers that are all 0
pub no_bit : (t : ℕ) → has_bit 0 t ≡ false
no_bit t = rw (bit_at-zero t) refl

-- some numbers, with 0 for those of the blocks other than k
abbrev only : ℕ → (ℕ → ℕ) → ℕ → ℕ
only k number i = if i / 8 == k then number i else 0

-- numbers fit by cases on each: block k of numbers that fit, and zeros
module _ (d : MachineDesc) (number : ℕ → ℕ) (is : ContextNumbersFit d number) where
  at : (P : ℕ → Type 0) (k i : ℕ) → P (number i) → P 0 → P (only k number i)
  at P k i here none = elim (cases_eq (i / 8) k) [
    | inl same ↦ subst P (sym (cond-true (i / 8 == k) (number i) 0 (eq-eqb (i / 8) k same))) here
    | inr other ↦ subst P (sym (cond-false (i / 8 == k) (number i) 0 (ne_eqb (i / 8) k other))) none
  ]

  pub only_fits : (k : ℕ) → ContextNumbersFit d (only k number)
  only_fits k = record {
    inside = record {
      zero = at (λ n. n ≡ 0) k 0 is.inside.zero refl;
      aligned = at (λ n. n % 4 ≡ 0) k 32 is.inside.aligned refl;
      end = at (λ n. n ≤ 2) k 33 is.inside.end (omega arith);
      live = live;
      trapped = trapped;
      held = at (λ n. n < 2 ^ 16) k 36 is.inside.held (omega arith);
      unused = at (λ n. n ≡ 0) k 37 is.inside.unused refl;
      zeros = λ i low high. at (λ n. n ≡ 0) k i (is.inside.zeros i low high) refl;
    };
    held = λ t. at (λ n. has_bit n t ≡ true → t < length d.segments) k 36 (is.held t) (λ b. absurd (true≢false (sym b ∙ no_bit t)));
    cause = cause;
    reads = λ j below. at (λ n. n ≤ d.journal) k (40 + 2 * j) (is.reads j below) (omega arith);
    writes = λ j below. at (λ n. n ≤ 1048576) k (41 + 2 * j) (is.writes j below) (omega arith);
  }
    where
      live : only k number 33 ≡ 0 → only k number 34 ≡ 0
      live = elim (cases_eq 4 k) [
        | inl same ↦ subst (λ j. only j number 33 ≡ 0 → only j number 34 ≡ 0) same is.inside.live
        | inr other ↦ λ _. cond-false (4 == k) (number 34) 0 (ne_eqb 4 k other)
      ]

      trapped : only k number 33 < 2 → only k number 35 ≡ 0
      trapped = elim (cases_eq 4 k) [
        | inl same ↦ subst (λ j. only j number 33 < 2 → only j number 35 ≡ 0) same is.inside.trapped
        | inr other ↦ λ _. cond-false (4 == k) (number 35) 0 (ne_eqb 4 k other)
      ]

      cause : only k number 33 ≡ 2 → only k number 34 ≤ 255
      cause = elim (cases_eq 4 k) [
        | inl same ↦ subst (λ j. only j number 33 ≡ 2 → only j number 34 ≤ 255) same is.cause
        | inr other ↦ λ _. let none = cond-false (4 == k) (number 34) 0 (ne_eqb 4 k other) in omega (arith, none)
      ]

-- a number of eight blocks is that of its block
number_in : (blocks : List Block) (i : ℕ) → numbers_with (i / 8) (slice_index_or blocks (i / 8) zero_block) i ≡ number_at blocks i
number_in blocks i = cond-true (i / 8 == i / 8) (number_at blocks i) 0 (eq-eqb (i / 8) (i / 8) refl)

-- eight blocks fit where each of them does
module _ (d : MachineDesc) (blocks : List Block) (each : (k : ℕ) → k < 8 → ContextBlockFits d k (slice_index_or blocks k zero_block)) where
  from : (P : ℕ → Type 0) (i : ℕ) → P (numbers_with (i / 8) (slice_index_or blocks (i / 8) zero_block) i) → P (number_at blocks i)
  from P i is = subst P (number_in blocks i) is

  pub blocks_fit : ContextNumbersFit d (number_at blocks)
  blocks_fit = record {
    inside = record {
      zero = (each 0 (omega arith)).inside.zero;
      aligned = (each 4 (omega arith)).inside.aligned;
      end = (each 4 (omega arith)).inside.end;
      live = (each 4 (omega arith)).inside.live;
      trapped = (each 4 (omega arith)).inside.trapped;
      held = (each 4 (omega arith)).inside.held;
      unused = (each 4 (omega arith)).inside.unused;
      zeros = λ i low high. from (λ n. n ≡ 0) i ((each (i / 8) (omega (arith, high))).inside.zeros i low high);
    };
    held = (each 4 (omega arith)).held;
    cause = (each 4 (omega arith)).cause;
    reads = λ k below. from (λ n. n ≤ d.journal) (40 + 2 * k) ((each ((40 + 2 * k) / 8) (omega (arith, below))).reads k below);
    writes = λ k below. from (λ n. n ≤ 1048576) (41 + 2 * k) ((each ((41 + 2 * k) / 8) (omega (arith, below))).writes k below);
  }

-- and each of them where they do
pub block_fits : (d : MachineDesc) (blocks : List Block) → ContextNumbersFit d (number_at blocks) → (k : ℕ) → ContextBlockFits d k (slice_index_or blocks k zero_block)
block_fits d blocks is k = subst (ContextNumbersFit d) (fun_ext same) (only_fits d (number_at blocks) is k)
  where
    same : (i : ℕ) → only k (number_at blocks) i ≡ numbers_with k (slice_index_or blocks k zero_block) i
    same i = elim (cases_eq (i / 8) k) [
      | inl here ↦ ap (λ j. if i / 8 == k then word_at (slice_index_or blocks j zero_block).bytes (4 * (i % 8)) else 0) here
      | inr other ↦ cond-false (i / 8 == k) (number_at blocks i) 0 (ne_eqb (i / 8) k other) ∙ sym (cond-false (i / 8 == k) (word_at (slice_index_or blocks k zero_block).bytes (4 * (i % 8))) 0 (ne_eqb (i / 8) k other))
    ]
