-- Blocks are told by their numbers.
use Rattle.std.proofs.Common.{◌≡◌, ℕ, ◌+◌, ◌*◌, ◌/◌, ◌%◌, ◌<◌, List, length, get_or, arith, ap, refl, sym, ◌∙◌}
use Rattle.std.proofs.lemmas.List.FromFn.{fill_by_all, get_or-map-range_with_len}
use Rattle.seq_words.specs.Blocks.{zero_block}
use Rattle.seq_words.specs.declared.block.Block.{Block}
use Rattle.seq_layout.specs.Contexts.{byte_of, number_at, block_from, blocks_of}

abbrev as_block : List ℕ → Block
as_block bytes = record { bytes = bytes }

-- a block is that of the numbers whose bytes it has
pub block_is : (block : Block) (numbers : List ℕ) (from : ℕ) → length block.bytes ≡ 32 → ((k : ℕ) → k < 32 → get_or block.bytes k 0 ≡ byte_of (get_or numbers (from + k / 4) 0) (k % 4)) → block ≡ block_from numbers from
unfolding block_from
block_is block numbers from full bytes = ap as_block (fill_by_all (λ k. byte_of (get_or numbers (from + k / 4) 0) (k % 4)) block.bytes 32 0 full bytes)

-- blocks are those of the numbers that each has
pub blocks_are : (blocks : List Block) (numbers : List ℕ) → length blocks ≡ 8 → ((k : ℕ) → k < 8 → get_or blocks k zero_block ≡ block_from numbers (8 * k)) → blocks ≡ blocks_of numbers
unfolding blocks_of
blocks_are blocks numbers full each = fill_by_all (λ k. block_from numbers (8 * k)) blocks 8 zero_block full each

-- blocks are those of their numbers
pub blocks_back : (blocks : List Block) (numbers : List ℕ) → length blocks ≡ 8
    → ((i : ℕ) → i < 64 → length (get_or blocks (i / 8) zero_block).bytes ≡ 32)
    → ((i j : ℕ) → i < 64 → j < 4 → get_or (get_or blocks (i / 8) zero_block).bytes (4 * (i % 8) + j) 0 ≡ byte_of (get_or numbers i 0) j)
    → blocks_of numbers ≡ blocks
blocks_back blocks numbers full each_full bytes =
    sym (blocks_are blocks numbers full (λ k within.
    block_is (get_or blocks k zero_block) numbers (8 * k)
    (grind (arith, each_full (8 * k)))
    (λ j below. grind (arith, bytes (8 * k + j / 4) (j % 4)))))

-- the numbers of a block
word_of : (n : ℕ) → byte_of n 0 + 256 * byte_of n 1 + 65536 * byte_of n 2 + 16777216 * byte_of n 3 ≡ n
word_of n = omega arith

byte_in : (numbers : List ℕ) (i j at : ℕ) → i < 64 → j < 4 → at ≡ 4 * (i % 8) + j → get_or (get_or (blocks_of numbers) (i / 8) zero_block).bytes at 0 ≡ byte_of (get_or numbers i 0) j
unfolding blocks_of block_from
byte_in numbers i j at within below is =
    let number : 8 * (i / 8) + at / 4 ≡ i = omega arith in
    let byte : at % 4 ≡ j = omega arith in
    rw (get_or-map-range_with_len (λ k. block_from numbers (8 * k)) 0 8 (i / 8) (i / 8) zero_block (omega arith) (omega arith))
    (get_or-map-range_with_len (λ k. byte_of (get_or numbers (8 * (i / 8) + k / 4) 0) (k % 4)) 0 32 at at 0 (omega arith) (omega arith)
    ∙ rw (number, byte) refl)

-- the blocks of numbers hold them
pub numbers_held : (numbers : List ℕ) (i : ℕ) → i < 64 → number_at (blocks_of numbers) i ≡ get_or numbers i 0
numbers_held numbers i within =
    let at = 4 * (i % 8) in
    rw (byte_in numbers i 0 at within (omega arith) (omega arith), byte_in numbers i 1 (at + 1) within (omega arith) refl, byte_in numbers i 2 (at + 2) within (omega arith) refl, byte_in numbers i 3 (at + 3) within (omega arith) refl) (word_of (get_or numbers i 0))
