-- Blocks, and the numbers that four of their bytes make.
use Rattle.std.specs.Prelude.{ℕ, ◌+◌, ◌*◌, ◌/◌, ◌%◌, List, slice_index, slice_set, replicate}
use Rattle.seq_words.specs.declared.block.Block.{Block}

-- a block of zeros
unfoldable pub zero_block : Block
zero_block = record { bytes = replicate 32 0 }

-- the number in the four bytes from a place, the lowest first
abbrev pub word_at : List ℕ → ℕ → ℕ
word_at bytes at =
    slice_index bytes at + 256 * slice_index bytes (at + 1) + 65536 * slice_index bytes (at + 2) + 16777216 * slice_index bytes (at + 3)

-- the bytes with those of a number from a place on, the lowest first
abbrev pub with_word_at : List ℕ → ℕ → ℕ → List ℕ
with_word_at bytes at n =
    slice_set (slice_set (slice_set (slice_set bytes at (n % 256)) (at + 1) (n / 256 % 256)) (at + 2) (n / 65536 % 256)) (at + 3) (n / 16777216)
