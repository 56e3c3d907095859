-- A line's owner and its counts, as they are read.
use Rattle.std.proofs.Common.{◌≡◌, ℕ, ◌+◌, ◌*◌, ◌/◌, ◌%◌, ◌<◌, Some, length, slice_get, map, refl, sym, arith}
use Rattle.std.specs.Prelude.{slice_index_or}
use Rattle.std.specs.List.{range_with_len}
use Rattle.std.proofs.lemmas.Option.{get_or_from_slice_get}
use Rattle.seq_words.specs.Blocks.{zero_block, word_at}
use Rattle.seq_words.specs.declared.block.Block.{Block}
use Rattle.seq_words.specs.declared.names.Pid.{Pid}
use Rattle.seq_layout.specs.Shapes.{Shape}
use Rattle.seq_layout.specs.Copies.{Copies, first_block}
use Rattle.seq_layout.specs.Contexts.{number_at}
use Rattle.seq_io.specs.Lines.{owner, written}

pub owner_is : (s : Shape) (l : ℕ) (found : Pid × ℕ) → slice_get s.owners l ≡ Some found → found ≡ owner s l
owner_is s l found e = sym (get_or_from_slice_get s.owners l found (record { 0 = 0 }, 0) e)

-- the numbers of bytes written stand in block five
count_at : (f : ℕ → Block) (i : ℕ) → i < 4 → number_at (map f (range_with_len 0 8)) (41 + 2 * i) ≡ word_at (f 5).bytes (4 * (1 + 2 * i))
count_at f i few =
    let block : (41 + 2 * i) / 8 ≡ 5 = omega arith in
    let place : (41 + 2 * i) % 8 ≡ 1 + 2 * i = omega arith in
    rw (block, place) refl

pub written_is : (s : Shape) (p : Copies) (l : ℕ) → (owner s l).1 < 4 → written s p l ≡ word_at (first_block s p (owner s l).0.0 5).bytes (4 * (1 + 2 * (owner s l).1))
written_is s p l few = count_at (first_block s p (owner s l).0.0) (owner s l).1 few
