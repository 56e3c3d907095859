-- The outbox of a line: 256 bytes in eight blocks of its owner's extent. Output byte i stands at place i modulo 256.
use Rattle.std.specs.Prelude.{ℕ, Bool, ◌+◌, ◌-◌, ◌*◌, ◌/◌, ◌%◌, ◌==◌, if◌then◌else◌, nat_lt, not, List, [], ◌∷◌, map, filter, length, slice_index, count_by, is_some}
use Rattle.std.specs.List.{range_with_len, list_any}
use Rattle.seq_words.specs.declared.block.Block.{Block}
use Rattle.seq_cache.specs.Changes.{Changes, changed, with_change}
use Rattle.seq_kernel.specs.Views.{Blocks}

-- the number in its extent of a block of the outbox of the owner's line with this index
abbrev pub outbox_block : ℕ → ℕ → ℕ
outbox_block index k = 8 + 8 * index + k

-- how far place q of an outbox lies behind the place of output byte number `from`
abbrev pub after_place : ℕ → ℕ → ℕ
after_place from q = (q + 256 - from % 256) % 256

-- Block k of an outbox after these bytes, at most 256, are put out from number `from` on: its byte j is the one of them that
-- stands there, else what it was.
abbrev pub filled_byte : ℕ → List ℕ → ℕ → Block → ℕ → ℕ
filled_byte from bytes k b j =
    let at = after_place from (32 * k + j) in
    if nat_lt at (length bytes) then slice_index bytes at else slice_index b.bytes j

unfoldable pub filled_block : ℕ → List ℕ → ℕ → Block → Block
filled_block from bytes k b = record b { bytes = map (filled_byte from bytes k b) (range_with_len 0 32) }

-- block k of an outbox is touched where one of its places gets one of so many bytes from number `from` on
unfoldable pub is_touched : ℕ → ℕ → ℕ → Bool
is_touched from count k = list_any (λ j. nat_lt (after_place from (32 * k + j)) count) (range_with_len 0 32)

-- the i-th block of an outbox from that of the first byte on
abbrev pub touched_block : ℕ → ℕ → ℕ
touched_block from i = (from % 256 / 32 + i) % 8

-- the blocks that are touched, from that of the first byte on
unfoldable pub touched : ℕ → ℕ → List ℕ
touched from count = filter (is_touched from count) (map (touched_block from) (range_with_len 0 8))

-- how many they are, where there are at most 64 bytes
abbrev pub touched_count : ℕ → ℕ → ℕ
touched_count from count = if count == 0 then 0 else (from % 32 + count - 1) / 32 + 1

-- how many of the touched blocks aren't changed yet
abbrev pub needed : Changes → ℕ → ℕ → ℕ → ℕ → ℕ
needed c e index from count = count_by (λ k. not (is_some (changed c.changes e (outbox_block index k)))) (touched from count)

-- the cache after the bytes are put out: each of these blocks of the outbox is changed, as it was read before the call
unfoldable pub blocks_filled : Blocks → Changes → ℕ → ℕ → ℕ → List ℕ → List ℕ → Changes
blocks_filled o c e index from bytes [] = c
blocks_filled o c e index from bytes (k ∷ ks) =
    blocks_filled o (with_change c e (outbox_block index k) (filled_block from bytes k (o e (outbox_block index k)))) e index from bytes ks

abbrev pub outbox_filled : Blocks → Changes → ℕ → ℕ → ℕ → List ℕ → Changes
outbox_filled o c e index from bytes = blocks_filled o c e index from bytes (touched from (length bytes))
