-- The words of a block.
use Rattle.std.proofs.Common.{◌≡◌, ℕ, ◌+◌, ◌/◌, ◌%◌, List, get_or, refl}
use Rattle.std.proofs.lemmas.List.{set-get_or}
use Rattle.seq_words.specs.Blocks.{with_word_at}

-- to put the number back whose bytes stand there changes nothing
pub same_word : (bytes : List ℕ) (at n : ℕ) → n % 256 ≡ get_or bytes at 0 → n / 256 % 256 ≡ get_or bytes (at + 1) 0 → n / 65536 % 256 ≡ get_or bytes (at + 2) 0 → n / 16777216 ≡ get_or bytes (at + 3) 0 → with_word_at bytes at n ≡ bytes
same_word bytes at n first second third fourth =
    rw (first, second, third, fourth, set-get_or bytes at 0, set-get_or bytes (at + 1) 0, set-get_or bytes (at + 2) 0, set-get_or bytes (at + 3) 0) refl
