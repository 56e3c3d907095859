-- What becomes of a cache whose block is lent: once the loan ends, the block is changed to what was last written behind it.
use Rattle.std.specs.Prelude.{ℕ, Option}
use Rattle.std.specs.Borrow.{Lends, LendsIf, MutBor, Fml}
use Rattle.seq_words.specs.declared.block.Block.{Block}
use Rattle.seq_words.specs.contracts.block.Block as block
use Rattle.seq_cache.specs.Changes.{Changes, with_change}
use Rattle.seq_cache.specs.contracts.cache.Cache.{the_row}

-- block n of extent e is lent: all other blocks, the order of the changes and their number stay
abbrev pub LendsBlock : MutBor Changes → ℕ → ℕ → MutBor Block → Fml
LendsBlock s e n r = Lends the_row block.the_row s r (with_change s.now e n)

-- it is lent where it is changed, and else the cache stays
abbrev pub LendsIfChanged : MutBor Changes → ℕ → ℕ → Option (MutBor Block) → Fml
LendsIfChanged s e n r = LendsIf the_row block.the_row s r (with_change s.now e n) s.now
