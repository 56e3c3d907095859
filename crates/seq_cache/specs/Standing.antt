-- Where the change of a block stands in a list of changes, or else would stand.
use Rattle.std.specs.Prelude.{◌≡◌, ℕ, ◌<◌, ◌≤◌, List, insert, length, slice_index_or, slice_set, Some, None}
use Rattle.std.specs.List.{HoldsAt}
use Rattle.seq_words.specs.declared.block.Block.{Block}
use Rattle.seq_cache.specs.declared.change.Change.{Change}
use Rattle.seq_cache.specs.Changes.{change, changed, put}

-- The change of block n of extent e stands at place i, and a new one takes its place.
pub record StandsAt (cs : List Change) (e n i : ℕ) : Type 0 where
  pub inside : i < length cs
  pub extent : HoldsAt (λ c. c.extent.0 ≡ e) cs i
  pub place : HoldsAt (λ c. c.place ≡ n) cs i
  pub block : (none : Change) → changed cs e n ≡ Some (slice_index_or cs i none).block
  pub put : (b : Block) → put e n b cs ≡ slice_set cs i (change e n b)

-- Block n of extent e is not changed, and a change of it goes in at place i.
pub record IsGapFor (cs : List Change) (e n i : ℕ) : Type 0 where
  pub inside : i ≤ length cs
  pub block : changed cs e n ≡ None
  pub put : (b : Block) → put e n b cs ≡ insert cs i (change e n b)
