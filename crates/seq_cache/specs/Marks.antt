-- The marks of blocks: that of each changed block has a hint. Several blocks may have one mark.
use Rattle.std.specs.Prelude.{◌≡◌, ◌≢◌, ℕ, ◌+◌, ◌*◌, ◌%◌, true, is_some, List, slice_index}
use Rattle.seq_cache.specs.declared.change.Change.{Change}
use Rattle.seq_cache.specs.Changes.{changed}

-- the number of the mark of block n of extent e
abbrev pub mark_of : ℕ → ℕ → ℕ
mark_of e n = (97 * (e % 1024) + n % 1024) % 1024

pub record AreMarked (cs : List Change) (hints : List ℕ) : Type 0 where
  pub marked : (e n : ℕ) → is_some (changed cs e n) ≡ true → slice_index hints (mark_of e n) ≢ 0
