-- The blocks that were changed since the last checkpoint, as a list: one change for each, in ascending order.
use Rattle.std.specs.Prelude.{◌≡◌, ℕ, ◌<◌, ◌≤◌, ◌^◌, Bool, true, ◌&&◌, ◌||◌, ◌==◌, if◌then◌else◌, nat_lt, is_some, AllPairs, List, [], ◌∷◌, length, Option, Some, None}
use Rattle.seq_words.specs.declared.block.Block.{Block}
use Rattle.seq_cache.specs.declared.change.Change.{Change}

-- One block comes before another: its extent is lower, or it has the same extent and a lower place in it.
abbrev pub is_before : ℕ → ℕ → ℕ → ℕ → Bool
is_before e n e' n' = nat_lt e e' || (e == e' && nat_lt n n')

-- each change comes before all that follow it, so none is of the same block as another
pub record IsAscending (cs : List Change) : Type 0 where
  pub pairs : AllPairs (λ c d. is_before c.extent.0 c.place d.extent.0 d.place ≡ true) cs

-- block n of extent e is changed to b
abbrev pub change : ℕ → ℕ → Block → Change
change e n b = record { extent = record { 0 = e }; place = n; block = b }

-- what block n of extent e was changed to
unfoldable pub changed : List Change → ℕ → ℕ → Option Block
changed [] e n = None
changed (c ∷ cs) e n = if c.extent.0 == e && c.place == n then Some c.block else changed cs e n

-- the list after block n of extent e is changed to b: the change stands in order, in place of an earlier one of this block
unfoldable pub put : ℕ → ℕ → Block → List Change → List Change
put e n b [] = change e n b ∷ []
put e n b (c ∷ cs) =
    if is_before e n c.extent.0 c.place then change e n b ∷ c ∷ cs
    else if c.extent.0 == e && c.place == n then change e n b ∷ cs
    else c ∷ put e n b cs

-- the changes, and how many there may be
pub record Changes : Type 0 where
  pub capacity : ℕ
  pub changes : List Change

-- what is true of every cache
pub record IsCache (c : Changes) : Type 0 where
  pub ascending : IsAscending c.changes
  pub fits : length c.changes ≤ c.capacity
  pub small : c.capacity < 2 ^ 16

-- block n of extent e may be written: it is changed already, or there is room for one more change
abbrev pub admits : Changes → ℕ → ℕ → Bool
admits c e n = is_some (changed c.changes e n) || nat_lt (length c.changes) c.capacity

-- the same list, but for block n of extent e
abbrev pub with_change : Changes → ℕ → ℕ → Block → Changes
with_change c e n b = record c { changes = put e n b c.changes }
