-- Laws of every list of changes.
use Rattle.std.specs.Prelude.{◌≡◌, ℕ, ◌+◌, true, ◌&&◌, ◌==◌, ◌↔◌, if◌then◌else◌, is_some, Contains, List, length, Some}
use Rattle.seq_words.specs.declared.block.Block.{Block}
use Rattle.seq_layout.specs.Shapes.{Shape}
use Rattle.seq_layout.specs.Copies.{Copies}
use Rattle.seq_cache.specs.declared.change.Change.{Change}
use Rattle.seq_cache.specs.Changes.{Changes, IsAscending, IsCache, admits, change, changed, put, with_change}
use Rattle.seq_cache.specs.Overlay.{overlay}

-- a change is seen at its block, and no other block is seen otherwise
abbrev pub PutChangesOneBlock : Type 0
PutChangesOneBlock = (cs : List Change) (e n : ℕ) (b : Block) (e' n' : ℕ) → changed (put e n b cs) e' n' ≡ (if e' == e && n' == n then Some b else changed cs e' n')

-- the same of reads over any memories
abbrev pub PutIsReadAtOneBlock : Type 0
PutIsReadAtOneBlock = (s : Shape) (p : Copies) (cs : List Change) (e n : ℕ) (b : Block) (e' n' : ℕ) → overlay s p (put e n b cs) e' n' ≡ (if e' == e && n' == n then b else overlay s p cs e' n')

-- the order stays
abbrev pub PutKeepsOrder : Type 0
PutKeepsOrder = (cs : List Change) (e n : ℕ) (b : Block) → IsAscending cs → IsAscending (put e n b cs)

-- there is one change more exactly where the block wasn't changed before
abbrev pub PutAddsNewBlocks : Type 0
PutAddsNewBlocks = (cs : List Change) (e n : ℕ) (b : Block) → IsAscending cs → length (put e n b cs) ≡ (if is_some (changed cs e n) then length cs else length cs + 1)

-- the changed blocks are those of the list
abbrev pub ChangedAreListed : Type 0
ChangedAreListed = (cs : List Change) (e n : ℕ) (b : Block) → IsAscending cs → (changed cs e n ≡ Some b) ↔ Contains cs (change e n b)

-- what is true of every cache stays true with a block that it admits
abbrev pub AdmittedFits : Type 0
AdmittedFits = (c : Changes) (e n : ℕ) (b : Block) → IsCache c → admits c e n ≡ true → IsCache (with_change c e n b)
