-- What becomes of a list whose element is lent.
use Rattle.std.specs.Prelude.{ℕ, List, slice_set}
use Rattle.std.specs.Borrow.{Lends, MutBor, Fml}
use denote.RattleType.{RattleType}
use Rattle.seq_words.specs.contracts.items.Items.{the_row}

-- the list ends with the element at the place as it was last written behind r
abbrev pub LendsItem : (T : RattleType) → MutBor (List T.Denot) → ℕ → MutBor T.Denot → Fml
LendsItem T s place r = Lends (the_row T) T s r (slice_set s.now place)
