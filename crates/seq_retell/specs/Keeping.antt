-- Entries that are kept.
use Rattle.std.specs.Prelude.{ℕ, List}
use Rattle.seq_words.specs.declared.events.Entry.{Entry}

-- the entries in their order, and how many there is room for
pub record Keeping : Type 0 where
  pub entries : List Entry
  pub room : ℕ
