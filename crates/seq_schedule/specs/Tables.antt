-- Tables of what is known of elements.
use Rattle.std.specs.Prelude.{ℕ, Bool, not, ◌||◌, nat_le, List, get_or}
use Rattle.seq_schedule.specs.declared.known.Count.{Count}
use Rattle.seq_schedule.specs.declared.known.Known.{Known}
use Rattle.seq_schedule.specs.Known.{fresh, is_over, counted}

-- tests of an element: it has a count of so many turns or is failed, it isn't failed, it is out
abbrev pub has_turns : Count → ℕ → Known → Bool
has_turns count turns k = k.failed || nat_le turns (counted count k)

abbrev pub works : Known → Bool
works k = not k.failed

abbrev pub is_troubled : Known → Bool
is_troubled k = not (is_over k.trouble)

-- a test of the first entries of a table
abbrev pub at_entry : (Known → Bool) → List Known → ℕ → Bool
at_entry test table n = test (get_or table n fresh)
