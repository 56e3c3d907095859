-- What the states of a flush know of the copies that are in service.
use Rattle.std.specs.Prelude.{◌≡◌, ◌≢◌, ℕ, ◌-◌, ◌<◌, ◌≤◌, Bool, true, false, unwrap_or, List, [], ◌∷◌, length, take, drop}
use Rattle.seq_layout.specs.declared.units.WordAt.{WordAt}
use Rattle.seq_layout.specs.Shapes.{Shape}
use Rattle.seq_layout.specs.Copies.{Copies, serves}
use Rattle.seq_layout.specs.Held.{Holds, HoldBoth, HoldsBlock, IsOther}
use Rattle.seq_status.specs.declared.status.Status.{Status}
use Rattle.seq_status.specs.declared.status.Status.TheVariants.{Run, Pass1, Pass2}
use Rattle.seq_status.specs.Words.{word_of}
use Rattle.seq_cache.specs.Changes.{changed}
use Rattle.seq_cache.specs.declared.change.Change.{Change}
use Rattle.seq_flush.specs.declared.stages.Mark.{Mark}
use Rattle.seq_flush.specs.declared.stages.First.{First}
use Rattle.seq_flush.specs.declared.stages.Second.{Second}
use Rattle.seq_flush.specs.declared.stages.Close.{Close}
use Rattle.seq_flush.specs.declared.flush.Flush.{Flush}
use Rattle.seq_flush.specs.Turns.{unit_at, units, unit_written}

-- a unit stands on its copy of this kind, if that is in service
abbrev pub Stands : Shape → Copies → Bool → Change → Type 0
Stands s p shadow unit = HoldsBlock s p unit.extent.0 unit.place shadow unit.block

-- each of the units does
pub record Stand (s : Shape) (p : Copies) (shadow : Bool) (us : List Change) : Type 0 where
  pub each : (k : ℕ) → k < length us → Stands s p shadow (unit_at us k)

-- the status word of a process
abbrev pub status_at : ℕ → WordAt
status_at pid = record { extent = record { 0 = pid }; word = 0 }

-- the status word is this one on a copy, if that is in service
abbrev pub Says : Shape → Copies → ℕ → Bool → Status → Type 0
Says s p pid shadow status = Holds s p (status_at pid) shadow (word_of status)

-- it is the first of these on the primary and the second on the shadow, each if in service
abbrev pub BothSay : Shape → Copies → ℕ → Status → Status → Type 0
BothSay s p pid primary shadow = HoldBoth s p (status_at pid) (word_of primary) (word_of shadow)

-- Mark: after its first turn the primary word is Pass1
pub record MarkKnows (s : Shape) (p : Copies) (f : Flush Mark) : Type 0 where
  pub cursor : f.cursor ≤ 1
  pub begun : f.cursor ≢ 0 → Says s p f.pid.0 false (Pass1 f.holder)

-- First: the units behind the cursor stand on the primaries, and both words are Pass1
pub record FirstKnows (s : Shape) (p : Copies) (changes : List Change) (f : Flush First) : Type 0 where
  pub cursor : f.cursor ≤ length (units f changes)
  pub primaries : Stand s p false (take f.cursor (units f changes))
  pub words : BothSay s p f.pid.0 (Pass1 f.holder) (Pass1 f.holder)

-- Second: every unit stands on the primaries, and those behind the cursor on the shadows. The primary word is Pass2, and so
-- is the shadow word after the first turn.
pub record SecondKnows (s : Shape) (p : Copies) (changes : List Change) (f : Flush Second) : Type 0 where
  pub cursor : f.cursor ≤ length (units f changes)
  pub primaries : Stand s p false (units f changes)
  pub shadows : Stand s p true (take (f.cursor - 1) (units f changes))
  pub begins : f.cursor ≡ 0 → BothSay s p f.pid.0 (Pass2 f.holder) (Pass1 f.holder)
  pub begun : f.cursor ≢ 0 → BothSay s p f.pid.0 (Pass2 f.holder) (Pass2 f.holder)

-- Close: every unit stands on each copy. Both words are Pass2, and the primary is Run after the first turn.
pub record CloseKnows (s : Shape) (p : Copies) (changes : List Change) (f : Flush Close) : Type 0 where
  pub cursor : f.cursor ≤ 1
  pub primaries : Stand s p false (units f changes)
  pub shadows : Stand s p true (units f changes)
  pub begins : f.cursor ≡ 0 → BothSay s p f.pid.0 (Pass2 f.holder) (Pass2 f.holder)
  pub begun : f.cursor ≢ 0 → BothSay s p f.pid.0 (Run f.holder) (Pass2 f.holder)

-- Closed: every unit stands on each copy, and both words are Run
pub record ClosedKnows {S : Type 0} (s : Shape) (p : Copies) (changes : List Change) (f : Flush S) : Type 0 where
  pub primaries : Stand s p false (units f changes)
  pub shadows : Stand s p true (units f changes)
  pub words : BothSay s p f.pid.0 (Run f.holder) (Run f.holder)

-- the copies after all these units are written, one after the other
unfoldable pub all_written : Shape → Copies → Bool → List Change → Copies
all_written s p shadow [] = p
all_written s p shadow (u ∷ us) = all_written s (unit_written s p shadow u) shadow us

-- no two units are of the same block
pub record AreApart (us : List Change) : Type 0 where
  pub number : (i j : ℕ) → i < length us → j < length us → (unit_at us i).extent.0 ≡ (unit_at us j).extent.0 → (unit_at us i).place ≡ (unit_at us j).place → i ≡ j

-- what is left of the first pass is written to the primaries, what is left of the second to the shadows
abbrev pub left_of_first : Shape → Copies → List Change → Flush First → Copies
left_of_first s p changes f = all_written s p false (drop f.cursor (units f changes))

abbrev pub left_of_second : Shape → Copies → List Change → Flush Second → Copies
left_of_second s p changes f = all_written s p true (drop (f.cursor - 1) (units f changes))

-- none of the units is of this extent
pub record Avoid (us : List Change) (e : ℕ) : Type 0 where
  pub each : (k : ℕ) → k < length us → (unit_at us k).extent.0 ≢ e

-- none of the units is block n of extent e
pub record IsNoUnit (us : List Change) (e n : ℕ) : Type 0 where
  pub each : (k : ℕ) → k < length us → IsOther (unit_at us k).extent.0 (unit_at us k).place e n

-- Units are written to the copies of one kind. Where they are apart, each such copy in service holds the unit of its block, or
-- else what it held. Copies out of service, copies of the other kind, blocks that are no units, words and states are as before.
pub record IsOneLayer (s : Shape) (p q : Copies) (shadow : Bool) (us : List Change) : Type 0 where
  pub layer : AreApart us → (e n : ℕ) → serves s p e shadow ≡ true → q.block e n shadow ≡ unwrap_or (changed us e n) (p.block e n shadow)
  pub out : (e n : ℕ) → serves s p e shadow ≡ false → q.block e n shadow ≡ p.block e n shadow
  pub other_kind : (e n : ℕ) (c : Bool) → c ≢ shadow → q.block e n c ≡ p.block e n c
  pub other_blocks : (e n : ℕ) (c : Bool) → IsNoUnit us e n → q.block e n c ≡ p.block e n c
  pub words : q.word ≡ p.word
  pub states : q.state ≡ p.state
