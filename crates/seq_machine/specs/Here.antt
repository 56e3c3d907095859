-- A turn of one processor, by what it reads: the memories, its own cache, and its own incarnation.
use Rattle.std.specs.Prelude.{ℕ, true, false, [], Option, None}
use Rattle.seq_words.specs.declared.events.Entry.{Entry}
use Rattle.seq_layout.specs.Copies.{Copies}
use Rattle.seq_cache.specs.Changes.{Changes}
use Rattle.seq_io.specs.Changes.{Change}
use Rattle.seq_io.specs.Changes.Change.{Unchanged}
use Rattle.seq_turns.specs.declared.hand.Hand.TheVariants.{Seek}
use Rattle.seq_turns.specs.Machines.{Machine, Turn}
use Rattle.seq_turns.specs.Machines.Turn.{Moves, Looks, Copies_unit, Stops}
use Rattle.seq_machine.specs.declared.turned.Turned.{Turned}
use Rattle.seq_machine.specs.declared.turned.Turned.TheVariants.{Moved, Stopped}

-- a machine with these copies, in which every processor has this cache and this incarnation; all else is left out
abbrev pub here : Copies → Changes → ℕ → Machine
here copies cache incarnation = record {
  copies = copies;
  hand = λ p. Seek;
  cache = λ p. cache;
  scan = λ p. 0;
  incarnation = λ p. incarnation;
  io = λ i. record { up = true; cursor = 0 };
  port = λ l. record { taken = 0; arrived = 0; store = []; closed = false };
  history = [];
  sent = λ l. [];
  hung = λ l. false;
}

-- the same with the incarnation of each processor, and the process that is looked at next
abbrev pub among : Copies → Changes → (ℕ → ℕ) → ℕ → Machine
among copies cache incarnation scan = record (here copies cache 0) { incarnation = incarnation; scan = λ p. scan }

-- What a turn leaves in the hand of its processor. No turn by what one processor reads copies a unit (LocalTurnsCopyNothing of
-- Local.antt), so what is said of such a turn here, and below, is never asked for.
abbrev pub turned : Turn → Turned
turned (Moves move) = Moved move.hand move.note
turned (Looks next move) = Moved move.hand move.note
turned (Copies_unit memory) = Stopped
turned Stops = Stopped

-- what it changes of what the memories hold
abbrev pub change_of : Turn → Change
change_of (Moves move) = move.change
change_of (Looks next move) = move.change
change_of (Copies_unit memory) = Unchanged
change_of Stops = Unchanged

-- the cache after it, where it was this before
abbrev pub cache_after : Changes → Turn → Changes
cache_after cache (Moves move) = move.cache
cache_after cache (Looks next move) = move.cache
cache_after cache (Copies_unit memory) = cache
cache_after cache Stops = cache

-- what it commits
abbrev pub commit_of : Turn → Option Entry
commit_of (Moves move) = move.commit
commit_of (Looks next move) = move.commit
commit_of (Copies_unit memory) = None
commit_of Stops = None
