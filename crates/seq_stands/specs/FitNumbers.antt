-- Incarnations and numbers of commits, which no event raises by more than one.
use Rattle.std.specs.Prelude.{ℕ, suc, ◌+◌, ◌*◌, ◌^◌, ◌<◌, Bool, length, slice_index_or}
use Rattle.seq_words.specs.Blocks.{zero_block, word_at}
use Rattle.seq_words.specs.Description.{IsDescription}
use Rattle.seq_words.specs.declared.block.Block.{Block}
use Rattle.seq_words.specs.declared.description.MachineDesc.{MachineDesc}
use Rattle.seq_words.specs.declared.events.Event.{Event}
use Rattle.seq_flush.specs.declared.flush.Flush.{Flush}
use Rattle.seq_turns.specs.declared.hand.Hand.{Hand}
use Rattle.seq_turns.specs.declared.hand.Hand.TheVariants as hand
use Rattle.seq_turns.specs.declared.hand.FlushAt.{FlushAt}
use Rattle.seq_turns.specs.declared.hand.FlushAt.TheVariants as flush
use Rattle.seq_turns.specs.Machines.{Machine}
use Rattle.seq_turns.specs.Allowed.{Allowed}
use Rattle.seq_turns.specs.Events.{happens}
use Rattle.seq_stands.specs.Fit.{Fit}

-- the number of commits in a context's block 4: its numbers 38 and 39
abbrev pub commits_in : Block → ℕ
commits_in b = word_at b.bytes 24 + 2 ^ 32 * word_at b.bytes 28

-- the number in the context that a flush writes
abbrev pub commits_of : {S : Type 0} → Flush S → ℕ
commits_of f = commits_in (slice_index_or f.context 4 zero_block)

abbrev pub FlushBelow : ℕ → FlushAt → Type 0
FlushBelow n (flush.Mark f) = commits_of f < n
FlushBelow n (flush.First f) = commits_of f < n
FlushBelow n (flush.Second f) = commits_of f < n
FlushBelow n (flush.Close f) = commits_of f < n

abbrev pub HandBelow : ℕ → Hand → Type 0
HandBelow n hand.Down = Unit {0}
HandBelow n hand.Seek = Unit {0}
HandBelow n (hand.Claiming q c) = Unit {0}
HandBelow n (hand.Running r) = r.commits < n
HandBelow n (hand.Acquiring r t c) = r.commits < n
HandBelow n (hand.Flushing r cause mask f) = (r.commits < n) × FlushBelow n f
HandBelow n (hand.Unlocking r cause mask l) = r.commits < n
HandBelow n (hand.Leaving q l) = Unit {0}
HandBelow n (hand.Recovering r) = Unit {0}

-- all incarnations, and all numbers of commits in contexts and hands, are below n
pub record NumbersBelow (n : ℕ) (d : MachineDesc) (m : Machine) : Type 0 where
  pub incarnations : (p : ℕ) → p < d.processors → m.incarnation p < n
  pub contexts : (q : ℕ) (shadow : Bool) → q < length d.processes → commits_in (m.copies.block q 4 shadow) < n
  pub hands : (p : ℕ) → p < d.processors → HandBelow n (m.hand p)

-- as long as they are so, a status word and a context have room for them
abbrev pub NumbersFit : MachineDesc → Machine → Type 0
NumbersFit d m = NumbersBelow (2 ^ 47) d m

-- an event raises each of them by one at most
abbrev pub NumbersGrow : Type 0
NumbersGrow = (n : ℕ) (d : MachineDesc) (m : Machine) (e : Event) → IsDescription d → Allowed d m e → Fit d m → NumbersBelow n d m → NumbersBelow (suc n) d (happens d m e)
