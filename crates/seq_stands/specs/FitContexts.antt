-- The bounds of contexts, which are what events take from the blocks.
use Rattle.std.specs.Prelude.{◌≡◌, ℕ, ◌<◌, ◌≤◌, true, length, slice_index}
use Rattle.seq_words.specs.Masks.{has_bit}
use Rattle.seq_words.specs.Description.{IsDescription, process_of}
use Rattle.seq_words.specs.declared.description.MachineDesc.{MachineDesc}
use Rattle.seq_layout.specs.Contexts.{IsContext}
use Rattle.seq_layout.specs.declared.context.Context.{Context}
use Rattle.seq_words.specs.declared.events.Event.{Event}
use Rattle.seq_turns.specs.Machines.{Machine}
use Rattle.seq_turns.specs.Reading.{context_of}
use Rattle.seq_stands.specs.Standing.{Stands}
use Rattle.seq_stands.specs.FitStanding.{Takes}

pub record ContextFits (d : MachineDesc) (c : Context) : Type 0 where
  pub inside : IsContext c
  pub held : (t : ℕ) → has_bit c.held t ≡ true → t < length d.segments
  pub reads : (i : ℕ) → slice_index c.reads i ≤ d.journal
  pub writes : (i : ℕ) → slice_index c.writes i ≤ 1048576

-- of each process at its first copy
pub record ContextsFit (d : MachineDesc) (m : Machine) : Type 0 where
  pub contexts : (q : ℕ) → q < length d.processes → ContextFits d (context_of d m.copies q)

-- with contexts within their bounds, so is what an event takes from them
abbrev pub ContextsServe : Type 0
ContextsServe = (d : MachineDesc) (m : Machine) (e : Event) → IsDescription d → Stands d m → ContextsFit d m → Takes d m e
