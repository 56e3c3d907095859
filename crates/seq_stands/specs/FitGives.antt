-- What turns of processors and elements need of the memories and of hands, from what fits.
use Rattle.std.specs.Prelude.{◌≡◌, ℕ, ◌<◌, ◌≤◌, length, map}
use Rattle.std.specs.List.{range_with_len}
use Rattle.seq_words.specs.Description.{IsDescription, line_count}
use Rattle.seq_words.specs.declared.description.MachineDesc.{MachineDesc}
use Rattle.seq_layout.specs.Shapes.{shape_of}
use Rattle.seq_layout.specs.Copies.{Copies, IsServed, first_block}
use Rattle.seq_layout.specs.Contexts.{IsContext, IsContextBlocks, HasLengths}
use Rattle.seq_ruling.specs.Ruling.{HaveRulingWords, AreHeldByOneOf}
use Rattle.seq_cache.specs.Changes.{Changes}
use Rattle.seq_flush.specs.Units.{HavePlaces}
use Rattle.seq_process.specs.declared.running.Running.{Running}
use Rattle.seq_kernel.specs.Bounds.{IsRunning, AreReadable}
use Rattle.seq_io.specs.Bounds as io
use Rattle.seq_turns.specs.declared.hand.Hand.{Hand}
use Rattle.seq_turns.specs.declared.hand.Hand.TheVariants as hand
use Rattle.seq_turns.specs.Machines.{Machine}
use Rattle.seq_turns.specs.Reading.{context_of}
use Rattle.seq_stands.specs.Fit.{Fit}

-- The context of process q may be loaded: it stands at a copy in service, inside the format, and the cause of a trap is a byte.
pub record MayBeLoaded (d : MachineDesc) (p : Copies) (q : ℕ) : Type 0 where
  pub served : IsServed (shape_of d) p q
  pub blocks : IsContextBlocks (map (first_block (shape_of d) p q) (range_with_len 0 8))
  pub inside : IsContext (context_of d p q)
  pub lengths : HasLengths (context_of d p q)
  pub cause : (context_of d p q).end ≡ 2 → (context_of d p q).value ≤ 255

-- what memories give
pub record MemoriesGive (d : MachineDesc) (p : Copies) : Type 0 where
  pub readable : AreReadable d p
  pub lines : io.AreReadable (shape_of d) p
  pub ruling : HaveRulingWords (shape_of d) p
  pub held : AreHeldByOneOf d.processors (shape_of d) p
  pub loads : (q : ℕ) → q < length d.processes → MayBeLoaded d p q

-- What a hand gives, with this cache: a process that runs may take a step while some are left of its quantum, and one that is
-- flushed has places for all that is changed.
abbrev pub HandGives : MachineDesc → Changes → Hand → Type 0
HandGives d c hand.Down = Unit {0}
HandGives d c hand.Seek = Unit {0}
HandGives d c (hand.Claiming q x) = Unit {0}
HandGives d c (hand.Running r) = (r.used < d.quantum → IsRunning d r) × HavePlaces (shape_of d) r.pid.0 c.changes
HandGives d c (hand.Acquiring r t x) = IsRunning d r × HavePlaces (shape_of d) r.pid.0 c.changes
HandGives d c (hand.Flushing r cause mask f) = HavePlaces (shape_of d) r.pid.0 c.changes
HandGives d c (hand.Unlocking r cause mask l) = Unit {0}
HandGives d c (hand.Leaving q l) = Unit {0}
HandGives d c (hand.Recovering r) = Unit {0}

-- what a machine that fits gives
pub record Gives (d : MachineDesc) (m : Machine) : Type 0 where
  pub memories : MemoriesGive d m.copies
  pub hands : (p : ℕ) → p < d.processors → HandGives d (m.cache p) (m.hand p)
  pub ports : (l : ℕ) → l < line_count d → io.IsPort (shape_of d) l (m.port l)
  pub cursors : (i : ℕ) → i < d.ios → io.IsCursor (shape_of d) (m.io i)

abbrev pub FitGives : Type 0
FitGives = (d : MachineDesc) (m : Machine) → IsDescription d → Fit d m → Gives d m
