-- What a machine check names, where an element stops.
use Rattle.std.specs.Prelude.{◌≡◌, ℕ, ◌<◌, Bool, false, not, ◌&&◌, ◌==◌, Option, None}
use Rattle.std.specs.Option.{option_map}
use Rattle.seq_words.specs.declared.elements.Me.{Me}
use Rattle.seq_words.specs.declared.kinds.Element.{Element}
use Rattle.seq_words.specs.declared.kinds.Element.TheVariants.{Processor, Memory, Io}
use Rattle.seq_words.specs.declared.kinds.Blocker.{Blocker}
use Rattle.seq_words.specs.declared.kinds.Blocker.TheVariants as names
use Rattle.seq_memory.specs.States.{is_in_service}
use Rattle.seq_layout.specs.Shapes.{Shape}
use Rattle.seq_layout.specs.Copies.{Copies}
use Rattle.seq_ruling.specs.Lowest.{or_else, lowest, IsLowest}
use Rattle.seq_ruling.specs.Ruling.{awaits_recovery, awaiting}

-- memory j isn't in service
abbrev pub is_out : Copies → ℕ → Bool
is_out p j = not (is_in_service (p.state j))

-- it isn't, and it is another one than i
abbrev pub is_another_out : Copies → ℕ → ℕ → Bool
is_another_out p i j = not (j == i) && is_out p j

-- the lowest memory that isn't in service, and the lowest other than i
abbrev pub out : Shape → Copies → Option ℕ
out s p = lowest (is_out p) s.memories

abbrev pub another_out : Shape → Copies → ℕ → Option ℕ
another_out s p i = lowest (is_another_out p i) s.memories

-- a blocker of each kind, where there is one
abbrev pub by_memory : Option ℕ → Option Blocker
by_memory found = option_map (λ j. names.Memory (record { 0 = j })) found

abbrev pub by_process : Option ℕ → Option Blocker
by_process found = option_map (λ q. names.Process (record { 0 = q })) found

-- What is named where an element stops: for a processor a memory that isn't in service; for a memory another one that isn't, else
-- a process that awaits recovery; for an I/O element nothing.
abbrev pub blocker_of : Shape → Copies → (ℕ → ℕ) → Element → Option Blocker
blocker_of s p incarnation (Processor pe) = by_memory (out s p)
blocker_of s p incarnation (Memory me) = or_else (by_memory (another_out s p me.0)) (by_process (awaiting s p incarnation))
blocker_of s p incarnation (Io io) = None

-- all memories are in service, and all but one
abbrev pub AllInService : Shape → Copies → Type 0
AllInService s p = (j : ℕ) → j < s.memories → is_out p j ≡ false

abbrev pub OthersInService : Shape → Copies → ℕ → Type 0
OthersInService s p i = (j : ℕ) → j < s.memories → is_another_out p i j ≡ false

-- no process awaits recovery
abbrev pub NoneAwaits : Shape → Copies → (ℕ → ℕ) → Type 0
NoneAwaits s p incarnation = (q : ℕ) → q < s.processes → awaits_recovery s p incarnation q ≡ false

-- the element may stop, and the machine goes on
abbrev pub MayStop : Shape → Copies → (ℕ → ℕ) → Element → Type 0
MayStop s p incarnation (Processor pe) = AllInService s p
MayStop s p incarnation (Memory me) = OthersInService s p me.0 × NoneAwaits s p incarnation
MayStop s p incarnation (Io io) = Unit {0}

-- the stop of this element is blocked by memory j: the lowest other that isn't in service
abbrev pub IsBlockedByMemory : Shape → Copies → Element → ℕ → Type 0
IsBlockedByMemory s p (Processor pe) j = IsLowest (is_out p) s.memories j
IsBlockedByMemory s p (Memory me) j = IsLowest (is_another_out p me.0) s.memories j
IsBlockedByMemory s p (Io io) j = ⊥

-- the stop of this element is blocked by process q: a memory's, where all others are in service, by the lowest that awaits recovery
abbrev pub IsBlockedByProcess : Shape → Copies → (ℕ → ℕ) → Element → ℕ → Type 0
IsBlockedByProcess s p incarnation (Processor pe) q = ⊥
IsBlockedByProcess s p incarnation (Memory me) q = OthersInService s p me.0 × IsLowest (awaits_recovery s p incarnation) s.processes q
IsBlockedByProcess s p incarnation (Io io) q = ⊥
