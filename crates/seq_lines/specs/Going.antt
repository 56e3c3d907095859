-- Whether a process can take a step, by its context, the segments that it owns, and what has arrived on its lines.
use Rattle.std.specs.Prelude.{◌≡◌, ◌↔◌, ℕ, ◌+◌, ◌/◌, ◌^◌, ◌<◌, Bool, true, false, not, ◌&&◌, ◌==◌, if◌then◌else◌, nat_lt, is_some, length, slice_index, Option, Some, None}
use Rattle.seq_words.specs.Masks.{has_bit}
use Rattle.seq_words.specs.Description.{IsDescription, process_of}
use Rattle.seq_words.specs.declared.description.MachineDesc.{MachineDesc}
use Rattle.seq_isa.specs.declared.instr.Instr.{Instr}
use Rattle.seq_isa.specs.declared.instr.Instr.TheVariants.{Ecall}
use Rattle.seq_isa.specs.Meaning.{Outcome, moves, call, trap, outcome_at, register}
use Rattle.seq_flat.specs.Step.{IsEnabled, IsQuiet}
use Rattle.seq_layout.specs.Shapes.{index_of}
use Rattle.seq_layout.specs.declared.context.Context.{Context}
use Rattle.seq_kernel.specs.Views.{Blocks, seen}
use Rattle.seq_io.specs.declared.element.PortState.{PortState}
use Rattle.seq_turns.specs.Functions.{lowest}
use Rattle.seq_turns.specs.Machines.{Machine}
use Rattle.seq_lines.specs.Committed.{context_at, state_in, input_counts}

-- the context of a process below n holds segment t
unfoldable pub is_held_below : Blocks → ℕ → ℕ → Bool
is_held_below o n t = is_some (lowest (λ q. has_bit (context_at o q).held t) n)

-- the mask of the segments that processes below n hold
abbrev pub AreHeldBelow : Blocks → ℕ → ℕ → Type 0
AreHeldBelow o n mask = (t : ℕ) → has_bit mask t ≡ is_held_below o n t

-- the mask of the segments that process q owns: those that it holds and no lower process does
abbrev pub AreOwned : Blocks → ℕ → ℕ → Type 0
AreOwned o q mask = (t : ℕ) → has_bit mask t ≡ (has_bit (context_at o q).held t && not (is_held_below o q t))

-- segments that contexts hold are segments of the machine
abbrev pub HeldAreThere : MachineDesc → Blocks → Type 0
HeldAreThere d o = (q t : ℕ) → q < length d.processes → has_bit (context_at o q).held t ≡ true → t < length d.segments

abbrev pub is_call : Outcome → Bool
is_call (moves wrote store next) = false
is_call call = true
is_call (trap cause) = false

-- the instruction that a word stands for is an ecall
abbrev pub is_ecall : Option Instr → Bool
is_ecall (Some Ecall) = true
is_ecall (Some other) = false
is_ecall None = false

-- the next instruction of process q calls the kernel
abbrev pub calls : MachineDesc → Blocks → ℕ → Context → ℕ → Bool
calls d o q c owned = is_call (outcome_at c.regs (seen d q owned o))

-- An acquire of segment t waits: it is granted, neither it nor one above is the process's own, and one of those that hold segments
-- holds it.
unfoldable pub awaits_lock : MachineDesc → ℕ → ℕ → ℕ → ℕ → Bool
awaits_lock d q owned held t =
    nat_lt t (length d.segments) && (has_bit (process_of d q).grants t && (not (has_bit owned t) && (not (nat_lt 0 (owned / 2 ^ (t + 1))) && has_bit held t)))

-- a read of line l waits: the line is the process's own, every byte that arrived is read, and it isn't closed
unfoldable pub awaits_input : MachineDesc → (ℕ → PortState) → ℕ → Context → ℕ → Bool
awaits_input d port q c l =
    has_bit (process_of d q).lines l && (not (nat_lt (slice_index c.reads (index_of (process_of d q).lines l)) (port l).arrived) && not (port l).closed)

-- the call with this number waits
unfoldable pub awaits : MachineDesc → (ℕ → PortState) → ℕ → Context → ℕ → ℕ → ℕ → Bool
awaits d port q c owned held number =
    if number == 1 then awaits_lock d q owned held (register c.regs 10)
    else if number == 3 then awaits_input d port q c (register c.regs 10)
    else false

-- process q of this context can take a step: it lives, and doesn't call the kernel to wait
unfoldable pub goes_on : MachineDesc → Blocks → (ℕ → PortState) → ℕ → Context → ℕ → ℕ → Bool
goes_on d o port q c owned held = c.end == 0 && not (calls d o q c owned && awaits d port q c owned held (register c.regs 17))

-- so it is for each process, with what it owns and what is held at all
abbrev pub GoesOnWhereEnabled : Type 0
GoesOnWhereEnabled =
    (d : MachineDesc) (m : Machine) (o : Blocks) (q owned held : ℕ) → IsDescription d → HeldAreThere d o → q < length d.processes →
    AreOwned o q owned → AreHeldBelow o (length d.processes) held →
    (goes_on d o m.port q (context_at o q) owned held ≡ true) ↔ IsEnabled d (input_counts d m) (state_in d o) q

-- the state is quiet where each process of the machine waits or has ended
abbrev pub QuietByProcess : Type 0
QuietByProcess =
    (d : MachineDesc) (m : Machine) (o : Blocks) → ((q : ℕ) → q < length d.processes → IsEnabled d (input_counts d m) (state_in d o) q → ⊥) → IsQuiet d (input_counts d m) (state_in d o)
