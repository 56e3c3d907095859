-- A turn of an I/O element.
use Rattle.std.specs.Prelude.{◌≡◌, ℕ, ◌+◌, Bool, true, false, not, ◌||◌, ◌==◌, if◌then◌else◌, ◌⊎◌, is_some, Option, Some, None, List, [], ◌∷◌, length, slice_index_or, slice_set}
use Rattle.seq_shelf.specs.Told.{LineView}
use Rattle.seq_memory.specs.declared.element.State.{State}
use Rattle.seq_memory.specs.declared.element.State.TheVariants.{InService, Down, Stale, Copying}
use Rattle.seq_layout.specs.Shapes.{Shape}
use Rattle.seq_layout.specs.Copies.{Copies}
use Rattle.seq_ruling.specs.Lowest.{lowest}
use Rattle.seq_io.specs.declared.element.IoElement.{IoElement}
use Rattle.seq_io.specs.declared.element.PortState.{PortState}
use Rattle.seq_io.specs.Lines.{Outside, no_port, outside}
use Rattle.seq_io.specs.Duties.{Duty, duty, nothing, HasNoDuty}

-- a memory of this state is to be copied
abbrev pub is_copied : State → Bool
is_copied InService = false
is_copied Down = false
is_copied Stale = true
is_copied (Copying next) = true

-- the memory that is to be copied, if there is one
abbrev pub copied_memory : Shape → Copies → Option ℕ
copied_memory s p = lowest (λ i. is_copied (p.state i)) s.memories

-- the element does nothing: it is down, or there is no line, or a memory is to be copied
abbrev pub rests : Shape → Copies → IoElement → Bool
rests s p io = not io.up || (length s.owners == 0 || is_some (copied_memory s p))

-- what it does at the line under its cursor
abbrev pub turn_of : Shape → Copies → IoElement → Outside → Duty
turn_of s p io o = if rests s p io then nothing o.port else duty s p o io.cursor

-- the duty at line l, and what the element does, with these lines, marks of a hangup and ports
abbrev pub duty_at : Shape → Copies → List LineView → List Bool → List PortState → ℕ → Duty
duty_at s p lines marks ports l = duty s p (outside lines marks ports l) l

abbrev pub turn_at : Shape → Copies → IoElement → List LineView → List Bool → List PortState → Duty
turn_at s p io lines marks ports = turn_of s p io (outside lines marks ports io.cursor)

-- it serves the next line then
abbrev pub next_cursor : Shape → ℕ → ℕ
next_cursor s l = if l + 1 == length s.owners then 0 else l + 1

abbrev pub element_after : Shape → Copies → IoElement → IoElement
element_after s p io = if rests s p io then io else record io { cursor = next_cursor s io.cursor }

-- the ports where that of line l gave up so many bytes
abbrev pub ports_after : List PortState → ℕ → ℕ → List PortState
ports_after ports l taken = slice_set ports l (record (slice_index_or ports l no_port) { taken = taken })

-- the byte that is sent, if there is one
abbrev pub bytes_of : Option ℕ → List ℕ
bytes_of None = []
bytes_of (Some byte) = byte ∷ []

-- it rests, or has no duty
abbrev pub DoesNothing : Shape → Copies → IoElement → Outside → Type 0
DoesNothing s p io o = (rests s p io ≡ true) ⊎ HasNoDuty s p o io.cursor
