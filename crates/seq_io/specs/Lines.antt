-- What an I/O element reads of a line: in the memories, at its port, and of the line itself.
use Rattle.std.specs.Prelude.{ℕ, ◌+◌, ◌*◌, ◌/◌, ◌%◌, Bool, true, false, not, ◌&&◌, ◌==◌, nat_lt, List, [], map, get_or, slice_index, slice_index_or}
use Rattle.std.specs.List.{range_with_len}
use Rattle.seq_words.specs.declared.names.Pid.{Pid}
use Rattle.seq_shelf.specs.Told.{LineView}
use Rattle.seq_shelf.specs.Rows.{line_at}
use Rattle.seq_layout.specs.Shapes.{Shape, line_extent}
use Rattle.seq_layout.specs.Copies.{Copies, serves, first_block}
use Rattle.seq_layout.specs.Contexts.{number_at}
use Rattle.seq_status.specs.declared.status.Status.{Status}
use Rattle.seq_status.specs.declared.status.Status.TheVariants.{Idle, Run, Pass1, Pass2, Back, Forward}
use Rattle.seq_ruling.specs.Ruling.{ruling}
use Rattle.seq_io.specs.declared.element.PortState.{PortState}

-- A line from outside: its port, how many bytes it has accepted, and whether it is hung up.
pub record Outside : Type 0 where
  pub port : PortState
  pub accepted : ℕ
  pub hung : Bool

-- what stands where there is no port
abbrev pub no_port : PortState
no_port = record { taken = 0; arrived = 0; store = []; closed = false }

-- line l from outside, in rows of lines, of their marks of a hangup, and of ports
abbrev pub outside : List LineView → List Bool → List PortState → ℕ → Outside
outside lines marks ports l = record { port = slice_index_or ports l no_port; accepted = (line_at lines l).count; hung = get_or marks l false }

-- the owner of line l, and the line's number among the owner's lines
abbrev pub owner : Shape → ℕ → Pid × ℕ
owner s l = slice_index_or s.owners l (record { 0 = 0 }, 0)

-- a process of this status is steady: it isn't amid a flush or a recovery
abbrev pub is_steady : Status → Bool
is_steady Idle = true
is_steady (Run h) = true
is_steady (Pass1 h) = false
is_steady (Pass2 h) = false
is_steady (Back h) = false
is_steady (Forward h) = false

abbrev pub has_steady_owner : Shape → Copies → ℕ → Bool
has_steady_owner s p l = is_steady (ruling s p (owner s l).0.0)

-- how many bytes of line l the owner's context at its first copy says are written: its number 41 + 2i, where the line is the
-- owner's i-th
abbrev pub written : Shape → Copies → ℕ → ℕ
written s p l = number_at (map (first_block s p (owner s l).0.0) (range_with_len 0 8)) (41 + 2 * (owner s l).1)

-- output byte i of line l, at its place modulo 256 in the outbox at the owner's first copy
abbrev pub outbox_at : Shape → Copies → ℕ → ℕ → ℕ
outbox_at s p l i = slice_index (first_block s p (owner s l).0.0 (8 + 8 * (owner s l).1 + i % 256 / 32)).bytes (i % 32)

-- a copy of line l is in service, and its word n is below a number, or is this number
abbrev pub is_below : Shape → Copies → ℕ → ℕ → Bool → ℕ → Bool
is_below s p l n c x = serves s p (line_extent s l) c && nat_lt (p.word (line_extent s l) n c) x

abbrev pub is_at : Shape → Copies → ℕ → ℕ → Bool → ℕ → Bool
is_at s p l n c x = serves s p (line_extent s l) c && (p.word (line_extent s l) n c == x)

-- the copy's journal byte at this place differs from this byte
abbrev pub differs : Shape → Copies → ℕ → Bool → ℕ → ℕ → Bool
differs s p l c at byte = not (slice_index (p.block (line_extent s l) (at / 32) c).bytes (at % 32) == byte)
