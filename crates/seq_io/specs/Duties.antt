-- The duties of an I/O element at a line, of which it does the first that applies.
use Rattle.std.specs.Prelude.{◌≡◌, ℕ, ◌+◌, ◌*◌, ◌/◌, ◌%◌, ◌≤◌, Bool, true, false, not, ◌&&◌, if◌then◌else◌, nat_lt, slice_index, slice_set, Option, Some, None}
use Rattle.seq_layout.specs.Shapes.{Shape, line_extent}
use Rattle.seq_layout.specs.Copies.{Copies}
use Rattle.seq_io.specs.declared.element.PortState.{PortState}
use Rattle.seq_io.specs.declared.element.IoNote.{IoNote}
use Rattle.seq_io.specs.declared.element.IoNote.TheVariants.{Nothing, Sent, Moved, Taken}
use Rattle.seq_io.specs.Changes.{Change}
use Rattle.seq_io.specs.Changes.Change.{Unchanged, To_block, To_word}
use Rattle.seq_io.specs.Lines.{Outside, has_steady_owner, written, outbox_at, is_below, is_at, differs}

-- What a duty changes: one copy of one block or word, or how much the port gave up, or one byte is sent.
pub record Duty : Type 0 where
  pub change : Change
  pub taken : ℕ
  pub sent : Option ℕ
  pub note : IoNote

-- how many bytes the sent words are to say: those accepted, or all that are written where nobody will take the rest
abbrev pub goal : Shape → Copies → Outside → ℕ → ℕ
goal s p o l = if o.hung && has_steady_owner s p l then written s p l else o.accepted

-- a byte is written to a copy of the journal
abbrev pub journals : Shape → Copies → ℕ → Bool → ℕ → ℕ → Change
journals s p l c at byte =
    let e = line_extent s l in
    To_block e (at / 32) c (record { bytes = slice_set (p.block e (at / 32) c).bytes (at % 32) byte })

-- one copy of a word of line l is set
abbrev pub line_set : Shape → ℕ → ℕ → Bool → ℕ → Change
line_set s l n c w = To_word (line_extent s l) n c w

-- a duty at line l that changes this and leaves the port as it is
abbrev pub changes : PortState → ℕ → Change → Duty
changes port l change = record { change = change; taken = port.taken; sent = None; note = Moved (record { 0 = l }) }

abbrev pub nothing : PortState → Duty
nothing port = record { change = Unchanged; taken = port.taken; sent = None; note = Nothing }

-- last: the line is closed, on the primary and then on the shadow
abbrev pub closes : Shape → Copies → PortState → ℕ → Duty
closes s p port l =
    if not port.closed then nothing port
    else if is_at s p l 1 false 0 then changes port l (line_set s l 1 false 1)
    else if is_at s p l 1 true 0 then changes port l (line_set s l 1 true 1)
    else nothing port

-- the port gives a byte up
abbrev pub gives_up : ℕ → ℕ → Duty
gives_up l at = record { change = Unchanged; taken = at + 1; sent = None; note = Taken (record { 0 = l }) }

-- third: the next unread byte goes to both journals, then both counts are raised, then the port gives the byte up
abbrev pub takes : Shape → Copies → PortState → ℕ → ℕ → ℕ → Duty
takes s p port l at byte =
    if is_at s p l 0 false at && differs s p l false at byte then changes port l (journals s p l false at byte)
    else if is_at s p l 0 true at && differs s p l true at byte then changes port l (journals s p l true at byte)
    else if is_at s p l 0 false at then changes port l (line_set s l 0 false (at + 1))
    else if is_at s p l 0 true at then changes port l (line_set s l 0 true (at + 1))
    else gives_up l at

abbrev pub takes_or_closes : Shape → Copies → PortState → ℕ → Duty
takes_or_closes s p port l =
    if nat_lt port.taken port.arrived then takes s p port l port.taken (slice_index port.store port.taken) else closes s p port l

-- second: the sent words follow to this number, the primary's and then the shadow's
abbrev pub follows : Shape → Copies → PortState → ℕ → ℕ → Duty
follows s p port l told =
    if is_below s p l 2 false told then changes port l (line_set s l 2 false told)
    else if is_below s p l 2 true told then changes port l (line_set s l 2 true told)
    else takes_or_closes s p port l

abbrev pub tells_sent : Shape → Copies → Outside → ℕ → Duty
tells_sent s p o l = follows s p o.port l (goal s p o l)

-- first: a byte that is written is sent
abbrev pub may_send : Shape → Copies → Outside → ℕ → Bool
may_send s p o l = (not o.hung && has_steady_owner s p l) && nat_lt o.accepted (written s p l)

abbrev pub sends : Outside → ℕ → ℕ → Duty
sends o l byte = record { change = Unchanged; taken = o.port.taken; sent = Some byte; note = Sent (record { 0 = l }) byte }

abbrev pub duty : Shape → Copies → Outside → ℕ → Duty
duty s p o l = if may_send s p o l then sends o l (outbox_at s p l o.accepted) else tells_sent s p o l

-- no duty applies at line l
pub record HasNoDuty (s : Shape) (p : Copies) (o : Outside) (l : ℕ) : Type 0 where
  pub unsent : may_send s p o l ≡ false
  pub told : (c : Bool) → is_below s p l 2 c (goal s p o l) ≡ false
  pub read : o.port.arrived ≤ o.port.taken
  pub closed : o.port.closed ≡ true → (c : Bool) → is_at s p l 1 c 0 ≡ false
