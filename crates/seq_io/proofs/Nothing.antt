-- When an element does nothing at a line, and how much the port has given up after a duty.
use Rattle.std.proofs.Common.{◌≡◌, ℕ, ◌+◌, ◌<◌, ◌≤◌, Bool, true, false, not, ◌&&◌, if◌then◌else◌, nat_lt, ◌↔◌, ◌⊎◌, inl, inr, Some, None, refl, sym, ap, ◌∙◌, arith, slice_index}
use Rattle.std.proofs.lemmas.Bool.{false≢true, ltb-true, ltb-false, le-ltb}
use Rattle.seq_layout.specs.Shapes.{Shape}
use Rattle.seq_layout.specs.Copies.{Copies}
use Rattle.seq_io.specs.declared.element.IoElement.{IoElement}
use Rattle.seq_io.specs.declared.element.IoNote.{IoNote}
use Rattle.seq_io.specs.declared.element.IoNote.TheVariants.{Nothing, Sent, Moved, Taken}
use Rattle.seq_io.specs.declared.element.PortState.{PortState}
use Rattle.seq_io.specs.Changes.{Change}
use Rattle.seq_io.specs.Lines.{Outside, outbox_at, is_below, is_at, differs}
use Rattle.seq_io.specs.Duties.{Duty, goal, journals, line_set, changes, nothing, closes, gives_up, takes, takes_or_closes, follows, tells_sent, may_send, sends, duty, HasNoDuty}
use Rattle.seq_io.specs.Turns.{rests, turn_of, DoesNothing}
use Rattle.seq_io.proofs.Cases.{takes_by, duty_by}

-- a duty that does something
abbrev Does : Duty → Type 0
Does d = d.note ≡ Nothing → ⊥

changes_does : (port : PortState) (l : ℕ) (change : Change) → Does (changes port l change)
changes_does port l change e = cc

gives_up_does : (l at : ℕ) → Does (gives_up l at)
gives_up_does l at e = cc

sends_does : (o : Outside) (l byte : ℕ) → Does (sends o l byte)
sends_does o l byte e = cc

-- where the first of two does something, nothing is done exactly where the second is chosen and does nothing
past : (b : Bool) (x y : Duty) → Does x → (if b then x else y).note ≡ Nothing → (b ≡ false) × (y.note ≡ Nothing)
past true x y does e = absurd (does e)
past false x y does e = (refl, e)

takes_does : (s : Shape) (p : Copies) (port : PortState) (l at byte : ℕ) → Does (takes s p port l at byte)
takes_does s p port l at byte = takes_by Does s p port l at byte (changes_does port l) (gives_up_does l at)

-- a fact of both copies
both : (P : Bool → Type 0) → P false → P true → (c : Bool) → P c
both P primary shadow false = primary
both P primary shadow true = shadow

-- the closing does nothing
closed_copies : (s : Shape) (p : Copies) (port : PortState) (l : ℕ) (b : Bool) → port.closed ≡ b → (closes s p port l).note ≡ Nothing → port.closed ≡ true → (c : Bool) → is_at s p l 1 c 0 ≡ false
closed_copies s p port l false is e closed = absurd (false≢true (sym is ∙ closed))
closed_copies s p port l true is e closed =
    let inner = rw is at e in
    let primary = past (is_at s p l 1 false 0) (changes port l (line_set s l 1 false 1)) (if is_at s p l 1 true 0 then changes port l (line_set s l 1 true 1) else nothing port) (changes_does port l (line_set s l 1 false 1)) inner in
    let shadow = past (is_at s p l 1 true 0) (changes port l (line_set s l 1 true 1)) (nothing port) (changes_does port l (line_set s l 1 true 1)) primary.1 in
    both (λ c. is_at s p l 1 c 0 ≡ false) primary.0 shadow.0

closes_nothing : (s : Shape) (p : Copies) (port : PortState) (l : ℕ) (b : Bool) → port.closed ≡ b → (port.closed ≡ true → (c : Bool) → is_at s p l 1 c 0 ≡ false) → (closes s p port l).note ≡ Nothing
closes_nothing s p port l false is none = rw is refl
closes_nothing s p port l true is none = rw (is, none is false, none is true) refl

pub no_duty : (s : Shape) (p : Copies) (o : Outside) (l : ℕ) → (duty s p o l).note ≡ Nothing → HasNoDuty s p o l
no_duty s p o l e =
    let told = goal s p o l in
    let unsent = past (may_send s p o l) (sends o l (outbox_at s p l o.accepted)) (tells_sent s p o l) (sends_does o l (outbox_at s p l o.accepted)) e in
    let primary = past (is_below s p l 2 false told) (changes o.port l (line_set s l 2 false told)) (if is_below s p l 2 true told then changes o.port l (line_set s l 2 true told) else takes_or_closes s p o.port l) (changes_does o.port l (line_set s l 2 false told)) unsent.1 in
    let shadow = past (is_below s p l 2 true told) (changes o.port l (line_set s l 2 true told)) (takes_or_closes s p o.port l) (changes_does o.port l (line_set s l 2 true told)) primary.1 in
    let read = past (nat_lt o.port.taken o.port.arrived) (takes s p o.port l o.port.taken (slice_index o.port.store o.port.taken)) (closes s p o.port l) (takes_does s p o.port l o.port.taken (slice_index o.port.store o.port.taken)) shadow.1 in
    record {
      unsent = unsent.0;
      told = both (λ c. is_below s p l 2 c told ≡ false) primary.0 shadow.0;
      read = ltb-false o.port.taken o.port.arrived read.0;
      closed = closed_copies s p o.port l o.port.closed refl read.1;
    }

pub nothing_done : (s : Shape) (p : Copies) (o : Outside) (l : ℕ) → HasNoDuty s p o l → (duty s p o l).note ≡ Nothing
nothing_done s p o l h =
    let read : nat_lt o.port.taken o.port.arrived ≡ false = le-ltb o.port.taken o.port.arrived h.read in
    rw (h.unsent, h.told false, h.told true, read) (closes_nothing s p o.port l o.port.closed refl h.closed)

-- a turn that doesn't rest does nothing exactly where there is no duty
pub awake_nothing : (s : Shape) (p : Copies) (io : IoElement) (o : Outside) (note : IoNote) → rests s p io ≡ false → note ≡ (duty s p o io.cursor).note → (note ≡ Nothing) ↔ DoesNothing s p io o
awake_nothing s p io o note awake is = (
  λ e. inr (no_duty s p o io.cursor (sym is ∙ e)),
  λ h. elim h [ inl rest ↦ absurd (false≢true (sym awake ∙ rest)) | inr none ↦ is ∙ nothing_done s p o io.cursor none ],
)

-- the port has given up no more than arrived
pub taken_within : (s : Shape) (p : Copies) (o : Outside) (l : ℕ) → o.port.taken ≤ o.port.arrived → (duty s p o l).taken ≤ o.port.arrived
taken_within s p o l le =
    let P : Duty → Type 0 = λ d. d.taken ≤ o.port.arrived in
    duty_by P s p o l (λ byte. le) (λ change. le) le (λ lt. let below = ltb-true o.port.taken o.port.arrived lt in omega arith)
