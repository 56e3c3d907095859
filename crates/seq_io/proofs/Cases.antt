-- What holds of each duty holds of the one that is chosen.
use Rattle.std.proofs.Common.{◌≡◌, ℕ, ◌+◌, Bool, true, false, not, ◌&&◌, if◌then◌else◌, nat_lt, refl, slice_index}
use Rattle.seq_layout.specs.Shapes.{Shape}
use Rattle.seq_layout.specs.Copies.{Copies}
use Rattle.seq_io.specs.declared.element.PortState.{PortState}
use Rattle.seq_io.specs.Changes.{Change}
use Rattle.seq_io.specs.Lines.{Outside, outbox_at, is_below, is_at, differs}
use Rattle.seq_io.specs.Duties.{Duty, goal, line_set, journals, changes, nothing, closes, gives_up, takes, takes_or_closes, tells_sent, may_send, sends, duty}

either : (P : Duty → Type 0) (b : Bool) (x y : Duty) → (b ≡ true → P x) → (b ≡ false → P y) → P (if b then x else y)
either P true x y h k = h refl
either P false x y h k = k refl

-- what holds of each change of line l that leaves the port as it is
abbrev pub OfChanges : (Duty → Type 0) → PortState → ℕ → Type 0
OfChanges P port l = (change : Change) → P (changes port l change)

pub takes_by : (P : Duty → Type 0) (s : Shape) (p : Copies) (port : PortState) (l at byte : ℕ) → OfChanges P port l → P (gives_up l at) → P (takes s p port l at byte)
takes_by P s p port l at byte moved taken =
    let last : Duty = if is_at s p l 0 true at then changes port l (line_set s l 0 true (at + 1)) else gives_up l at in
    let third : Duty = if is_at s p l 0 false at then changes port l (line_set s l 0 false (at + 1)) else last in
    let second : Duty = if is_at s p l 0 true at && differs s p l true at byte then changes port l (journals s p l true at byte) else third in
    either P (is_at s p l 0 false at && differs s p l false at byte) (changes port l (journals s p l false at byte)) second (λ e. moved (journals s p l false at byte))
    (λ e. either P (is_at s p l 0 true at && differs s p l true at byte) (changes port l (journals s p l true at byte)) third (λ e. moved (journals s p l true at byte))
    (λ e. either P (is_at s p l 0 false at) (changes port l (line_set s l 0 false (at + 1))) last (λ e. moved (line_set s l 0 false (at + 1)))
    (λ e. either P (is_at s p l 0 true at) (changes port l (line_set s l 0 true (at + 1))) (gives_up l at) (λ e. moved (line_set s l 0 true (at + 1))) (λ e. taken))))

pub closes_by : (P : Duty → Type 0) (s : Shape) (p : Copies) (port : PortState) (l : ℕ) → OfChanges P port l → P (nothing port) → P (closes s p port l)
closes_by P s p port l moved none =
    let last : Duty = if is_at s p l 1 true 0 then changes port l (line_set s l 1 true 1) else nothing port in
    let second : Duty = if is_at s p l 1 false 0 then changes port l (line_set s l 1 false 1) else last in
    either P (not port.closed) (nothing port) second (λ e. none)
    (λ e. either P (is_at s p l 1 false 0) (changes port l (line_set s l 1 false 1)) last (λ e. moved (line_set s l 1 false 1))
    (λ e. either P (is_at s p l 1 true 0) (changes port l (line_set s l 1 true 1)) (nothing port) (λ e. moved (line_set s l 1 true 1)) (λ e. none)))

pub settles_by : (P : Duty → Type 0) (s : Shape) (p : Copies) (o : Outside) (l : ℕ) → OfChanges P o.port l → P (nothing o.port) → (nat_lt o.port.taken o.port.arrived ≡ true → P (gives_up l o.port.taken)) → P (tells_sent s p o l)
settles_by P s p o l moved none taken =
    let told = goal s p o l in
    let byte = slice_index o.port.store o.port.taken in
    let last : Duty = takes_or_closes s p o.port l in
    let second : Duty = if is_below s p l 2 true told then changes o.port l (line_set s l 2 true told) else last in
    either P (is_below s p l 2 false told) (changes o.port l (line_set s l 2 false told)) second (λ e. moved (line_set s l 2 false told))
    (λ e. either P (is_below s p l 2 true told) (changes o.port l (line_set s l 2 true told)) last (λ e. moved (line_set s l 2 true told))
    (λ e. either P (nat_lt o.port.taken o.port.arrived) (takes s p o.port l o.port.taken byte) (closes s p o.port l) (λ e. takes_by P s p o.port l o.port.taken byte moved (taken e)) (λ e. closes_by P s p o.port l moved none)))

pub duty_by : (P : Duty → Type 0) (s : Shape) (p : Copies) (o : Outside) (l : ℕ) → ((byte : ℕ) → P (sends o l byte)) → OfChanges P o.port l → P (nothing o.port) → (nat_lt o.port.taken o.port.arrived ≡ true → P (gives_up l o.port.taken)) → P (duty s p o l)
duty_by P s p o l sent moved none taken =
    either P (may_send s p o l) (sends o l (outbox_at s p l o.accepted)) (tells_sent s p o l) (λ e. sent (outbox_at s p l o.accepted)) (λ e. settles_by P s p o l moved none taken)
