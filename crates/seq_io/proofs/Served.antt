-- A line from outside, before and after it is served.
use Rattle.std.proofs.Common.{◌≡◌, ℕ, ◌+◌, ◌<◌, ◌≤◌, Bool, true, false, ◌&&◌, if◌then◌else◌, nat_lt, ◌==◌, ◌⊎◌, inl, inr, List, [], Some, None, length, slice_get, slice_index, get_or, set, refl, sym, ap, ◌∙◌, subst}
use Rattle.std.proofs.lemmas.Bool.{cases_eq}
use Rattle.std.proofs.lemmas.List.{get_or-map, set-get_or, get_or-set_same, get_or-set_other, length-set}
use Rattle.std.proofs.lemmas.Option.{get_or_from_slice_get}
use Rattle.seq_shelf.specs.Told.{LineView}
use Rattle.seq_shelf.specs.Outlets.{marks}
use Rattle.seq_shelf.specs.Rows.{AllAccept, Accepts, line_at, on_line}
use Rattle.seq_shelf.specs.declared.line.Outlet.{Outlet}
use Rattle.seq_shelf.proofs.Rows.{stays}
use Rattle.seq_layout.specs.Shapes.{Shape}
use Rattle.seq_layout.specs.Copies.{Copies}
use Rattle.seq_io.specs.declared.element.IoElement.{IoElement}
use Rattle.seq_io.specs.declared.element.PortState.{PortState}
use Rattle.seq_io.specs.Lines.{Outside, no_port, outside, outbox_at, is_below, is_at, differs}
use Rattle.seq_io.specs.Bounds.{IsPort, ArePorts}
use Rattle.seq_io.specs.Duties.{Duty, goal, changes, nothing, closes, gives_up, takes, takes_or_closes, follows, tells_sent, may_send, sends, duty}
use Rattle.seq_io.proofs.Cases.{settles_by}
use Rattle.seq_io.specs.Turns.{rests, duty_at, turn_at, ports_after}

-- the mark of an outlet
pub mark_is : {I : Type 0} {D : I → Type 0} (outlets : List (Outlet I D)) (at : ℕ) (o : Outlet I D) → at < length outlets → o ≡ get_or outlets at o → o.hung ≡ get_or (marks outlets) at false
mark_is outlets at o lt e =
    let mark = λ (q : Outlet _ _). q.hung in
    ap mark e ∙ sym (get_or-map mark outlets at o false lt)

-- the port of a line
pub port_is : (ports : List PortState) (l : ℕ) (port : PortState) → slice_get ports l ≡ Some port → get_or ports l no_port ≡ port
port_is ports l port e = get_or_from_slice_get ports l port no_port e

-- where no byte goes to a line, each line is as it was
same_either : (b : Bool) → ◌≡◌ {A = List ℕ} (if b then [] else []) []
same_either true = refl
same_either false = refl

pub none_sent : (row : List LineView) (at : ℕ) → AllAccept row row (on_line at [])
none_sent row at = record {
  number = refl;
  each = λ l. subst (λ bytes. Accepts (line_at row l) (line_at row l) bytes) (sym (same_either (l == at))) (stays (line_at row l));
}

-- ports of which none gave a byte up
pub ports_same : (ports : List PortState) (l : ℕ) → ports_after ports l (get_or ports l no_port).taken ≡ ports
ports_same ports l = set-get_or ports l no_port

-- the duty where no byte is sent, by what was asked of the line
pub duty_settles : (s : Shape) (p : Copies) (lines : List LineView) (marks : List Bool) (ports : List PortState) (l accepted : ℕ) (hung : Bool) → accepted ≡ (line_at lines l).count → hung ≡ get_or marks l false → may_send s p (record { port = no_port; accepted = accepted; hung = hung }) l ≡ false → duty_at s p lines marks ports l ≡ tells_sent s p (record { port = get_or ports l no_port; accepted = accepted; hung = hung }) l
duty_settles s p lines marks ports l accepted hung count mark may =
    let port : PortState = get_or ports l no_port in
    let settled : Duty = tells_sent s p (record { port = port; accepted = accepted; hung = hung }) l in
    let first : duty s p (record { port = port; accepted = accepted; hung = hung }) l ≡ settled = rw may refl in
    let P : ℕ → Type 0 = λ n. duty s p (record { port = port; accepted = n; hung = hung }) l ≡ settled in
    let Q : Bool → Type 0 = λ b. duty s p (record { port = port; accepted = (line_at lines l).count; hung = b }) l ≡ settled in
    subst Q mark (subst P count first)

-- without a byte to send, none is sent
pub settles_silent : (s : Shape) (p : Copies) (o : Outside) (l : ℕ) → (tells_sent s p o l).sent ≡ None
settles_silent s p o l =
    let P : Duty → Type 0 = λ d. d.sent ≡ None in
    settles_by P s p o l (λ change. refl) refl (λ e. refl)

-- the ports stay within their bounds
kept_at : (s : Shape) (ports : List PortState) (l k taken : ℕ) → ArePorts s ports → l < length ports → k < length s.owners → taken ≤ (get_or ports l no_port).arrived → (k ≡ l) ⊎ (k ≡ l → ⊥) → IsPort s k (get_or (ports_after ports l taken) k no_port)
kept_at s ports l k taken are inside within few (inl same) =
    let port : PortState = get_or ports l no_port in
    let after : PortState = record port { taken = taken } in
    let was : IsPort s l port = are.each l (rw same at within) in
    let P : ℕ → Type 0 = λ j. IsPort s j (get_or (set ports l after) j no_port) in
    let is : IsPort s l after = record { taken = few; arrived = was.arrived; store = was.store } in
    subst P (sym same) (rw (get_or-set_same ports l after no_port inside) is)
kept_at s ports l k taken are inside within few (inr other) =
    let port : PortState = get_or ports l no_port in
    let after : PortState = record port { taken = taken } in
    rw (get_or-set_other ports l k after no_port other) (are.each k within)

pub ports_kept : (s : Shape) (ports : List PortState) (l taken : ℕ) → ArePorts s ports → l < length ports → taken ≤ (get_or ports l no_port).arrived → ArePorts s (ports_after ports l taken)
ports_kept s ports l taken are inside few = record {
  number = length-set ports l (record (get_or ports l no_port) { taken = taken }) ∙ are.number;
  each = λ k within. kept_at s ports l k taken are inside within few (cases_eq k l);
}

-- a turn of an element that rests
pub resting : (s : Shape) (p : Copies) (io : IoElement) (lines : List LineView) (marks : List Bool) (ports : List PortState) → rests s p io ≡ true → turn_at s p io lines marks ports ≡ nothing (outside lines marks ports io.cursor).port
resting s p io lines marks ports rest = rw rest refl
