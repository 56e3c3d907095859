use Rattle.std.proofs.Common.{◌≡◌, ℕ, Option, false, get_or, sym, ap, ◌∙◌, subst}
use Rattle.seq_shelf.specs.Outlets.{views, marks}
use Rattle.seq_shelf.specs.Rows.{AllAccept, line_at, on_line}
use Rattle.seq_layout.specs.Copies.{copies}
use Rattle.seq_io.specs.Changes.{copies_after}
use Rattle.seq_io.specs.Lines.{no_port}
use Rattle.seq_io.specs.Duties.{Duty}
use Rattle.seq_io.specs.Turns.{ports_after, bytes_of}
use Rattle.seq_io.proofs.Served.{duty_settles, settles_silent, none_sent}
use Rattle.seq_io.proofs.turns.serve.Goals as goal

pub returns-clause-note : goal.returns-clause-note
returns-clause-note g c =
    let count = c.accepted-accepted.ensures ∙ ap (λ items. (line_at (views (λ z. (goal.Line-dyn g z).line z.1) items) c.args.served.0).count) c.deref.ensures.value in
    let mark = c.is_hung-hung.ensures ∙ ap (λ items. get_or (marks items) c.args.served.0 false) c.deref-2.ensures.value in
    let may = sym c.may_send.ensures ∙ c.if-may_send.false in
    let same = duty_settles c.args.layout.now (copies c.args.layout.now c.args.memories.now) (views (λ z. (goal.Line-dyn g z).line z.1) c.args.lines.now.items) (marks c.args.lines.now.items) c.args.ports.now c.args.served.0 c.accepted-accepted.result c.is_hung-hung.result count mark may in
    c.settle.ensures.note ∙ sym (ap (λ (d : Duty). d.note) same)

pub returns-clause-copies : goal.returns-clause-copies
returns-clause-copies g c =
    let count = c.accepted-accepted.ensures ∙ ap (λ items. (line_at (views (λ z. (goal.Line-dyn g z).line z.1) items) c.args.served.0).count) c.deref.ensures.value in
    let mark = c.is_hung-hung.ensures ∙ ap (λ items. get_or (marks items) c.args.served.0 false) c.deref-2.ensures.value in
    let may = sym c.may_send.ensures ∙ c.if-may_send.false in
    let same = duty_settles c.args.layout.now (copies c.args.layout.now c.args.memories.now) (views (λ z. (goal.Line-dyn g z).line z.1) c.args.lines.now.items) (marks c.args.lines.now.items) c.args.ports.now c.args.served.0 c.accepted-accepted.result c.is_hung-hung.result count mark may in
    c.settle.ensures.copies ∙ sym (ap (λ (d : Duty). copies_after d.change (copies c.args.layout.now c.args.memories.now)) same)

pub returns-clause-ports : goal.returns-clause-ports
returns-clause-ports g c =
    let count = c.accepted-accepted.ensures ∙ ap (λ items. (line_at (views (λ z. (goal.Line-dyn g z).line z.1) items) c.args.served.0).count) c.deref.ensures.value in
    let mark = c.is_hung-hung.ensures ∙ ap (λ items. get_or (marks items) c.args.served.0 false) c.deref-2.ensures.value in
    let may = sym c.may_send.ensures ∙ c.if-may_send.false in
    let same = duty_settles c.args.layout.now (copies c.args.layout.now c.args.memories.now) (views (λ z. (goal.Line-dyn g z).line z.1) c.args.lines.now.items) (marks c.args.lines.now.items) c.args.ports.now c.args.served.0 c.accepted-accepted.result c.is_hung-hung.result count mark may in
    c.settle.ensures.ports ∙ sym (ap (λ (d : Duty). ports_after c.args.ports.now c.args.served.0 d.taken) same)

pub returns-clause-bytes : goal.returns-clause-bytes
returns-clause-bytes g c =
    let count = c.accepted-accepted.ensures ∙ ap (λ items. (line_at (views (λ z. (goal.Line-dyn g z).line z.1) items) c.args.served.0).count) c.deref.ensures.value in
    let mark = c.is_hung-hung.ensures ∙ ap (λ items. get_or (marks items) c.args.served.0 false) c.deref-2.ensures.value in
    let may = sym c.may_send.ensures ∙ c.if-may_send.false in
    let same = duty_settles c.args.layout.now (copies c.args.layout.now c.args.memories.now) (views (λ z. (goal.Line-dyn g z).line z.1) c.args.lines.now.items) (marks c.args.lines.now.items) c.args.ports.now c.args.served.0 c.accepted-accepted.result c.is_hung-hung.result count mark may in
    let silent = ap (λ (d : Duty). d.sent) same ∙ settles_silent c.args.layout.now (copies c.args.layout.now c.args.memories.now) (record { port = get_or c.args.ports.now c.args.served.0 no_port; accepted = c.accepted-accepted.result; hung = c.is_hung-hung.result }) c.args.served.0 in
    subst (λ (sent : Option ℕ). AllAccept (views (λ z. (goal.Line-dyn g z).line z.1) c.args.lines.now.items) (views (λ z. (goal.Line-dyn g z).line z.1) c.args.lines.now.items) (on_line c.args.served.0 (bytes_of sent))) (sym silent) (none_sent (views (λ z. (goal.Line-dyn g z).line z.1) c.args.lines.now.items) c.args.served.0)
