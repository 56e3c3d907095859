use Rattle.std.proofs.Common.{◌≡◌, ℕ, ◌<◌, Ok, length, sym, ap, ◌∙◌, subst, arith}
use Rattle.seq_shelf.specs.Outlets.{views, marks}
use Rattle.seq_shelf.specs.Rows.{AllAccept, on_line}
use Rattle.seq_layout.specs.Copies.{copies}
use Rattle.seq_io.specs.declared.element.IoNote.TheVariants.{Nothing}
use Rattle.seq_io.specs.Lines.{outside}
use Rattle.seq_io.specs.Duties.{Duty}
use Rattle.seq_io.specs.Turns.{bytes_of}
use Rattle.seq_io.proofs.Nothing.{awake_nothing, taken_within}
use Rattle.seq_io.proofs.Served.{resting, none_sent, ports_kept}
use Rattle.seq_io.proofs.turns.turn.Goals as goal

pub returns-then-rests-clause-bytes : goal.returns-then-rests-clause-bytes
returns-then-rests-clause-bytes g c =
    let rest = sym c.rests.ensures ∙ c.if-rests.true in
    subst (λ (d : Duty). AllAccept (views (λ z. (goal.Line-dyn g z).line z.1) c.args.lines.now.items) (views (λ z. (goal.Line-dyn g z).line z.1) c.args.lines.now.items) (on_line c.args.io.now.cursor (bytes_of d.sent)))
    (sym (resting c.args.layout.now (copies c.args.layout.now c.args.memories.now) c.args.io.now (views (λ z. (goal.Line-dyn g z).line z.1) c.args.lines.now.items) (marks c.args.lines.now.items) c.args.ports.now rest))
    (none_sent (views (λ z. (goal.Line-dyn g z).line z.1) c.args.lines.now.items) c.args.io.now.cursor)

pub returns-clause-nothing : goal.returns-clause-nothing
returns-clause-nothing g c =
    let awake = sym c.rests.ensures ∙ c.if-rests.false in
    let exactly = awake_nothing c.args.layout.now (copies c.args.layout.now c.args.memories.now) c.args.io.now (outside (views (λ z. (goal.Line-dyn g z).line z.1) c.args.lines.now.items) (marks c.args.lines.now.items) c.args.ports.now c.args.io.now.cursor) c.in_ok-note.note awake c.in_ok-note.ensures.note in (
      λ e. let same : c.in_ok-note.note ≡ Nothing = cc in exactly.0 same,
      λ h. ap Ok (exactly.1 h),
    )

pub returns-clause-ports_kept : goal.returns-clause-ports_kept
returns-clause-ports_kept g c =
    let some : 0 < length c.args.layout.now.owners = omega (arith, c.next_cursor-io.ensures.within) in
    let line : c.args.io.now.cursor < length c.args.layout.now.owners = c.requires.cursor some in
    let port : c.args.io.now.cursor < length c.args.ports.now = omega (arith, c.requires.ports.number) in
    let within = taken_within c.args.layout.now (copies c.args.layout.now c.args.memories.now) (outside (views (λ z. (goal.Line-dyn g z).line z.1) c.args.lines.now.items) (marks c.args.lines.now.items) c.args.ports.now c.args.io.now.cursor) c.args.io.now.cursor (c.requires.ports.each c.args.io.now.cursor line).taken in
    rw c.in_ok-note.ensures.ports (ports_kept c.args.layout.now c.args.ports.now c.args.io.now.cursor _ c.requires.ports port within)
