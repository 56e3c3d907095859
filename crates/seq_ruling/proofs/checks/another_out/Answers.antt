use Rattle.std.proofs.Common.{◌≡◌, true, false, ℕ, sym, ap, ◌∙◌, arith}
use Rattle.std.specs.Option.{option_map}
use Rattle.seq_words.specs.declared.elements.Me.{Me}
use Rattle.seq_layout.specs.Copies.{copies}
use Rattle.seq_ruling.specs.Checks.{is_another_out}
use Rattle.seq_ruling.proofs.Lowest.{lowest_found, lowest_more}
use Rattle.seq_ruling.proofs.Blockers.{another, not_another, no_other}
use Rattle.seq_ruling.proofs.checks.another_out.Goals as goal
use Rattle.seq_ruling.proofs.checks.another_out.Goals.{else-at-me-via-then-at-me+else-is_out, else-at-me-via-else-at-me}

pub returns-then-is_out : goal.returns-then-is_out
returns-then-is_out c =
    let p = copies c.args.layout.now c.args.memories.now in
    let test = is_another_out p c.args.me.0 in
    let here : test c.loop-at.at ≡ true = another p c.args.me.0 c.loop-at.at c.if-at-me.true (sym c.is_out.ensures ∙ c.if-is_out.true) in
    let me : ℕ → Me = λ j. record { 0 = j } in
    sym (ap (option_map me) (lowest_found test c.loop-at.at c.args.layout.now.memories c.loop-at.invariant here (omega arith)))

pub loop-at-preserved : goal.loop-at-preserved
loop-at-preserved c =
    let p = copies c.args.layout.now c.args.memories.now in
    let test = is_another_out p c.args.me.0 in
    lowest_more test c.loop-at.at c.loop-at.invariant (
    elim c.else-at-me.branch [
      | else-at-me-via-then-at-me+else-is_out w ↦ not_another p c.args.me.0 c.loop-at.at (sym w.is_out.ensures ∙ w.if-is_out.false)
      | else-at-me-via-else-at-me w ↦ no_other p c.args.me.0 c.loop-at.at w.if-at-me.false
    ])
