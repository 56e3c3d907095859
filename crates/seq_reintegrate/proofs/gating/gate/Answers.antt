use Rattle.std.proofs.Common.{◌≡◌, ℕ, length, sym, ap, ◌∙◌, arith}
use Rattle.std.specs.Option.{option_map}
use Rattle.seq_words.specs.declared.names.Pe.{Pe}
use Rattle.seq_ruling.specs.Lowest.{lowest}
use Rattle.seq_ruling.proofs.Lowest.{lowest_found, lowest_more}
use Rattle.seq_reintegrate.specs.Gate.{is_marked}
use Rattle.seq_reintegrate.proofs.Gated.{marked_first}
use Rattle.seq_reintegrate.proofs.gating.gate.Goals as goal

abbrev number : ℕ → Pe
number p = record { 0 = p }

pub returns-then-hands-at-clause-first : goal.returns-then-hands-at-clause-first
returns-then-hands-at-clause-first c =
    sym (ap (option_map number) (lowest_found (is_marked c.args.hands.now) c.loop-at.at (length c.args.hands.now) c.loop-at.invariant c.if-hands-at.true c.loop-at-test.true))

pub returns-then-hands-at-clause-row : goal.returns-then-hands-at-clause-row
returns-then-hands-at-clause-row c d m show =
    sym (ap (option_map number) (lowest_found (is_marked c.args.hands.now) c.loop-at.at (length c.args.hands.now) c.loop-at.invariant c.if-hands-at.true c.loop-at-test.true)) ∙
    ap (option_map number) (marked_first d m c.args.hands.now show)

pub loop-at-preserved : goal.loop-at-preserved
loop-at-preserved c = lowest_more (is_marked c.args.hands.now) c.loop-at.at c.loop-at.invariant c.if-hands-at.false

pub returns-clause-first : goal.returns-clause-first
returns-clause-first c =
    let end : c.loop-at.at ≡ length c.args.hands.now = omega (arith, c.loop-at-test.false, c.loop-at.auto.at-end) in
    ap (option_map number) (sym c.loop-at.invariant ∙ ap (lowest (is_marked c.args.hands.now)) end)

pub returns-clause-row : goal.returns-clause-row
returns-clause-row c d m show =
    let end : c.loop-at.at ≡ length c.args.hands.now = omega (arith, c.loop-at-test.false, c.loop-at.auto.at-end) in
    ap (option_map number) (sym c.loop-at.invariant ∙ ap (lowest (is_marked c.args.hands.now)) end ∙ marked_first d m c.args.hands.now show)
