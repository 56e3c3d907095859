use Rattle.std.proofs.Common.{◌≡◌, true, false, ℕ, sym, ap, ◌∙◌, arith}
use Rattle.std.specs.Option.{option_map}
use Rattle.seq_words.specs.declared.elements.Me.{Me}
use Rattle.seq_layout.specs.Copies.{copies}
use Rattle.seq_ruling.specs.Checks.{is_out}
use Rattle.seq_ruling.proofs.Lowest.{lowest_found, lowest_more}
use Rattle.seq_ruling.proofs.checks.lowest_out.Goals as goal

pub returns-then-is_out : goal.returns-then-is_out
returns-then-is_out c =
    let test = is_out (copies c.args.layout.now c.args.memories.now) in
    let here : test c.loop-at.at ≡ true = sym c.is_out.ensures ∙ c.if-is_out.true in
    let me : ℕ → Me = λ j. record { 0 = j } in
    sym (ap (option_map me) (lowest_found test c.loop-at.at c.args.layout.now.memories c.loop-at.invariant here (omega arith)))

pub loop-at-preserved : goal.loop-at-preserved
loop-at-preserved c =
    let test = is_out (copies c.args.layout.now c.args.memories.now) in
    let here : test c.loop-at.at ≡ false = sym c.is_out.ensures ∙ c.if-is_out.false in
    lowest_more test c.loop-at.at c.loop-at.invariant here
