use Rattle.std.proofs.Common.{◌≡◌, ℕ, Option, Some, None, true, false, sym, ap, ◌∙◌, arith}
use Rattle.std.specs.Prelude.{is_some}
use Rattle.seq_layout.specs.Copies.{copies}
use Rattle.seq_ruling.specs.Lowest.{lowest}
use Rattle.seq_ruling.proofs.Lowest.{lowest_found, lowest_more}
use Rattle.seq_io.specs.Turns.{is_copied}
use Rattle.seq_io.proofs.turns.one_is_copied.Goals as goal

pub returns-then-is_copied : goal.returns-then-is_copied
returns-then-is_copied c =
    let test = λ (i : ℕ). is_copied ((copies c.args.layout.now c.args.memories.now).state i) in
    let here : test c.loop-at.at ≡ true = sym c.is_copied.ensures ∙ c.if-is_copied.true in
    sym (ap (λ (o : Option ℕ). is_some o) (lowest_found test c.loop-at.at c.args.layout.now.memories c.loop-at.invariant here (omega arith)))

pub loop-at-preserved : goal.loop-at-preserved
loop-at-preserved c =
    let test = λ (i : ℕ). is_copied ((copies c.args.layout.now c.args.memories.now).state i) in
    let here : test c.loop-at.at ≡ false = sym c.is_copied.ensures ∙ c.if-is_copied.false in
    lowest_more test c.loop-at.at c.loop-at.invariant here
