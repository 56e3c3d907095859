use Rattle.std.proofs.Common.{◌≡◌, ℕ, true, false, sym, ap, ◌∙◌, arith}
use Rattle.std.specs.Option.{option_map}
use Rattle.seq_layout.specs.Copies.{copies}
use Rattle.seq_ruling.proofs.Lowest.{lowest_found, lowest_more}
use Rattle.seq_turns.specs.Reading.{is_copied}
use Rattle.seq_machine.proofs.Returning.{me}
use Rattle.seq_machine.proofs.copying.copied_memory.Goals as goal

pub returns-then-is_copied : goal.returns-then-is_copied
returns-then-is_copied c =
    let test = λ (i : ℕ). is_copied ((copies c.args.layout.now c.args.memories.now).state i) in
    let here : test c.loop-at.at ≡ true = sym c.is_copied.ensures ∙ c.if-is_copied.true in
    sym (ap (option_map me) (lowest_found test c.loop-at.at c.args.layout.now.memories c.loop-at.invariant here (omega arith)))

pub loop-at-preserved : goal.loop-at-preserved
loop-at-preserved c =
    let test = λ (i : ℕ). is_copied ((copies c.args.layout.now c.args.memories.now).state i) in
    let here : test c.loop-at.at ≡ false = sym c.is_copied.ensures ∙ c.if-is_copied.false in
    lowest_more test c.loop-at.at c.loop-at.invariant here
