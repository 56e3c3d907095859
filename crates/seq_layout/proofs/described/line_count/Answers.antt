use Rattle.std.proofs.Common.{ℕ, arith}
use Rattle.std.specs.Prelude.{count_ones}
use Rattle.std.proofs.lemmas.Grind.{common_steps}
use Rattle.std.proofs.lemmas.List.Sums.{sum_by_more_le}
use Rattle.seq_words.specs.declared.description.ProcessDesc.{ProcessDesc}
use Rattle.seq_layout.proofs.Owners.{lines_sixteen}
use Rattle.seq_layout.proofs.Sizes.{lines_few}
use Rattle.seq_layout.proofs.described.line_count.Goals as goal

pub overflow_add-count : goal.overflow_add-count
overflow_add-count c =
    let lines_of : ProcessDesc → ℕ = λ p. count_ones p.lines in
    let few = lines_few c.args.desc.now c.requires in
    let more = sum_by_more_le lines_of c.args.desc.now.processes c.loop-process.process-index in
    grind (arith, common_steps, few, more)

pub returns-clause-few : goal.returns-clause-few
returns-clause-few c =
    let few = lines_sixteen c.args.desc.now c.requires in
    grind (arith, common_steps, few)
