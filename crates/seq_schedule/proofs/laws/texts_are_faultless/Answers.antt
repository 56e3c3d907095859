use Rattle.std.proofs.Common.{[], arith}
use Rattle.std.specs.Prelude.{◌≤◌, ◌+◌, length}
use Rattle.seq_text.specs.Lines.{lines_of}
use Rattle.seq_schedule.specs.declared.forms.Gate.TheVariants.{Built}
use Rattle.seq_schedule.specs.Limits.{most_lines}
use Rattle.seq_schedule.specs.Rules.{items_from}
use Rattle.seq_schedule.proofs.Faultless.{follow_from, built_from, few_from}
use Rattle.seq_schedule.proofs.laws.texts_are_faultless.Goals as goal

pub returns : goal.returns
returns c = λ d text e.
    let few : length (items_from Built 1 (lines_of text)) + 1 ≤ most_lines + 1 = few_from Built d 1 [] (lines_of text) (omega arith) e in
    record { follow = follow_from Built d 1 [] (lines_of text) e; built = built_from 1 (lines_of text); few = omega arith }
