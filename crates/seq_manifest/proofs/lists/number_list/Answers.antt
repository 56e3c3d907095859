use Rattle.std.proofs.Common.{sym, ap, ◌∙◌}
use Rattle.std.specs.Str.{bytes_eq}
use Rattle.seq_manifest.proofs.Sequences.{list_of-dash, list_of-numbers}
use Rattle.seq_manifest.proofs.lists.number_list.Goals as goal

pub returns-then-eq : goal.returns-then-eq
returns-then-eq c = list_of-dash c.args.word.now (ap (λ s. bytes_eq c.args.word.now s) (sym c.as_slice.ensures) ∙ sym c.if-eq.ensures)

pub returns-else-eq : goal.returns-else-eq
returns-else-eq c = list_of-numbers c.args.word.now c.numbers.result (ap (λ s. bytes_eq c.args.word.now s) (sym c.as_slice.ensures) ∙ sym c.if-eq.ensures) c.numbers.ensures
