use Rattle.std.proofs.Common.{eqb}
use Rattle.seq_source.proofs.First.{first_is, first_below}
use Rattle.seq_source.proofs.cutting.first_place.Goals as goal

pub returns-clause-value : goal.returns-clause-value
returns-clause-value c = first_is (λ b. eqb b c.args.byte) c.args.text.now c.place_of.result c.unwrap_or.result c.place_of.ensures.value c.unwrap_or.ensures

pub returns-clause-bound : goal.returns-clause-bound
returns-clause-bound c = first_below (λ b. eqb b c.args.byte) c.args.text.now c.unwrap_or.result (first_is (λ b. eqb b c.args.byte) c.args.text.now c.place_of.result c.unwrap_or.result c.place_of.ensures.value c.unwrap_or.ensures)
