use Rattle.seq_text.specs.Words.{is_blank}
use Rattle.seq_source.proofs.First.{first_is, first_below}
use Rattle.seq_source.proofs.cutting.first_blank.Goals as goal

pub returns-clause-value : goal.returns-clause-value
returns-clause-value c = first_is (λ byte. is_blank byte) c.args.rest.now c.blank.result c.unwrap_or.result c.blank.ensures.value c.unwrap_or.ensures

pub returns-clause-bound : goal.returns-clause-bound
returns-clause-bound c = first_below (λ byte. is_blank byte) c.args.rest.now c.unwrap_or.result (first_is (λ byte. is_blank byte) c.args.rest.now c.blank.result c.unwrap_or.result c.blank.ensures.value c.unwrap_or.ensures)
