use Rattle.std.proofs.Common.{not}
use Rattle.seq_text.specs.Words.{is_blank}
use Rattle.seq_source.proofs.First.{first_is, first_below}
use Rattle.seq_source.proofs.cutting.blanks_before.Goals as goal

pub returns-clause-value : goal.returns-clause-value
returns-clause-value c = first_is (λ byte. not (is_blank byte)) c.args.line.now c.no_blank.result c.unwrap_or.result c.no_blank.ensures.value c.unwrap_or.ensures

pub returns-clause-bound : goal.returns-clause-bound
returns-clause-bound c = first_below (λ byte. not (is_blank byte)) c.args.line.now c.unwrap_or.result (first_is (λ byte. not (is_blank byte)) c.args.line.now c.no_blank.result c.unwrap_or.result c.no_blank.ensures.value c.unwrap_or.ensures)
