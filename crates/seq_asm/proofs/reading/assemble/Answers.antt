use Rattle.seq_asm.specs.Assembled.{Makes}
use Rattle.seq_asm.proofs.Answers.{is_made, is_refused}
use Rattle.seq_asm.proofs.reading.assemble.Goals as goal

pub returns-clause-faultless : goal.returns-clause-faultless
returns-clause-faultless c = λ none. is_made (λ i. Makes c.args.text.now i) c.assembled.result _ c.assembled.ensures.image c.assembled.ensures.refused none

pub returns-clause-faulty : goal.returns-clause-faulty
returns-clause-faulty c = λ place rule some. is_refused c.assembled.result _ place rule c.assembled.ensures.none c.assembled.ensures.refused some
