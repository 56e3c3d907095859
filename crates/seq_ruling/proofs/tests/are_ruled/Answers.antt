use Rattle.std.proofs.Common.{◌≡◌, true, inl, inr, arith}
use Rattle.std.proofs.lemmas.Bool.{cases_eq}
use Rattle.seq_ruling.proofs.tests.are_ruled.Goals as goal

pub loop-process-init : goal.loop-process-init
loop-process-init c = record {
  place = λ q lt. absurd (omega arith);
  served = λ q lt. absurd (omega arith);
  format = λ q lt. absurd (omega arith);
  named = λ q lt. absurd (omega arith);
}

pub loop-process-preserved : goal.loop-process-preserved
loop-process-preserved c =
    let here : c.is_ruled.result ≡ true = c.if-not-is_ruled.false in
    record {
      place = λ q lt. elim (cases_eq q c.loop-process.process) [ inl e ↦ rw e (c.is_ruled.ensures.place here) | inr ne ↦ c.loop-process.invariant.place q (omega arith) ];
      served = λ q lt. elim (cases_eq q c.loop-process.process) [ inl e ↦ rw e (c.is_ruled.ensures.served here) | inr ne ↦ c.loop-process.invariant.served q (omega arith) ];
      format = λ q lt. elim (cases_eq q c.loop-process.process) [ inl e ↦ rw e (c.is_ruled.ensures.format here) | inr ne ↦ c.loop-process.invariant.format q (omega arith) ];
      named = λ q lt. elim (cases_eq q c.loop-process.process) [ inl e ↦ rw e (c.is_ruled.ensures.named here) | inr ne ↦ c.loop-process.invariant.named q (omega arith) ];
    }

pub returns-clause-words : goal.returns-clause-words
returns-clause-words c e = record {
  place = λ q within. c.loop-process.invariant.place q (omega arith);
  served = λ q within. c.loop-process.invariant.served q (omega arith);
  format = λ q within. c.loop-process.invariant.format q (omega arith);
}

pub returns-clause-holders : goal.returns-clause-holders
returns-clause-holders c e q within = c.loop-process.invariant.named q (omega arith)
