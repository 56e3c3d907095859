use Rattle.std.proofs.Common.{◌≡◌, true, inl, inr, arith}
use Rattle.std.proofs.lemmas.Bool.{cases_eq}
use Rattle.seq_io_tests.proofs.bench.are_ruled.Goals as goal

pub loop-process-init : goal.loop-process-init
loop-process-init c = record {
  place = λ q lt. absurd (omega arith);
  served = λ q lt. absurd (omega arith);
  format = λ q lt. absurd (omega arith);
}

pub loop-process-preserved : goal.loop-process-preserved
loop-process-preserved c =
    let here : c.is_ruled.result ≡ true = c.if-not-is_ruled.false in
    record {
      place = λ q lt. elim (cases_eq q c.loop-process.process) [ inl e ↦ rw e (c.is_ruled.ensures.place here) | inr ne ↦ c.loop-process.invariant.place q (omega arith) ];
      served = λ q lt. elim (cases_eq q c.loop-process.process) [ inl e ↦ rw e (c.is_ruled.ensures.served here) | inr ne ↦ c.loop-process.invariant.served q (omega arith) ];
      format = λ q lt. elim (cases_eq q c.loop-process.process) [ inl e ↦ rw e (c.is_ruled.ensures.format here) | inr ne ↦ c.loop-process.invariant.format q (omega arith) ];
    }

pub returns : goal.returns
returns c e = record {
  place = λ q within. c.loop-process.invariant.place q (omega arith);
  served = λ q within. c.loop-process.invariant.served q (omega arith);
  format = λ q within. c.loop-process.invariant.format q (omega arith);
}
