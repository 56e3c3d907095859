use Rattle.std.proofs.Common.{arith}
use Rattle.seq_text.proofs.Digits.{below-length, below-digit, below-same}
use Rattle.seq_text.proofs.numbers.is_below.Goals as goal

pub returns-then-a-b : goal.returns-then-a-b
returns-then-a-b c = λ m n ea eb. below-length c.args.a.now c.args.b.now m n ea eb c.if-a-b.true

pub returns-then-a-at : goal.returns-then-a-at
returns-then-a-at c = λ m n ea eb. below-digit c.args.a.now c.args.b.now m n c.loop-at.at ea eb (omega arith) (omega arith) c.loop-at.invariant c.if-a-at.true

pub returns : goal.returns
returns c = λ m n ea eb. below-same c.args.a.now c.args.b.now m n ea eb (omega arith) (λ j lt. c.loop-at.invariant j (omega arith))
