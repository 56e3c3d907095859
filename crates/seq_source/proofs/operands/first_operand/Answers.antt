use Rattle.seq_source.proofs.Listed.{first_operand}
use Rattle.seq_source.proofs.operands.first_operand.Goals as goal

pub returns : goal.returns
returns c = first_operand c.args.text.now c.cut_at.result.0.now _ _ c.cut_at.ensures.parts c.without_front.ensures
