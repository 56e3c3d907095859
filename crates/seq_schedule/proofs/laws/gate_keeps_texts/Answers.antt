use Rattle.std.proofs.Common.{[]}
use Rattle.seq_text.specs.Lines.{lines_of}
use Rattle.seq_schedule.proofs.Gates.{opened}
use Rattle.seq_schedule.proofs.laws.gate_keeps_texts.Goals as goal

pub returns : goal.returns
returns c = λ d text e. opened d 1 [] (lines_of text) e
