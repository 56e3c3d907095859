use Rattle.std.proofs.Common.{refl, arith}
use Rattle.seq_asm.specs.Lines.{end_of, entry_in, size_in}
use Rattle.seq_asm.proofs.rules.Past.none.Goals as goal

pub returns : goal.returns
unfolding end_of entry_in size_in
returns c = record { end = refl; small = omega arith; entry = refl; size = refl }
