use Rattle.seq_asm.proofs.Unique.{one_image}
use Rattle.seq_asm.proofs.laws.one_image.Goals as goal

pub returns : goal.returns
returns c = one_image
