use Rattle.seq_image.proofs.StartImages.{start_has_image}
use Rattle.seq_image.proofs.images.start_has_image.Goals as goal

pub returns : goal.returns
returns c = start_has_image
