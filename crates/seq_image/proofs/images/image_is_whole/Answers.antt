use Rattle.seq_image.proofs.WholeImages.{image_is_whole}
use Rattle.seq_image.proofs.images.image_is_whole.Goals as goal

pub returns : goal.returns
returns c = image_is_whole
