use Rattle.seq_image.proofs.AreaImages.{image_is_of_the_area}
use Rattle.seq_image.proofs.images.image_is_of_the_area.Goals as goal

pub returns : goal.returns
returns c = image_is_of_the_area
