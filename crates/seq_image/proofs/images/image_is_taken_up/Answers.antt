use Rattle.seq_image.proofs.TakenUp.{image_is_taken_up}
use Rattle.seq_image.proofs.images.image_is_taken_up.Goals as goal

pub returns : goal.returns
returns c = image_is_taken_up
