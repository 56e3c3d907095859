use Rattle.seq_image.proofs.Areas.{alike_is_one_view}
use Rattle.seq_image.proofs.images.alike_is_one_view.Goals as goal

pub returns : goal.returns
returns c = alike_is_one_view
