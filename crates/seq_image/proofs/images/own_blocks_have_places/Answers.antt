use Rattle.seq_image.proofs.FlushedUnits.{own_blocks_have_places}
use Rattle.seq_image.proofs.images.own_blocks_have_places.Goals as goal

pub returns : goal.returns
returns c = own_blocks_have_places
