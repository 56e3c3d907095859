use Rattle.seq_image.proofs.Copied.{agree_by_owners, copies_by_places, copies_are_whole}
use Rattle.seq_image.proofs.images.areas_and_copies.Goals as goal

pub returns-clause-agree : goal.returns-clause-agree
returns-clause-agree c = agree_by_owners

pub returns-clause-places : goal.returns-clause-places
returns-clause-places c = copies_by_places

pub returns-clause-whole : goal.returns-clause-whole
returns-clause-whole c = copies_are_whole
