use Rattle.std.proofs.Common.{sym, ◌∙◌}
use Rattle.seq_loader.proofs.Read.{image_of, Spells-image_of, image_of-Spells, first_fault-Spells, bytes_from}
use Rattle.seq_loader.proofs.laws.one_image.Goals as goal

pub returns-clause-some : goal.returns-clause-some
returns-clause-some c = λ file each none. (image_of file, Spells-image_of file (bytes_from file each) none)

pub returns-clause-none : goal.returns-clause-none
returns-clause-none c = λ file i h. first_fault-Spells file i h

pub returns-clause-one : goal.returns-clause-one
returns-clause-one c = λ file i j h k. sym (image_of-Spells file i h) ∙ image_of-Spells file j k
