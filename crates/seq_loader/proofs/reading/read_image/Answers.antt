use Rattle.std.proofs.Common.{◌∙◌, arith}
use Rattle.std.proofs.lemmas.List.{take_rest}
use Rattle.seq_loader.proofs.Read.{Spells-parts}
use Rattle.seq_loader.proofs.reading.read_image.Goals as goal

pub returns-in-Ok-copy_of-clause-value : goal.returns-in-Ok-copy_of-clause-value
returns-in-Ok-copy_of-clause-value c = Spells-parts c.args.file.now _ _ _ (λ k. omega (arith, c.type_inv.file k)) c.in-Ok.ensures.ok c.in-Ok.ensures.size c.in-Ok.ensures.entry (c.in-Ok-copy_of.ensures ∙ take_rest c.args.file.now 16)
