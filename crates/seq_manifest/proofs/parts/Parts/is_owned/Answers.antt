use Rattle.std.proofs.Common.{ap, ◌∙◌}
use Rattle.std.specs.List.{list_any}
use Rattle.seq_words.specs.Masks.{has_bit}
use Rattle.seq_manifest.proofs.Saying.{owned-said_by}
use Rattle.seq_manifest.proofs.parts.Parts.is_owned.Goals as goal

pub returns : goal.returns
returns c = c.has_owner.ensures ∙ ap (λ ps. list_any (λ q. has_bit q.lines c.args.line) ps) c.as_slice.ensures ∙ owned-said_by c.args.self.now c.args.line c.requires.parts c.requires.there
