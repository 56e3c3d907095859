use Rattle.std.proofs.Common.{◌∙◌}
use Rattle.seq_manifest.proofs.Forms.{is_utf8_from}
use Rattle.seq_manifest.proofs.statement.is_text.Goals as goal

pub returns : goal.returns
returns c = c.is_ok.ensures.value ∙ is_utf8_from c.from_utf8.result c.args.word.now _ _ (λ s h. h.1) (λ e h. h.0) c.from_utf8.ensures.cases
