use Rattle.std.proofs.Common.{sym, ◌∙◌, ◌&&◌, not, nat_lt}
use Rattle.seq_manifest.specs.Drafts.{said_by}
use Rattle.seq_manifest.specs.Faults.{is_owned, some_below}
use Rattle.seq_manifest.proofs.Below.{some_below-zero, below_step, or_then, or_else}
use Rattle.seq_manifest.proofs.parts.Parts.has_gap.Goals as goal
use Rattle.seq_manifest.proofs.parts.Parts.has_gap.Goals.{then-some, else-some}

pub loop-line-init : goal.loop-line-init
loop-line-init c = sym (some_below-zero _)

pub loop-line-preserved : goal.loop-line-preserved
loop-line-preserved c =
    below_step c.loop-line.some c.if-some.some c.loop-line.line (λ n. not (is_owned (said_by c.args.self.now) n) && some_below 16 (λ above. nat_lt n above && is_owned (said_by c.args.self.now) above)) c.loop-line.invariant
    (elim c.if-some.branch [
      | then-some w ↦ or_then _ _ _ w.if-some.true (w.some-is ∙ w.if-some.true)
      | else-some w ↦ or_else _ _ _ w.if-some.false (w.some-is ∙ w.is_gap-some.ensures)
    ])
