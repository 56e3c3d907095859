use Rattle.std.proofs.Common.{sym, ◌∙◌, arith}
use Rattle.std.proofs.lemmas.List.{take_all}
use Rattle.gallery.proofs.Taking.{take_next, has_none}
use Rattle.gallery.proofs.trial.bytes_of.Goals.{in-Some+in_ok-push, in_default}
use Rattle.gallery.proofs.trial.bytes_of.Goals as goal

pub loop-n-preserved : goal.loop-n-preserved
loop-n-preserved g c bytes told =
    elim c.match-byte_on.branch [
      | in-Some+in_ok-push w ↦
          w.all-is ∙ w.in_ok-push.ensures.ok ∙
          take_next bytes c.loop-n.all c.loop-n.n w.in-Some.byte (c.loop-n.invariant bytes told) (sym w.in-Some.is ∙ c.byte_on.ensures bytes told)
      | in_default w ↦
          elim (has_none bytes c.loop-n.n (omega (arith, c.loop-n-test.true, c.accepted_on-n-end.ensures bytes told)) (sym w.in_default.is ∙ c.byte_on.ensures bytes told)) [ ]
    ]

pub returns : goal.returns
returns g c bytes told =
    c.loop-n.invariant bytes told ∙ take_all c.loop-n.n bytes (omega (arith, c.loop-n-test.false, c.accepted_on-n-end.ensures bytes told))
