use Rattle.std.proofs.Common.{ℕ, inl, inr, ap, ◌∙◌, arith}
use Rattle.std.proofs.lemmas.Bool.{cases_eq}
use Rattle.seq_memory.specs.States.{is_in_service}
use Rattle.seq_layout.specs.Copies.{copies}
use Rattle.seq_reintegrate.proofs.tests.others_serve.Goals as goal

pub loop-at-preserved : goal.loop-at-preserved
loop-at-preserved c j lt ne = elim (cases_eq j c.loop-at.at) [
  | inl same ↦ ap (λ (k : ℕ). is_in_service ((copies c.args.layout.now c.args.memories.now).state k)) same ∙ c.serves_or_is.ensures c.if-not-serves_or_is.false (λ h. ne (same ∙ h))
  | inr other ↦ c.loop-at.invariant j (omega (arith, lt, other)) ne
]
