use Rattle.std.proofs.Common.{◌≡◌, ◌<◌, ◌≤◌, length, true, not, ◌&&◌, ◌||◌, false, inl, inr, arith, refl, sym, ◌∙◌, ap, subst}
use Rattle.std.proofs.lemmas.Bool.{cases_eq, false≢true}
use Rattle.seq_words.specs.Masks.{has_bit}
use Rattle.seq_layout.specs.Shapes.{Shape}
use Rattle.seq_layout.specs.declared.context.Context.{Context}
use Rattle.seq_flat.specs.Step.{IsEnabled}
use Rattle.seq_lines.specs.Committed.{context_at, state_in, input_counts}
use Rattle.seq_lines.specs.Going.{AreOwned, goes_on}
use Rattle.seq_lines.proofs.Going.{goes_on_where_enabled, quiet_by_process}
use Rattle.seq_machine.specs.Plain.{machine_of}
use Rattle.seq_machine.specs.Settling.{first_blocks, ports_of}
use Rattle.seq_machine.proofs.Held.{held_none, held_more}
use Rattle.seq_machine.proofs.hardware.Hardware.is_quiet.Goals as goal

pub loop-q-init : goal.loop-q-init
loop-q-init c = record { below = held_none (first_blocks c.args.self.now); waiting = λ o q lt enabled. omega (arith, lt) }

pub returns-then-goes_on : goal.returns-then-goes_on
returns-then-goes_on c o =
    let h = c.args.self.now in
    let within : c.loop-q.q < length h.desc.processes = subst (λ (s : Shape). c.loop-q.q < s.processes) c.requires.hardware.layout (let n = c.processes-q-end.ensures in omega (arith, n, c.loop-q-test.true)) in
    let own : AreOwned (first_blocks h) c.loop-q.q c.without.result = λ t. c.without.ensures t ∙ ap (λ (x : Context). has_bit x.held t && not (has_bit c.loop-q.below t)) c.context-context.ensures.value ∙ ap (λ b. has_bit (context_at (first_blocks h) c.loop-q.q).held t && not b) (c.loop-q.invariant.below t) in
    let goes : goes_on h.desc (first_blocks h) (ports_of h) c.loop-q.q (context_at (first_blocks h) c.loop-q.q) c.without.result c.held-held.result ≡ true =
    ap (λ x. goes_on h.desc (first_blocks h) (ports_of h) c.loop-q.q x c.without.result c.held-held.result) (sym c.context-context.ensures.value) ∙ sym c.goes_on.ensures ∙ c.if-goes_on.true in
    ((λ t. absurd (false≢true t)), (λ quiet. absurd (quiet c.loop-q.q ((goes_on_where_enabled h.desc (machine_of h o) (first_blocks h) c.loop-q.q c.without.result c.held-held.result c.requires.hardware.described c.requires.readable.held within own c.held-held.ensures).0 goes))))

pub loop-q-preserved : goal.loop-q-preserved
loop-q-preserved c =
    let h = c.args.self.now in
    let within : c.loop-q.q < length h.desc.processes = subst (λ (s : Shape). c.loop-q.q < s.processes) c.requires.hardware.layout (let n = c.processes-q-end.ensures in omega (arith, n, c.loop-q-test.true)) in
    let own : AreOwned (first_blocks h) c.loop-q.q c.without.result = λ t. c.without.ensures t ∙ ap (λ (x : Context). has_bit x.held t && not (has_bit c.loop-q.below t)) c.context-context.ensures.value ∙ ap (λ b. has_bit (context_at (first_blocks h) c.loop-q.q).held t && not b) (c.loop-q.invariant.below t) in
    let waits : goes_on h.desc (first_blocks h) (ports_of h) c.loop-q.q (context_at (first_blocks h) c.loop-q.q) c.without.result c.held-held.result ≡ false =
    ap (λ x. goes_on h.desc (first_blocks h) (ports_of h) c.loop-q.q x c.without.result c.held-held.result) (sym c.context-context.ensures.value) ∙ sym c.goes_on.ensures ∙ c.if-goes_on.false in
    record {
      below = held_more (first_blocks h) c.loop-q.q c.loop-q.below c.together-below.result c.loop-q.invariant.below
          (λ t. c.together-below.ensures t ∙ ap (λ (x : Context). has_bit c.loop-q.below t || has_bit x.held t) c.context-context.ensures.value);
      waiting = λ o q lt. elim (cases_eq q c.loop-q.q) [
        | inl same ↦ subst (λ k. IsEnabled h.desc (input_counts h.desc (machine_of h o)) (state_in h.desc (first_blocks h)) k → ⊥) (sym same)
            (λ enabled. false≢true (sym waits ∙ (goes_on_where_enabled h.desc (machine_of h o) (first_blocks h) c.loop-q.q c.without.result c.held-held.result c.requires.hardware.described c.requires.readable.held within own c.held-held.ensures).1 enabled))
        | inr other ↦ c.loop-q.invariant.waiting o q (omega (arith, lt, other))
      ];
    }

pub returns : goal.returns
returns c o =
    let h = c.args.self.now in
    let all : length h.desc.processes ≤ c.loop-q.q = subst (λ (s : Shape). s.processes ≤ c.loop-q.q) c.requires.hardware.layout (let n = c.processes-q-end.ensures in omega (arith, n, c.loop-q-test.false)) in
    ((λ t. quiet_by_process h.desc (machine_of h o) (first_blocks h) (λ q lt. c.loop-q.invariant.waiting o q (omega (arith, lt, all)))), (λ t. refl))
