use Rattle.std.proofs.Common.{◌≡◌, ◌<◌, ◌≤◌, length, inl, inr, arith, refl, sym, ◌∙◌, ap, subst}
use Rattle.std.proofs.lemmas.Bool.{cases_eq, false≢true}
use Rattle.seq_layout.specs.Shapes.{Shape}
use Rattle.seq_ruling.specs.Ruling as ruling_word
use Rattle.seq_turns.specs.Reading.{ruling}
use Rattle.seq_lines.specs.Settled.{IsCalm}
use Rattle.seq_machine.specs.Plain.{machine_of}
use Rattle.seq_machine.specs.Settling.{held_copies}
use Rattle.seq_machine.proofs.hardware.Hardware.all_calm.Goals as goal

pub returns-then-not-calm : goal.returns-then-not-calm
returns-then-not-calm c o =
    let h = c.args.self.now in
    let is : c.ruling.result ≡ ruling h.desc (held_copies h) c.loop-q.q = c.ruling.ensures.status ∙ ap (λ (s : Shape). ruling_word.ruling s (held_copies h) c.loop-q.q) c.requires.hardware.layout in
    let within : c.loop-q.q < length h.desc.processes = subst (λ (s : Shape). c.loop-q.q < s.processes) c.requires.hardware.layout (let n = c.processes-q-end.ensures in omega (arith, n, c.loop-q-test.true)) in
    ((λ t. absurd (false≢true t)), (λ all. sym c.if-not-calm.true ∙ (c.calm.ensures o).1 (subst (IsCalm (machine_of h o)) (sym is) (all c.loop-q.q within))))

pub loop-q-preserved : goal.loop-q-preserved
loop-q-preserved c o q lt =
    let h = c.args.self.now in
    let is : c.ruling.result ≡ ruling h.desc (held_copies h) c.loop-q.q = c.ruling.ensures.status ∙ ap (λ (s : Shape). ruling_word.ruling s (held_copies h) c.loop-q.q) c.requires.hardware.layout in
    elim (cases_eq q c.loop-q.q) [
      | inl same ↦ subst (λ k. IsCalm (machine_of h o) (ruling h.desc (held_copies h) k)) (sym same) (subst (IsCalm (machine_of h o)) is ((c.calm.ensures o).0 c.if-not-calm.false))
      | inr other ↦ c.loop-q.invariant o q (omega (arith, lt, other))
    ]

pub returns : goal.returns
returns c o =
    let h = c.args.self.now in
    let all : length h.desc.processes ≤ c.loop-q.q = subst (λ (s : Shape). s.processes ≤ c.loop-q.q) c.requires.hardware.layout (let n = c.processes-q-end.ensures in omega (arith, n, c.loop-q-test.false)) in
    ((λ t. λ q. λ lt. c.loop-q.invariant o q (omega (arith, lt, all))), (λ t. refl))
