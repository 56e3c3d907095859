use Rattle.std.proofs.Common.{◌≡◌, ◌≤◌, false, length, inl, inr, arith, refl, sym, subst}
use Rattle.std.proofs.lemmas.Bool.{cases_eq}
use Rattle.seq_words.specs.Description.{line_count}
use Rattle.seq_turns.specs.Duties.{written}
use Rattle.seq_machine.specs.Settling.{held_copies}
use Rattle.seq_machine.proofs.hardware.Hardware.all_sent.Goals as goal

pub loop-l-init : goal.loop-l-init
loop-l-init g c o is k lt unhung = absurd (omega (arith, lt))

pub loop-l-preserved : goal.loop-l-preserved
loop-l-preserved g c o is k lt unhung =
    let h = c.args.self.now in
    elim (cases_eq k c.loop-l.l) [
      | inl same ↦ subst (λ j. o.hung j ≡ false → length (o.sent j) ≡ written h.desc (held_copies h) j) (sym same) ((c.has_sent.ensures o is).0 c.if-not-has_sent.false) unhung
      | inr other ↦ c.loop-l.invariant o is k (omega (arith, lt, other)) unhung
    ]

pub returns : goal.returns
returns g c o is =
    let h = c.args.self.now in
    let ports = c.requires.hardware.ports in
    let end = c.len-l-end.ensures in
    let all : line_count h.desc ≤ c.loop-l.l = omega (arith, ports, end, c.loop-l-test.false) in
    ((λ t. λ l. λ lt. c.loop-l.invariant o is l (omega (arith, lt, all))), (λ t. refl))
