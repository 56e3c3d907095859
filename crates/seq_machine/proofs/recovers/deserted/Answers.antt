use Rattle.std.proofs.Common.{◌≡◌, ℕ, Bool, true, slice_index, None, Some, Option, sym, ap, ◌∙◌, subst, arith}
use Rattle.std.specs.Option.{option_map}
use Rattle.seq_words.specs.declared.names.Pid.{Pid}
use Rattle.seq_layout.specs.Shapes.{Shape}
use Rattle.seq_layout.specs.Copies.{copies}
use Rattle.seq_ruling.specs.Lowest.{lowest}
use Rattle.seq_ruling.specs.Ruling.{ruling, is_deserted, process}
use Rattle.seq_ruling.proofs.Lowest.{lowest_found}
use Rattle.seq_machine.proofs.recovers.deserted.Goals as goal

pub returns-then-is_deserted : goal.returns-then-is_deserted
returns-then-is_deserted c cache scan =
    let p = copies c.args.layout.now c.args.memories.now in
    let i = slice_index c.args.incarnations.now in
    let test : Shape → ℕ → Bool = λ s q. is_deserted i (ruling s p q) in
    let here : test c.args.layout.now c.loop-q.q ≡ true = ap (is_deserted i) (sym c.ruling.ensures.status) ∙ (sym c.is_deserted.ensures ∙ c.if-is_deserted.true) in
    let found = lowest_found (test c.args.layout.now) c.loop-q.q c.args.layout.now.processes c.loop-q.invariant here (omega arith) in
    subst (λ (s : Shape). Some (process c.loop-q.q) ≡ option_map process (lowest (test s) s.processes)) c.requires.layout (sym (ap (option_map process) found))

pub returns : goal.returns
returns c cache scan =
    let p = copies c.args.layout.now c.args.memories.now in
    let i = slice_index c.args.incarnations.now in
    let test : Shape → ℕ → Bool = λ s q. is_deserted i (ruling s p q) in
    let end : c.loop-q.q ≡ c.args.layout.now.processes = omega arith in
    let none : lowest (test c.args.layout.now) c.args.layout.now.processes ≡ None = rw end at c.loop-q.invariant in
    let nobody : Option Pid = None in
    subst (λ (s : Shape). nobody ≡ option_map process (lowest (test s) s.processes)) c.requires.layout (sym (ap (option_map process) none))
