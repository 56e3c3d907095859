use Rattle.std.proofs.Common.{◌≡◌, true, slice_index, None, Some, refl, sym, ap, ◌∙◌, arith}
use Rattle.std.specs.Option.{option_map}
use Rattle.seq_layout.specs.Copies.{copies}
use Rattle.seq_ruling.specs.Lowest.{lowest}
use Rattle.seq_ruling.specs.Ruling.{awaits, awaits_recovery, process}
use Rattle.seq_ruling.proofs.Lowest.{lowest_found, is_lowest, none_passes}
use Rattle.seq_ruling.proofs.statuses.awaiting.Goals as goal

pub returns-then-awaits-clause-value : goal.returns-then-awaits-clause-value
returns-then-awaits-clause-value c =
    let test = awaits_recovery c.args.layout.now (copies c.args.layout.now c.args.memories.now) (slice_index c.args.incarnations.now) in
    let here : test c.loop-q.q ≡ true = ap (awaits (slice_index c.args.incarnations.now)) (sym c.ruling.ensures.status) ∙ (sym c.awaits.ensures ∙ c.if-awaits.true) in
    sym (ap (option_map process) (lowest_found test c.loop-q.q c.args.layout.now.processes c.loop-q.invariant here (omega arith)))

pub returns-then-awaits-clause-lowest : goal.returns-then-awaits-clause-lowest
returns-then-awaits-clause-lowest c =
    let test = awaits_recovery c.args.layout.now (copies c.args.layout.now c.args.memories.now) (slice_index c.args.incarnations.now) in
    let here : test c.loop-q.q ≡ true = ap (awaits (slice_index c.args.incarnations.now)) (sym c.ruling.ensures.status) ∙ (sym c.awaits.ensures ∙ c.if-awaits.true) in
    is_lowest test c.args.layout.now.processes c.loop-q.q (lowest_found test c.loop-q.q c.args.layout.now.processes c.loop-q.invariant here (omega arith))

pub returns-clause-none : goal.returns-clause-none
returns-clause-none c =
    let test = awaits_recovery c.args.layout.now (copies c.args.layout.now c.args.memories.now) (slice_index c.args.incarnations.now) in
    let end : c.loop-q.q ≡ c.args.layout.now.processes = omega arith in
    let none : lowest test c.args.layout.now.processes ≡ None = rw end at c.loop-q.invariant in
    (λ e. none_passes test c.args.layout.now.processes none, λ h. refl)
