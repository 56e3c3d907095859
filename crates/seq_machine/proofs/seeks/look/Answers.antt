use Rattle.std.proofs.Common.{[], sym, ap, ◌∙◌}
use Rattle.seq_layout.specs.Copies.{copies}
use Rattle.seq_turns.specs.Machines.{copies_after}
use Rattle.seq_machine.specs.Here.{here}
use Rattle.seq_machine.proofs.Seeking.{free_looks, busy_looks}
use Rattle.seq_machine.proofs.seeks.look.Goals as goal

pub claim-requires-clause-untaken : goal.claim-requires-clause-untaken
claim-requires-clause-untaken c = c.requires.untaken (record { capacity = 0; changes = [] }) 0 (sym (c.is_free.ensures (record { capacity = 0; changes = [] }) 0) ∙ c.if-is_free.true)

pub returns-then-is_free-clause-hand : goal.returns-then-is_free-clause-hand
returns-then-is_free-clause-hand c cache =
    let is = free_looks c.args.desc.now (here (copies c.args.layout.now c.args.memories.now) cache c.args.incarnation) c.args.pe.0 c.args.cursor.now (sym (c.is_free.ensures cache c.args.incarnation) ∙ c.if-is_free.true) in
    c.claim.ensures.hand ∙ ap (λ x. x.hand) (sym is)

pub returns-then-is_free-clause-note : goal.returns-then-is_free-clause-note
returns-then-is_free-clause-note c cache =
    let is = free_looks c.args.desc.now (here (copies c.args.layout.now c.args.memories.now) cache c.args.incarnation) c.args.pe.0 c.args.cursor.now (sym (c.is_free.ensures cache c.args.incarnation) ∙ c.if-is_free.true) in
    ap (λ x. x.note) (sym is)

pub returns-then-is_free-clause-copies : goal.returns-then-is_free-clause-copies
returns-then-is_free-clause-copies c cache =
    let is = free_looks c.args.desc.now (here (copies c.args.layout.now c.args.memories.now) cache c.args.incarnation) c.args.pe.0 c.args.cursor.now (sym (c.is_free.ensures cache c.args.incarnation) ∙ c.if-is_free.true) in
    c.claim.ensures.copies ∙ ap (λ x. copies_after x.change (copies c.args.layout.now c.args.memories.now)) (sym is)

pub returns-else-is_free-clause-hand : goal.returns-else-is_free-clause-hand
returns-else-is_free-clause-hand c cache =
    let is = busy_looks c.args.desc.now (here (copies c.args.layout.now c.args.memories.now) cache c.args.incarnation) c.args.pe.0 c.args.cursor.now (sym (c.is_free.ensures cache c.args.incarnation) ∙ c.if-is_free.false) in
    c.requires.seeks ∙ ap (λ x. x.hand) (sym is)

pub returns-else-is_free-clause-note : goal.returns-else-is_free-clause-note
returns-else-is_free-clause-note c cache =
    let is = busy_looks c.args.desc.now (here (copies c.args.layout.now c.args.memories.now) cache c.args.incarnation) c.args.pe.0 c.args.cursor.now (sym (c.is_free.ensures cache c.args.incarnation) ∙ c.if-is_free.false) in
    ap (λ x. x.note) (sym is)

pub returns-else-is_free-clause-copies : goal.returns-else-is_free-clause-copies
returns-else-is_free-clause-copies c cache =
    let is = busy_looks c.args.desc.now (here (copies c.args.layout.now c.args.memories.now) cache c.args.incarnation) c.args.pe.0 c.args.cursor.now (sym (c.is_free.ensures cache c.args.incarnation) ∙ c.if-is_free.false) in
    ap (λ x. copies_after x.change (copies c.args.layout.now c.args.memories.now)) (sym is)
