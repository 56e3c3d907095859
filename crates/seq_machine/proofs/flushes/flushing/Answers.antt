use Rattle.std.proofs.Common.{ap, sym, ◌∙◌, arith}
use Rattle.seq_layout.specs.Copies.{copies}
use Rattle.seq_machine.specs.Here.{here}
use Rattle.seq_machine.specs.Flushes.{is_commit}
use Rattle.seq_machine.proofs.Rows.{hand_after, cache_then, flush_hand, flush_cache, flush_copies}
use Rattle.seq_machine.proofs.flushes.flushing.Goals as goal

pub returns-in-Some-clause-copies : goal.returns-in-Some-clause-copies
returns-in-Some-clause-copies c i p =
    let m = here (copies c.args.layout.now c.args.memories.now) c.args.cache.now i in
    c.turn.ensures.copies ∙ flush_copies c.args.desc.now m p c.args.running c.args.cause c.args.mask c.args.layout.now c.requires.layout c.args.at

pub returns-in-None-clause-copies : goal.returns-in-None-clause-copies
returns-in-None-clause-copies c i p =
    let m = here (copies c.args.layout.now c.args.memories.now) c.args.cache.now i in
    c.turn.ensures.copies ∙ flush_copies c.args.desc.now m p c.args.running c.args.cause c.args.mask c.args.layout.now c.requires.layout c.args.at

pub returns-in-Some-clause-hand : goal.returns-in-Some-clause-hand
returns-in-Some-clause-hand c i p =
    let m = here (copies c.args.layout.now c.args.memories.now) c.args.cache.now i in
    let row = flush_hand c.args.desc.now m p c.args.running c.args.cause c.args.mask c.args.layout.now c.requires.layout c.args.at in
    let stage = sym c.turn.ensures.stage ∙ c.in-Some.is in
    rw (c.running_after-after.ensures, c.is_commit-commits.ensures)
    (sym (row ∙ ap (hand_after c.args.desc.now c.args.running c.args.cause c.args.mask (is_commit c.args.cache.now.changes c.args.at)) stage))

pub returns-in-None-clause-hand : goal.returns-in-None-clause-hand
returns-in-None-clause-hand c i p =
    let m = here (copies c.args.layout.now c.args.memories.now) c.args.cache.now i in
    let row = flush_hand c.args.desc.now m p c.args.running c.args.cause c.args.mask c.args.layout.now c.requires.layout c.args.at in
    let stage = sym c.turn.ensures.stage ∙ c.in-None.is in
    c.follow.ensures ∙ sym (row ∙ ap (hand_after c.args.desc.now c.args.running c.args.cause c.args.mask (is_commit c.args.cache.now.changes c.args.at)) stage)

pub returns-in-Some-clause-cache : goal.returns-in-Some-clause-cache
returns-in-Some-clause-cache c i p =
    let m = here (copies c.args.layout.now c.args.memories.now) c.args.cache.now i in
    let row = flush_cache c.args.desc.now m p c.args.running c.args.cause c.args.mask c.args.layout.now c.requires.layout c.args.at in
    sym (row ∙ ap (cache_then c.args.cache.now) (sym c.turn.ensures.stage ∙ c.in-Some.is))

pub returns-in-None-clause-cache : goal.returns-in-None-clause-cache
returns-in-None-clause-cache c i p =
    let m = here (copies c.args.layout.now c.args.memories.now) c.args.cache.now i in
    let row = flush_cache c.args.desc.now m p c.args.running c.args.cause c.args.mask c.args.layout.now c.requires.layout c.args.at in
    let emptied = row ∙ ap (cache_then c.args.cache.now) (sym c.turn.ensures.stage ∙ c.in-None.is) in
    grind (arith, emptied)
