use Rattle.std.proofs.Common.{◌≤◌, false, [], length, arith, ap, ◌∙◌}
use Rattle.seq_layout.specs.Copies.{copies}
use Rattle.seq_locks.specs.Turns.{word_at}
use Rattle.seq_turns.specs.Reading.{lock_word}
use Rattle.seq_machine.specs.Here.{here, turned}
use Rattle.seq_machine.proofs.Acquiring.{claim_is, acquisition_got, acquisition_refused, refused_named, acquisition_copies}
use Rattle.seq_machine.proofs.runs.acquire.Goals as goal

pub overflow_cast-reason : goal.overflow_cast-reason
overflow_cast-reason c =
    let m = here (copies c.args.layout.now c.args.memories.now) (record { capacity = 0; changes = [] }) c.args.incarnation in
    let is = claim_is c.args.desc.now c.args.layout.now c.args.running c.args.segment c.segment.result c.from.result c.requires.layout c.segment.ensures c.from.ensures c.start.result c.start.ensures in
    let named = refused_named c.args.desc.now m c.args.pe.0 c.args.running c.args.segment c.args.layout.now c.requires.layout c.start.result is c.in-Refused.seen c.in-Refused.ensures.state in
    let below : word_at (copies c.args.layout.now c.args.memories.now) (lock_word c.args.desc.now c.args.segment.0) false ≤ length c.args.desc.now.processes = c.requires.named in
    omega (arith, named, below, c.requires.description.processes.high_at)

pub returns-in-Got-clause-turned : goal.returns-in-Got-clause-turned
returns-in-Got-clause-turned c cache =
    let m = here (copies c.args.layout.now c.args.memories.now) cache c.args.incarnation in
    let is = claim_is c.args.desc.now c.args.layout.now c.args.running c.args.segment c.segment.result c.from.result c.requires.layout c.segment.ensures c.from.ensures c.start.result c.start.ensures in
    acquisition_got c.args.desc.now m c.args.pe.0 c.args.running c.args.segment c.args.layout.now c.requires.layout c.start.result is c.in-Got.claim c.in-Got.ensures.state

pub returns-in-Got-clause-copies : goal.returns-in-Got-clause-copies
returns-in-Got-clause-copies c cache =
    let m = here (copies c.args.layout.now c.args.memories.now) cache c.args.incarnation in
    let is = claim_is c.args.desc.now c.args.layout.now c.args.running c.args.segment c.segment.result c.from.result c.requires.layout c.segment.ensures c.from.ensures c.start.result c.start.ensures in
    c.turn.ensures.copies ∙ acquisition_copies c.args.desc.now m c.args.pe.0 c.args.running c.args.segment c.args.layout.now c.requires.layout c.start.result is

pub returns-in-Refused-clause-turned : goal.returns-in-Refused-clause-turned
returns-in-Refused-clause-turned c cache =
    let m = here (copies c.args.layout.now c.args.memories.now) cache c.args.incarnation in
    let is = claim_is c.args.desc.now c.args.layout.now c.args.running c.args.segment c.segment.result c.from.result c.requires.layout c.segment.ensures c.from.ensures c.start.result c.start.ensures in
    c.found.ensures (copies c.args.layout.now c.args.memories.now) cache
    ∙ ap turned (acquisition_refused c.args.desc.now m c.args.pe.0 c.args.running c.args.segment c.args.layout.now c.requires.layout c.start.result is c.in-Refused.seen c.in-Refused.ensures.state)

pub returns-in-Refused-clause-copies : goal.returns-in-Refused-clause-copies
returns-in-Refused-clause-copies c cache =
    let m = here (copies c.args.layout.now c.args.memories.now) cache c.args.incarnation in
    let is = claim_is c.args.desc.now c.args.layout.now c.args.running c.args.segment c.segment.result c.from.result c.requires.layout c.segment.ensures c.from.ensures c.start.result c.start.ensures in
    c.turn.ensures.copies ∙ acquisition_copies c.args.desc.now m c.args.pe.0 c.args.running c.args.segment c.args.layout.now c.requires.layout c.start.result is
