use Rattle.std.proofs.Common.{◌-◌, ◌<◌, [], length, arith, sym, ◌∙◌}
use Rattle.std.proofs.lemmas.List.{get_or_default}
use Rattle.std.proofs.lemmas.Option.{get_or_from_slice_get}
use Rattle.seq_words.specs.Blocks.{zero_block}
use Rattle.seq_flush.specs.Turns.{no_change}
use Rattle.seq_flush.proofs.Numbered.{unit_changed, unit_context, unit_has_place}
use Rattle.seq_flush.proofs.flush.Flush.unit.Goals as goal

pub returns-then-i-dirty-clause-value : goal.returns-then-i-dirty-clause-value
returns-then-i-dirty-clause-value g c =
    let self = c.args.self.now in
    let changes = c.args.cache.now.changes in
    sym (unit_changed self.pid.0 self.context changes c.args.i no_change (omega arith) ∙ get_or_from_slice_get changes c.args.i c.dirty_at.result.now no_change c.dirty_at.ensures.change)

pub returns-then-i-dirty-clause-place : goal.returns-then-i-dirty-clause-place
returns-then-i-dirty-clause-place g c s places =
    let self = c.args.self.now in
    rw (returns-then-i-dirty-clause-value g c) (unit_has_place s self.pid.0 self.context c.args.cache.now.changes c.args.i places c.requires.within)

pub returns-else-i-dirty-clause-value : goal.returns-else-i-dirty-clause-value
returns-else-i-dirty-clause-value g c =
    let self = c.args.self.now in
    let changes = c.args.cache.now.changes in
    let within : c.args.i - length changes < length self.context = omega arith in
    rw (c.dirty-dirty.ensures.number, get_or_default self.context (c.args.i - length changes) (record { bytes = [] }) zero_block within)
    (sym (unit_context self.pid.0 self.context changes c.args.i (omega arith) c.requires.within))
