use Rattle.std.proofs.Common.{refl}
use Rattle.seq_memory.specs.declared.element.State.TheVariants.{Stale}
use Rattle.seq_layout.specs.Copies.{copies, failed}
use Rattle.seq_layout.proofs.CopiesLaws.{memory_fails_alone, state_changes_alone}
use Rattle.seq_ruling.proofs.tests.put.Goals as goal

pub repair-requires-clause-down : goal.repair-requires-clause-down
repair-requires-clause-down c = rw c.fail.ensures.fails (memory_fails_alone c.args.layout.now (copies c.args.layout.now c.args.memories.now) c.args.me.0).down

pub mark_copied-requires-clause-returning : goal.mark_copied-requires-clause-returning
mark_copied-requires-clause-returning c = rw (c.repair.ensures.repaired, (state_changes_alone (copies c.args.layout.now c.fail.new.memories) c.args.me.0 Stale).here) refl
