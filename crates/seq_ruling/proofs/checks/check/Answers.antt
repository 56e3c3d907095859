use Rattle.std.proofs.Common.{slice_index, sym, ◌∙◌}
use Rattle.seq_layout.specs.Copies.{copies}
use Rattle.seq_ruling.proofs.Blockers.{named_none, named_memory, named_process}
use Rattle.seq_ruling.proofs.checks.check.Goals as goal

pub returns-clause-none : goal.returns-clause-none
returns-clause-none c = rw c.blocker_of.ensures (named_none c.args.layout.now (copies c.args.layout.now c.args.memories.now) (slice_index c.args.incarnations.now) c.args.stopped)

pub returns-clause-memory : goal.returns-clause-memory
returns-clause-memory c me e = named_memory c.args.layout.now (copies c.args.layout.now c.args.memories.now) (slice_index c.args.incarnations.now) c.args.stopped me (sym c.blocker_of.ensures ∙ e)

pub returns-clause-process : goal.returns-clause-process
returns-clause-process c pid e = named_process c.args.layout.now (copies c.args.layout.now c.args.memories.now) (slice_index c.args.incarnations.now) c.args.stopped pid (sym c.blocker_of.ensures ∙ e)
