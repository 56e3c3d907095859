use Rattle.std.proofs.Common.{◌≡◌, ◌≤◌, map}
use Rattle.std.specs.Prelude.{count_by}
use Rattle.std.specs.List.{range_with_len}
use Rattle.seq_kernel.specs.Outboxes.{touched_block}
use Rattle.seq_kernel.proofs.OutboxFills.{is_new}
use Rattle.seq_kernel.proofs.outbox.Outbox.needed.Given as goal

abbrev pub invariant-loop-i : goal.invariant-loop-i
invariant-loop-i l = record {
  counted : l.needed ≡ count_by (is_new l.cache l.self.owner.0 l.self.index) (map (touched_block l.self.from) (range_with_len 0 l.i));
  few : l.needed ≤ l.i;
}
