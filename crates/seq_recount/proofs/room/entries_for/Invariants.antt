use Rattle.std.proofs.Common.{◌≡◌, take}
use Rattle.seq_recount.specs.Rooms.{turns_of}
use Rattle.seq_recount.proofs.room.entries_for.Given as goal

abbrev pub invariant-loop-item : goal.invariant-loop-item
invariant-loop-item l = l.turns ≡ turns_of l.desc (take l.item-index l.items)
