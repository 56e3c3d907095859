use Rattle.std.proofs.lemmas.Map.Text.{btree_map_updates_str}
use Rattle.seq_asm.proofs.labels.put_label.Goals as goal

pub returns-in-Ok : goal.returns-in-Ok
returns-in-Ok c = record { put = btree_map_updates_str c.args.name.now c.args.labels.now c.insert.new.self _ c.in-Ok.ensures.updates }
