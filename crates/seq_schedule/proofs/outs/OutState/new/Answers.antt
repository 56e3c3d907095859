use Rattle.std.proofs.Common.{refl}
use Rattle.seq_schedule.proofs.OutStates.{fresh_keeps}
use Rattle.seq_schedule.proofs.outs.OutState.new.Goals as goal

pub returns : goal.returns
returns c = fresh_keeps c.args.desc.now c.turns_needed.result c.fresh.result c.fresh-2.result c.fresh-3.result c.turns_needed.ensures c.fresh.ensures c.fresh-2.ensures c.fresh-3.ensures _ refl refl refl refl refl refl refl refl
