use Rattle.seq_layout.proofs.ContextsRead.{contexts_stay_inside, replaced_stay_inside, mixed_stay_inside}
use Rattle.seq_layout.proofs.context_laws.contexts_stay_inside.Goals as goal

pub returns : goal.returns
returns c = record { inside = contexts_stay_inside; replaced = replaced_stay_inside; mixed = mixed_stay_inside }
