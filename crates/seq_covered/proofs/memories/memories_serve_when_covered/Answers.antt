use Rattle.seq_covered.proofs.InService.{copying_keeps_up, memories_serve, memories_serve_on}
use Rattle.seq_covered.proofs.Sound.{down_is_out}
use Rattle.seq_covered.proofs.memories.memories_serve_when_covered.Goals as goal

pub returns : goal.returns
returns c = record { copying = copying_keeps_up down_is_out; serve = memories_serve down_is_out; on = memories_serve_on down_is_out }
