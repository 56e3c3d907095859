use Rattle.seq_invariant.proofs.BlockStops.{stops_keep_blocks}
use Rattle.seq_invariant.proofs.BlockLosses.{losses_keep_blocks}
use Rattle.seq_invariant.proofs.BlockService.{service_keeps_blocks}
use Rattle.seq_invariant.proofs.blocks.failures_keep_blocks.Goals as goal

pub returns-clause-stops : goal.returns-clause-stops
returns-clause-stops c = stops_keep_blocks

pub returns-clause-losses : goal.returns-clause-losses
returns-clause-losses c = losses_keep_blocks

pub returns-clause-service : goal.returns-clause-service
returns-clause-service c = service_keeps_blocks
