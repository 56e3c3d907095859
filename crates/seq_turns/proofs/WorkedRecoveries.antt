-- The worked recoveries and the copying of a memory come out as they are stated.
use Rattle.std.proofs.Common.{refl}
use Rattle.seq_words.specs.Blocks.{zero_block}
use Rattle.seq_isa.specs.Meaning.{number_at, gives, outcome_of}
use Rattle.seq_isa.specs.Decoded.{decode_of, immediate_of, system_of}
use Rattle.seq_flat.specs.Memory.{bytes_from}
use Rattle.seq_segments.specs.Map.{mapped}
use Rattle.seq_cache.specs.Changes.{changed, put}
use Rattle.seq_cache.specs.Overlay.{overlay}
use Rattle.seq_layout.specs.Shapes.{owner_from}
use Rattle.seq_layout.specs.Units.{units_below}
use Rattle.seq_layout.specs.Contexts.{block_from, blocks_of, context_blocks}
use Rattle.seq_flush.specs.Turns.{no_change}
use Rattle.seq_flush.specs.Units.{units_of}
use Rattle.seq_kernel.specs.Views.{seen, admission}
use Rattle.seq_kernel.specs.Outboxes.{touched, is_touched, blocks_filled, filled_block}
use Rattle.seq_kernel.specs.Calls.{call_of, numbered, write}
use Rattle.seq_kernel.specs.Steps.{step_of}
use Rattle.seq_ruling.specs.Lowest.{lowest}
use Rattle.seq_turns.specs.Functions.{update, update_copy}
use Rattle.seq_turns.specs.Reading.{context_of}
use Rattle.seq_turns.specs.Causes.{agree}
use Rattle.seq_recover.specs.Reading.{recovered_blocks}
use Rattle.seq_turns.specs.WorkedRecoveries.{RecoveryGoesBack, RecoveryGoesForward, MemoryIsCopied}

pub recovery_goes_back : RecoveryGoesBack
unfolding update update_copy lowest context_of zero_block step_of seen admission overlay mapped changed put agree number_at decode_of immediate_of system_of outcome_of gives bytes_from units_of context_blocks blocks_of block_from no_change call_of numbered write touched is_touched blocks_filled filled_block owner_from lib.Count.ones recovered_blocks
recovery_goes_back = record { recovers = refl; seeks = refl; outbox = refl }

pub recovery_goes_forward : RecoveryGoesForward
unfolding update update_copy lowest context_of zero_block step_of seen admission overlay mapped changed put agree number_at decode_of immediate_of system_of outcome_of gives bytes_from units_of context_blocks blocks_of block_from no_change call_of numbered write touched is_touched blocks_filled filled_block owner_from lib.Count.ones recovered_blocks
recovery_goes_forward = record { recovers = refl; seeks = refl; outbox = refl }

pub memory_is_copied : MemoryIsCopied
unfolding update update_copy lowest zero_block units_below lib.Count.ones
memory_is_copied = record { down = refl; empty = refl; repaired = refl; copied = refl; amid = refl; in_service = refl; same = refl }
