-- The worked run comes out as it is stated.
use Rattle.std.proofs.Common.{refl}
use Rattle.seq_words.specs.Blocks.{zero_block}
use Rattle.seq_isa.specs.Meaning.{number_at, gives, outcome_of}
use Rattle.seq_isa.specs.Decoded.{decode_of, immediate_of, system_of}
use Rattle.seq_flat.specs.Memory.{bytes_from}
use Rattle.seq_segments.specs.Map.{mapped}
use Rattle.seq_cache.specs.Changes.{changed, put}
use Rattle.seq_cache.specs.Overlay.{overlay}
use Rattle.seq_layout.specs.Shapes.{owner_from}
use Rattle.seq_layout.specs.Contexts.{block_from, blocks_of, context_blocks}
use Rattle.seq_flush.specs.Turns.{no_change}
use Rattle.seq_flush.specs.Units.{units_of}
use Rattle.seq_kernel.specs.Views.{seen, admission}
use Rattle.seq_kernel.specs.Outboxes.{touched, is_touched, blocks_filled, filled_block}
use Rattle.seq_kernel.specs.Calls.{call_of, numbered, write}
use Rattle.seq_kernel.specs.Steps.{step_of}
use Rattle.seq_ruling.specs.Lowest.{lowest}
use Rattle.seq_turns.specs.Functions.{update, update_copy}
use Rattle.seq_turns.specs.Reading.{context_of}
use Rattle.seq_turns.specs.Causes.{agree}
use Rattle.seq_turns.specs.Hello.{HelloRuns, HelloIsDone}

pub hello_runs : HelloRuns
unfolding update update_copy lowest context_of zero_block step_of seen admission overlay mapped changed put agree number_at decode_of immediate_of system_of outcome_of gives bytes_from units_of context_blocks blocks_of block_from no_change call_of numbered write touched is_touched blocks_filled filled_block owner_from lib.Count.ones
hello_runs = record { claim = refl; steps = refl; mark = refl; first = refl; commit = refl; second = refl; close = refl; release = refl }

pub hello_is_done : HelloIsDone
unfolding update update_copy lowest context_of zero_block step_of seen admission overlay mapped changed put agree number_at decode_of immediate_of system_of outcome_of gives bytes_from units_of context_blocks blocks_of block_from no_change call_of numbered write touched is_touched blocks_filled filled_block owner_from lib.Count.ones
hello_is_done = record { seeks = refl; history = refl; looked = refl; sent = refl; told = refl; line = refl }
