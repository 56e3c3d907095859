-- All parts together, after every list of events.
use Rattle.seq_turns.specs.Events.{run}
use Rattle.seq_invariant.specs.Gives.{at_first}
use Rattle.seq_invariant.specs.Holds.{AllHolds}
use Rattle.seq_invariant.specs.Within.{HoldsWithin}
use Rattle.seq_invariant.specs.Moments.{RunsShow}
use Rattle.seq_invariant.proofs.Gives.{committed_is_flat_run}
use Rattle.seq_invariant.proofs.Within.{runs_hold_within}
use Rattle.seq_invariant.proofs.PartsMemories.{memories_serve, status_words_name}
use Rattle.seq_invariant.proofs.PartsFormat.{status_words_have_format}
use Rattle.seq_invariant.proofs.PartsLines.{lines_count}
use Rattle.seq_invariant.proofs.PartsLocks.{locks_name}
use Rattle.seq_invariant.proofs.PartsRunning.{running_is_ahead}
use Rattle.seq_invariant.proofs.PartsFlushes.{first_pass_holds, second_pass_holds}
use Rattle.seq_invariant.proofs.PartsFlushAreas.{flush_areas_agree}
use Rattle.seq_invariant.proofs.PartsResting.{resting_areas_hold}
use Rattle.seq_invariant.proofs.PartsLeft.{left_areas_hold}

pub runs_show : RunsShow
runs_show d es described ok =
    let within : HoldsWithin d es (run d es (at_first d)) = runs_hold_within d es described ok in
    let all : AllHolds d es (run d es (at_first d)) = within.all in
    record {
      committed = all.at.state;
      along = committed_is_flat_run d es (run d es (at_first d)) all;
      memories = memories_serve d es (run d es (at_first d)) described all;
      resting = resting_areas_hold d es (run d es (at_first d)) described all;
      first_pass = first_pass_holds d es (run d es (at_first d)) described all;
      second_pass = second_pass_holds d es (run d es (at_first d)) described all;
      areas = record { each = λ p r why mask x is. flush_areas_agree d es (run d es (at_first d)) p r why mask x described all is };
      left = left_areas_hold d es (run d es (at_first d)) described all;
      running = running_is_ahead d es (run d es (at_first d)) described all;
      locks = locks_name d es (run d es (at_first d)) described all;
      status_words = status_words_name d es (run d es (at_first d)) described all;
      format = status_words_have_format d es (run d es (at_first d)) within;
      lines = lines_count d es (run d es (at_first d)) described all;
    }
