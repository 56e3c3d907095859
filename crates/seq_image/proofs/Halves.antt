-- A strike leaves a process ahead.
use Rattle.seq_kernel.proofs.Halves.{strikes_leave_what_is_shown}
use Rattle.seq_kernel.proofs.KeptRunning.{strikes_keep_bounds}
use Rattle.seq_image.specs.Ahead.{over_image, StrikesLeaveAhead}

pub strikes_leave_ahead : StrikesLeaveAhead
strikes_leave_ahead d inputs f commits segments r c half reg mask agree other ahead =
    let may = ahead.flush in
    let left = strikes_leave_what_is_shown d r half reg mask agree other in (
      record {
        state = ahead.state;
        steps = ahead.steps;
        flush = record {
          within = (strikes_keep_bounds d r half reg mask other).0 may.within;
          unused = record { reads = may.unused.reads; writes = may.unused.writes };
          flat = may.flat;
          shows = left.shows ahead.state (over_image d f commits c) may.shows;
          bytes = may.bytes;
          inside = may.inside;
        };
        among = ahead.among;
        cache = ahead.cache;
        counts = ahead.counts;
      },
      left.agree,
    )
