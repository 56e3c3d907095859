-- A process that is taken up runs ahead, and what others do leaves it ahead.
use Rattle.std.proofs.Common.{◌≡◌, ℕ, ◌<◌, [], length, refl, sym, ◌∙◌, ap, subst, ◌^◌, arith}
use Rattle.std.proofs.lemmas.List.Elements.{All-nil}
use Rattle.seq_words.specs.declared.block.Block.{Block}
use Rattle.seq_flat.specs.declared.state.SegmentState.{SegmentState}
use Rattle.seq_flat.specs.declared.state.End.TheVariants.{Live}
use Rattle.seq_flat.specs.declared.state.ProcessState.{ProcessState}
use Rattle.seq_flat.specs.State.{start, process_at, segment_at}
use Rattle.seq_layout.specs.Shapes.{shape_of, segment_extent}
use Rattle.seq_cache.specs.Changes.{Changes}
use Rattle.seq_kernel.specs.Views.{Blocks}
use Rattle.seq_kernel.specs.Kept.{IsOwn}
use Rattle.seq_kernel.specs.Shown.{HoldBytes}
use Rattle.seq_image.specs.Images.{image}
use Rattle.seq_image.specs.Areas.{AreAlike, in_area, owned_by}
use Rattle.seq_image.specs.Flushing.{IsInside}
use Rattle.seq_image.specs.Starting.{taken_up, TakesUp}
use Rattle.seq_image.proofs.AreaImages.{image_is_of_the_area}
use Rattle.seq_image.specs.Begun.{no_commits}
use Rattle.seq_flat.proofs.ReachedStart.{start_is_reached}
use Rattle.seq_flat.proofs.ReachedStart.{start_process_is}
use Rattle.seq_image.proofs.TakenUp.{image_is_taken_up}
use Rattle.seq_image.proofs.WholeImages.{image_is_whole}
use Rattle.seq_image.specs.Depends.{AreWhole}
use Rattle.seq_image.specs.Ahead.{over_image, TakenUpRunsAhead, StartRunsAhead, OthersLeaveAhead, MoreInputLeavesAhead}
use Rattle.seq_image.proofs.Depends.{held_alike, shown_by_the_area, shows_all_that_agree}
use Rattle.seq_image.proofs.Layers.{whole_over, alike_under, nothing_over, no_steps, steps_with_more}

pub taken_up_runs_ahead : TakenUpRunsAhead
taken_up_runs_ahead d inputs f commits capacity q described reached there lives cache =
    let c : Changes = record { capacity = capacity; changes = [] } in
    let o : Blocks = over_image d f commits c in
    let r = taken_up d f q (commits q) in
    let whole : (e n : ℕ) → length (o e n).bytes ≡ 32 = λ e n. ap (λ (b : Block). length b.bytes) (nothing_over (image d f commits) e n) ∙ image_is_whole d f commits e n in
    let alike : AreAlike (in_area d q (owned_by f q)) o (image d f commits) = record { each = λ e n inside. nothing_over (image d f commits) e n } in
    let takes : TakesUp d f o q (commits q) = image_is_taken_up d f commits o q described reached there whole alike in
    record {
      ahead = record {
        state = f;
        steps = no_steps d inputs q f;
        flush = record {
          within = takes.within;
          unused = takes.unused;
          flat = reached.flat;
          shows = takes.shows;
          bytes = λ t lt owned. (takes.shows.segment t lt).bytes ((takes.shows.segment t lt).held ∙ owned);
          inside = All-nil (IsInside d q (owned_by f q));
        };
        among = λ t on. sym (takes.shows.segment t (takes.within.held t on)).held ∙ on;
        cache = cache;
        counts = refl;
      };
      running = takes.running lives;
      own = All-nil (IsOwn d q r.held);
      held = λ t lt. sym (takes.shows.segment t lt).held;
    }

pub others_leave_ahead : OthersLeaveAhead
others_leave_ahead d inputs f f' g' commits commits' segments r c ahead agree counts taken flat leads =
    let may = ahead.flush in
    let q : ℕ = r.pid.0 in
    let there : q < length d.processes = may.within.process in
    let alike : AreAlike (in_area d q segments) (over_image d f commits c) (over_image d f' commits' c) = alike_under (in_area d q segments) c.changes (image d f commits) (image d f' commits') (image_is_of_the_area d q segments f f' commits commits' there agree counts) in
    let whole : AreWhole (over_image d f' commits' c) = whole_over c.changes (image d f commits) (image d f' commits') (record { block = may.shows.whole }) (record { block = image_is_whole d f' commits' }) in
    record {
      state = g';
      steps = taken;
      flush = record {
        within = may.within;
        unused = may.unused;
        flat = flat;
        shows = shows_all_that_agree d ahead.state g' segments (over_image d f' commits' c) r there ahead.among leads
            (shown_by_the_area d ahead.state segments (over_image d f commits c) (over_image d f' commits' c) r there ahead.among whole alike may.shows);
        bytes = λ t lt inside.
            held_alike d segments r there ahead.among (over_image d f commits c) (over_image d f' commits' c) t (segment_at g' t).bytes lt inside alike
            (subst (λ (s : SegmentState). HoldBytes (over_image d f commits c) (segment_extent (shape_of d) t) 0 s.bytes) (leads.segment t inside) (may.bytes t lt inside));
        inside = may.inside;
      };
      among = ahead.among;
      cache = ahead.cache;
      counts = ahead.counts ∙ counts;
    }

pub more_input_leaves_ahead : MoreInputLeavesAhead
more_input_leaves_ahead d before now f commits segments r c more ahead = record {
  state = ahead.state;
  steps = steps_with_more d before now r.pid.0 r.steps f ahead.state more ahead.steps;
  flush = ahead.flush;
  among = ahead.among;
  cache = ahead.cache;
  counts = ahead.counts;
}

pub start_runs_ahead : StartRunsAhead
start_runs_ahead d inputs q described there =
    let live : (process_at (start d) q).end ≡ Live = ap (λ (x : ProcessState). x.end) (start_process_is d q there) in
    let small : d.cache < 2 ^ 16 = omega (arith, described.cache.high_at) in
    taken_up_runs_ahead d inputs (start d) no_commits d.cache q described (start_is_reached d described) there live
    (record { ascending = record { pairs = λ i j x lt inside. absurd (omega arith) }; fits = omega arith; small = small })
