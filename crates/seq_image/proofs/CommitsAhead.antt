-- A flush commits the steps of a process that is ahead.
use Rattle.std.proofs.Common.{◌≡◌, ℕ, ◌+◌, ◌<◌, Bool, List, length, arith, refl, sym, ◌∙◌, ap}
use Rattle.std.proofs.lemmas.List.Elements.{All-nil}
use Rattle.seq_words.specs.Description.{IsDescription}
use Rattle.seq_words.specs.declared.block.Block.{Block}
use Rattle.seq_words.specs.declared.description.MachineDesc.{MachineDesc}
use Rattle.seq_flat.specs.declared.inputs.LineInput.{LineInput}
use Rattle.seq_flat.specs.declared.state.FlatState.{FlatState}
use Rattle.seq_flat.specs.State.{segment_at}
use Rattle.seq_layout.specs.Shapes.{shape_of, segment_extent}
use Rattle.seq_process.specs.declared.running.Running.{Running}
use Rattle.seq_cache.specs.Changes.{Changes, IsCache}
use Rattle.seq_kernel.specs.Views.{Blocks}
use Rattle.seq_kernel.specs.Bounds.{IsWithin, LeavesUnused}
use Rattle.seq_kernel.specs.Kept.{IsOwn}
use Rattle.seq_kernel.specs.Shown.{HoldBytes, Shows}
use Rattle.seq_image.specs.Images.{image}
use Rattle.seq_flat.specs.Reached.{IsReached}
use Rattle.seq_image.specs.Flushing.{IsInside, MayFlush}
use Rattle.seq_image.specs.Starting.{TakesUp}
use Rattle.seq_image.proofs.FlushedUnits.{passes_make_image}
use Rattle.seq_image.proofs.TakenUp.{image_is_taken_up}
use Rattle.seq_image.proofs.WholeImages.{image_is_whole}
use Rattle.seq_image.specs.Ahead.{over_image, IsAhead, AheadMakesImage, checkpointed, emptied, CommitsStayAhead, AreaMayShrink, RunsAgain}
use Rattle.seq_image.proofs.Depends.{hold_alike}
use Rattle.seq_image.proofs.ImageBytes.{segment_bytes}
use Rattle.seq_image.proofs.Layers.{nothing_over, no_steps}

pub ahead_makes_image : AheadMakesImage
ahead_makes_image d inputs f commits commits' segments p shadow r c ahead described agree one_more held =
    passes_make_image d f ahead.state commits commits' segments (over_image d f commits c) p shadow r c described ahead.cache ahead.flush agree (one_more ∙ ap (λ n. n + 1) (sym ahead.counts)) (record { each = λ e n inside. refl }) held

empty_cache : (c : Changes) → IsCache c → IsCache (emptied c)
empty_cache c is = record { ascending = record { pairs = λ i j x lt inside. absurd (omega arith) }; fits = omega arith; small = is.small }

module _ (d : MachineDesc) (inputs : List LineInput) (f : FlatState) (commits commits' : ℕ → ℕ) (segments : ℕ → Bool) (r : Running) (c : Changes) (ahead : IsAhead d inputs f commits segments r c)
    (described : IsDescription d) (reached : IsReached d ahead.state) (one_more : commits' r.pid.0 ≡ commits r.pid.0 + 1) where
  abbrev g : FlatState
  g = ahead.state

  abbrev o : Blocks
  o = over_image d g commits' (emptied c)

  abbrev may : MayFlush d g segments (over_image d f commits c) r c
  may = ahead.flush

  whole : (e n : ℕ) → length (o e n).bytes ≡ 32
  whole e n = ap (λ (b : Block). length b.bytes) (nothing_over (image d g commits') e n) ∙ image_is_whole d g commits' e n

  takes : TakesUp d g o r.pid.0 (commits' r.pid.0)
  takes = image_is_taken_up d g commits' o r.pid.0 described reached may.within.process whole (record { each = λ e n inside. nothing_over (image d g commits') e n })

  bytes_there : (t : ℕ) → t < length d.segments → HoldBytes o (segment_extent (shape_of d) t) 0 (segment_at g t).bytes
  bytes_there t lt =
      hold_alike (image d g commits') o (segment_extent (shape_of d) t) 0 (segment_at g t).bytes (λ n. sym (nothing_over (image d g commits') (segment_extent (shape_of d) t) n))
      (segment_bytes d g commits' t described lt (reached.flat.segment_sizes t lt))

  shown : Shows d g o (checkpointed r)
  shown = record {
    whole = whole;
    registers = may.shows.registers;
    end = may.shows.end;
    private = takes.shows.private;
    segment = λ t lt. record { held = (may.shows.segment t lt).held; bytes = λ on. bytes_there t lt };
    line = λ l own. record { read = (may.shows.line l own).read; written = (may.shows.line l own).written; outbox = (takes.shows.line l own).outbox };
  }

  within : IsWithin d (checkpointed r)
  within =
      let is = may.within in
      record {
        process = is.process;
        aligned = is.aligned;
        held = is.held;
        positions = record { reads = is.positions.reads; writes = is.positions.writes };
        reads = is.reads;
        writes = is.writes;
        steps = omega arith;
        used = is.used;
      }

  unused : LeavesUnused d (checkpointed r)
  unused = record { reads = may.unused.reads; writes = may.unused.writes }

  committed : IsAhead d inputs g commits' segments (checkpointed r) (emptied c)
  committed = record {
    state = g;
    steps = no_steps d inputs r.pid.0 g;
    flush = record { within = within; unused = unused; flat = reached.flat; shows = shown; bytes = λ t lt inside. bytes_there t lt; inside = All-nil (IsInside d r.pid.0 segments) };
    among = ahead.among;
    cache = empty_cache c ahead.cache;
    counts = ap (λ n. n + 1) ahead.counts ∙ sym one_more;
  }

pub commits_stay_ahead : CommitsStayAhead
commits_stay_ahead d inputs f commits commits' segments r c ahead described reached one_more = committed d inputs f commits commits' segments r c ahead described reached one_more

pub area_may_shrink : AreaMayShrink
area_may_shrink d inputs f commits segments less r c smaller among ahead =
    let may = ahead.flush in
    record {
      state = ahead.state;
      steps = ahead.steps;
      flush = record { within = may.within; unused = may.unused; flat = may.flat; shows = may.shows; bytes = λ t lt inside. may.bytes t lt (smaller t inside); inside = All-nil (IsInside d r.pid.0 less) };
      among = among;
      cache = ahead.cache;
      counts = ahead.counts;
    }

pub runs_again : RunsAgain
runs_again d inputs f commits segments r c lives left held ahead = record {
  ahead = ahead;
  running = record { within = ahead.flush.within; live = lives; left = left };
  own = All-nil (IsOwn d r.pid.0 r.held);
  held = held;
}
