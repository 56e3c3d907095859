-- A claim whose lock is held keeps a process ahead.
use Rattle.std.proofs.Common.{◌≡◌, ℕ, ◌+◌, ◌^◌, ◌<◌, Bool, true, false, ◌==◌, ◌||◌, List, length, None, Option, unwrap_or, inl, inr, arith, refl, sym, ◌∙◌, ap, subst}
use Rattle.std.proofs.lemmas.Bool.{cases_eq, eq-eqb, ne_eqb, false≢true}
use Rattle.seq_words.specs.Masks.{has_bit}
use Rattle.seq_words.specs.Description.{IsDescription, segment_of}
use Rattle.seq_words.specs.declared.block.Block.{Block}
use Rattle.seq_words.specs.declared.description.MachineDesc.{MachineDesc}
use Rattle.seq_flat.specs.declared.inputs.LineInput.{LineInput}
use Rattle.seq_flat.specs.declared.state.FlatState.{FlatState}
use Rattle.seq_flat.specs.declared.state.SegmentState.{SegmentState}
use Rattle.seq_flat.specs.State.{segment_at}
use Rattle.seq_layout.specs.Shapes.{shape_of, segment_extent}
use Rattle.seq_process.specs.declared.running.Running.{Running}
use Rattle.seq_cache.specs.Changes.{Changes, changed}
use Rattle.seq_kernel.specs.Calls.{granted}
use Rattle.seq_kernel.specs.Kept.{IsOwn, KeepsGrant}
use Rattle.seq_kernel.specs.Shown.{HoldBytes, Shows}
use Rattle.seq_kernel.specs.Refinement.{TakesStep, AsksFor}
use Rattle.seq_kernel.proofs.KeptRunning.{grants_keep_bounds}
use Rattle.seq_kernel.proofs.RefineCallsBits.{bit_on_here, bit_on_other}
use Rattle.seq_kernel.proofs.RefineCallsGrants.{grants_are_flat}
use Rattle.seq_image.specs.Images.{image}
use Rattle.seq_image.specs.Areas.{AreAlike, in_area}
use Rattle.seq_image.specs.Flushing.{MayFlush}
use Rattle.seq_image.proofs.Areas.{alike_sym, alike_less, area_cases, process_in_area, segment_in_area}
use Rattle.seq_image.proofs.Units.{changed_none}
use Rattle.seq_image.specs.Depends.{HoldsAmong}
use Rattle.seq_image.specs.Ahead.{over_image, and_segment, IsAhead, RunsAhead, GrantsStayAhead}
use Rattle.seq_image.proofs.Depends.{hold_alike, shown_by_the_area}
use Rattle.seq_image.proofs.ImageBytes.{segment_bytes}
use Rattle.seq_image.proofs.Layers.{one_more_step, all_inside}

either_more : (a b : Bool) → a ≡ true → (a || b) ≡ true
either_more true b on = refl
either_more false b on = absurd (false≢true on)

module _ (d : MachineDesc) (inputs : List LineInput) (f : FlatState) (commits : ℕ → ℕ) (segments : ℕ → Bool) (r : Running) (c : Changes) (t : ℕ) (runs : RunsAhead d inputs f commits segments r c)
    (described : IsDescription d) (asks : AsksFor d runs.ahead.state r t)
    (untouched : segment_at runs.ahead.state t ≡ segment_at f t) (free : (segment_at f t).owner ≡ None) where
  abbrev g : FlatState
  g = runs.ahead.state

  abbrev may : MayFlush d g segments (over_image d f commits c) r c
  may = runs.ahead.flush

  abbrev more : ℕ → Bool
  more = and_segment segments t

  abbrev q : ℕ
  q = r.pid.0

  there : q < length d.processes
  there = may.within.process

  -- no change is of the segment, so its bytes are those of the image
  none_changed : (n : ℕ) → changed c.changes (length d.processes + t) n ≡ None
  none_changed n = changed_none (IsOwn d q r.held) c.changes (length d.processes + t) n runs.own (λ u is extent place. elim is.owned [
    | inl (same, past) ↦ omega (arith, there, sym extent ∙ same)
    | inr (v, on, at) ↦
        let number : v ≡ t = omega (arith, sym extent ∙ at) in
        false≢true (sym asks.free ∙ ap (has_bit r.held) (sym number) ∙ on)
  ])

  over_is : (n : ℕ) → image d f commits (length d.processes + t) n ≡ over_image d f commits c (length d.processes + t) n
  over_is n = sym (ap (λ (x : Option Block). unwrap_or x (image d f commits (length d.processes + t) n)) (none_changed n))

  size : length (segment_at f t).bytes ≡ (segment_of d t).size
  size = ap (λ (s : SegmentState). length s.bytes) (sym untouched) ∙ may.flat.segment_sizes t asks.known

  bytes_over : HoldBytes (over_image d f commits c) (segment_extent (shape_of d) t) 0 (segment_at g t).bytes
  bytes_over =
      subst (λ (s : SegmentState). HoldBytes (over_image d f commits c) (segment_extent (shape_of d) t) 0 s.bytes) (sym untouched)
      (hold_alike (image d f commits) (over_image d f commits c) (segment_extent (shape_of d) t) 0 (segment_at f t).bytes over_is (segment_bytes d f commits t described asks.known size))

  taken : TakesStep d inputs g r (over_image d f commits c) (granted r t)
  taken = grants_are_flat d inputs g (over_image d f commits c) r t runs.running may.flat may.shows asks (ap (λ (s : SegmentState). s.owner) untouched ∙ free) bytes_over

  abbrev h : FlatState
  h = taken.state

  kept : KeepsGrant d r t
  kept = grants_keep_bounds d r t runs.running asks.known asks.free

  -- it holds the segments of the larger area
  held_more : (u : ℕ) → u < length d.segments → more u ≡ has_bit (granted r t).held u
  held_more u lt = elim (cases_eq u t) [
    | inl same ↦ or_true (segments u) (u == t) (eq-eqb u t same) ∙ sym (ap (has_bit (r.held + 2 ^ t)) same ∙ bit_on_here r.held t asks.free)
    | inr other ↦ or_false (segments u) (u == t) (ne_eqb u t other) ∙ runs.held u lt ∙ sym (bit_on_other r.held t u other asks.free)
  ]
    where
      or_true : (a b : Bool) → b ≡ true → (a || b) ≡ true
      or_true true b on = refl
      or_true false b on = on

      or_false : (a b : Bool) → b ≡ false → (a || b) ≡ a
      or_false true b off = refl
      or_false false b off = off

  among_more : HoldsAmong (granted r t) more
  among_more u on = held_more u (kept.within.held u on) ∙ on

  ahead : IsAhead d inputs f commits more (granted r t) c
  ahead = record {
    state = h;
    steps = one_more_step d inputs q r.steps f g h runs.ahead.steps taken.step;
    flush = record {
      within = kept.within;
      unused = record { reads = may.unused.reads; writes = may.unused.writes };
      flat = taken.flat;
      shows = taken.shows;
      bytes = λ u lt inside. (taken.shows.segment u lt).bytes (sym (held_more u lt) ∙ inside);
      inside = all_inside d q (granted r t).held more c.changes there (λ u on. (kept.within.held u on, among_more u on)) (kept.own c.changes runs.own);
    };
    among = among_more;
    cache = runs.ahead.cache;
    counts = runs.ahead.counts;
  }

  runs_on : r.used + 1 < d.quantum → RunsAhead d inputs f commits more (granted r t) c
  runs_on left = record { ahead = ahead; running = record { within = kept.within; live = runs.running.live; left = left }; own = kept.own c.changes runs.own; held = held_more }

pub grants_stay_ahead : GrantsStayAhead
grants_stay_ahead d inputs f commits segments r c t runs described asks untouched free =
    (ahead d inputs f commits segments r c t runs described asks untouched free, runs_on d inputs f commits segments r c t runs described asks untouched free)
