-- The commit of a flush: what was to be committed is committed.
use Rattle.std.proofs.Common.{◌≡◌, ℕ, ◌+◌, ◌≤◌, Bool, true, false, nat_le, List, drop, length, refl, sym, ◌∙◌, subst, arith, eq-eqb}
use Rattle.std.proofs.lemmas.Bool.{leb-true, cond-true}
use Rattle.std.proofs.lemmas.List.{at_drop_all}
use Rattle.seq_words.specs.Description.{IsDescription}
use Rattle.seq_words.specs.declared.description.MachineDesc.{MachineDesc}
use Rattle.seq_layout.specs.Shapes.{shape_of}
use Rattle.seq_layout.specs.Copies.{Copies}
use Rattle.seq_process.specs.declared.running.Running.{Running}
use Rattle.seq_cache.specs.Changes.{Changes}
use Rattle.seq_cache.specs.declared.change.Change.{Change}
use Rattle.seq_status.specs.Words.{word_of}
use Rattle.seq_status.specs.declared.status.Status.TheVariants.{Pass2}
use Rattle.seq_flush.specs.declared.flush.Flush.{Flush}
use Rattle.seq_flush.specs.declared.stages.First as first_stage
use Rattle.seq_flush.specs.Turns.{units, into_stage}
use Rattle.seq_flush.specs.Facts.{all_written}
use Rattle.seq_kernel.specs.declared.outcomes.Cause.{Cause}
use Rattle.seq_runs.specs.Ahead as alone
use Rattle.seq_runs.proofs.Ahead.{starts_ahead}
use Rattle.seq_image.specs.Areas.{in_area, CopyHolds}
use Rattle.seq_flat.specs.Reached.{IsReached}
use Rattle.seq_image.proofs.Writing.{writing_lays_over}
use Rattle.seq_image.specs.Ahead.{IsAhead, emptied}
use Rattle.seq_image.proofs.CommitsAhead.{commits_stay_ahead}
use Rattle.seq_turns.specs.declared.hand.Hand.TheVariants as hand
use Rattle.seq_turns.specs.declared.hand.FlushAt.TheVariants as flush
use Rattle.seq_turns.specs.Machines.{Machine, copies_after}
use Rattle.seq_turns.specs.Operations.{says, unit_count, committed}
use Rattle.seq_invariant.specs.BlockAreas.{segments_of}
use Rattle.seq_invariant.specs.BlockWorks.{Committed, committed_blocks, with_commit, one_more, Works, Rested}
use Rattle.seq_invariant.specs.BlockHands.{FirstPass, SecondPass, HandKnows}
use Rattle.seq_invariant.proofs.BlockCopies.{all_none, word_same, same_keeps}
use Rattle.seq_invariant.proofs.BlockStays.{flush_kept}
use Rattle.seq_invariant.proofs.BlockShrinks.{some_same}
use Rattle.seq_invariant.proofs.Units.{made_committed}

pub one_more_here : (q : ℕ) (commits : ℕ → ℕ) → one_more q commits q ≡ commits q + 1
one_more_here q commits = cond-true _ _ _ (eq-eqb q q refl)

-- the process has no uncommitted step then, and no changes
pub committed_rests : (d : MachineDesc) (at : Committed) (segments : ℕ → Bool) (r : Running) (c : Changes) → IsDescription d → (works : Works d at segments r c) → Rested d (with_commit at r.pid.0 works.ahead.state) segments (committed r) c
committed_rests d at segments r c described works =
    let g = works.ahead.state in
    let commits = one_more r.pid.0 at.commits in
    let now : IsAhead d at.inputs g commits segments (committed r) (emptied c) =
    commits_stay_ahead d at.inputs at.state at.commits commits segments r c works.ahead described works.reached (one_more_here r.pid.0 at.commits) in
    let alone0 : alone.IsAhead d at.inputs segments r.pid.0 0 g g = starts_ahead d at.inputs segments r.pid.0 g (works.alone.within r.steps g (let e : r.steps ≤ r.steps = omega arith in e) works.alone.leads) in
    let same : g ≡ now.state = some_same (sym alone0.leads ∙ now.steps) in
    record {
      works = record {
        ahead = now;
        alone = subst (λ x. alone.IsAhead d at.inputs segments r.pid.0 0 g x) same alone0;
        reached = subst (IsReached d) same works.reached;
        equal = works.equal;
      };
      none = refl;
    }

-- with nothing left of the first pass, the second is to come
pub second_begins : (d : MachineDesc) (at : Committed) (segments : ℕ → Bool) (p : Copies) (c : Changes) (r : Running) (us : List Change) (cursor : ℕ) → IsDescription d → length us ≤ cursor → (h : FirstPass d at segments p c r us cursor) →
    SecondPass d (with_commit at r.pid.0 h.works.ahead.state) segments p c (committed r) us 0
second_begins d at segments p c r us cursor described done h =
    let next = with_commit at r.pid.0 h.works.ahead.state in
    let area = in_area d r.pid.0 segments in
    let nothing : all_written (shape_of d) p false (drop cursor us) ≡ p = at_drop_all (all_written (shape_of d) p false) us cursor done ∙ all_none (shape_of d) p false in
    record {
      rested = committed_rests d at segments r c described h.works;
      units = h.make.units;
      number = omega arith;
      primaries = subst (λ q. CopyHolds (shape_of d) q false area (committed_blocks d next)) nothing h.primaries;
      shadows = writing_lays_over (shape_of d) p true area us (committed_blocks d at) (committed_blocks d next) h.make.units.apart h.shadows h.make.blocks;
      cached = made_committed area us (committed_blocks d at) (committed_blocks d next) h.make.blocks;
    }

module _ (d : MachineDesc) (described : IsDescription d) (at : Committed) (m : Machine) (p : ℕ) (r : Running) (why : Cause) (mask : ℕ) (f : Flush first_stage.First) where
  pub commit_knows : nat_le (unit_count m p f) f.cursor ≡ true → (k : HandKnows d at m.copies (m.cache p) (hand.Flushing r why mask (flush.First f))) →
      HandKnows d (with_commit at r.pid.0 k.0.works.ahead.state) (copies_after (says d m f false (word_of (Pass2 f.holder))) m.copies) (m.cache p) (hand.Flushing (committed r) why mask (flush.Second (into_stage f (record {}))))
  commit_knows done k =
      let us = units f (m.cache p).changes in
      let segments = segments_of d (hand.Flushing r why mask (flush.First f)) in
      let area = in_area d r.pid.0 segments in
      let next = with_commit at r.pid.0 k.0.works.ahead.state in
      let q = copies_after (says d m f false (word_of (Pass2 f.holder))) m.copies in
      let same = word_same d m.copies f.pid.0 0 false (word_of (Pass2 f.holder)) in
      let second : SecondPass d next segments m.copies (m.cache p) (committed r) us 0 = second_begins d at segments m.copies (m.cache p) r us f.cursor described (leb-true (length us) f.cursor done) k.0 in (
        flush_kept d next m.copies q (m.cache p) segments (committed r) (record { primaries = same_keeps (shape_of d) m.copies q false area same; shadows = same_keeps (shape_of d) m.copies q true area same }) (flush.Second (into_stage f (record {}))) second,
        record { lives = k.1.lives; given = k.1.given },
      )
