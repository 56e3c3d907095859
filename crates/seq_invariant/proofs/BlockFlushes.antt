-- The turns of a flush keep what the hand knows.
use Rattle.std.proofs.Common.{◌≡◌, ◌≢◌, ℕ, ◌+◌, ◌-◌, ◌<◌, ◌≤◌, Bool, true, false, if◌then◌else◌, ◌==◌, nat_le, List, [], drop, length, sym, ◌∙◌, subst, arith}
use Rattle.std.proofs.lemmas.Bool.{cond_both, leb-true, leb-false, eqb-true, eqb-false, false≢true, true≢false}
use Rattle.std.proofs.lemmas.List.{at_drop_all}
use Rattle.seq_words.specs.declared.description.MachineDesc.{MachineDesc}
use Rattle.seq_layout.specs.Shapes.{Shape, shape_of}
use Rattle.seq_layout.specs.Copies.{Copies}
use Rattle.seq_process.specs.declared.running.Running.{Running}
use Rattle.seq_cache.specs.Changes.{Changes}
use Rattle.seq_cache.specs.declared.change.Change.{Change}
use Rattle.seq_status.specs.Words.{word_of}
use Rattle.seq_status.specs.declared.status.Status.TheVariants.{Pass1, Pass2}
use Rattle.seq_flush.specs.declared.flush.Flush.{Flush}
use Rattle.seq_flush.specs.declared.stages.Mark as mark_stage
use Rattle.seq_flush.specs.declared.stages.First as first_stage
use Rattle.seq_flush.specs.declared.stages.Second as second_stage
use Rattle.seq_flush.specs.Turns.{units, unit_at, unit_written, into_stage}
use Rattle.seq_flush.specs.Facts.{all_written}
use Rattle.seq_flush.proofs.Numbered.{length_units}
use Rattle.seq_kernel.specs.declared.outcomes.Cause.{Cause}
use Rattle.seq_image.specs.Areas.{in_area, CopyHolds}
use Rattle.seq_image.proofs.Writing.{writing_lays_over}
use Rattle.seq_turns.specs.declared.hand.Hand.TheVariants as hand
use Rattle.seq_turns.specs.declared.hand.FlushAt.{FlushAt}
use Rattle.seq_turns.specs.declared.hand.FlushAt.TheVariants as flush
use Rattle.seq_turns.specs.Machines.{Machine, copies_after}
use Rattle.seq_turns.specs.Reading.{write_word}
use Rattle.seq_turns.specs.Operations.{goes, says, puts, unit_count, mark_move, second_move}
use Rattle.seq_invariant.specs.BlockAreas.{segments_of}
use Rattle.seq_invariant.specs.BlockWorks.{Committed, committed_blocks, with_commit}
use Rattle.seq_invariant.specs.BlockHands.{Marks, FirstPass, SecondPass, FlushKnows, HandKnows}
use Rattle.seq_invariant.specs.BlockTurns.{AfterMove}
use Rattle.seq_invariant.proofs.BlockCopies.{written_is, left_less, all_none, word_same, same_keeps, other_kind, holds_kept}
use Rattle.seq_invariant.proofs.BlockStays.{flush_kept}
use Rattle.seq_invariant.proofs.Units.{all_to_come, one_less_to_come, changes_committed}

module _ (d : MachineDesc) (at : Committed) (m : Machine) (p : ℕ) (r : Running) (why : Cause) (mask : ℕ) where
  abbrev segments : ℕ → Bool
  segments = segments_of d (hand.Flushing r why mask (flush.Mark (record { pid = r.pid; holder = record { pe = record { 0 = 0 }; incarnation = 0 }; context = []; cursor = 0; stage = record {} })))

  abbrev c : Changes
  c = m.cache p

  abbrev area : ℕ → Bool
  area = in_area d r.pid.0 segments

  abbrev s : Shape
  s = shape_of d

  -- a copy of a word is written
  after_word : (e n : ℕ) (shadow : Bool) (w : ℕ) (f : FlushAt) → FlushKnows d at segments m.copies c r f → FlushKnows d at segments (copies_after (write_word d m.copies e n shadow w) m.copies) c r f
  after_word e n shadow w f k =
      let same = word_same d m.copies e n shadow w in
      let q = copies_after (write_word d m.copies e n shadow w) m.copies in
      flush_kept d at m.copies q c segments r (record { primaries = same_keeps s m.copies q false area same; shadows = same_keeps s m.copies q true area same }) f k

  -- the first pass begins
  begins : (q : Copies) (us : List Change) → Marks d at segments q c r us → FirstPass d at segments q c r us 0
  begins q us k = record {
    works = k.works;
    make = k.make;
    primaries = writing_lays_over s q false area us (committed_blocks d at) (committed_blocks d (with_commit at r.pid.0 k.works.ahead.state)) k.make.units.apart k.both.primaries k.make.blocks;
    shadows = k.both.shadows;
    to_come = all_to_come d r.pid.0 segments us k.make.units at q k.both;
  }

  pub mark_knows : (f : Flush mark_stage.Mark) → HandKnows d at m.copies c (hand.Flushing r why mask (flush.Mark f)) → AfterMove d at m (mark_move d m p r why mask f)
  mark_knows f k = cond_both (f.cursor == 0) _ _ (AfterMove d at m)
      (λ _. (after_word f.pid.0 0 false (word_of (Pass1 f.holder)) (flush.Mark f) k.0, k.1))
      (λ _. (begins (copies_after (says d m f true (word_of (Pass1 f.holder))) m.copies) (units f c.changes) (after_word f.pid.0 0 true (word_of (Pass1 f.holder)) (flush.Mark f) k.0), k.1))

  -- a unit is written to its primary
  one_more_first : (us : List Change) (k : ℕ) → k < length us → FirstPass d at segments m.copies c r us k → FirstPass d at segments (unit_written s m.copies false (unit_at us k)) c r us (k + 1)
  one_more_first us k lt h =
      let u = unit_at us k in
      record {
        works = h.works;
        make = h.make;
        primaries = subst (λ q. CopyHolds s q false area (committed_blocks d (with_commit at r.pid.0 h.works.ahead.state))) (left_less s m.copies false us k lt) h.primaries;
        shadows = holds_kept s m.copies (unit_written s m.copies false u) true area (committed_blocks d at) (other_kind s m.copies u.extent.0 u.place false u.block true area true≢false) h.shadows;
        to_come = one_less_to_come d r.pid.0 segments us h.make.units at m.copies k lt h.to_come;
      }

  pub first_knows : (f : Flush first_stage.First) → nat_le (unit_count m p f) f.cursor ≡ false → HandKnows d at m.copies c (hand.Flushing r why mask (flush.First f)) → AfterMove d at m (goes m p (puts d m p f false f.cursor) (hand.Flushing r why mask (flush.First (record f { cursor = f.cursor + 1 }))))
  first_knows f more k =
      let us = units f c.changes in
      let u = unit_at us f.cursor in
      let lt : f.cursor < length us = leb-false (length us) f.cursor more in
      (subst (λ q. FirstPass d at segments q c r us (f.cursor + 1)) (sym (written_is d m.copies u.extent.0 u.place false u.block)) (one_more_first us f.cursor lt k.0), k.1)

  -- a unit is written to its shadow
  one_more_second : (us : List Change) (k : ℕ) → k < length us → (o : ℕ) → o ≡ k + 1 → SecondPass d at segments m.copies c r us o →
      (CopyHolds s (unit_written s m.copies true (unit_at us k)) false area (committed_blocks d at)) × (CopyHolds s (all_written s (unit_written s m.copies true (unit_at us k)) true (drop (k + 1) us)) true area (committed_blocks d at))
  one_more_second us k lt o e h =
      let u = unit_at us k in
      let number : o - 1 ≡ k = omega (arith, e) in (
        holds_kept s m.copies (unit_written s m.copies true u) false area (committed_blocks d at) (other_kind s m.copies u.extent.0 u.place true u.block false area false≢true) h.primaries,
        subst (λ q. CopyHolds s q true area (committed_blocks d at)) (left_less s m.copies true us k lt) (subst (λ n. CopyHolds s (all_written s m.copies true (drop n us)) true area (committed_blocks d at)) number h.shadows),
      )

  second_word : (f : Flush second_stage.Second) → f.cursor ≡ 0 → SecondPass d at segments m.copies c r (units f c.changes) f.cursor → SecondPass d at segments m.copies c r (units f c.changes) 1
  second_word f z k = record {
    rested = k.rested;
    units = k.units;
    number = omega (arith, length_units f.pid.0 f.context c.changes);
    primaries = k.primaries;
    shadows = subst (λ n. CopyHolds s (all_written s m.copies true (drop (n - 1) (units f c.changes))) true area (committed_blocks d at)) z k.shadows;
    cached = k.cached;
  }

  second_unit : (f : Flush second_stage.Second) → f.cursor ≢ 0 → SecondPass d at segments m.copies c r (units f c.changes) f.cursor →
      FlushKnows d at segments (unit_written s m.copies true (unit_at (units f c.changes) (f.cursor - 1))) c r (if nat_le (unit_count m p f) f.cursor then flush.Close (into_stage f (record {})) else flush.Second (record f { cursor = f.cursor + 1 }))
  second_unit f ne k =
      let us = units f c.changes in
      let i = f.cursor - 1 in
      let q = unit_written s m.copies true (unit_at us i) in
      let number : f.cursor ≡ i + 1 = omega (arith, ne) in
      let lt : i < length us = omega (arith, ne, k.number) in
      let next = one_more_second us i lt f.cursor number k in
      cond_both (nat_le (unit_count m p f) f.cursor) (flush.Close (into_stage f (record {}))) (flush.Second (record f { cursor = f.cursor + 1 })) (FlushKnows d at segments q c r)
      (λ done.
      let all : length us ≤ i + 1 = omega (arith, leb-true (length us) f.cursor done, number) in
      record {
        rested = k.rested;
        both = record { primaries = next.0; shadows = subst (λ x. CopyHolds s x true area (committed_blocks d at)) (at_drop_all (all_written s q true) us (i + 1) all ∙ all_none s q true) next.1 };
        cached = changes_committed area f.pid.0 f.context c.changes (committed_blocks d at) k.cached;
      })
      (λ more. record {
        rested = k.rested;
        units = k.units;
        number = omega (arith, leb-false (length us) f.cursor more);
        primaries = next.0;
        shadows = subst (λ n. CopyHolds s (all_written s q true (drop n us)) true area (committed_blocks d at)) (let e : i + 1 ≡ f.cursor + 1 - 1 = omega (arith, number) in e) next.1;
        cached = k.cached;
      })

  pub second_knows : (f : Flush second_stage.Second) → HandKnows d at m.copies c (hand.Flushing r why mask (flush.Second f)) → AfterMove d at m (second_move d m p r why mask f)
  second_knows f k = cond_both (f.cursor == 0) _ _ (AfterMove d at m)
      (λ z. (after_word f.pid.0 0 true (word_of (Pass2 f.holder)) (flush.Second (record f { cursor = 1 })) (second_word f (eqb-true f.cursor 0 z) k.0), k.1))
      (λ ne.
      let u = unit_at (units f c.changes) (f.cursor - 1) in (
        subst (λ q. FlushKnows d at segments q c r (if nat_le (unit_count m p f) f.cursor then flush.Close (into_stage f (record {})) else flush.Second (record f { cursor = f.cursor + 1 })))
            (sym (written_is d m.copies u.extent.0 u.place true u.block)) (second_unit f (eqb-false f.cursor 0 ne) k.0),
        k.1,
      ))
