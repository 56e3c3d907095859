-- What a flush writes is in its extents, and outside its passes these are at rest.
use Rattle.std.proofs.Common.{◌≡◌, ◌≢◌, ℕ, ◌-◌, ◌<◌, Bool, true, false, ◌==◌, nat_le, List, length, refl, arith}
use Rattle.std.proofs.lemmas.Bool.{cond_both, leb-false, eqb-false, false≢true}
use Rattle.seq_words.specs.declared.description.MachineDesc.{MachineDesc}
use Rattle.seq_layout.specs.Shapes.{shape_of}
use Rattle.seq_layout.specs.Copies.{Copies, serves}
use Rattle.seq_cache.specs.declared.change.Change.{Change}
use Rattle.seq_flush.specs.Turns.{unit_at, units}
use Rattle.seq_image.specs.Areas.{in_area}
use Rattle.seq_turns.specs.declared.hand.Hand.TheVariants as hand
use Rattle.seq_turns.specs.declared.hand.FlushAt.TheVariants as flush
use Rattle.seq_turns.specs.Machines.{Move}
use Rattle.seq_io.specs.Changes.Change.{Unchanged, To_block, To_word}
use Rattle.seq_turns.specs.Reading.{write_word, write_block}
use Rattle.seq_turns.specs.Operations.{unit_count}
use Rattle.seq_invariant.specs.BlockAreas.{hand_area, segments_of}
use Rattle.seq_invariant.specs.BlockWorks.{committed_blocks, AreUnits}
use Rattle.seq_invariant.specs.BlockFrame.{IsWithin, FlushesWriteInside, ExtentsRest}
use Rattle.seq_invariant.proofs.BlockStops.{both_rest}

module _ (d : MachineDesc) (area : ℕ → Bool) (p : Copies) where
  pub word_within : (e n : ℕ) (c : Bool) (w : ℕ) → IsWithin d area (write_word d p e n c w)
  word_within e n c w = cond_both (serves (shape_of d) p e c) (To_word e n c w) Unchanged (IsWithin d area) (λ _. tt) (λ _. tt)

-- a unit is in the area
unit_inside : (d : MachineDesc) (segments : ℕ → Bool) (q : ℕ) (us : List Change) (k : ℕ) → AreUnits d segments q us → k < length us → (b : Bool) → in_area d q segments (unit_at us k).extent.0 ≡ b → in_area d q segments (unit_at us k).extent.0 ≡ true
unit_inside d segments q us k are lt true is = is
unit_inside d segments q us k are lt false is = absurd ((are.avoid (unit_at us k).extent.0 is).each k lt refl)

unit_within : (d : MachineDesc) (segments : ℕ → Bool) (q : ℕ) (us : List Change) (p : Copies) (c : Bool) (k : ℕ) → AreUnits d segments q us → k < length us →
    IsWithin d (in_area d q segments) (write_block d p (unit_at us k).extent.0 (unit_at us k).place c (unit_at us k).block)
unit_within d segments q us p c k are lt =
    let u = unit_at us k in
    cond_both (serves (shape_of d) p u.extent.0 c) (To_block u.extent.0 u.place c u.block) Unchanged (IsWithin d (in_area d q segments))
    (λ _. (unit_inside d segments q us k are lt (in_area d q segments u.extent.0) refl, are.places k lt, are.whole k lt)) (λ _. tt)

pub flushes_write_inside : FlushesWriteInside
flushes_write_inside d at m p r why mask (flush.Mark f) k = cond_both (f.cursor == 0) _ _ (λ (move : Move). IsWithin d (hand_area d (hand.Flushing r why mask (flush.Mark f))) move.change)
    (λ _. word_within d _ m.copies f.pid.0 0 false _) (λ _. word_within d _ m.copies f.pid.0 0 true _)
flushes_write_inside d at m p r why mask (flush.First f) k = cond_both (nat_le (unit_count m p f) f.cursor) _ _ (λ (move : Move). IsWithin d (hand_area d (hand.Flushing r why mask (flush.First f))) move.change)
    (λ _. word_within d _ m.copies f.pid.0 0 false _)
    (λ more. unit_within d (segments_of d (hand.Flushing r why mask (flush.First f))) r.pid.0 (units f (m.cache p).changes) m.copies false f.cursor k.0.make.units (leb-false (length (units f (m.cache p).changes)) f.cursor more))
flushes_write_inside d at m p r why mask (flush.Second f) k = cond_both (f.cursor == 0) _ _ (λ (move : Move). IsWithin d (hand_area d (hand.Flushing r why mask (flush.Second f))) move.change)
    (λ _. word_within d _ m.copies f.pid.0 0 true _)
    (λ ne.
    let number = k.0.number in
    let begun : f.cursor ≢ 0 = eqb-false f.cursor 0 ne in
    unit_within d (segments_of d (hand.Flushing r why mask (flush.Second f))) r.pid.0 (units f (m.cache p).changes) m.copies true (f.cursor - 1) k.0.units (omega (arith, number, begun)))
flushes_write_inside d at m p r why mask (flush.Close f) k = cond_both (f.cursor == 0) _ _ (λ (move : Move). IsWithin d (hand_area d (hand.Flushing r why mask (flush.Close f))) move.change)
    (λ _. word_within d _ m.copies f.pid.0 0 false _) (λ _. word_within d _ m.copies f.pid.0 0 true _)

pub extents_rest : ExtentsRest
extents_rest d at p c hand.Down e calm inside k = absurd (false≢true inside)
extents_rest d at p c hand.Seek e calm inside k = absurd (false≢true inside)
extents_rest d at p c (hand.Claiming q x) e calm inside k = absurd (false≢true inside)
extents_rest d at p c (hand.Running r) e calm inside k = both_rest (shape_of d) p (hand_area d (hand.Running r)) (committed_blocks d at) e inside k.both
extents_rest d at p c (hand.Acquiring r t x) e calm inside k = both_rest (shape_of d) p (hand_area d (hand.Acquiring r t x)) (committed_blocks d at) e inside k.runs.both
extents_rest d at p c (hand.Flushing r why mask (flush.Mark f)) e calm inside k = both_rest (shape_of d) p (hand_area d (hand.Flushing r why mask (flush.Mark f))) (committed_blocks d at) e inside k.0.both
extents_rest d at p c (hand.Flushing r why mask (flush.First f)) e calm inside k = absurd (calm tt)
extents_rest d at p c (hand.Flushing r why mask (flush.Second f)) e calm inside k = absurd (calm tt)
extents_rest d at p c (hand.Flushing r why mask (flush.Close f)) e calm inside k = both_rest (shape_of d) p (hand_area d (hand.Flushing r why mask (flush.Close f))) (committed_blocks d at) e inside k.0.both
extents_rest d at p c (hand.Unlocking r why mask l) e calm inside k = both_rest (shape_of d) p (hand_area d (hand.Unlocking r why mask l)) (committed_blocks d at) e inside k.0.both
extents_rest d at p c (hand.Leaving q l) e calm inside k = absurd (false≢true inside)
extents_rest d at p c (hand.Recovering x) e calm inside k = absurd (false≢true inside)
