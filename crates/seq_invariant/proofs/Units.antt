-- The units of a flush: those that are still to be written, and those that are committed.
use Rattle.std.proofs.Common.{◌≡◌, ◌⊎◌, inl, inr, ℕ, zero, suc, ◌+◌, ◌<◌, Bool, true, false, ◌&&◌, ◌==◌, List, [], ◌∷◌, length, Option, Some, None, is_some, unwrap_or, refl, sym, ap, ◌∙◌, arith}
use Rattle.std.specs.Prelude.{if◌then◌else◌}
use Rattle.std.proofs.lemmas.Bool.{cases_Bool, and_parts, eqb-true, eq-eqb, false_from_ne_true}
use Rattle.seq_words.specs.declared.description.MachineDesc.{MachineDesc}
use Rattle.seq_words.specs.declared.block.Block.{Block}
use Rattle.seq_layout.specs.Shapes.{Shape, shape_of}
use Rattle.seq_layout.specs.Copies.{Copies, serves}
use Rattle.seq_layout.proofs.CopiesWritten.{block_states, block_elsewhere}
use Rattle.seq_layout.proofs.Held.{serves_as_before}
use Rattle.seq_cache.specs.Changes.{changed}
use Rattle.seq_cache.specs.declared.change.Change.{Change}
use Rattle.seq_cache.proofs.Puts.{changed-cons, changed-append}
use Rattle.seq_flush.specs.Turns.{unit_at, unit_written}
use Rattle.seq_flush.specs.Facts.{AreApart}
use Rattle.seq_flush.specs.Units.{context_changes, units_of}
use Rattle.seq_kernel.specs.Views.{Blocks}
use Rattle.seq_image.specs.Areas.{AreAlike, in_area}
use Rattle.seq_image.specs.Flushing.{with_units, KeepsCopies}
use Rattle.seq_image.proofs.Areas.{alike_sym, alike_trans}
use Rattle.seq_image.proofs.Layers.{alike_under, nothing_over}
use Rattle.seq_invariant.specs.BlockAreas.{BothHold}
use Rattle.seq_invariant.specs.BlockWorks.{Committed, committed_blocks, AreUnits}
use Rattle.seq_invariant.specs.BlockHands.{AreToCome, AreCommitted}

both_true : (a b : Bool) → a ≡ true → b ≡ true → (a && b) ≡ true
both_true true b x y = y
both_true false b x y = x

module _ (d : MachineDesc) (q : ℕ) (segments : ℕ → Bool) (us : List Change) (are : AreUnits d segments q us) where
  abbrev area : ℕ → Bool
  area = in_area d q segments

  abbrev s : Shape
  s = shape_of d

  -- a unit is one of the area
  pub unit_inside : (i : ℕ) → i < length us → area (unit_at us i).extent.0 ≡ true
  unit_inside i below = go (cases_Bool (area (unit_at us i).extent.0))
    where
      go : (area (unit_at us i).extent.0 ≡ true) ⊎ (area (unit_at us i).extent.0 ≡ false) → area (unit_at us i).extent.0 ≡ true
      go (inl is) = is
      go (inr out) = absurd ((are.avoid (unit_at us i).extent.0 out).each i below refl)

  module _ (at : Committed) (p : Copies) where
    -- at first all units are to come
    pub all_to_come : BothHold s p area (committed_blocks d at) → AreToCome d at p us 0
    all_to_come both = record {
      each = λ k _ below up. both.primaries.each (unit_at us k).extent.0 (unit_at us k).place (both_true (area (unit_at us k).extent.0) (serves s p (unit_at us k).extent.0 false) (unit_inside k below) up);
    }

    -- one less with each that is written
    pub one_less_to_come : (cursor : ℕ) → cursor < length us → AreToCome d at p us cursor → AreToCome d at (unit_written s p false (unit_at us cursor)) us (cursor + 1)
    one_less_to_come cursor inside before = record {
      each = λ k past below up.
          let u = unit_at us cursor in
          let x = unit_at us k in
          block_elsewhere s p u.extent.0 u.place false u.block x.extent.0 x.place false (λ same. let e : cursor ≡ k = are.apart.number cursor k inside below same.extent same.part in omega (arith, e, past))
          ∙ before.each k (omega (arith, past)) below (serves_as_before s p (unit_written s p false u) x.extent.0 false (block_states s p u.extent.0 u.place false u.block) up);
    }

    -- they are so while the copies in their area are kept, and over other blocks that are alike there
    pub to_come_kept : (now : Copies) (cursor : ℕ) → KeepsCopies s p now false area → AreToCome d at p us cursor → AreToCome d at now us cursor
    to_come_kept now cursor kept before = record {
      each = λ k past below up.
          let x = unit_at us k in
          let inside = unit_inside k below in
          kept.block x.extent.0 x.place inside up ∙ before.each k past below (kept.served x.extent.0 inside up);
    }

    pub to_come_alike : (next : Committed) (cursor : ℕ) → AreAlike area (committed_blocks d at) (committed_blocks d next) → AreToCome d at p us cursor → AreToCome d next p us cursor
    to_come_alike next cursor alike before = record { each = λ k past below up. before.each k past below up ∙ alike.each (unit_at us k).extent.0 (unit_at us k).place (unit_inside k below) }

-- what lies over blocks, over others that are what lies there
laid_again : (x : Option Block) (a b : Block) → unwrap_or x a ≡ b → unwrap_or x b ≡ b
laid_again (Some y) a b e = e
laid_again None a b e = refl

-- Units that make blocks of others change nothing over what they make.
pub made_committed : (area : ℕ → Bool) (us : List Change) (o o' : Blocks) → AreAlike area (with_units us o) o' → AreAlike area (with_units us o') o'
made_committed area us o o' made = record { each = λ e n inside. laid_again (changed us e n) (o e n) (o' e n) (made.each e n inside) }

-- changes that are committed are so over other blocks that are alike in the area
pub committed_alike : (area : ℕ → Bool) (us : List Change) (o o' : Blocks) → AreAlike area o o' → AreAlike area (with_units us o) o → AreAlike area (with_units us o') o'
committed_alike area us o o' alike before = alike_trans _ _ _ _ (alike_under area us o' o (alike_sym _ _ _ alike)) (alike_trans _ _ _ _ before alike)

pub none_committed : (area : ℕ → Bool) (o : Blocks) → AreAlike area (with_units [] o) o
none_committed area o = record { each = λ e n inside. nothing_over o e n }

-- what is laid over a block by the first of two, where both change nothing
first_of_two : (x y : Option Block) (b : Block) → unwrap_or (if is_some x then x else y) b ≡ b → unwrap_or x b ≡ b
first_of_two (Some z) y b e = e
first_of_two None y b e = refl

-- where the units of a flush are committed, the changes in the cache are
pub changes_committed : (area : ℕ → Bool) (q : ℕ) (context : List Block) (changes : List Change) (o : Blocks) → AreAlike area (with_units (units_of q context changes) o) o → AreAlike area (with_units changes o) o
unfolding units_of
changes_committed area q context changes o before = record {
  each = λ e n inside. first_of_two (changed changes e n) (changed (context_changes q context) e n) (o e n)
      (ap (λ (x : Option Block). unwrap_or x (o e n)) (sym (changed-append changes (context_changes q context) e n)) ∙ before.each e n inside);
}

-- where units are apart, each is found at its place
unit_changed_at : (us : List Change) (k : ℕ) → AreApart us → k < length us → changed us (unit_at us k).extent.0 (unit_at us k).place ≡ Some (unit_at us k).block
unit_changed_at [] k apart below = absurd (let c : ⊥ = omega (arith, below) in c)
unit_changed_at (u ∷ us) zero apart below = changed-cons u us u.extent.0 u.place ∙ (rw (eq-eqb u.extent.0 u.extent.0 refl, eq-eqb u.place u.place refl) refl)
unit_changed_at (u ∷ us) (suc k) apart below =
    let x = unit_at us k in
    let other : (u.extent.0 == x.extent.0 && u.place == x.place) ≡ false = false_from_ne_true _ (λ same.
    let parts = and_parts (u.extent.0 == x.extent.0) (u.place == x.place) same in
    let e : 0 ≡ suc k = apart.number 0 (suc k) (omega arith) below (eqb-true u.extent.0 x.extent.0 parts.0) (eqb-true u.place x.place parts.1) in
    let c : ⊥ = omega (arith, e) in c) in
    let rest : changed us x.extent.0 x.place ≡ Some x.block = unit_changed_at us k (record { number = λ i j li lj extent place. let e : suc i ≡ suc j = apart.number (suc i) (suc j) (omega (arith, li)) (omega (arith, lj)) extent place in omega (arith, e) }) (omega (arith, below)) in
    changed-cons u us x.extent.0 x.place ∙ (rw other rest)

-- each unit that is committed is the committed block at its place
pub unit_committed : (d : MachineDesc) (at : Committed) (q : ℕ) (segments : ℕ → Bool) (us : List Change) → AreUnits d segments q us → AreCommitted d at (in_area d q segments) us → (k : ℕ) → k < length us →
    (unit_at us k).block ≡ committed_blocks d at (unit_at us k).extent.0 (unit_at us k).place
unit_committed d at q segments us are cached k below =
    let x = unit_at us k in
    sym (ap (λ (o : Option Block). unwrap_or o (committed_blocks d at x.extent.0 x.place)) (unit_changed_at us k are.apart below)) ∙ cached.each x.extent.0 x.place (unit_inside d q segments us are k below)
