-- What copies hold amid a pass: the units that are written, and all blocks that are no units.
use Rattle.std.proofs.Common.{◌≡◌, ◌⊎◌, inl, inr, ℕ, zero, suc, ◌+◌, ◌<◌, Bool, true, false, ◌&&◌, ◌==◌, List, [], ◌∷◌, length, drop, Some, None, length-drop, get_or-drop, refl, ap, sym, ◌∙◌, arith}
use Rattle.std.proofs.lemmas.Bool.{cases_Bool, eq-eqb, false≢true}
use Rattle.seq_words.specs.declared.description.MachineDesc.{MachineDesc}
use Rattle.seq_memory.specs.States.{is_in_service}
use Rattle.seq_layout.specs.Places.{memory_of}
use Rattle.seq_layout.specs.Shapes.{Shape, shape_of}
use Rattle.seq_layout.specs.Copies.{Copies, serves}
use Rattle.seq_cache.specs.declared.change.Change.{Change}
use Rattle.seq_cache.specs.Changes.{changed}
use Rattle.seq_cache.proofs.Puts.{changed-cons}
use Rattle.seq_flush.specs.Turns.{unit_at, no_change}
use Rattle.seq_flush.specs.Facts.{all_written, AreApart}
use Rattle.seq_flush.proofs.Layer.{kept_block, all_states}
use Rattle.seq_kernel.specs.Views.{Blocks}
use Rattle.seq_image.specs.Areas.{in_area, CopyHolds}
use Rattle.seq_invariant.specs.BlockWorks.{AreUnits}

-- a block that none of the units is of
pub none_is : (us : List Change) (e n k : ℕ) → changed us e n ≡ None → k < length us → (unit_at us k).extent.0 ≡ e → (unit_at us k).place ≡ n → ⊥
none_is [] e n k none below extent place = let c : ⊥ = omega (arith, below) in c
none_is (u ∷ us) e n zero none below extent place =
    let found : changed (u ∷ us) e n ≡ Some u.block = changed-cons u us e n ∙ (rw (eq-eqb u.extent.0 e extent, eq-eqb u.place n place) refl) in
    let c : ⊥ = (let e' : None ≡ Some u.block = sym none ∙ found in cc) in c
none_is (u ∷ us) e n (suc k) none below extent place = none_is us e n k (go (cases_Bool (u.extent.0 == e && u.place == n))) (omega (arith, below)) extent place
  where
    go : ((u.extent.0 == e && u.place == n) ≡ true) ⊎ ((u.extent.0 == e && u.place == n) ≡ false) → changed us e n ≡ None
    go (inl is) = let e' : None ≡ Some u.block = sym none ∙ changed-cons u us e n ∙ (rw is refl) in absurd (let c : ⊥ = cc in c)
    go (inr other) = let step : changed (u ∷ us) e n ≡ changed us e n = changed-cons u us e n ∙ (rw other refl) in sym step ∙ none

pub and_both : (a b : Bool) → a ≡ true → b ≡ true → (a && b) ≡ true
and_both true b x y = y
and_both false b x y = absurd (false≢true x)

module _ (s : Shape) (p : Copies) (c : Bool) (us : List Change) (k : ℕ) where
  -- what is left to be written leaves a copy in service
  still : (e : ℕ) → serves s p e c ≡ true → serves s (all_written s p c (drop k us)) e c ≡ true
  still e up = ap (λ states. is_in_service (states (memory_of s.memories e c))) (all_states s p c (drop k us)) ∙ up

  rest : (j : ℕ) → unit_at (drop k us) j ≡ unit_at us (k + j)
  rest j = get_or-drop k us j no_change

  -- a block that is none of the units, and one that is written already
  pub other_kept : (e n : ℕ) → changed us e n ≡ None → (all_written s p c (drop k us)).block e n c ≡ p.block e n c
  other_kept e n none = kept_block s p c (drop k us) e n c (λ j below same.
      none_is us e n (k + j) none (let l = length-drop k us in omega (arith, below, l)) (ap (λ (u : Change). u.extent.0) (sym (rest j)) ∙ same.extent) (ap (λ (u : Change). u.place) (sym (rest j)) ∙ same.part))

  pub written_kept : (i : ℕ) → AreApart us → i < k → i < length us → (all_written s p c (drop k us)).block (unit_at us i).extent.0 (unit_at us i).place c ≡ p.block (unit_at us i).extent.0 (unit_at us i).place c
  written_kept i apart before below = kept_block s p c (drop k us) (unit_at us i).extent.0 (unit_at us i).place c (λ j inside same.
      let l = length-drop k us in
      let one : k + j ≡ i = apart.number (k + j) i (omega (arith, inside, l)) below (ap (λ (u : Change). u.extent.0) (sym (rest j)) ∙ same.extent) (ap (λ (u : Change). u.place) (sym (rest j)) ∙ same.part) in
      let z : ⊥ = omega (arith, one, before) in z)

module _ (d : MachineDesc) (p : Copies) (c : Bool) (q : ℕ) (segments : ℕ → Bool) (us : List Change) (k : ℕ) (o : Blocks) (holds : CopyHolds (shape_of d) (all_written (shape_of d) p c (drop k us)) c (in_area d q segments) o) where
  served : (e : ℕ) → in_area d q segments e ≡ true → serves (shape_of d) p e c ≡ true → (in_area d q segments e && serves (shape_of d) (all_written (shape_of d) p c (drop k us)) e c) ≡ true
  served e is up = and_both (in_area d q segments e) (serves (shape_of d) (all_written (shape_of d) p c (drop k us)) e c) is (still (shape_of d) p c us k e up)

  pub others_hold : (e n : ℕ) → in_area d q segments e ≡ true → serves (shape_of d) p e c ≡ true → changed us e n ≡ None → p.block e n c ≡ o e n
  others_hold e n is up none = sym (other_kept (shape_of d) p c us k e n none) ∙ holds.each e n (served e is up)

  -- a unit is one of the area
  unit_inside : AreUnits d segments q us → (i : ℕ) → i < length us → in_area d q segments (unit_at us i).extent.0 ≡ true
  unit_inside units i below = go (cases_Bool (in_area d q segments (unit_at us i).extent.0))
    where
      go : (in_area d q segments (unit_at us i).extent.0 ≡ true) ⊎ (in_area d q segments (unit_at us i).extent.0 ≡ false) → in_area d q segments (unit_at us i).extent.0 ≡ true
      go (inl is) = is
      go (inr out) = absurd ((units.avoid (unit_at us i).extent.0 out).each i below refl)

  pub written_hold : AreUnits d segments q us → (i : ℕ) → i < k → i < length us → serves (shape_of d) p (unit_at us i).extent.0 c ≡ true → p.block (unit_at us i).extent.0 (unit_at us i).place c ≡ o (unit_at us i).extent.0 (unit_at us i).place
  written_hold units i before below up = sym (written_kept (shape_of d) p c us k i units.apart before below) ∙ holds.each (unit_at us i).extent.0 (unit_at us i).place (served (unit_at us i).extent.0 (unit_inside units i below) up)
