-- A process that is flushed or recovered isn't steady.
use Rattle.std.proofs.Common.{◌≡◌, ◌⊎◌, inl, inr, ℕ, ◌<◌, Bool, true, false, if◌then◌else◌, length, Some, refl, ap, sym, ◌∙◌, subst}
use Rattle.std.proofs.lemmas.Bool.{true≢false, false≢true}
use Rattle.seq_words.specs.declared.description.MachineDesc.{MachineDesc}
use Rattle.seq_status.specs.declared.status.Holder.{Holder}
use Rattle.seq_status.specs.declared.status.Status.{Status}
use Rattle.seq_status.specs.declared.status.Status.TheVariants as status
use Rattle.seq_turns.specs.declared.hand.Hand.TheVariants as hand
use Rattle.seq_turns.specs.declared.hand.RecoveryAt.{RecoveryAt}
use Rattle.seq_turns.specs.declared.hand.RecoveryAt.TheVariants as recovery
use Rattle.seq_turns.specs.Machines.{Machine}
use Rattle.seq_turns.specs.Reading.{ruling}
use Rattle.seq_turns.specs.Duties.{is_steady}
use Rattle.seq_stands.specs.Grips.{Kind, word, way, grip}
use Rattle.seq_stands.specs.Grips.Kind.{Run, Pass1, Pass2, Back, Forward}
use Rattle.seq_stands.specs.Grips.Step.{To_pass2}
use Rattle.seq_stands.specs.Grips.Stage.{Holding, Setting, Recovering}
use Rattle.seq_stands.specs.Words.{view_of, words_of, ruling as ruling_word, Grips, GripHolds}
use Rattle.seq_stands.specs.Hands.{holder_is}
use Rattle.seq_stands.specs.Standing.{Stands}
use Rattle.seq_stands.proofs.Readings.{said, says_held}
use Rattle.seq_invariant.specs.BlockLeft.{way_of, HasToCopy, IsLeft}

abbrev pub IsBusy : Kind → Type 0
IsBusy Run = ⊥
IsBusy Pass1 = Unit {0}
IsBusy Pass2 = Unit {0}
IsBusy Back = Unit {0}
IsBusy Forward = Unit {0}

said_busy : (k : Kind) (h : Holder) → IsBusy k → is_steady (said k h) ≡ false
said_busy Run h b = absurd b
said_busy Pass1 h b = refl
said_busy Pass2 h b = refl
said_busy Back h b = refl
said_busy Forward h b = refl

way_busy : (forward : Bool) → IsBusy (way forward)
way_busy true = tt
way_busy false = tt

no_way : (s : Status) (forward : Bool) → is_steady s ≡ true → way_of s ≡ Some forward → ⊥
no_way status.Idle forward t e = let z : ⊥ = cc in z
no_way (status.Run h) forward t e = let z : ⊥ = cc in z
no_way (status.Pass1 h) forward t e = false≢true t
no_way (status.Pass2 h) forward t e = false≢true t
no_way (status.Back h) forward t e = false≢true t
no_way (status.Forward h) forward t e = false≢true t

-- both copies in service say a word: it rules
both_say : (up1 up2 : Bool) (w1 w2 x : ℕ) → (up1 ≡ false → up2 ≡ true) → (up1 ≡ true → w1 ≡ x) × (up2 ≡ true → w2 ≡ x) → (if up1 then w1 else w2) ≡ x
both_say true up2 w1 w2 x served h = h.0 refl
both_say false up2 w1 w2 x served h = h.1 (served refl)

either_says : (up1 up2 : Bool) (w1 w2 x y : ℕ) → (up1 ≡ false → up2 ≡ true) → (up1 ≡ true → w1 ≡ x) × (up2 ≡ true → w2 ≡ y) → ((if up1 then w1 else w2) ≡ x) ⊎ ((if up1 then w1 else w2) ≡ y)
either_says true up2 w1 w2 x y served h = inl (h.0 refl)
either_says false up2 w1 w2 x y served h = inr (h.1 (served refl))

module _ (d : MachineDesc) (m : Machine) (stands : Stands d m) where
  served : (q : ℕ) → (view_of d m.copies q).up1 ≡ false → (view_of d m.copies q).up2 ≡ true
  served q = stands.words.served q

  named_unsteady : (q : ℕ) (k : Kind) (p i : ℕ) → IsBusy k → p < 256 → ruling_word (view_of d m.copies q) ≡ word k p i → is_steady (ruling d m.copies q) ≡ true → ⊥
  named_unsteady q k p i busy small e t = true≢false (sym t ∙ ap is_steady (says_held d m.copies q k p i (served q) small e) ∙ said_busy k (holder_is p i) busy)

  pub holding_unsteady : (p q : ℕ) (k : Kind) → IsBusy k → Grips (words_of d m) p q (Holding k) → is_steady (ruling d m.copies q) ≡ true → ⊥
  holding_unsteady p q k busy g t = named_unsteady q k p (m.incarnation p) busy g.processor (both_say (view_of d m.copies q).up1 (view_of d m.copies q).up2 (view_of d m.copies q).word1 (view_of d m.copies q).word2 (word k p (m.incarnation p)) (served q) g.claims) t

  pub setting_unsteady : (p q : ℕ) → Grips (words_of d m) p q (Setting To_pass2) → is_steady (ruling d m.copies q) ≡ true → ⊥
  setting_unsteady p q g t = go (either_says (view_of d m.copies q).up1 (view_of d m.copies q).up2 (view_of d m.copies q).word1 (view_of d m.copies q).word2 (word Pass2 p (m.incarnation p)) (word Pass1 p (m.incarnation p)) (served q) g.claims)
    where
      go : (ruling_word (view_of d m.copies q) ≡ word Pass2 p (m.incarnation p)) ⊎ (ruling_word (view_of d m.copies q) ≡ word Pass1 p (m.incarnation p)) → ⊥
      go (inl e) = named_unsteady q Pass2 p (m.incarnation p) tt g.processor e t
      go (inr e) = named_unsteady q Pass1 p (m.incarnation p) tt g.processor e t

  recovering_unsteady : (p q : ℕ) (k : Kind) → IsBusy k → Grips (words_of d m) p q (Recovering k) → is_steady (ruling d m.copies q) ≡ true → ⊥
  recovering_unsteady p q k busy g t = named_unsteady q k p (m.incarnation p) busy g.processor (primary (view_of d m.copies q).up1 g.claims.0 ∙ g.claims.2) t
    where
      primary : (up : Bool) → up ≡ true → (if up then (view_of d m.copies q).word1 else (view_of d m.copies q).word2) ≡ (view_of d m.copies q).word1
      primary true e = refl
      primary false e = absurd (false≢true e)

  -- a process that was left isn't steady
  pub left_unsteady : (q : ℕ) (forward : Bool) → IsLeft d m q forward → is_steady (ruling d m.copies q) ≡ true → ⊥
  left_unsteady q forward (inl left) t = no_way (ruling d m.copies q) forward t left.way
  left_unsteady q forward (inr left) t = go left.at left.copies (subst (λ h. GripHolds (words_of d m) left.processor (grip h)) left.hand (stands.words.grips left.processor))
    where
      steady_of : (x : ℕ) → x ≡ q → is_steady (ruling d m.copies x) ≡ true
      steady_of x e = subst (λ y. is_steady (ruling d m.copies y) ≡ true) (sym e) t

      go : (at : RecoveryAt) → HasToCopy at q forward → GripHolds (words_of d m) left.processor (grip (hand.Recovering at)) → ⊥
      go (recovery.Claimed r) has g = recovering_unsteady left.processor r.pid.0 (way r.forward) (way_busy r.forward) g (steady_of r.pid.0 has.0)
      go (recovery.Copying r) has g = holding_unsteady left.processor r.pid.0 (way r.forward) (way_busy r.forward) g (steady_of r.pid.0 has.0)
      go (recovery.Locks r) has g = has
      go (recovery.Closing r) has g = has

  pub left_inside : (q : ℕ) (forward : Bool) → IsLeft d m q forward → q < length d.processes
  left_inside q forward (inl left) = left.inside
  left_inside q forward (inr left) = left.inside
