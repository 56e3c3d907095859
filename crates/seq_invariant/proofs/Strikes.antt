-- A hand that changes with its extents as they were keeps what stands of the blocks: a strike, and a processor that comes back.
use Rattle.std.proofs.Common.{◌≡◌, ◌⊎◌, inl, inr, ℕ, Bool, true, refl, ap, sym, ◌∙◌, subst}
use Rattle.std.proofs.lemmas.Bool.{cases_eq}
use Rattle.seq_words.specs.declared.half.Half.{Half}
use Rattle.seq_words.specs.declared.description.MachineDesc.{MachineDesc}
use Rattle.seq_turns.specs.declared.hand.Hand.{Hand}
use Rattle.seq_turns.specs.declared.hand.Hand.TheVariants as hand
use Rattle.seq_turns.specs.declared.hand.ReleaseAt.TheVariants as release
use Rattle.seq_turns.specs.declared.hand.RecoveryAt.{RecoveryAt}
use Rattle.seq_turns.specs.Functions.{update}
use Rattle.seq_turns.specs.Machines.{Machine}
use Rattle.seq_turns.specs.Allowed.{MayStrike}
use Rattle.seq_turns.specs.Events.{strikes, comes_back}
use Rattle.seq_turns.proofs.Functions.{update_same, update_other}
use Rattle.seq_invariant.specs.BlockAreas.{hand_area}
use Rattle.seq_invariant.specs.BlockWorks.{Committed}
use Rattle.seq_invariant.specs.BlockHands.{HandKnows}
use Rattle.seq_invariant.specs.BlockLeft.{IsLeft}
use Rattle.seq_invariant.specs.BlockStanding.{ExtentStands, BlocksStand}
use Rattle.seq_invariant.proofs.BlockInputs.{strikes_keep}

module _ (d : MachineDesc) (at : Committed) (m : Machine) (p : ℕ) (next : Hand) (area : (e : ℕ) → hand_area d next e ≡ hand_area d (m.hand p) e) (on : (x : RecoveryAt) → m.hand p ≡ hand.Recovering x → next ≡ hand.Recovering x)
    (back : (x : RecoveryAt) → next ≡ hand.Recovering x → m.hand p ≡ hand.Recovering x) (knows : HandKnows d at m.copies (m.cache p) next) (st : BlocksStand d at m) where
  abbrev n : Machine
  n = record m { hand = update m.hand p next }

  left_on : (q : ℕ) (forward : Bool) → IsLeft d m q forward → IsLeft d n q forward
  left_on q forward (inl h) = inl (record { inside = h.inside; deserted = h.deserted; way = h.way })
  left_on q forward (inr h) = inr (record { inside = h.inside; processor = h.processor; at = h.at; hand = go (cases_eq h.processor p); copies = h.copies })
    where
      go : (h.processor ≡ p) ⊎ (h.processor ≡ p → ⊥) → update m.hand p next h.processor ≡ hand.Recovering h.at
      go (inl e) = ap (update m.hand p next) e ∙ update_same m.hand p next ∙ on h.at (ap m.hand (sym e) ∙ h.hand)
      go (inr ne) = update_other m.hand p next h.processor ne ∙ h.hand

  left_back : (q : ℕ) (forward : Bool) → IsLeft d n q forward → IsLeft d m q forward
  left_back q forward (inl h) = inl (record { inside = h.inside; deserted = h.deserted; way = h.way })
  left_back q forward (inr h) = inr (record { inside = h.inside; processor = h.processor; at = h.at; hand = go (cases_eq h.processor p); copies = h.copies })
    where
      go : (h.processor ≡ p) ⊎ (h.processor ≡ p → ⊥) → m.hand h.processor ≡ hand.Recovering h.at
      go (inl e) = ap m.hand e ∙ back h.at (sym (update_same m.hand p next) ∙ ap (update m.hand p next) (sym e) ∙ h.hand)
      go (inr ne) = sym (update_other m.hand p next h.processor ne) ∙ h.hand

  extent : (e : ℕ) → ExtentStands d at m e → ExtentStands d at n e
  extent e (inl h) = inl (record { holder = h.holder; inside = go (cases_eq h.holder p) })
    where
      go : (h.holder ≡ p) ⊎ (h.holder ≡ p → ⊥) → hand_area d (update m.hand p next h.holder) e ≡ true
      go (inl i) = ap (λ r. hand_area d (update m.hand p next r) e) i ∙ ap (λ k. hand_area d k e) (update_same m.hand p next) ∙ area e ∙ ap (λ r. hand_area d (m.hand r) e) (sym i) ∙ h.inside
      go (inr ne) = ap (λ k. hand_area d k e) (update_other m.hand p next h.holder ne) ∙ h.inside
  extent e (inr (inl h)) = inr (inl (record { process = h.process; forward = h.forward; left = left_on h.process h.forward h.left; inside = h.inside }))
  extent e (inr (inr h)) = inr (inr h)

  pub hand_changes : BlocksStand d at (record m { hand = update m.hand p next })
  hand_changes = record {
    committed = record { run = st.committed.run; commits = st.committed.commits; reached = st.committed.reached; fit = st.committed.fit };
    blocks = st.blocks;
    caches = st.caches;
    hands = λ r. hand_at r (cases_eq r p);
    left = λ q forward is. st.left q forward (left_back q forward is);
    extents = λ e lt. extent e (st.extents e lt);
  }
    where
      hand_at : (r : ℕ) → (r ≡ p) ⊎ (r ≡ p → ⊥) → HandKnows d at m.copies (m.cache r) (update m.hand p next r)
      hand_at r (inl e) = subst (λ x. HandKnows d at m.copies (m.cache x) (update m.hand p next x)) (sym e) (subst (HandKnows d at m.copies (m.cache p)) (sym (update_same m.hand p next)) knows)
      hand_at r (inr ne) = subst (HandKnows d at m.copies (m.cache r)) (sym (update_other m.hand p next r ne)) (st.hands r)

-- a strike leaves the extents, and whom the hand recovers
struck_area : (d : MachineDesc) (half : Half) (reg mask : ℕ) (h : Hand) (e : ℕ) → hand_area d (strikes half reg mask h) e ≡ hand_area d h e
struck_area d half reg mask hand.Down e = refl
struck_area d half reg mask hand.Seek e = refl
struck_area d half reg mask (hand.Claiming q c) e = refl
struck_area d half reg mask (hand.Running r) e = refl
struck_area d half reg mask (hand.Acquiring r t c) e = refl
struck_area d half reg mask (hand.Flushing r why bits f) e = refl
struck_area d half reg mask (hand.Unlocking r why bits (release.Shadow l)) e = refl
struck_area d half reg mask (hand.Unlocking r why bits (release.Primary l)) e = refl
struck_area d half reg mask (hand.Leaving q l) e = refl
struck_area d half reg mask (hand.Recovering x) e = refl

struck_back : (half : Half) (reg mask : ℕ) (h : Hand) (x : RecoveryAt) → strikes half reg mask h ≡ hand.Recovering x → h ≡ hand.Recovering x
struck_back half reg mask hand.Down x e = e
struck_back half reg mask hand.Seek x e = e
struck_back half reg mask (hand.Claiming q c) x e = e
struck_back half reg mask (hand.Running r) x e = absurd (let c : ⊥ = cc in c)
struck_back half reg mask (hand.Acquiring r t y) x e = absurd (let c : ⊥ = cc in c)
struck_back half reg mask (hand.Flushing r why bits f) x e = absurd (let c : ⊥ = cc in c)
struck_back half reg mask (hand.Unlocking r why bits l) x e = absurd (let c : ⊥ = cc in c)
struck_back half reg mask (hand.Leaving q l) x e = e
struck_back half reg mask (hand.Recovering y) x e = e

pub struck_blocks : (d : MachineDesc) (at : Committed) (m : Machine) (p : ℕ) (half : Half) (reg mask : ℕ) → MayStrike half (m.hand p) → BlocksStand d at m → BlocksStand d at (record m { hand = update m.hand p (strikes half reg mask (m.hand p)) })
struck_blocks d at m p half reg mask may st = hand_changes d at m p (strikes half reg mask (m.hand p)) (struck_area d half reg mask (m.hand p)) (λ x e. ap (strikes half reg mask) e) (struck_back half reg mask (m.hand p))
    (strikes_keep d at m.copies (m.cache p) (m.hand p) half reg mask may (st.hands p)) st

-- a processor that was down seeks
pub mended_blocks : (d : MachineDesc) (at : Committed) (m : Machine) (p : ℕ) → m.hand p ≡ hand.Down → BlocksStand d at m → BlocksStand d at (record m { hand = update m.hand p (comes_back (m.hand p)) })
mended_blocks d at m p down st = subst (λ h. BlocksStand d at (record m { hand = update m.hand p h })) (sym (ap comes_back down)) (hand_changes d at m p hand.Seek (λ e. sym (ap (λ h. hand_area d h e) down))
    (λ x e. let z : hand.Down ≡ hand.Recovering x = sym down ∙ e in let c : ⊥ = cc in absurd c) (λ x e. let c : ⊥ = cc in absurd c) tt st)
