-- A claim that is about to be held: nobody runs its process, and nobody left it.
use Rattle.std.proofs.Common.{◌≡◌, ◌⊎◌, inl, inr, ℕ, true, false, ap, sym, ◌∙◌, subst}
use Rattle.std.proofs.lemmas.Bool.{cases_Bool, cond-false, true≢false}
use Rattle.seq_words.specs.Description.{IsDescription}
use Rattle.seq_words.specs.declared.description.MachineDesc.{MachineDesc}
use Rattle.seq_layout.specs.Shapes.{shape_of}
use Rattle.seq_layout.specs.Copies.{serves}
use Rattle.seq_locks.specs.declared.claim.Claim.{Claim}
use Rattle.seq_locks.specs.declared.stages.Shadow as shadow_stage
use Rattle.seq_locks.specs.Turns.{is_taken}
use Rattle.seq_layout.specs.declared.units.WordAt.{WordAt}
use Rattle.seq_turns.specs.declared.hand.Hand.TheVariants as hand
use Rattle.seq_turns.specs.Machines.{Machine}
use Rattle.seq_stands.specs.Grips.{grip}
use Rattle.seq_stands.specs.Grips.Stage.{Claiming}
use Rattle.seq_stands.specs.Words.{words_of, IsLoose, GripHolds, Grips}
use Rattle.seq_stands.specs.Hands.{IsHand}
use Rattle.seq_stands.specs.Standing.{Stands}
use Rattle.seq_stands.specs.Locks.{LocksStand}
use Rattle.seq_stands.proofs.Frame.{alone_free}
use Rattle.seq_stands.proofs.Gripped.{Firm, named_at, named_firm, same_holder}
use Rattle.seq_stands.proofs.Seeks.{free_from}
use Rattle.seq_invariant.specs.BlockApart.{owners_of}
use Rattle.seq_invariant.specs.BlockWorks.{Committed}
use Rattle.seq_invariant.specs.BlockStanding.{BlocksStand}
use Rattle.seq_invariant.specs.BlockTurns.{CanBeTakenUp}
use Rattle.seq_invariant.proofs.Left.{gripped_is_kept}
use Rattle.seq_invariant.proofs.Tame.{not_recovering}
use Rattle.seq_invariant.proofs.Free.{can_be_taken_up}

module _ (d : MachineDesc) (m : Machine) (stands : Stands d m) (p q : ℕ) (c : Claim shadow_stage.Shadow) (e : m.hand p ≡ hand.Claiming (record { 0 = q }) c) (free : is_taken (shape_of d) m.copies c.at true ≡ false) where
  grips : Grips (words_of d m) p q Claiming
  grips = subst (GripHolds (words_of d m) p) (ap grip e) (stands.words.grips p)

  is_claim : IsHand d p (m.incarnation p) (hand.Claiming (record { 0 = q }) c)
  is_claim = subst (IsHand d p (m.incarnation p)) e (stands.hands.hands p)

  shadow_free : ((words_of d m).view q).word2 ≡ 0
  shadow_free = free_from (serves (shape_of d) m.copies q true) (m.copies.word q 0 true) (subst (λ (w : WordAt). is_taken (shape_of d) m.copies w true ≡ false) is_claim.place free)

  pub claim_is_alone : (r : ℕ) → Firm (m.hand r) q → ⊥
  claim_is_alone r f = go (cases_Bool ((words_of d m).view q).up1)
    where
      go : (((words_of d m).view q).up1 ≡ true) ⊎ (((words_of d m).view q).up1 ≡ false) → ⊥
      go (inl up) =
          let named = named_at d m stands.words p q Claiming (ap grip e) (λ down. absurd (true≢false (sym up ∙ down))) in
          let one : p ≡ r = same_holder d m stands.words p r q named (named_firm d m stands.words r q f) in
          let firm : Firm (hand.Claiming (record { 0 = q }) c) q = subst (λ h. Firm h q) e (subst (λ x. Firm (m.hand x) q) (sym one) f) in
          loose firm
        where
          loose : Firm (hand.Claiming (record { 0 = q }) c) q → ⊥
          loose x = x.firm (let g = x.gripped in subst IsLoose (let k : Claiming ≡ x.stage = cc in k) tt)
      go (inr down) = alone_free ((words_of d m).view q) (cond-false _ _ _ down ∙ shadow_free) r (m.incarnation r) (named_firm d m stands.words r q f).1

  pub claim_can : (at : Committed) → IsDescription d → LocksStand d (owners_of at.state) m → BlocksStand d at m → CanBeTakenUp d at m.copies q
  claim_can at described locks blocks = can_be_taken_up d at m described stands locks blocks q grips.process (λ r e is f. claim_is_alone r f)
      (λ forward is. gripped_is_kept d m stands.words p q Claiming forward (ap grip e) (not_recovering (m.hand p) q Claiming (ap grip e) (λ x. x)) is)
