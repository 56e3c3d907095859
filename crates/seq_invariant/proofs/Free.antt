-- A process that nobody runs, and that wasn't left, holds what was committed, with the segments that it owns.
use Rattle.std.proofs.Common.{◌≡◌, inl, inr, ℕ, suc, ◌<◌, Bool, true, false, length, sym, ◌∙◌, subst, arith}
use Rattle.seq_words.specs.Description.{IsDescription}
use Rattle.seq_words.specs.declared.description.MachineDesc.{MachineDesc}
use Rattle.seq_flat.specs.State.{segment_at}
use Rattle.seq_layout.specs.Shapes.{shape_of, segment_extent}
use Rattle.seq_layout.specs.Copies.{first_copy}
use Rattle.seq_layout.proofs.CopiesLaws.{all_are_served}
use Rattle.seq_image.specs.Areas.{in_area, owned_by}
use Rattle.seq_image.proofs.Areas.{area_cases}
use Rattle.seq_turns.specs.Machines.{Machine}
use Rattle.seq_recover.specs.Reading.{names}
use Rattle.seq_stands.specs.Standing.{Stands}
use Rattle.seq_stands.specs.Locks.{lock_view, NamesOwner, LockClaims, LocksStand}
use Rattle.seq_stands.specs.Locks.Hold.{Whole}
use Rattle.seq_stands.specs.Locks.LockGrip.{With}
use Rattle.seq_stands.proofs.Gripped.{Firm}
use Rattle.seq_invariant.specs.BlockApart.{owners_of}
use Rattle.seq_invariant.specs.BlockAreas.{hand_area, segments_of}
use Rattle.seq_invariant.specs.BlockWorks.{Committed}
use Rattle.seq_invariant.specs.BlockLeft.{IsLeft}
use Rattle.seq_invariant.specs.BlockStanding.{IsInHand, IsInLeft, BlocksStand}
use Rattle.seq_invariant.specs.BlockTurns.{CanBeTakenUp}
use Rattle.seq_invariant.proofs.BlockApart.{Has, has, lock_claims, lock_of, inside, one_owner, owner_named}
use Rattle.seq_invariant.proofs.BlockFrame.{left_there}
use Rattle.seq_invariant.proofs.BlockRest.{free_areas_hold}
use Rattle.seq_invariant.proofs.BlockLines.{below_lines}
use Rattle.seq_invariant.proofs.Apart.{named_primary}

module _ (d : MachineDesc) (at : Committed) (m : Machine) (described : IsDescription d) (stands : Stands d m) (locks : LocksStand d (owners_of at.state) m) (blocks : BlocksStand d at m) (q : ℕ) (there : q < length d.processes)
    (unrun : (p e : ℕ) → hand_area d (m.hand p) e ≡ true → Firm (m.hand p) q → ⊥) (kept : (forward : Bool) → IsLeft d m q forward → ⊥) where
  -- a segment that it owns names it, at each copy in service
  owner_is : (t : ℕ) → owned_by at.state q t ≡ true → owners_of at.state t ≡ suc q
  owner_is t is = owner_named q (segment_at at.state t).owner is

  named : (t : ℕ) → t < length d.segments → owned_by at.state q t ≡ true → NamesOwner (lock_view d m.copies t) (suc q)
  named t lt is = subst (NamesOwner (lock_view d m.copies t)) (owner_is t is) (locks.owned t lt (λ z. let o = owner_is t is in let c : ⊥ = omega (arith, z, o) in c))

  not_in_hand : (e : ℕ) → in_area d q (owned_by at.state q) e ≡ true → IsInHand d m e → ⊥
  not_in_hand e mine h =
      let a : Has d (m.hand h.holder) e = has d (m.hand h.holder) e h.inside in
      let other : a.process ≡ q → ⊥ = λ same. unrun h.holder e h.inside (subst (Firm (m.hand h.holder)) same a.firm) in
      let below : a.process < length d.processes = inside d (owners_of at.state) m stands.words locks h.holder a.process a.firm in
      elim (area_cases d a.process (segments_of d (m.hand h.holder)) e a.inside) [
        | inl own ↦ elim (area_cases d q (owned_by at.state q) e mine) [
          | inl own' ↦ other (sym own ∙ own')
          | inr (t, lt, is, extent) ↦ let c : ⊥ = omega (arith, below, own, extent) in c
        ]
        | inr (t, lt, held, extent) ↦ elim (area_cases d q (owned_by at.state q) e mine) [
          | inl own' ↦ let c : ⊥ = omega (arith, there, own', extent) in c
          | inr (u, lu, is, extent') ↦
              let same : u ≡ t = omega (arith, extent, extent') in
              let claims : LockClaims (lock_view d m.copies t) (With a.process Whole) =
              subst (LockClaims (lock_view d m.copies t)) (lock_of d (owners_of at.state) m stands.words locks h.holder a.process 0 t a.firm held) (lock_claims d (owners_of at.state) m.copies (m.hand h.holder) (locks.hands h.holder) t lt) in
              let owner = named t lt (subst (λ x. owned_by at.state q x ≡ true) same is) in
              other (one_owner (lock_view d m.copies t) a.process q (stands.words.served (segment_extent (shape_of d) t)) claims (owner.first, owner.second))
        ]
      ]

  not_in_left : (e : ℕ) → in_area d q (owned_by at.state q) e ≡ true → IsInLeft d m e → ⊥
  not_in_left e mine h =
      let other : h.process ≡ q → ⊥ = λ same. kept h.forward (subst (λ x. IsLeft d m x h.forward) same h.left) in
      let below : h.process < length d.processes = left_there d m h.process h.forward h.left in
      elim (area_cases d h.process (λ t. names d m.copies h.process t false) e h.inside) [
        | inl own ↦ elim (area_cases d q (owned_by at.state q) e mine) [
          | inl own' ↦ other (sym own ∙ own')
          | inr (t, lt, is, extent) ↦ let c : ⊥ = omega (arith, below, own, extent) in c
        ]
        | inr (t, lt, says, extent) ↦ elim (area_cases d q (owned_by at.state q) e mine) [
          | inl own' ↦ let c : ⊥ = omega (arith, there, own', extent) in c
          | inr (u, lu, is, extent') ↦
              let same : u ≡ t = omega (arith, extent, extent') in
              let says' = named_primary d m h.process t says in
              let word = says'.1 in
              let owner = (named t lt (subst (λ x. owned_by at.state q x ≡ true) same is)).first says'.0 in
              other (let c : h.process ≡ q = omega (arith, word, owner) in c)
        ]
      ]

  pub can_be_taken_up : CanBeTakenUp d at m.copies q
  can_be_taken_up = record {
    inside = there;
    whole = record { block = λ e n. blocks.blocks.whole e n (first_copy (shape_of d) m.copies e) };
    served = λ e. all_are_served (shape_of d) m.copies described.memories.low_at stands.service.one_out e;
    both = free_areas_hold d at m (in_area d q (owned_by at.state q)) blocks (λ e is. (below_lines d q (owned_by at.state q) e there is, record { hand = not_in_hand e is; left = not_in_left e is }));
  }
