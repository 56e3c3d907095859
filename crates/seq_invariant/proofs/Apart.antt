-- The extents of a processor are those of no other, and of no process that was left.
use Rattle.std.proofs.Common.{◌≡◌, ◌≢◌, ◌⊎◌, inl, inr, ℕ, suc, ◌<◌, Bool, true, false, if◌then◌else◌, length, refl, ap, sym, ◌∙◌, subst, arith}
use Rattle.std.proofs.lemmas.Bool.{cases_Bool, true≢false, false≢true, and_parts, eqb-true}
use Rattle.seq_words.specs.declared.description.MachineDesc.{MachineDesc}
use Rattle.seq_layout.specs.Shapes.{shape_of, segment_extent}
use Rattle.seq_layout.specs.Copies.{serves}
use Rattle.seq_image.proofs.Areas.{area_cases}
use Rattle.seq_turns.specs.declared.hand.Hand.TheVariants as hand
use Rattle.seq_turns.specs.declared.hand.RecoveryAt.{RecoveryAt}
use Rattle.seq_turns.specs.Machines.{Machine}
use Rattle.seq_recover.specs.Reading.{names}
use Rattle.seq_stands.specs.Words.{words_of, WordsStand}
use Rattle.seq_stands.specs.Locks.{lock_view, LockClaims, LocksStand}
use Rattle.seq_stands.specs.Locks.Hold.{Whole}
use Rattle.seq_stands.specs.Locks.LockGrip.{With}
use Rattle.seq_stands.proofs.Gripped.{Firm}
use Rattle.seq_invariant.specs.BlockAreas.{segments_of, hand_area, left_area}
use Rattle.seq_invariant.specs.BlockLeft.{IsLeft}
use Rattle.seq_invariant.specs.BlockFrame.{IsApart}
use Rattle.seq_invariant.specs.BlockStanding.{IsInHand, IsInLeft}
use Rattle.seq_invariant.specs.BlockStops.{IsFree}
use Rattle.seq_invariant.proofs.BlockApart.{Has, has, lock_claims, lock_of, inside, hands_are_apart}
use Rattle.seq_invariant.proofs.BlockFrame.{left_there}
use Rattle.seq_invariant.proofs.Left.{gripped_is_kept}

-- a primary lock word that names a process says its number
pub named_primary : (d : MachineDesc) (m : Machine) (q t : ℕ) → names d m.copies q t false ≡ true → ((lock_view d m.copies t).up1 ≡ true) × ((lock_view d m.copies t).word1 ≡ suc q)
named_primary d m q t is =
    let parts = and_parts (serves (shape_of d) m.copies (segment_extent (shape_of d) t) false) _ is in
    let says : m.copies.word (segment_extent (shape_of d) t) 0 false ≡ suc q = eqb-true _ _ parts.1 in
    (parts.0, masked (serves (shape_of d) m.copies (segment_extent (shape_of d) t) false) parts.0 ∙ says)
  where
    masked : (b : Bool) → b ≡ true → (if b then m.copies.word (segment_extent (shape_of d) t) 0 false else 0) ≡ m.copies.word (segment_extent (shape_of d) t) 0 false
    masked true e = refl
    masked false e = absurd (false≢true e)

module _ (d : MachineDesc) (owner : ℕ → ℕ) (m : Machine) (st : WordsStand (words_of d m)) (locks : LocksStand d owner m) where
  -- a hand with extents runs its process, and recovers none
  has_none : (p e : ℕ) → hand_area d (m.hand p) e ≡ true → (x : RecoveryAt) → m.hand p ≡ hand.Recovering x → ⊥
  has_none p e is x h = false≢true (ap (λ k. hand_area d k e) (sym h) ∙ is)

  -- whose lock it has hold of whole is the one that the primary names
  pub whole_named : (p q t : ℕ) → Firm (m.hand p) q → t < length d.segments → segments_of d (m.hand p) t ≡ true → (lock_view d m.copies t).up1 ≡ true → (lock_view d m.copies t).word1 ≡ suc q
  whole_named p q t f lt is up =
      let claims : LockClaims (lock_view d m.copies t) (With q Whole) = subst (LockClaims (lock_view d m.copies t)) (lock_of d owner m st locks p q 0 t f is) (lock_claims d owner m.copies (m.hand p) (locks.hands p) t lt) in
      claims.0 up

  not_left : (p q e : ℕ) (forward : Bool) → IsLeft d m q forward → hand_area d (m.hand p) e ≡ true → left_area d m.copies q e ≡ true → ⊥
  not_left p q e forward is mine theirs =
      let a : Has d (m.hand p) e = has d (m.hand p) e mine in
      let there : q < length d.processes = left_there d m q forward is in
      let apart : a.process ≡ q → ⊥ = λ same. gripped_is_kept d m st p a.process a.firm.stage forward a.firm.gripped (has_none p e mine) (subst (λ x. IsLeft d m x forward) (sym same) is) in
      elim (area_cases d a.process (segments_of d (m.hand p)) e a.inside) [
        | inl own ↦ elim (area_cases d q (λ t. names d m.copies q t false) e theirs) [
          | inl own' ↦ apart (sym own ∙ own')
          | inr (t, lt, named, extent) ↦ let here = inside d owner m st locks p a.process a.firm in let c : ⊥ = omega (arith, here, own, extent) in c
        ]
        | inr (t, lt, held, extent) ↦ elim (area_cases d q (λ t. names d m.copies q t false) e theirs) [
          | inl own' ↦ let c : ⊥ = omega (arith, there, own', extent) in c
          | inr (u, lu, named, extent') ↦
              let same : u ≡ t = omega (arith, extent, extent') in
              let says = named_primary d m q t (subst (λ x. names d m.copies q x false ≡ true) same named) in
              let mine' = whole_named p a.process t a.firm lt held says.0 in
              let theirs' = says.1 in
              apart (omega (arith, mine', theirs'))
        ]
      ]

  pub is_apart : (p : ℕ) → IsApart d m p
  is_apart p = record {
    hands = λ r e ne is. hands_are_apart d owner m p r e st locks ne is;
    left = λ q e forward is mine. go q e forward is mine (cases_Bool (left_area d m.copies q e));
  }
    where
      go : (q e : ℕ) (forward : Bool) → IsLeft d m q forward → hand_area d (m.hand p) e ≡ true → (left_area d m.copies q e ≡ true) ⊎ (left_area d m.copies q e ≡ false) → left_area d m.copies q e ≡ false
      go q e forward is mine (inl theirs) = absurd (not_left p q e forward is mine theirs)
      go q e forward is mine (inr out) = out

-- a primary names one process
pub left_areas_apart : (d : MachineDesc) (m : Machine) (x q e : ℕ) → x < length d.processes → q < length d.processes → x ≢ q → left_area d m.copies x e ≡ true → left_area d m.copies q e ≡ false
left_areas_apart d m x q e x_lt q_lt ne theirs = go (cases_Bool (left_area d m.copies q e))
  where
    meet : left_area d m.copies q e ≡ true → ⊥
    meet mine = elim (area_cases d x (λ t. names d m.copies x t false) e theirs) [
      | inl own ↦ elim (area_cases d q (λ t. names d m.copies q t false) e mine) [
        | inl own' ↦ ne (sym own ∙ own')
        | inr (t, lt, named, extent) ↦ let c : ⊥ = omega (arith, x_lt, own, extent) in c
      ]
      | inr (t, lt, named, extent) ↦ elim (area_cases d q (λ t. names d m.copies q t false) e mine) [
        | inl own' ↦ let c : ⊥ = omega (arith, q_lt, own', extent) in c
        | inr (u, lu, named', extent') ↦
            let same : u ≡ t = omega (arith, extent, extent') in
            let one = (named_primary d m x t named).1 in
            let two = (named_primary d m q t (subst (λ y. names d m.copies q y false ≡ true) same named')).1 in
            ne (omega (arith, one, two))
      ]
    ]

    go : (left_area d m.copies q e ≡ true) ⊎ (left_area d m.copies q e ≡ false) → left_area d m.copies q e ≡ false
    go (inl mine) = absurd (meet mine)
    go (inr out) = out

-- In the extents of a process that nobody runs, and that isn't left, nobody has anything to do.
module _ (d : MachineDesc) (owner : ℕ → ℕ) (m : Machine) (st : WordsStand (words_of d m)) (locks : LocksStand d owner m) (q : ℕ) (there : q < length d.processes) (unrun : (r e : ℕ) → hand_area d (m.hand r) e ≡ true → Firm (m.hand r) q → ⊥)
    (kept : (forward : Bool) → IsLeft d m q forward → ⊥) where
  no_hand : (a : ℕ) → left_area d m.copies q a ≡ true → IsInHand d m a → ⊥
  no_hand a is h =
      let b : Has d (m.hand h.holder) a = has d (m.hand h.holder) a h.inside in
      let below : b.process < length d.processes = inside d owner m st locks h.holder b.process b.firm in
      let other : b.process ≡ q → ⊥ = λ same. unrun h.holder a h.inside (subst (Firm (m.hand h.holder)) same b.firm) in
      elim (area_cases d b.process (segments_of d (m.hand h.holder)) a b.inside) [
        | inl own ↦ elim (area_cases d q (λ t. names d m.copies q t false) a is) [
          | inl own' ↦ other (sym own ∙ own')
          | inr (t, lt, named, extent) ↦ let c : ⊥ = omega (arith, below, own, extent) in c
        ]
        | inr (t, lt, held, extent) ↦ elim (area_cases d q (λ t. names d m.copies q t false) a is) [
          | inl own' ↦ let c : ⊥ = omega (arith, there, own', extent) in c
          | inr (u, lu, named, extent') ↦
              let same : u ≡ t = omega (arith, extent, extent') in
              let says = named_primary d m q t (subst (λ y. names d m.copies q y false ≡ true) same named) in
              let mine = whole_named d owner m st locks h.holder b.process t b.firm lt held says.0 in
              let theirs = says.1 in
              other (omega (arith, mine, theirs))
        ]
      ]

  no_left : (a : ℕ) → left_area d m.copies q a ≡ true → IsInLeft d m a → ⊥
  no_left a is h =
      let other : h.process ≡ q → ⊥ = λ same. kept h.forward (subst (λ y. IsLeft d m y h.forward) same h.left) in
      true≢false (sym is ∙ left_areas_apart d m h.process q a (left_there d m h.process h.forward h.left) there other h.inside)

  pub left_is_free : (a : ℕ) → left_area d m.copies q a ≡ true → IsFree d m a
  left_is_free a is = record { hand = no_hand a is; left = no_left a is }
