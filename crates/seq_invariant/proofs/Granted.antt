-- A lock that is about to be held whole: nobody owns its segment, and both copies of it are at rest.
use Rattle.std.proofs.Common.{◌≡◌, ◌⊎◌, inl, inr, ℕ, ◌<◌, true, false, Option, Some, None, length, refl, ap, sym, ◌∙◌, subst, arith}
use Rattle.std.proofs.lemmas.Bool.{cases_Bool, cases_eq, false≢true}
use Rattle.seq_words.specs.Masks.{has_bit}
use Rattle.seq_words.specs.declared.description.MachineDesc.{MachineDesc}
use Rattle.seq_words.specs.declared.names.Pid.{Pid}
use Rattle.seq_words.specs.declared.names.Seg.{Seg}
use Rattle.seq_flat.specs.State.{segment_at}
use Rattle.seq_layout.specs.Shapes.{shape_of, segment_extent}
use Rattle.seq_layout.specs.Copies.{serves}
use Rattle.seq_layout.specs.declared.units.WordAt.{WordAt}
use Rattle.seq_process.specs.declared.running.Running.{Running}
use Rattle.seq_locks.specs.declared.claim.Claim.{Claim}
use Rattle.seq_locks.specs.declared.stages.Shadow as shadow_stage
use Rattle.seq_locks.specs.Turns.{is_taken}
use Rattle.seq_image.proofs.Areas.{area_cases}
use Rattle.seq_turns.specs.declared.hand.Hand.TheVariants as hand
use Rattle.seq_turns.specs.Machines.{Machine}
use Rattle.seq_recover.specs.Reading.{names}
use Rattle.seq_stands.specs.Grips.{grip}
use Rattle.seq_stands.specs.Grips.Kind.{Run}
use Rattle.seq_stands.specs.Grips.Stage.{Holding}
use Rattle.seq_stands.specs.Words.{View}
use Rattle.seq_stands.specs.Hands.{IsHand}
use Rattle.seq_stands.specs.Standing.{Stands}
use Rattle.seq_stands.specs.Locks.{whole_if, half_if, is_lock, lock_view, lock_grip, LockClaims, HandLocks, NamesOwner, LocksStand}
use Rattle.seq_stands.specs.Locks.Hold.{Half, Whole}
use Rattle.seq_stands.specs.Locks.LockGrip.{With}
use Rattle.seq_stands.proofs.Gripped.{Firm, firm_acquiring, named_firm, same_holder}
use Rattle.seq_stands.proofs.LockPlaces.{lock_here}
use Rattle.seq_stands.proofs.Seeks.{free_from}
use Rattle.seq_invariant.specs.BlockApart.{number_of, owners_of}
use Rattle.seq_invariant.specs.BlockAreas.{is_whole, segments_of, Rests}
use Rattle.seq_invariant.specs.BlockWorks.{Committed, committed_blocks}
use Rattle.seq_invariant.specs.BlockLeft.{IsLeft}
use Rattle.seq_invariant.specs.BlockStanding.{IsInHand, IsInLeft, ExtentStands, BlocksStand}
use Rattle.seq_invariant.proofs.BlockApart.{Has, has, lock_claims, lock_of, inside}
use Rattle.seq_invariant.proofs.BlockFrame.{left_there}
use Rattle.seq_invariant.proofs.Left.{gripped_is_kept}
use Rattle.seq_invariant.proofs.Apart.{named_primary}
use Rattle.seq_invariant.proofs.Tame.{not_recovering}

-- who isn't named by a number owns nothing
nobody : (o : Option Pid) → number_of o ≡ 0 → o ≡ None
nobody None e = refl
nobody (Some p) e = absurd (let c : ⊥ = omega (arith, e) in c)

module _ (d : MachineDesc) (at : Committed) (m : Machine) (stands : Stands d m) (locks : LocksStand d (owners_of at.state) m) (blocks : BlocksStand d at m) (p : ℕ) (r : Running) (t : Seg) (c : Claim shadow_stage.Shadow)
    (e : m.hand p ≡ hand.Acquiring r t c) (free : is_taken (shape_of d) m.copies c.at true ≡ false) where
  abbrev owner : ℕ → ℕ
  owner = owners_of at.state

  abbrev v : View
  v = lock_view d m.copies t.0

  is_hand : IsHand d p (m.incarnation p) (hand.Acquiring r t c)
  is_hand = subst (IsHand d p (m.incarnation p)) e (stands.hands.hands p)

  knows : HandLocks d owner m.copies (hand.Acquiring r t c)
  knows = subst (HandLocks d owner m.copies) e (locks.hands p)

  below : t.0 < length d.segments
  below = knows.1.inside

  -- the segment's lock is held half
  half : lock_grip d (hand.Acquiring r t c) t.0 ≡ With r.pid.0 Half
  half = subst (λ (w : WordAt). half_if (is_lock d t.0 w) r.pid.0 (whole_if (has_bit r.held t.0) r.pid.0) ≡ With r.pid.0 Half) (sym is_hand.place)
      (ap (λ b. half_if b r.pid.0 (whole_if (has_bit r.held t.0) r.pid.0)) (lock_here d t.0))

  claims : LockClaims (lock_view d m.copies t.0) (With r.pid.0 Half)
  claims = subst (LockClaims v) half (knows.0.claims t.0 below)

  shadow_free : v.word2 ≡ 0
  shadow_free = free_from (serves (shape_of d) m.copies (segment_extent (shape_of d) t.0) true) (m.copies.word (segment_extent (shape_of d) t.0) 0 true) (subst (λ (w : WordAt). is_taken (shape_of d) m.copies w true ≡ false) is_hand.place free)

  firm : Firm (m.hand p) r.pid.0
  firm = subst (λ h. Firm h r.pid.0) (sym e) (firm_acquiring r t c)

  unowned : owner t.0 ≡ 0
  unowned = go (cases_eq (owner t.0) 0)
    where
      go : (owner t.0 ≡ 0) ⊎ (owner t.0 ≡ 0 → ⊥) → owner t.0 ≡ 0
      go (inl z) = z
      go (inr some) = absurd (which (cases_Bool v.up1))
        where
          named : NamesOwner (lock_view d m.copies t.0) (owners_of at.state t.0)
          named = locks.owned t.0 below some

          which : (v.up1 ≡ true) ⊎ (v.up1 ≡ false) → ⊥
          which (inl up) =
              let says = named.first up in
              let mine = (claims up).0 in
              let whole : lock_grip d (hand.Acquiring r t c) t.0 ≡ With r.pid.0 Whole = knows.0.kept t.0 below (omega (arith, says, mine)) in
              let both : With r.pid.0 Half ≡ With r.pid.0 Whole = sym half ∙ whole in
              let z : ⊥ = cc in z
          which (inr down) = let says = named.second (stands.words.served (segment_extent (shape_of d) t.0) down) in some (let z : owner t.0 ≡ 0 = omega (arith, says, shadow_free) in z)

  pub nobody_owns : (segment_at at.state t.0).owner ≡ None
  nobody_owns = nobody (segment_at at.state t.0).owner unowned

  -- no hand has the segment in its extents
  not_in_hand : IsInHand d m (segment_extent (shape_of d) t.0) → ⊥
  not_in_hand h =
      let a : Has d (m.hand h.holder) (segment_extent (shape_of d) t.0) = has d (m.hand h.holder) (segment_extent (shape_of d) t.0) h.inside in
      let there : a.process < length d.processes = inside d owner m stands.words locks h.holder a.process a.firm in
      elim (area_cases d a.process (segments_of d (m.hand h.holder)) (segment_extent (shape_of d) t.0) a.inside) [
        | inl own ↦ let z : ⊥ = omega (arith, there, own) in z
        | inr (u, lu, held, extent) ↦
            let same : u ≡ t.0 = omega (arith, extent) in
            let held' : segments_of d (m.hand h.holder) t.0 ≡ true = subst (λ x. segments_of d (m.hand h.holder) x ≡ true) same held in
            clash h.holder a.process a.firm held' (cases_Bool v.up1)
      ]
    where
      clash : (x q : ℕ) → Firm (m.hand x) q → segments_of d (m.hand x) t.0 ≡ true → (v.up1 ≡ true) ⊎ (v.up1 ≡ false) → ⊥
      clash x q f held (inr down) =
          let whole : LockClaims (lock_view d m.copies t.0) (With q Whole) = subst (LockClaims (lock_view d m.copies t.0)) (lock_of d owner m stands.words locks x q 0 t.0 f held) (lock_claims d owner m.copies (m.hand x) (locks.hands x) t.0 below) in
          let says = whole.1 (stands.words.served (segment_extent (shape_of d) t.0) down) in
          let z : ⊥ = omega (arith, says, shadow_free) in z
      clash x q f held (inl up) =
          let whole : LockClaims (lock_view d m.copies t.0) (With q Whole) = subst (LockClaims (lock_view d m.copies t.0)) (lock_of d owner m stands.words locks x q 0 t.0 f held) (lock_claims d owner m.copies (m.hand x) (locks.hands x) t.0 below) in
          let says = whole.0 up in
          let mine = (claims up).0 in
          let same : q ≡ r.pid.0 = omega (arith, says, mine) in
          let one : p ≡ x = same_holder d m stands.words p x r.pid.0 (named_firm d m stands.words p r.pid.0 firm) (named_firm d m stands.words x r.pid.0 (subst (Firm (m.hand x)) same f)) in
          let here : segments_of d (hand.Acquiring r t c) t.0 ≡ true = ap (λ h. segments_of d h t.0) (sym e ∙ ap m.hand one) ∙ held in
          false≢true (sym (ap is_whole half) ∙ here)

  -- nor has a process that was left
  not_in_left : IsInLeft d m (segment_extent (shape_of d) t.0) → ⊥
  not_in_left h =
      let there : h.process < length d.processes = left_there d m h.process h.forward h.left in
      elim (area_cases d h.process (λ u. names d m.copies h.process u false) (segment_extent (shape_of d) t.0) h.inside) [
        | inl own ↦ let z : ⊥ = omega (arith, there, own) in z
        | inr (u, lu, says, extent) ↦
            let same : u ≡ t.0 = omega (arith, extent) in
            let named = named_primary d m h.process t.0 (subst (λ x. names d m.copies h.process x false ≡ true) same says) in
            let mine = (claims named.0).0 in
            let theirs = named.1 in
            let its : h.process ≡ r.pid.0 = omega (arith, mine, theirs) in
            gripped_is_kept d m stands.words p r.pid.0 (Holding Run) h.forward (ap grip e) (not_recovering (m.hand p) r.pid.0 (Holding Run) (ap grip e) (λ x. x)) (subst (λ x. IsLeft d m x h.forward) its h.left)
      ]

  pub at_rest : Rests (shape_of d) m.copies (committed_blocks d at) (segment_extent (shape_of d) t.0)
  at_rest = go (blocks.extents (segment_extent (shape_of d) t.0) (let lt = below in omega (arith, lt)))
    where
      go : ExtentStands d at m (segment_extent (shape_of d) t.0) → Rests (shape_of d) m.copies (committed_blocks d at) (segment_extent (shape_of d) t.0)
      go (inl h) = absurd (not_in_hand h)
      go (inr (inl h)) = absurd (not_in_left h)
      go (inr (inr h)) = h
