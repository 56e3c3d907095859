-- No extent is one of those of two hands.
use Rattle.std.proofs.Common.{ap, ◌≡◌, ◌≢◌, ◌⊎◌, ℕ, ◌<◌, true, false, length, inl, inr, refl, sym, ◌∙◌, subst, arith}
use Rattle.std.proofs.lemmas.Bool.{cases_Bool, false≢true}
use Rattle.seq_words.specs.declared.description.MachineDesc.{MachineDesc}
use Rattle.seq_layout.specs.Copies.{Copies}
use Rattle.seq_image.specs.Areas.{in_area}
use Rattle.seq_image.proofs.Areas.{area_cases}
use Rattle.seq_turns.specs.declared.hand.Hand.{Hand}
use Rattle.seq_turns.specs.declared.hand.Hand.TheVariants as hand
use Rattle.seq_turns.specs.Machines.{Machine}
use Rattle.seq_layout.specs.Shapes.{shape_of, segment_extent}
use Rattle.seq_stands.specs.Grips.{Stage}
use Rattle.seq_stands.specs.Grips.Grip.{On}
use Rattle.seq_stands.specs.Words.{View, words_of, GripHolds, WordsStand}
use Rattle.seq_stands.specs.Locks.{LockGrip, lock_view, lock_grip, LockClaims, HandLocks, LocksStand}
use Rattle.seq_stands.specs.Locks.Hold.{Half, Whole}
use Rattle.seq_stands.specs.Locks.LockGrip.{Without, With}
use Rattle.seq_stands.proofs.Gripped.{Firm, firm_running, firm_acquiring, firm_flushing, firm_unlocking, firm_of, named_firm, same_holder}
use Rattle.seq_invariant.specs.BlockAreas.{is_whole, segments_of, hand_area}
use Rattle.std.proofs.Common.{Option, Some, None, suc}
use Rattle.std.proofs.lemmas.Bool.{eqb-true, cases_lt}
use Rattle.std.proofs.lemmas.List.{get_or_past}
use Rattle.seq_words.specs.declared.names.Pid.{Pid}
use Rattle.seq_flat.specs.State.{no_segment, segment_at}
use Rattle.seq_flat.specs.Memory.{is_owner}
use Rattle.seq_runs.specs.Areas.{holds}
use Rattle.seq_turns.specs.declared.hand.FlushAt.TheVariants as flush
use Rattle.seq_invariant.specs.BlockApart.{HandsAreApart, number_of, owners_of, FlushesCommitAlone}

-- the process of a hand that has extents
pub record Has (d : MachineDesc) (h : Hand) (e : ℕ) : Type 0 where
  pub process : ℕ
  pub firm : Firm h process
  pub inside : in_area d process (segments_of d h) e ≡ true

pub has : (d : MachineDesc) (h : Hand) (e : ℕ) → hand_area d h e ≡ true → Has d h e
has d hand.Down e is = absurd (false≢true is)
has d hand.Seek e is = absurd (false≢true is)
has d (hand.Claiming q c) e is = absurd (false≢true is)
has d (hand.Running r) e is = record { process = r.pid.0; firm = firm_running r; inside = is }
has d (hand.Acquiring r t c) e is = record { process = r.pid.0; firm = firm_acquiring r t c; inside = is }
has d (hand.Flushing r why mask f) e is = record { process = r.pid.0; firm = firm_flushing r why mask f; inside = is }
has d (hand.Unlocking r why mask l) e is = record { process = r.pid.0; firm = firm_unlocking r why mask l; inside = is }
has d (hand.Leaving q l) e is = absurd (false≢true is)
has d (hand.Recovering x) e is = absurd (false≢true is)

-- what a hand knows of a lock
pub lock_claims : (d : MachineDesc) (owner : ℕ → ℕ) (p : Copies) (h : Hand) → HandLocks d owner p h → (t : ℕ) → t < length d.segments → LockClaims (lock_view d p t) (lock_grip d h t)
lock_claims d owner p hand.Down k t lt = tt
lock_claims d owner p hand.Seek k t lt = tt
lock_claims d owner p (hand.Claiming q c) k t lt = tt
lock_claims d owner p (hand.Running r) k t lt = k.claims t lt
lock_claims d owner p (hand.Acquiring r s c) k t lt = k.0.claims t lt
lock_claims d owner p (hand.Flushing r why mask f) k t lt = k.0.claims t lt
lock_claims d owner p (hand.Unlocking r why mask l) k t lt = k.0.claims t lt
lock_claims d owner p (hand.Leaving q l) k t lt = tt
lock_claims d owner p (hand.Recovering x) k t lt = tt

whole_is : (g : LockGrip) → is_whole g ≡ true → (q : ℕ) × (g ≡ With q Whole)
whole_is Without is = absurd (false≢true is)
whole_is (With q Half) is = absurd (false≢true is)
whole_is (With q Whole) is = (q, refl)

-- two that have hold of both copies of a lock are one
pub one_owner : (v : View) (a b : ℕ) → (v.up1 ≡ false → v.up2 ≡ true) → LockClaims v (With a Whole) → LockClaims v (With b Whole) → a ≡ b
one_owner v a b served ka kb = go (cases_Bool v.up1)
  where
    go : (v.up1 ≡ true) ⊎ (v.up1 ≡ false) → a ≡ b
    go (inl up) = let i = ka.0 up in let j = kb.0 up in omega (arith, i, j)
    go (inr out) = let i = ka.1 (served out) in let j = kb.1 (served out) in omega (arith, i, j)

pub on_one : {a b : ℕ} {s s' : Stage} → On a s ≡ On b s' → a ≡ b
on_one e = cc

module _ (d : MachineDesc) (owner : ℕ → ℕ) (m : Machine) (st : WordsStand (words_of d m)) (locks : LocksStand d owner m) where
  pub inside : (p q : ℕ) → Firm (m.hand p) q → q < length d.processes
  inside p q f = (subst (GripHolds (words_of d m) p) f.gripped (st.grips p)).process

  -- whose lock a hand has hold of
  pub lock_of : (p q e t : ℕ) → Firm (m.hand p) q → segments_of d (m.hand p) t ≡ true → lock_grip d (m.hand p) t ≡ With q Whole
  lock_of p q e t f is =
      let whole = whole_is (lock_grip d (m.hand p) t) is in
      let other = firm_of d (m.hand p) t whole.0 Whole whole.1 in
      let same : whole.0 ≡ q = on_one (sym other.gripped ∙ f.gripped) in
      subst (λ x. lock_grip d (m.hand p) t ≡ With x Whole) same whole.1

  pub clash : (p r q q' : ℕ) → r ≢ p → Firm (m.hand p) q → Firm (m.hand r) q' → q' ≡ q → ⊥
  clash p r q q' ne f g same = ne (same_holder d m st r p q (named_firm d m st r q (subst (Firm (m.hand r)) same g)) (named_firm d m st p q f))

  meet : (p r e : ℕ) → r ≢ p → Has d (m.hand p) e → Has d (m.hand r) e → ⊥
  meet p r e ne a b = elim (area_cases d a.process (segments_of d (m.hand p)) e a.inside) [
    | inl own ↦ elim (area_cases d b.process (segments_of d (m.hand r)) e b.inside) [
      | inl own' ↦ clash p r a.process b.process ne a.firm b.firm (sym own' ∙ own)
      | inr (t, lt, is, extent) ↦ let there = inside p a.process a.firm in let c : ⊥ = omega (arith, there, own, extent) in c
    ]
    | inr (t, lt, is, extent) ↦ elim (area_cases d b.process (segments_of d (m.hand r)) e b.inside) [
      | inl own' ↦ let there = inside r b.process b.firm in let c : ⊥ = omega (arith, there, own', extent) in c
      | inr (u, lu, is', extent') ↦
          let same : u ≡ t = omega (arith, extent, extent') in
          let first : LockClaims (lock_view d m.copies t) (With a.process Whole) = subst (LockClaims (lock_view d m.copies t)) (lock_of p a.process e t a.firm is) (lock_claims d owner m.copies (m.hand p) (locks.hands p) t lt) in
          let second : LockClaims (lock_view d m.copies t) (With b.process Whole) = subst (LockClaims (lock_view d m.copies t)) (lock_of r b.process e t b.firm (subst (λ x. segments_of d (m.hand r) x ≡ true) same is')) (lock_claims d owner m.copies (m.hand r) (locks.hands r) t lt) in
          clash p r a.process b.process ne a.firm b.firm (one_owner (lock_view d m.copies t) b.process a.process (st.served (segment_extent (shape_of d) t)) second first)
    ]
  ]

pub hands_are_apart : HandsAreApart
hands_are_apart d owner m p r e st locks ne is = go (cases_Bool (hand_area d (m.hand r) e))
  where
    go : (hand_area d (m.hand r) e ≡ true) ⊎ (hand_area d (m.hand r) e ≡ false) → hand_area d (m.hand r) e ≡ false
    go (inl also) = absurd (meet d owner m st locks p r e ne (has d (m.hand p) e is) (has d (m.hand r) e also))
    go (inr out) = out

-- who owns a segment is named by its number
pub owner_named : (p : ℕ) (o : Option Pid) → is_owner p o ≡ true → number_of o ≡ suc p
owner_named p None is = absurd (false≢true is)
owner_named p (Some q) is = ap suc (eqb-true q.0 p is)

pub flushes_commit_alone : FlushesCommitAlone
flushes_commit_alone d at m p r why mask f st locks flat e k = record { alone = k.0.works.alone; owned = owned }
  where
    -- whoever owns a segment of its area is the process itself
    same : (x t : ℕ) → t < length d.segments → holds at.state x t ≡ true → segments_of d (hand.Flushing r why mask (flush.First f)) t ≡ true → x ≡ r.pid.0
    same x t lt held is =
        let owner : owners_of at.state t ≡ suc x = owner_named x (segment_at at.state t).owner held in
        let named = locks.owned t lt (λ none. let c : ⊥ = omega (arith, owner, none) in c) in
        let grip : lock_grip d (m.hand p) t ≡ With r.pid.0 Whole = lock_of d (owners_of at.state) m st locks p r.pid.0 0 t (subst (λ h. Firm h r.pid.0) (sym e) (firm_flushing r why mask (flush.First f))) (ap (λ h. segments_of d h t) e ∙ is) in
        let mine : LockClaims (lock_view d m.copies t) (With r.pid.0 Whole) = subst (LockClaims (lock_view d m.copies t)) grip (lock_claims d (owners_of at.state) m.copies (m.hand p) (locks.hands p) t lt) in
        one_owner (lock_view d m.copies t) x r.pid.0 (st.served (segment_extent (shape_of d) t)) (λ up. named.first up ∙ owner, λ up. named.second up ∙ owner) mine

    owned : (x t : ℕ) → x ≢ r.pid.0 → holds at.state x t ≡ true → segments_of d (hand.Flushing r why mask (flush.First f)) t ≡ false
    owned x t ne held = elim (cases_lt t (length d.segments)) [
      | inl lt ↦ go lt (cases_Bool (segments_of d (hand.Flushing r why mask (flush.First f)) t))
      | inr past ↦ absurd (false≢true (sym (ap (λ s. is_owner x s.owner) (get_or_past at.state.segments t no_segment (omega (arith, past, flat.segments)))) ∙ held))
    ]
      where
        go : t < length d.segments → (segments_of d (hand.Flushing r why mask (flush.First f)) t ≡ true) ⊎ (segments_of d (hand.Flushing r why mask (flush.First f)) t ≡ false) → segments_of d (hand.Flushing r why mask (flush.First f)) t ≡ false
        go lt (inl is) = absurd (ne (same x t lt held is))
        go lt (inr out) = out
