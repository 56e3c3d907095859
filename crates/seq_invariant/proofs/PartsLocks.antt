-- Lock words, and what a hand holds.
use Rattle.std.proofs.Common.{◌≡◌, ◌⊎◌, inl, inr, ℕ, suc, ◌<◌, Bool, true, false, ◌||◌, if◌then◌else◌, length, Option, Some, None, refl, ap, sym, ◌∙◌, subst, arith}
use Rattle.std.proofs.lemmas.Bool.{cases_Bool, cases_eq, cond-true, cond-false, eqb-true, false≢true, true≢false}
use Rattle.seq_words.specs.Masks.{has_bit}
use Rattle.seq_words.specs.declared.description.MachineDesc.{MachineDesc}
use Rattle.seq_words.specs.declared.names.Pid.{Pid}
use Rattle.seq_flat.specs.declared.state.FlatState.{FlatState}
use Rattle.seq_flat.specs.State.{segment_at}
use Rattle.seq_layout.specs.Shapes.{shape_of, segment_extent}
use Rattle.seq_layout.specs.Copies.{Copies, serves}
use Rattle.seq_layout.specs.declared.units.WordAt.{WordAt}
use Rattle.seq_turns.specs.declared.hand.Hand.{Hand}
use Rattle.seq_turns.specs.declared.hand.Hand.TheVariants as hand
use Rattle.seq_turns.specs.declared.hand.ReleaseAt.TheVariants as release
use Rattle.seq_turns.specs.declared.hand.RecoveryAt.{RecoveryAt}
use Rattle.seq_turns.specs.declared.hand.RecoveryAt.TheVariants as recovery
use Rattle.seq_turns.specs.Machines.{Machine}
use Rattle.seq_turns.specs.Reading.{lock_word, ruling as status_now, is_deserted, is_recovered}
use Rattle.seq_stands.specs.Grips.{grip, word, way}
use Rattle.seq_stands.specs.Grips.Stage.{Holding, Recovering}
use Rattle.seq_stands.specs.Grips.Grip.{On}
use Rattle.seq_stands.specs.Words.{View, words_of, ruling, Grips, GripHolds, IsDeserted, WordsStand}
use Rattle.seq_stands.specs.Hands.{IsHand}
use Rattle.seq_stands.specs.Standing.{Stands}
use Rattle.seq_stands.specs.Locks.{Hold, LockGrip, lock_view, whole_if, half_if, is_lock, lock_grip, LockClaims, HandLocks, LockHeld, LockRuled, IsUncleared, IsRecovered, LocksStand}
use Rattle.seq_stands.specs.Locks.Hold.{Half, Whole}
use Rattle.seq_stands.specs.Locks.LockGrip.{With}
use Rattle.seq_stands.proofs.Gripped.{all_recovered}
use Rattle.seq_stands.proofs.LockPlaces.{lock_elsewhere}
use Rattle.seq_stands.proofs.Readings.{first_rules, deserted_says, recovered_says}
use Rattle.seq_stands.proofs.Seeks.{way_is}
use Rattle.seq_invariant.specs.BlockApart.{number_of, owners_of}
use Rattle.seq_invariant.proofs.BlockApart.{lock_claims}
use Rattle.seq_invariant.specs.Orders.{running_in}
use Rattle.seq_invariant.specs.Processes.{lock, lock_copy, HoldsIn, Claims, Releases, SetsOneLock, IsHeld, IsMoved, IsHalfLocked, Awaits, IsOf, LocksNameAlways}

-- a segment that is held is held whole
whole_held : (b : Bool) (x q : ℕ) → b ≡ true → x ≡ q → whole_if b x ≡ With q Whole
whole_held true x q is same = ap (λ y. With y Whole) same
whole_held false x q is same = absurd (false≢true is)

half_other : (b : Bool) (x : ℕ) (g h : LockGrip) → b ≡ false → g ≡ h → half_if b x g ≡ h
half_other true x g h is same = absurd (true≢false is)
half_other false x g h is same = same

either_held : (a b : Bool) → a ≡ true → (a || b) ≡ true
either_held true b is = refl
either_held false b is = absurd (false≢true is)

apart : (d : MachineDesc) (mask held s t : ℕ) (at : WordAt) → at ≡ lock_word d s → has_bit held t ≡ true → has_bit held s ≡ false → is_lock d t at ≡ false
apart d mask held s t at place is out = ap (is_lock d t) place ∙ lock_elsewhere d s t (λ same. true≢false (sym is ∙ ap (has_bit held) same ∙ out))

pub holds_whole : (d : MachineDesc) (owner : ℕ → ℕ) (p : Copies) (i j : ℕ) (h : Hand) (q t : ℕ) → IsHand d i j h → HandLocks d owner p h → HoldsIn (running_in h) q t → lock_grip d h t ≡ With q Whole
holds_whole d owner p i j hand.Down q t own k is = absurd is
holds_whole d owner p i j hand.Seek q t own k is = absurd is
holds_whole d owner p i j (hand.Claiming x c) q t own k is = absurd is
holds_whole d owner p i j (hand.Running r) q t own k is = whole_held (has_bit r.held t) r.pid.0 q is.1 is.0
holds_whole d owner p i j (hand.Acquiring r s c) q t own k is =
    half_other (is_lock d t c.at) r.pid.0 (whole_if (has_bit r.held t) r.pid.0) (With q Whole) (apart d 0 r.held s.0 t c.at own.place is.1 k.1.new) (whole_held (has_bit r.held t) r.pid.0 q is.1 is.0)
holds_whole d owner p i j (hand.Flushing r why mask f) q t own k is = whole_held (has_bit r.held t || has_bit mask t) r.pid.0 q (either_held (has_bit r.held t) (has_bit mask t) is.1) is.0
holds_whole d owner p i j (hand.Unlocking r why mask (release.Shadow l)) q t own k is = whole_held (has_bit r.held t || has_bit mask t) r.pid.0 q (either_held (has_bit r.held t) (has_bit mask t) is.1) is.0
holds_whole d owner p i j (hand.Unlocking r why mask (release.Primary l)) q t own k is =
    half_other (is_lock d t l.at) r.pid.0 (whole_if (has_bit r.held t || has_bit mask t) r.pid.0) (With q Whole) (apart d mask r.held own.segment t l.at own.place is.1 (k.2.given own.segment own.bit))
    (whole_held (has_bit r.held t || has_bit mask t) r.pid.0 q (either_held (has_bit r.held t) (has_bit mask t) is.1) is.0)
holds_whole d owner p i j (hand.Leaving x l) q t own k is = absurd is
holds_whole d owner p i j (hand.Recovering x) q t own k is = absurd is

-- why a hand has hold of a lock
abbrev Why : Hand → ℕ → ℕ → Hold → Type 0
Why h q t hold = ((hold ≡ Whole) × HoldsIn (running_in h) q t) ⊎ Claims h q t ⊎ Releases h q t

with_hold : {a b : ℕ} {x y : Hold} → With a x ≡ With b y → x ≡ y
with_hold e = cc

with_process : {a b : ℕ} {x y : Hold} → With a x ≡ With b y → a ≡ b
with_process e = cc

pub of_whole : (b : Bool) (x q : ℕ) (hold : Hold) → whole_if b x ≡ With q hold → (hold ≡ Whole) × (x ≡ q) × (b ≡ true)
of_whole true x q hold e = (sym (with_hold e), with_process e, refl)
of_whole false x q hold e = absurd (let c : ⊥ = cc in c)

of_half : (b : Bool) (x q : ℕ) (g : LockGrip) (hold : Hold) → half_if b x g ≡ With q hold → ((x ≡ q) × (b ≡ true)) ⊎ (g ≡ With q hold)
of_half true x q g hold e = inl (with_process e, refl)
of_half false x q g hold e = inr e

of_either : (a b : Bool) → (a || b) ≡ true → (a ≡ true) ⊎ (b ≡ true)
of_either true b is = inl refl
of_either false b is = inr is

lock_is : (d : MachineDesc) (s t : ℕ) (at : WordAt) → at ≡ lock_word d s → is_lock d t at ≡ true → s ≡ t
lock_is d s t at place is =
    let e : segment_extent (shape_of d) s ≡ segment_extent (shape_of d) t = eqb-true _ _ (sym (ap (is_lock d t) place) ∙ is) in
    omega (arith, e)

module _ (d : MachineDesc) (i j q t : ℕ) (hold : Hold) where
  pub why : (h : Hand) → IsHand d i j h → lock_grip d h t ≡ With q hold → Why h q t hold
  why hand.Down own e = absurd (let c : ⊥ = cc in c)
  why hand.Seek own e = absurd (let c : ⊥ = cc in c)
  why (hand.Claiming x c) own e = absurd (let c : ⊥ = cc in c)
  why (hand.Running r) own e = let w = of_whole (has_bit r.held t) r.pid.0 q hold e in inl (w.0, (w.1, w.2))
  why (hand.Acquiring r s c) own e = go (of_half (is_lock d t c.at) r.pid.0 q (whole_if (has_bit r.held t) r.pid.0) hold e)
    where
      go : ((r.pid.0 ≡ q) × (is_lock d t c.at ≡ true)) ⊎ (whole_if (has_bit r.held t) r.pid.0 ≡ With q hold) → Why (hand.Acquiring r s c) q t hold
      go (inl k) = inr (inl (k.0, lock_is d s.0 t c.at own.place k.1))
      go (inr k) = let w = of_whole (has_bit r.held t) r.pid.0 q hold k in inl (w.0, (w.1, w.2))
  why (hand.Flushing r cause mask f) own e = go (of_whole (has_bit r.held t || has_bit mask t) r.pid.0 q hold e)
    where
      pick : (hold ≡ Whole) → (r.pid.0 ≡ q) → (has_bit r.held t ≡ true) ⊎ (has_bit mask t ≡ true) → Why (hand.Flushing r cause mask f) q t hold
      pick a b (inl c) = inl (a, (b, c))
      pick a b (inr c) = inr (inr (b, c))

      go : (hold ≡ Whole) × (r.pid.0 ≡ q) × ((has_bit r.held t || has_bit mask t) ≡ true) → Why (hand.Flushing r cause mask f) q t hold
      go w = pick w.0 w.1 (of_either (has_bit r.held t) (has_bit mask t) w.2)
  why (hand.Unlocking r cause mask (release.Shadow l)) own e = go (of_whole (has_bit r.held t || has_bit mask t) r.pid.0 q hold e)
    where
      pick : (hold ≡ Whole) → (r.pid.0 ≡ q) → (has_bit r.held t ≡ true) ⊎ (has_bit mask t ≡ true) → Why (hand.Unlocking r cause mask (release.Shadow l)) q t hold
      pick a b (inl c) = inl (a, (b, c))
      pick a b (inr c) = inr (inr (b, c))

      go : (hold ≡ Whole) × (r.pid.0 ≡ q) × ((has_bit r.held t || has_bit mask t) ≡ true) → Why (hand.Unlocking r cause mask (release.Shadow l)) q t hold
      go w = pick w.0 w.1 (of_either (has_bit r.held t) (has_bit mask t) w.2)
  why (hand.Unlocking r cause mask (release.Primary l)) own e = first (of_half (is_lock d t l.at) r.pid.0 q (whole_if (has_bit r.held t || has_bit mask t) r.pid.0) hold e)
    where
      pick : (hold ≡ Whole) → (r.pid.0 ≡ q) → (has_bit r.held t ≡ true) ⊎ (has_bit mask t ≡ true) → Why (hand.Unlocking r cause mask (release.Primary l)) q t hold
      pick a b (inl c) = inl (a, (b, c))
      pick a b (inr c) = inr (inr (b, c))

      go : (hold ≡ Whole) × (r.pid.0 ≡ q) × ((has_bit r.held t || has_bit mask t) ≡ true) → Why (hand.Unlocking r cause mask (release.Primary l)) q t hold
      go w = pick w.0 w.1 (of_either (has_bit r.held t) (has_bit mask t) w.2)

      first : ((r.pid.0 ≡ q) × (is_lock d t l.at ≡ true)) ⊎ (whole_if (has_bit r.held t || has_bit mask t) r.pid.0 ≡ With q hold) → Why (hand.Unlocking r cause mask (release.Primary l)) q t hold
      first (inl k) = inr (inr (k.0, subst (λ s. has_bit mask s ≡ true) (lock_is d own.segment t l.at own.place k.1) own.bit))
      first (inr k) = go (of_whole (has_bit r.held t || has_bit mask t) r.pid.0 q hold k)
  why (hand.Leaving x l) own e = absurd (let c : ⊥ = cc in c)
  why (hand.Recovering x) own e = absurd (let c : ⊥ = cc in c)

-- a lock that is held by half is being claimed or released
module _ (d : MachineDesc) (i j q t : ℕ) where
  not_half : (b : Bool) (x : ℕ) → whole_if b x ≡ With q Half → ⊥
  not_half b x e = let same : Half ≡ Whole = (of_whole b x q Half e).0 in let c : ⊥ = cc in c

  pub half_sets : (h : Hand) → IsHand d i j h → lock_grip d h t ≡ With q Half → SetsOneLock d h q t
  half_sets hand.Down own e = absurd (let c : ⊥ = cc in c)
  half_sets hand.Seek own e = absurd (let c : ⊥ = cc in c)
  half_sets (hand.Claiming x c) own e = absurd (let c : ⊥ = cc in c)
  half_sets (hand.Running r) own e = absurd (not_half (has_bit r.held t) r.pid.0 e)
  half_sets (hand.Acquiring r s c) own e = go (of_half (is_lock d t c.at) r.pid.0 q (whole_if (has_bit r.held t) r.pid.0) Half e)
    where
      go : ((r.pid.0 ≡ q) × (is_lock d t c.at ≡ true)) ⊎ (whole_if (has_bit r.held t) r.pid.0 ≡ With q Half) → SetsOneLock d (hand.Acquiring r s c) q t
      go (inl k) = (k.0, lock_is d s.0 t c.at own.place k.1)
      go (inr k) = absurd (not_half (has_bit r.held t) r.pid.0 k)
  half_sets (hand.Flushing r cause mask f) own e = absurd (not_half (has_bit r.held t || has_bit mask t) r.pid.0 e)
  half_sets (hand.Unlocking r cause mask (release.Shadow l)) own e = absurd (not_half (has_bit r.held t || has_bit mask t) r.pid.0 e)
  half_sets (hand.Unlocking r cause mask (release.Primary l)) own e = go (of_half (is_lock d t l.at) r.pid.0 q (whole_if (has_bit r.held t || has_bit mask t) r.pid.0) Half e)
    where
      go : ((r.pid.0 ≡ q) × (is_lock d t l.at ≡ true)) ⊎ (whole_if (has_bit r.held t || has_bit mask t) r.pid.0 ≡ With q Half) → SetsOneLock d (hand.Unlocking r cause mask (release.Primary l)) q t
      go (inl k) = (k.0, own.place ∙ ap (lock_word d) (lock_is d own.segment t l.at own.place k.1))
      go (inr k) = absurd (not_half (has_bit r.held t || has_bit mask t) r.pid.0 k)
  half_sets (hand.Leaving x l) own e = absurd (let c : ⊥ = cc in c)
  half_sets (hand.Recovering x) own e = absurd (let c : ⊥ = cc in c)

-- who is left, or recovered, awaits recovery
either_first : (a b : Bool) → a ≡ true → (a || b) ≡ true
either_first true b e = refl
either_first false b e = absurd (false≢true e)

either_second : (a b : Bool) → b ≡ true → (a || b) ≡ true
either_second true b e = refl
either_second false b e = e

module _ (d : MachineDesc) (m : Machine) (st : WordsStand (words_of d m)) where
  pub deserted_awaits : (q : ℕ) → IsDeserted (words_of d m) q → Awaits d m q
  deserted_awaits q k = either_first (is_deserted m.incarnation (status_now d m.copies q)) (is_recovered (status_now d m.copies q))
      (deserted_says d m.copies m.incarnation q k.kind k.holder k.number (st.served q) k.small k.named (let s = k.stopped in λ e. let c : ⊥ = omega (arith, s, e) in c))

  says : (p q : ℕ) (x : RecoveryAt) (f : Bool) → m.hand p ≡ hand.Recovering x → ((words_of d m).view q).word1 ≡ word (way f) p (m.incarnation p) → p < 256 → Awaits d m q
  says p q x f e w small = either_second (is_deserted m.incarnation (status_now d m.copies q)) (is_recovered (status_now d m.copies q))
      (recovered_says d m.copies q (way f) p (m.incarnation p) (st.served q) small (cond-true _ _ _ (all_recovered d m st p x e q).0 ∙ w) (way_is f))

  pub recovered_awaits : (p q : ℕ) (x : RecoveryAt) → m.hand p ≡ hand.Recovering x → IsUncleared x q → Awaits d m q
  recovered_awaits p q (recovery.Claimed r) e its =
      let g : Grips (words_of d m) p q (Recovering (way r.forward)) = subst (GripHolds (words_of d m) p) (ap grip e ∙ ap (λ y. On y (Recovering (way r.forward))) its) (st.grips p) in
      says p q (recovery.Claimed r) r.forward e g.claims.2 g.processor
  recovered_awaits p q (recovery.Copying r) e its =
      let g : Grips (words_of d m) p q (Holding (way r.forward)) = subst (GripHolds (words_of d m) p) (ap grip e ∙ ap (λ y. On y (Holding (way r.forward))) its) (st.grips p) in
      says p q (recovery.Copying r) r.forward e (g.claims.0 (all_recovered d m st p (recovery.Copying r) e q).0) g.processor
  recovered_awaits p q (recovery.Locks r) e its =
      let g : Grips (words_of d m) p q (Holding (way r.forward)) = subst (GripHolds (words_of d m) p) (ap grip e ∙ ap (λ y. On y (Holding (way r.forward))) its) (st.grips p) in
      says p q (recovery.Locks r) r.forward e (g.claims.0 (all_recovered d m st p (recovery.Locks r) e q).0) g.processor
  recovered_awaits p q (recovery.Closing r) e its = absurd its

  pub left_awaits : (q : ℕ) → IsDeserted (words_of d m) q ⊎ IsRecovered m q → Awaits d m q
  left_awaits q (inl k) = deserted_awaits q k
  left_awaits q (inr k) = recovered_awaits k.processor q k.at k.hand k.uncleared

-- owners by their numbers
owner_none : (o : Option Pid) → number_of o ≡ 0 → o ≡ None
owner_none None e = refl
owner_none (Some x) e = absurd (let c : ⊥ = omega (arith, e) in c)

owner_some : (o : Option Pid) (q : ℕ) → number_of o ≡ suc q → o ≡ Some (record { 0 = q })
owner_some None q e = absurd (let c : ⊥ = omega (arith, e) in c)
owner_some (Some x) q e = let same : x.0 ≡ q = omega (arith, e) in ap (λ y. Some (record { 0 = y })) same

module _ (d : MachineDesc) (f : FlatState) (m : Machine) (st : Stands d m) (locks : LocksStand d (owners_of f) m) (t : ℕ) (lt : t < length d.segments) where
  abbrev v : View
  v = lock_view d m.copies t

  first : lock d m t ≡ ruling v
  first = first_rules d m.copies (segment_extent (shape_of d) t) (st.words.served (segment_extent (shape_of d) t))

  -- both copies say a number: so does the one that rules
  rules : (x : ℕ) → (v.up1 ≡ true → v.word1 ≡ x) → (v.up2 ≡ true → v.word2 ≡ x) → ruling v ≡ x
  rules x a b = go (cases_Bool v.up1)
    where
      go : (v.up1 ≡ true) ⊎ (v.up1 ≡ false) → ruling v ≡ x
      go (inl up) = cond-true _ _ _ up ∙ a up
      go (inr out) = cond-false _ _ _ out ∙ b (st.words.served (segment_extent (shape_of d) t) out)

  up : (b : Bool) (w : ℕ) → b ≡ true → (if b then w else 0) ≡ w
  up true w e = refl
  up false w e = absurd (false≢true e)

  pub unowned : lock d m t ≡ 0 → (segment_at f t).owner ≡ None
  unowned zero_is = go (cases_eq (owners_of f t) 0)
    where
      go : (owners_of f t ≡ 0) ⊎ (owners_of f t ≡ 0 → ⊥) → (segment_at f t).owner ≡ None
      go (inl z) = owner_none (segment_at f t).owner z
      go (inr ne) = let n = locks.owned t lt ne in absurd (ne (sym (rules (owners_of f t) n.first n.second) ∙ sym first ∙ zero_is))

  pub unheld : (q : ℕ) → lock d m t ≡ 0 → IsHeld m q t → ⊥
  unheld q zero_is k =
      let own = st.hands.hands k.processor in
      let grip : lock_grip d (m.hand k.processor) t ≡ With q Whole = holds_whole d (owners_of f) m.copies k.processor (m.incarnation k.processor) (m.hand k.processor) q t own (locks.hands k.processor) k.holds in
      let claims : LockClaims v (With q Whole) = subst (LockClaims v) grip (lock_claims d (owners_of f) m.copies (m.hand k.processor) (locks.hands k.processor) t lt) in
      let e : suc q ≡ 0 = sym (rules (suc q) claims.0 claims.1) ∙ sym first ∙ zero_is in
      let c : ⊥ = omega (arith, e) in c

  moved : (p q : ℕ) (hold : Hold) → Why (m.hand p) q t hold → IsHeld m q t ⊎ IsMoved m q t ⊎ Awaits d m q
  moved p q hold (inl k) = inl (record { processor = p; holds = k.1 })
  moved p q hold (inr k) = inr (inl (record { processor = p; moves = k }))

  why_held : (k : LockHeld d m t) → Why (m.hand k.holder) k.process t k.hold
  why_held k = why d k.holder (m.incarnation k.holder) k.process t k.hold (m.hand k.holder) (st.hands.hands k.holder) k.gripped

  same_process : (q x : ℕ) → lock d m t ≡ suc q → ruling v ≡ suc x → x ≡ q
  same_process q x is says = let e : suc x ≡ suc q = sym says ∙ sym first ∙ is in omega (arith, e)

  by_ruled : (q : ℕ) → lock d m t ≡ suc q → LockRuled d m t → IsHeld m q t ⊎ IsMoved m q t ⊎ Awaits d m q
  by_ruled q is (inl k) = let e : suc q ≡ 0 = sym is ∙ first ∙ k.free in absurd (let c : ⊥ = omega (arith, e) in c)
  by_ruled q is (inr (inl k)) = subst (λ x. IsHeld m x t ⊎ IsMoved m x t ⊎ Awaits d m x) (same_process q k.process is k.named) (moved k.holder k.process k.hold (why_held k))
  by_ruled q is (inr (inr k)) =
      let says : ruling v ≡ suc k.process = cond-true _ _ _ (k.all (segment_extent (shape_of d) t)).0 ∙ k.first in
      subst (λ x. IsHeld m x t ⊎ IsMoved m x t ⊎ Awaits d m x) (same_process q k.process is says) (inr (inr (left_awaits d m st.words k.process k.left)))

  pub named : (q : ℕ) → lock d m t ≡ suc q → IsOf d f m q t
  named q is = go (cases_eq (owners_of f t) 0)
    where
      go : (owners_of f t ≡ 0) ⊎ (owners_of f t ≡ 0 → ⊥) → IsOf d f m q t
      go (inl z) = inr (owner_none (segment_at f t).owner z, by_ruled q is (locks.ruled t lt z))
      go (inr ne) = let n = locks.owned t lt ne in inl (owner_some (segment_at f t).owner q (sym (rules (owners_of f t) n.first n.second) ∙ sym first ∙ is))

  module _ (one : serves (shape_of d) m.copies (segment_extent (shape_of d) t) false ≡ true) (two : serves (shape_of d) m.copies (segment_extent (shape_of d) t) true ≡ true) where
    word1 : v.word1 ≡ lock_copy d m t false
    word1 = up (serves (shape_of d) m.copies (segment_extent (shape_of d) t) false) (lock_copy d m t false) one

    word2 : v.word2 ≡ lock_copy d m t true
    word2 = up (serves (shape_of d) m.copies (segment_extent (shape_of d) t) true) (lock_copy d m t true) two

    lock_says : (x : ℕ) → lock_copy d m t false ≡ x → lock d m t ≡ x
    lock_says x e = first ∙ cond-true _ _ _ one ∙ word1 ∙ e

    abbrev Same : ℕ → Type 0
    Same q = (lock_copy d m t true ≡ suc q) ⊎ ((lock_copy d m t true ≡ 0) × (IsHalfLocked d m q t ⊎ Awaits d m q))

    by_hold : (p q : ℕ) (hold : Hold) → lock_grip d (m.hand p) t ≡ With q hold → LockClaims v (With q hold) → Same q
    by_hold p q Half e claims = inr (sym word2 ∙ (claims one).1 two, inl (record { processor = p; sets = half_sets d p (m.incarnation p) q t (m.hand p) (st.hands.hands p) e }))
    by_hold p q Whole e claims = inl (sym word2 ∙ claims.1 two)

    by_left : (q : ℕ) → Awaits d m q → (v.word2 ≡ 0) ⊎ (v.word2 ≡ suc q) → Same q
    by_left q a (inl z) = inr (sym word2 ∙ z, inr a)
    by_left q a (inr e) = inl (sym word2 ∙ e)

    same_ruled : (q : ℕ) → lock_copy d m t false ≡ suc q → LockRuled d m t → Same q
    same_ruled q is (inl k) = let e : suc q ≡ 0 = sym (lock_says (suc q) is) ∙ first ∙ k.free in absurd (let c : ⊥ = omega (arith, e) in c)
    same_ruled q is (inr (inl k)) =
        let claims : LockClaims v (With k.process k.hold) = subst (LockClaims v) k.gripped (lock_claims d (owners_of f) m.copies (m.hand k.holder) (locks.hands k.holder) t lt) in
        subst Same (same_process q k.process (lock_says (suc q) is) k.named) (by_hold k.holder k.process k.hold k.gripped claims)
    same_ruled q is (inr (inr k)) =
        let named : ruling v ≡ suc k.process = cond-true _ _ _ one ∙ k.first in
        subst Same (same_process q k.process (lock_says (suc q) is) named) (by_left k.process (left_awaits d m st.words k.process k.left) k.second)

    pub same : (q : ℕ) → lock_copy d m t false ≡ suc q → Same q
    same q is = go (cases_eq (owners_of f t) 0)
      where
        go : (owners_of f t ≡ 0) ⊎ (owners_of f t ≡ 0 → ⊥) → Same q
        go (inl z) = same_ruled q is (locks.ruled t lt z)
        go (inr ne) = let n = locks.owned t lt ne in inl (sym word2 ∙ n.second two ∙ sym (n.first one) ∙ word1 ∙ is)

    shadow_ruled : lock_copy d m t false ≡ 0 → LockRuled d m t → lock_copy d m t true ≡ 0
    shadow_ruled is (inl k) = sym word2 ∙ k.both one two
    shadow_ruled is (inr (inl k)) = let e : suc k.process ≡ 0 = sym k.named ∙ sym first ∙ lock_says 0 is in absurd (let c : ⊥ = omega (arith, e) in c)
    shadow_ruled is (inr (inr k)) = let e : suc k.process ≡ 0 = sym k.first ∙ word1 ∙ is in absurd (let c : ⊥ = omega (arith, e) in c)

    pub shadow : lock_copy d m t false ≡ 0 → lock_copy d m t true ≡ 0
    shadow is = go (cases_eq (owners_of f t) 0)
      where
        go : (owners_of f t ≡ 0) ⊎ (owners_of f t ≡ 0 → ⊥) → lock_copy d m t true ≡ 0
        go (inl z) = shadow_ruled is (locks.ruled t lt z)
        go (inr ne) = let n = locks.owned t lt ne in sym word2 ∙ n.second two ∙ sym (n.first one) ∙ word1 ∙ is

pub locks_name : LocksNameAlways
locks_name d events m described all =
    let f = all.at.state in
    let st = all.holds.words in
    let locks = all.holds.locks in
    record {
      unowned = λ t lt is. unowned d f m st locks t lt is;
      unheld = λ t q lt is k. unheld d f m st locks t lt q is k;
      named = λ t q lt is. named d f m st locks t lt q is;
      same = λ t q lt one two is. same d f m st locks t lt one two q is;
      shadow = λ t lt one two is. shadow d f m st locks t lt one two is;
    }
