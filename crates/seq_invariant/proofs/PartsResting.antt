-- Extents at rest hold what is committed.
use Rattle.std.proofs.Common.{◌≡◌, ◌⊎◌, inl, inr, ℕ, suc, ◌+◌, ◌<◌, Bool, true, false, ◌||◌, ◌==◌, List, length, refl, sym, ◌∙◌, subst, arith}
use Rattle.std.proofs.lemmas.Bool.{cases_Bool, cond-true, cond-false, eqb-true, false≢true, true≢false}
use Rattle.seq_words.specs.declared.description.MachineDesc.{MachineDesc}
use Rattle.seq_words.specs.declared.events.Event.{Event}
use Rattle.seq_layout.specs.Shapes.{shape_of, segment_extent}
use Rattle.seq_cache.specs.Changes.{Changes}
use Rattle.seq_image.specs.Areas.{in_area}
use Rattle.seq_image.proofs.Areas.{area_cases}
use Rattle.seq_turns.specs.declared.hand.Hand.{Hand}
use Rattle.seq_turns.specs.declared.hand.Hand.TheVariants as hand
use Rattle.seq_turns.specs.declared.hand.RecoveryAt.{RecoveryAt}
use Rattle.seq_turns.specs.declared.hand.RecoveryAt.TheVariants as recovery
use Rattle.seq_turns.specs.Machines.{Machine}
use Rattle.seq_turns.specs.Reading.{ruling as status_now, awaits, is_deserted, is_recovered}
use Rattle.seq_recover.specs.Reading.{names}
use Rattle.seq_stands.specs.Words.{View, ruling}
use Rattle.seq_stands.specs.Locks.{lock_view, LockClaims, IsUncleared}
use Rattle.seq_stands.specs.Locks.Hold.{Whole}
use Rattle.seq_stands.specs.Locks.LockGrip.{With}
use Rattle.seq_stands.proofs.Gripped.{Firm}
use Rattle.seq_stands.proofs.Readings.{first_rules}
use Rattle.seq_invariant.specs.BlockApart.{owners_of}
use Rattle.seq_invariant.specs.BlockAreas.{segments_of, hand_area}
use Rattle.seq_invariant.specs.BlockWorks.{Committed}
use Rattle.seq_invariant.specs.BlockHands.{HandKnows}
use Rattle.seq_invariant.specs.BlockLeft.{HasToCopy, IsLeft}
use Rattle.seq_invariant.specs.BlockStanding.{IsInHand, IsInLeft, ExtentStands}
use Rattle.seq_invariant.proofs.BlockApart.{Has, has, lock_claims, lock_of, inside, on_one}
use Rattle.seq_invariant.proofs.BlockFrame.{left_there}
use Rattle.seq_invariant.proofs.BlockLines.{below_lines}
use Rattle.seq_invariant.specs.Holds.{Holds}
use Rattle.seq_invariant.specs.Processes.{lock, Awaits}
use Rattle.seq_invariant.specs.AreasHold.{area_of, Flushes, Rests, RestingAreasHoldAlways}
use Rattle.seq_invariant.proofs.Apart.{named_primary}
use Rattle.seq_invariant.proofs.PartsLocks.{recovered_awaits}
use Rattle.seq_invariant.proofs.PartsFlushes.{kept_at, both_rest}

still_uncleared : (x : RecoveryAt) (q : ℕ) (forward : Bool) → HasToCopy x q forward → IsUncleared x q
still_uncleared (recovery.Claimed r) q forward h = h.0
still_uncleared (recovery.Copying r) q forward h = h.0
still_uncleared (recovery.Locks r) q forward h = absurd h
still_uncleared (recovery.Closing r) q forward h = absurd h

either : (a b : Bool) → a ≡ true → (a || b) ≡ true
either true b e = refl
either false b e = absurd (false≢true e)

module _ (d : MachineDesc) (events : List Event) (at : Committed) (m : Machine) (st : Holds d events at m) where
  -- a process that was left awaits recovery
  pub left_awaits : (q : ℕ) (forward : Bool) → IsLeft d m q forward → Awaits d m q
  left_awaits q forward (inl k) = either (is_deserted m.incarnation (status_now d m.copies q)) (is_recovered (status_now d m.copies q)) k.deserted
  left_awaits q forward (inr k) = recovered_awaits d m st.words.words k.processor q k.at k.hand (still_uncleared k.at q forward k.copies)

  -- the lock of a segment in a hand's area, and in that of a process that was left, names the process
  pub lock_is : (t : ℕ) → lock d m t ≡ ruling (lock_view d m.copies t)
  lock_is t = first_rules d m.copies (segment_extent (shape_of d) t) (st.words.words.served (segment_extent (shape_of d) t))

  pub held_names : (p q t : ℕ) → Firm (m.hand p) q → t < length d.segments → segments_of d (m.hand p) t ≡ true → lock d m t ≡ suc q
  held_names p q t firm lt held = lock_is t ∙ go (cases_Bool v.up1)
    where
      v : View
      v = lock_view d m.copies t

      claims : LockClaims (lock_view d m.copies t) (With q Whole)
      claims = subst (LockClaims (lock_view d m.copies t)) (lock_of d (owners_of at.state) m st.words.words st.locks p q 0 t firm held) (lock_claims d (owners_of at.state) m.copies (m.hand p) (st.locks.hands p) t lt)

      go : ((lock_view d m.copies t).up1 ≡ true) ⊎ ((lock_view d m.copies t).up1 ≡ false) → ruling (lock_view d m.copies t) ≡ suc q
      go (inl up) = cond-true _ _ _ up ∙ claims.0 up
      go (inr out) = cond-false _ _ _ out ∙ claims.1 (st.words.words.served (segment_extent (shape_of d) t) out)

  pub left_names : (q t : ℕ) → names d m.copies q t false ≡ true → lock d m t ≡ suc q
  left_names q t named = let says = named_primary d m q t named in lock_is t ∙ cond-true _ _ _ says.0 ∙ says.1

  -- a hand that flushes nothing
  hand_rests : (c : Changes) (h : Hand) (q e : ℕ) → HandKnows d at m.copies c h → hand_area d h e ≡ true → Firm h q → (Flushes h q → ⊥) → Rests d at.state m e
  hand_rests c hand.Down q e k is firm none = absurd (false≢true is)
  hand_rests c hand.Seek q e k is firm none = absurd (false≢true is)
  hand_rests c (hand.Claiming x y) q e k is firm none = absurd (false≢true is)
  hand_rests c (hand.Running r) q e k is firm none = both_rest d events at m st (in_area d r.pid.0 (segments_of d (hand.Running r))) k.both e is
  hand_rests c (hand.Acquiring r t x) q e k is firm none = both_rest d events at m st (in_area d r.pid.0 (segments_of d (hand.Acquiring r t x))) k.runs.both e is
  hand_rests c (hand.Flushing r why mask f) q e k is firm none = absurd (none (on_one firm.gripped))
  hand_rests c (hand.Unlocking r why mask l) q e k is firm none = both_rest d events at m st (in_area d r.pid.0 (segments_of d (hand.Unlocking r why mask l))) k.0.both e is
  hand_rests c (hand.Leaving x l) q e k is firm none = absurd (false≢true is)
  hand_rests c (hand.Recovering x) q e k is firm none = absurd (false≢true is)

  module _ (q e : ℕ) (there : q < length d.processes) (mine : area_of d m q e ≡ true) where
    -- whose extent it is
    own : (e ≡ q) ⊎ ((t : ℕ) × (t < length d.segments) × ((lock d m t == suc q) ≡ true) × (e ≡ length d.processes + t))
    own = area_cases d q (λ t. lock d m t == suc q) e mine

    pub meet : (x : ℕ) → x < length d.processes → (e ≡ x) ⊎ ((t : ℕ) × (lock d m t ≡ suc x) × (e ≡ length d.processes + t)) → x ≡ q
    meet x below (inl theirs) = elim own [
      | inl is ↦ sym theirs ∙ is
      | inr (t, lt, named, extent) ↦ absurd (let c : ⊥ = omega (arith, below, theirs, extent) in c)
    ]
    meet x below (inr (u, says, place)) = elim own [
      | inl is ↦ absurd (let c : ⊥ = omega (arith, there, is, place) in c)
      | inr (t, lt, named, extent) ↦
          let same : u ≡ t = omega (arith, place, extent) in
          let one : lock d m t ≡ suc q = eqb-true (lock d m t) (suc q) named in
          let two : lock d m t ≡ suc x = subst (λ y. lock d m y ≡ suc x) same says in
          omega (arith, one, two)
    ]

    by_hand : ((p : ℕ) → Flushes (m.hand p) q → ⊥) → IsInHand d m e → Rests d at.state m e
    by_hand none k =
        let b : Has d (m.hand k.holder) e = has d (m.hand k.holder) e k.inside in
        let below : b.process < length d.processes = inside d (owners_of at.state) m st.words.words st.locks k.holder b.process b.firm in
        let same : b.process ≡ q = meet b.process below (elim (area_cases d b.process (segments_of d (m.hand k.holder)) e b.inside) [
          | inl is ↦ inl is
          | inr (t, lt, held, extent) ↦ inr (t, held_names k.holder b.process t b.firm lt held, extent)
        ]) in
        hand_rests (m.cache k.holder) (m.hand k.holder) b.process e (st.blocks.hands k.holder) k.inside b.firm (λ f. none k.holder (subst (Flushes (m.hand k.holder)) same f))

    by_left : awaits m.incarnation (status_now d m.copies q) ≡ false → IsInLeft d m e → Rests d at.state m e
    by_left calm k =
        let below : k.process < length d.processes = left_there d m k.process k.forward k.left in
        let same : k.process ≡ q = meet k.process below (elim (area_cases d k.process (λ t. names d m.copies k.process t false) e k.inside) [
          | inl is ↦ inl is
          | inr (t, lt, named, extent) ↦ inr (t, left_names k.process t named, extent)
        ]) in
        absurd (true≢false (sym (subst (Awaits d m) same (left_awaits k.process k.forward k.left)) ∙ calm))

    pub process_rests : ((p : ℕ) → Flushes (m.hand p) q → ⊥) → awaits m.incarnation (status_now d m.copies q) ≡ false → Rests d at.state m e
    process_rests none calm = go (st.blocks.extents e (below_lines d q (λ t. lock d m t == suc q) e there mine))
      where
        go : ExtentStands d at m e → Rests d at.state m e
        go (inl k) = by_hand none k
        go (inr (inl k)) = by_left calm k
        go (inr (inr k)) = λ n shadow up. k.each n shadow up ∙ kept_at d events at m st e n

  -- a segment whose lock is free
  free_rests : (t : ℕ) → t < length d.segments → lock d m t ≡ 0 → Rests d at.state m (segment_extent (shape_of d) t)
  free_rests t lt free = go (st.blocks.extents (segment_extent (shape_of d) t) (omega (arith, lt)))
    where
      named : (x u : ℕ) → lock d m u ≡ suc x → segment_extent (shape_of d) t ≡ length d.processes + u → ⊥
      named x u says extent =
          let same : u ≡ t = omega (arith, extent) in
          let one : lock d m t ≡ suc x = subst (λ y. lock d m y ≡ suc x) same says in
          omega (arith, one, free)

      past : (x : ℕ) → x < length d.processes → segment_extent (shape_of d) t ≡ x → ⊥
      past x below is = omega (arith, below, is)

      in_hand : IsInHand d m (segment_extent (shape_of d) t) → ⊥
      in_hand k =
          let b : Has d (m.hand k.holder) (segment_extent (shape_of d) t) = has d (m.hand k.holder) (segment_extent (shape_of d) t) k.inside in
          elim (area_cases d b.process (segments_of d (m.hand k.holder)) (segment_extent (shape_of d) t) b.inside) [
            | inl is ↦ past b.process (inside d (owners_of at.state) m st.words.words st.locks k.holder b.process b.firm) is
            | inr (u, lu, held, extent) ↦ named b.process u (held_names k.holder b.process u b.firm lu held) extent
          ]

      in_left : IsInLeft d m (segment_extent (shape_of d) t) → ⊥
      in_left k = elim (area_cases d k.process (λ u. names d m.copies k.process u false) (segment_extent (shape_of d) t) k.inside) [
        | inl is ↦ past k.process (left_there d m k.process k.forward k.left) is
        | inr (u, lu, says, extent) ↦ named k.process u (left_names k.process u says) extent
      ]

      go : ExtentStands d at m (segment_extent (shape_of d) t) → Rests d at.state m (segment_extent (shape_of d) t)
      go (inl k) = absurd (in_hand k)
      go (inr (inl k)) = absurd (in_left k)
      go (inr (inr k)) = λ n shadow up. k.each n shadow up ∙ kept_at d events at m st (segment_extent (shape_of d) t) n

pub resting_areas_hold : RestingAreasHoldAlways
resting_areas_hold d events m described all = record {
  process = λ q e there none calm mine. process_rests d events all.at m all.holds q e there mine none calm;
  segment = λ t lt free. free_rests d events all.at m all.holds t lt free;
}
