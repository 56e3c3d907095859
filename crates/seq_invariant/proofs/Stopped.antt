-- What is known of words where a processor stops while every memory is in service: who was left is left still, and the process
-- that it flushed or recovered is left then.
use Rattle.std.proofs.Common.{◌≡◌, ◌≢◌, ◌⊎◌, inl, inr, ℕ, suc, ◌<◌, Bool, true, false, not, ◌&&◌, ◌||◌, ◌==◌, if◌then◌else◌, Option, Some, None, length, refl, ap, sym, ◌∙◌, subst, arith, eq-eqb}
use Rattle.std.proofs.lemmas.Bool.{cases_eq, cond-true, cond_both, false≢true, true≢false}
use Rattle.seq_words.specs.Masks.{has_bit}
use Rattle.seq_words.specs.declared.description.MachineDesc.{MachineDesc}
use Rattle.seq_layout.specs.Shapes.{shape_of, segment_extent}
use Rattle.seq_layout.specs.Copies.{serves}
use Rattle.seq_process.specs.declared.running.Running.{Running}
use Rattle.seq_kernel.specs.declared.outcomes.Cause.{Cause}
use Rattle.seq_status.specs.declared.status.Holder.{Holder}
use Rattle.seq_image.proofs.Areas.{area_cases, process_in_area, segment_in_area}
use Rattle.seq_turns.specs.declared.hand.Hand.{Hand}
use Rattle.seq_turns.specs.declared.hand.Hand.TheVariants as hand
use Rattle.seq_turns.specs.declared.hand.FlushAt.{FlushAt}
use Rattle.seq_turns.specs.declared.hand.FlushAt.TheVariants as flush
use Rattle.seq_turns.specs.declared.hand.ReleaseAt.TheVariants as release
use Rattle.seq_turns.specs.declared.hand.RecoveryAt.{RecoveryAt}
use Rattle.seq_turns.specs.declared.hand.RecoveryAt.TheVariants as recovery
use Rattle.seq_turns.specs.Machines.{Machine}
use Rattle.seq_turns.specs.Reading.{ruling as status_now, is_deserted, lives}
use Rattle.seq_recover.specs.Reading.{names}
use Rattle.seq_turns.specs.Events.{stopped}
use Rattle.seq_turns.proofs.Functions.{update_same, update_other, update_cases}
use Rattle.seq_stands.specs.Grips.{Kind, Stage, word, after, way, grip, flush_stage}
use Rattle.seq_stands.specs.Grips.Kind.{Run, Pass1, Pass2, Back, Forward}
use Rattle.seq_stands.specs.Grips.Step.{To_pass1, To_pass2, To_run}
use Rattle.seq_stands.specs.Grips.Stage.{Claiming, Holding, Setting, Freeing, Recovering}
use Rattle.seq_stands.specs.Grips.Grip.{On}
use Rattle.seq_stands.specs.Words.{View, Words, words_of, ruling, Claims, Grips, GripHolds, AllUp, IsDeserted, Ruled, WordsStand}
use Rattle.seq_stands.specs.Hands.{holder_is}
use Rattle.seq_stands.specs.Locks.{Hold, lock_view, lock_grip, whole_if, LockRuled, HandLocks, LocksStand, KnowsLocks, IsUncleared, IsRecovered as lock_recovered}
use Rattle.seq_stands.specs.Locks.LockGrip.{With}
use Rattle.seq_stands.proofs.Numbers.{same_kind}
use Rattle.seq_stands.proofs.Readings.{said, says_free, says_held, deserted_says}
use Rattle.seq_stands.proofs.Gripped.{Firm, process_of, firm_of, firm_flushing, recovery_stage}
use Rattle.seq_invariant.specs.BlockAreas.{is_whole, hand_area, left_area, segments_of}
use Rattle.seq_invariant.specs.BlockLeft.{way_of, HasToCopy, IsLeft}
use Rattle.seq_invariant.specs.BlockStops.{GoesWay, MayDiffer, IsFree, IsLeftBy, Leaves, IsStop}
use Rattle.seq_invariant.proofs.Left.{has_to, deserted_word, gripped_is_alive, named_all, one_grips}
use Rattle.seq_invariant.proofs.Apart.{named_primary, whole_named, left_is_free}

-- the kind that the primary says at a stage
abbrev pub kind_at : Stage → Kind
kind_at Claiming = Run
kind_at (Holding kind) = kind
kind_at (Setting step) = after step
kind_at (Freeing kind) = kind
kind_at (Recovering kind) = kind

claims_kind : (v : View) (p i : ℕ) (stage : Stage) → v.up1 ≡ true → Claims v p i stage → v.word1 ≡ word (kind_at stage) p i
claims_kind v p i Claiming up h = (h up).0
claims_kind v p i (Holding kind) up h = h.0 up
claims_kind v p i (Setting step) up h = h.0 up
claims_kind v p i (Freeing kind) up h = (h up).0
claims_kind v p i (Recovering kind) up h = h.2

-- which way a process of this kind is recovered
abbrev pub kind_way : Kind → Option Bool
kind_way Run = None
kind_way Pass1 = Some false
kind_way Pass2 = Some true
kind_way Back = Some false
kind_way Forward = Some true

said_way : (k : Kind) (h : Holder) → way_of (said k h) ≡ kind_way k
said_way Run h = refl
said_way Pass1 h = refl
said_way Pass2 h = refl
said_way Back h = refl
said_way Forward h = refl

way_kind : (forward : Bool) → kind_way (way forward) ≡ Some forward
way_kind true = refl
way_kind false = refl

same_some : (a b : Bool) → Some a ≡ Some b → a ≡ b
same_some a b e = cc

-- which way a flush is left
flush_way : (f : FlushAt) (forward : Bool) → kind_way (kind_at (flush_stage f)) ≡ Some forward → GoesWay f forward
flush_way (flush.Mark f) forward e = cond_both (f.cursor == 0) (Holding Run) (Setting To_pass1) (λ (s : Stage). kind_way (kind_at s) ≡ Some forward → forward ≡ false)
    (λ _. λ h. absurd (let c : ⊥ = cc in c)) (λ _. λ h. sym (same_some false forward h)) e
flush_way (flush.First f) forward e = sym (same_some false forward e)
flush_way (flush.Second f) forward e = cond_both (f.cursor == 0) (Setting To_pass2) (Holding Pass2) (λ (s : Stage). kind_way (kind_at s) ≡ Some forward → forward ≡ true)
    (λ _. λ h. sym (same_some true forward h)) (λ _. λ h. sym (same_some true forward h)) e
flush_way (flush.Close f) forward e = cond_both (f.cursor == 0) (Holding Pass2) (Setting To_run) (λ (s : Stage). kind_way (kind_at s) ≡ Some forward → forward ≡ true)
    (λ _. λ h. sym (same_some true forward h)) (λ _. λ h. absurd (let c : ⊥ = cc in c)) e

-- amid a pass it is left that way
pass_way : (f : FlushAt) (forward : Bool) → MayDiffer f → GoesWay f forward → kind_way (kind_at (flush_stage f)) ≡ Some forward
pass_way (flush.Mark f) forward may w = absurd may
pass_way (flush.First f) forward may w = ap Some (sym w)
pass_way (flush.Second f) forward may w = cond_both (f.cursor == 0) (Setting To_pass2) (Holding Pass2) (λ (s : Stage). kind_way (kind_at s) ≡ Some forward) (λ _. ap Some (sym w)) (λ _. ap Some (sym w))
pass_way (flush.Close f) forward may w = absurd may

-- a recovery whose locks aren't cleared is of this process
uncleared_of : (x : RecoveryAt) (q : ℕ) → IsUncleared x q → process_of x ≡ q
uncleared_of (recovery.Claimed r) q h = h
uncleared_of (recovery.Copying r) q h = h
uncleared_of (recovery.Locks r) q h = h
uncleared_of (recovery.Closing r) q h = absurd h

no_way_of : (a stage : Stage) (forward : Bool) → a ≡ stage → kind_way (kind_at a) ≡ None → kind_way (kind_at stage) ≡ Some forward → ⊥
no_way_of a stage forward e none some = let k : None ≡ Some forward = sym none ∙ ap (λ s. kind_way (kind_at s)) e ∙ some in let c : ⊥ = cc in c

module _ (d : MachineDesc) (owner : ℕ → ℕ) (m : Machine) (p : ℕ) (all : AllUp (words_of d m)) (st : WordsStand (words_of d m)) (locks : LocksStand d owner m) where
  abbrev n : Machine
  n = stopped m p

  abbrev w : Words
  w = words_of d m

  first : (q x : ℕ) → (w.view q).word1 ≡ x → ruling (w.view q) ≡ x
  first q x e = cond-true _ _ _ (all q).0 ∙ e

  -- who is gripped by the processor is left when it stops, if its kind is of a pass or a recovery
  left_then : (q : ℕ) (stage : Stage) (forward : Bool) → grip (m.hand p) ≡ On q stage → kind_way (kind_at stage) ≡ Some forward → IsLeft d n q forward
  left_then q stage forward e is =
      let g : Grips w p q stage = subst (GripHolds w p) e (st.grips p) in
      let says : ruling (w.view q) ≡ word (kind_at stage) p (m.incarnation p) = first q _ (claims_kind (w.view q) p (m.incarnation p) stage (all q).0 g.claims) in
      inl (record {
        inside = g.process;
        deserted = deserted_says d m.copies n.incarnation q (kind_at stage) p (m.incarnation p) (st.served q) g.processor says
            (λ same. let now : n.incarnation p ≡ suc (m.incarnation p) = update_same m.incarnation p (suc (m.incarnation p)) in let c : ⊥ = omega (arith, same, now) in c);
        way = ap way_of (says_held d m.copies q (kind_at stage) p (m.incarnation p) (st.served q) g.processor says) ∙ said_way (kind_at stage) _ ∙ is;
      })

  grows : (h number : ℕ) → number < m.incarnation h → number ≢ n.incarnation h
  grows h number lt = update_cases (λ i. number ≢ i) m.incarnation p (suc (m.incarnation p)) h
      (λ e. λ same. let here : m.incarnation h ≡ m.incarnation p = ap m.incarnation e in let c : ⊥ = omega (arith, same, here, lt) in c)
      (λ ne. λ same. let c : ⊥ = omega (arith, same, lt) in c)

  still : (q : ℕ) (forward : Bool) → IsLeft d m q forward → IsLeft d n q forward
  still q forward (inl h) =
      let x = deserted_word d m st q forward h in
      inl (record { inside = h.inside; deserted = deserted_says d m.copies n.incarnation q x.kind x.holder x.number (st.served q) x.small x.named (grows x.holder x.number x.stopped); way = h.way })
  still q forward (inr h) = go (cases_eq h.processor p)
    where
      gone : (x : RecoveryAt) → m.hand p ≡ hand.Recovering x → HasToCopy x q forward → IsLeft d n q forward
      gone (recovery.Claimed r) e its = left_then q (Recovering (way r.forward)) forward (ap grip e ∙ ap (λ y. On y (Recovering (way r.forward))) its.0) (way_kind r.forward ∙ ap Some its.1)
      gone (recovery.Copying r) e its = left_then q (Holding (way r.forward)) forward (ap grip e ∙ ap (λ y. On y (Holding (way r.forward))) its.0) (way_kind r.forward ∙ ap Some its.1)
      gone (recovery.Locks r) e its = absurd its
      gone (recovery.Closing r) e its = absurd its

      go : (h.processor ≡ p) ⊎ (h.processor ≡ p → ⊥) → IsLeft d n q forward
      go (inl e) = gone h.at (ap m.hand (sym e) ∙ h.hand) h.copies
      go (inr ne) = inr (record { inside = h.inside; processor = h.processor; at = h.at; hand = update_other m.hand p hand.Down h.processor ne ∙ h.hand; copies = h.copies })

  -- the extents of a process whose flush is left are its flush's, and the other way round
  module _ (r : Running) (why : Cause) (mask : ℕ) (f : FlushAt) (e : m.hand p ≡ hand.Flushing r why mask f) where
    abbrev q0 : ℕ
    q0 = r.pid.0

    firm : Firm (m.hand p) q0
    firm = subst (λ h. Firm h q0) (sym e) (firm_flushing r why mask f)

    gripped : grip (m.hand p) ≡ On q0 (flush_stage f)
    gripped = ap grip e

    there : q0 < length d.processes
    there = (subst (GripHolds w p) gripped (st.grips p)).process

    whole_held : (b : Bool) (x : ℕ) (hold : Hold) → whole_if b q0 ≡ With x hold → b ≡ true
    whole_held true x hold h = refl
    whole_held false x hold h = absurd (let c : ⊥ = cc in c)

    held_by : (t : ℕ) → t < length d.segments → (hold : Hold) → lock_grip d (m.hand p) t ≡ With q0 hold → segments_of d (hand.Flushing r why mask f) t ≡ true
    held_by t lt hold h = is_held (has_bit r.held t || has_bit mask t) (whole_held (has_bit r.held t || has_bit mask t) q0 hold (ap (λ k. lock_grip d k t) (sym e) ∙ h))
      where
        is_held : (b : Bool) → b ≡ true → is_whole (whole_if b q0) ≡ true
        is_held true h = refl
        is_held false h = absurd (false≢true h)

    knows : KnowsLocks d owner m.copies r (lock_grip d (hand.Flushing r why mask f))
    knows = (subst (HandLocks d owner m.copies) e (locks.hands p)).0

    held_if_named : (t : ℕ) → t < length d.segments → names d m.copies q0 t false ≡ true → segments_of d (hand.Flushing r why mask f) t ≡ true
    held_if_named t lt is = go (cases_eq (owner t) 0)
      where
        says : ((lock_view d m.copies t).up1 ≡ true) × ((lock_view d m.copies t).word1 ≡ suc q0)
        says = named_primary d m q0 t is

        rules : ruling (lock_view d m.copies t) ≡ suc q0
        rules = cond-true _ _ _ says.0 ∙ says.1

        free : LockRuled d m t → segments_of d (hand.Flushing r why mask f) t ≡ true
        free (inl h) = let z = h.free in absurd (let c : ⊥ = omega (arith, z, rules) in c)
        free (inr (inl h)) =
            let named = h.named in
            let same : h.process ≡ q0 = omega (arith, named, rules) in
            let other : Firm (m.hand h.holder) h.process = firm_of d (m.hand h.holder) t h.process h.hold h.gripped in
            let one : p ≡ h.holder = one_grips d m st p h.holder q0 (flush_stage f) other.stage all gripped (other.gripped ∙ ap (λ x. On x other.stage) same) in
            held_by t lt h.hold (ap (λ x. lock_grip d (m.hand x) t) one ∙ h.gripped ∙ ap (λ x. With x h.hold) same)
        free (inr (inr h)) =
            let word = h.first in
            let first' = says.1 in
            let same : h.process ≡ q0 = omega (arith, word, first') in
            absurd (left_gone same h.left)
          where
            left_gone : h.process ≡ q0 → IsDeserted w h.process ⊎ lock_recovered m h.process → ⊥
            left_gone same (inl x) = gripped_is_alive d m st p q0 (flush_stage f) gripped (subst (IsDeserted w) same x)
            left_gone same (inr x) =
                let s = recovery_stage x.at in
                let its : process_of x.at ≡ h.process = uncleared_of x.at h.process x.uncleared in
                let one : p ≡ x.processor = one_grips d m st p x.processor q0 (flush_stage f) s.0 all gripped (ap grip x.hand ∙ s.1 ∙ ap (λ y. On y s.0) (its ∙ same)) in
                let clash : hand.Flushing r why mask f ≡ hand.Recovering x.at = sym e ∙ ap m.hand one ∙ x.hand in
                let c : ⊥ = cc in c

        go : (owner t ≡ 0) ⊎ (owner t ≡ 0 → ⊥) → segments_of d (hand.Flushing r why mask f) t ≡ true
        go (inl none) = free (locks.ruled t lt none)
        go (inr some) =
            let named = (locks.owned t lt some).first says.0 in
            let first' = says.1 in
            let mine : owner t ≡ suc q0 = omega (arith, named, first') in
            ap is_whole (knows.kept t lt mine)

    pub left_in_flush : (x : ℕ) → left_area d m.copies q0 x ≡ true → hand_area d (hand.Flushing r why mask f) x ≡ true
    left_in_flush x is = elim (area_cases d q0 (λ t. names d m.copies q0 t false) x is) [
      | inl own ↦ subst (λ y. hand_area d (hand.Flushing r why mask f) y ≡ true) (sym own) (process_in_area d q0 (segments_of d (hand.Flushing r why mask f)))
      | inr (t, lt, named, extent) ↦ subst (λ y. hand_area d (hand.Flushing r why mask f) y ≡ true) (sym extent) (segment_in_area d q0 (segments_of d (hand.Flushing r why mask f)) t there lt (held_if_named t lt named))
    ]

    names_held : (t : ℕ) → t < length d.segments → segments_of d (hand.Flushing r why mask f) t ≡ true → names d m.copies q0 t false ≡ true
    names_held t lt is =
        let up : serves (shape_of d) m.copies (segment_extent (shape_of d) t) false ≡ true = (all (segment_extent (shape_of d) t)).0 in
        let says = whole_named d owner m st locks p q0 t firm lt (ap (λ h. segments_of d h t) e ∙ is) up in
        go (serves (shape_of d) m.copies (segment_extent (shape_of d) t) false) up says
      where
        go : (b : Bool) → b ≡ true → (if b then m.copies.word (segment_extent (shape_of d) t) 0 false else 0) ≡ suc q0 → (b && (m.copies.word (segment_extent (shape_of d) t) 0 false == suc q0)) ≡ true
        go true h says = eq-eqb _ _ says
        go false h says = absurd (false≢true h)

    pub flush_in_left : (x : ℕ) → hand_area d (hand.Flushing r why mask f) x ≡ true → left_area d m.copies q0 x ≡ true
    flush_in_left x is = elim (area_cases d q0 (segments_of d (hand.Flushing r why mask f)) x is) [
      | inl own ↦ subst (λ y. left_area d m.copies q0 y ≡ true) (sym own) (process_in_area d q0 (λ t. names d m.copies q0 t false))
      | inr (t, lt, held, extent) ↦ subst (λ y. left_area d m.copies q0 y ≡ true) (sym extent) (segment_in_area d q0 (λ t. names d m.copies q0 t false) t there lt (names_held t lt held))
    ]

  -- who is left once the processor has stopped
  said_deserted_not : (k : Kind) (h : Holder) (incarnation : ℕ → ℕ) → lives incarnation h ≡ true → is_deserted incarnation (said k h) ≡ false
  said_deserted_not Run h incarnation e = ap not e
  said_deserted_not Pass1 h incarnation e = ap not e
  said_deserted_not Pass2 h incarnation e = ap not e
  said_deserted_not Back h incarnation e = ap not e
  said_deserted_not Forward h incarnation e = ap not e

  -- a process that the processor recovered, once all was copied: nobody has anything to do in its extents
  module _ (x : RecoveryAt) (e : m.hand p ≡ hand.Recovering x) where
    at_stage : grip (m.hand p) ≡ On (process_of x) ((recovery_stage x).0)
    at_stage = ap grip e ∙ (recovery_stage x).1

    there1 : process_of x < length d.processes
    there1 = (subst (GripHolds w p) at_stage (st.grips p)).process

  module _ (x : RecoveryAt) (e : m.hand p ≡ hand.Recovering x) (copied : (q : ℕ) (forward : Bool) → HasToCopy x q forward → ⊥) where
    abbrev q1 : ℕ
    q1 = process_of x

    not_run : (r : ℕ) (k : Stage) → grip (m.hand r) ≡ On q1 k → ((y : RecoveryAt) → m.hand r ≡ hand.Recovering y → ⊥) → ⊥
    not_run r k g calm = let one : p ≡ r = one_grips d m st p r q1 ((recovery_stage x).0) k all (at_stage x e) g in calm x (ap m.hand (sym one) ∙ e)

    pub not_left : (forward : Bool) → IsLeft d m q1 forward → ⊥
    not_left forward (inl h) = gripped_is_alive d m st p q1 ((recovery_stage x).0) (at_stage x e) (deserted_word d m st q1 forward h)
    not_left forward (inr h) =
        let s = recovery_stage h.at in
        let one : p ≡ h.processor = one_grips d m st p h.processor q1 ((recovery_stage x).0) s.0 all (at_stage x e) (ap grip h.hand ∙ s.1 ∙ ap (λ y. On y s.0) (has_to h.at q1 forward h.copies)) in
        let same : hand.Recovering h.at ≡ hand.Recovering x = sym h.hand ∙ ap m.hand (sym one) ∙ e in
        copied q1 forward (subst (λ y. HasToCopy y q1 forward) (let c : h.at ≡ x = cc in c) h.copies)

    pub recovered_free : (a : ℕ) → left_area d m.copies q1 a ≡ true → IsFree d m a
    recovered_free = left_is_free d owner m st locks q1 (there1 x e) (λ r a is f. not_run r f.stage f.gripped (λ y k. false≢true (ap (λ z. hand_area d z a) (sym k) ∙ is))) not_left

  left_by : (h : Hand) → m.hand p ≡ h → (q : ℕ) (stage : Stage) (forward : Bool) → grip h ≡ On q stage → kind_way (kind_at stage) ≡ Some forward → IsLeft d m q forward ⊎ IsLeftBy d m q forward h
  left_by hand.Down e q stage forward g way' = absurd (let c : ⊥ = cc in c)
  left_by hand.Seek e q stage forward g way' = absurd (let c : ⊥ = cc in c)
  left_by (hand.Claiming x c) e q stage forward g way' = absurd (no_way_of Claiming stage forward (let k : Claiming ≡ stage = cc in k) refl way')
  left_by (hand.Running r) e q stage forward g way' = absurd (no_way_of (Holding Run) stage forward (let k : Holding Run ≡ stage = cc in k) refl way')
  left_by (hand.Acquiring r t c) e q stage forward g way' = absurd (no_way_of (Holding Run) stage forward (let k : Holding Run ≡ stage = cc in k) refl way')
  left_by (hand.Unlocking r why mask l) e q stage forward g way' = absurd (no_way_of (Holding Run) stage forward (let k : Holding Run ≡ stage = cc in k) refl way')
  left_by (hand.Leaving x (release.Shadow l)) e q stage forward g way' = absurd (no_way_of (Holding Run) stage forward (let k : Holding Run ≡ stage = cc in k) refl way')
  left_by (hand.Leaving x (release.Primary l)) e q stage forward g way' = absurd (no_way_of (Freeing Run) stage forward (let k : Freeing Run ≡ stage = cc in k) refl way')
  left_by (hand.Flushing r why mask f) e q stage forward g way' =
      let same : r.pid.0 ≡ q = cc in
      let at : flush_stage f ≡ stage = cc in
      inr (same, flush_way f forward (ap (λ s. kind_way (kind_at s)) at ∙ way'), λ a is. left_in_flush r why mask f e a (subst (λ y. left_area d m.copies y a ≡ true) (sym same) is))
  left_by (hand.Recovering (recovery.Claimed r)) e q stage forward g way' =
      let same : r.pid.0 ≡ q = cc in
      let at : Recovering (way r.forward) ≡ stage = cc in
      inl (inr (record {
        inside = subst (λ y. y < length d.processes) same (there1 (recovery.Claimed r) e);
        processor = p;
        at = recovery.Claimed r;
        hand = e;
        copies = (same, same_some r.forward forward (sym (way_kind r.forward) ∙ ap (λ s. kind_way (kind_at s)) at ∙ way'));
      }))
  left_by (hand.Recovering (recovery.Copying r)) e q stage forward g way' =
      let same : r.pid.0 ≡ q = cc in
      let at : Holding (way r.forward) ≡ stage = cc in
      inl (inr (record {
        inside = subst (λ y. y < length d.processes) same (there1 (recovery.Copying r) e);
        processor = p;
        at = recovery.Copying r;
        hand = e;
        copies = (same, same_some r.forward forward (sym (way_kind r.forward) ∙ ap (λ s. kind_way (kind_at s)) at ∙ way'));
      }))
  left_by (hand.Recovering (recovery.Locks r)) e q stage forward g way' =
      let same : r.pid.0 ≡ q = cc in
      inr (λ a is. recovered_free (recovery.Locks r) e (λ x f h. h) a (subst (λ y. left_area d m.copies y a ≡ true) (sym same) is))
  left_by (hand.Recovering (recovery.Closing r)) e q stage forward g way' =
      let same : r.pid.0 ≡ q = cc in
      inr (λ a is. recovered_free (recovery.Closing r) e (λ x f h. h) a (subst (λ y. left_area d m.copies y a ≡ true) (sym same) is))

  newly : (q : ℕ) (forward : Bool) → IsLeft d n q forward → IsLeft d m q forward ⊎ IsLeftBy d m q forward (m.hand p)
  newly q forward (inr h) = inl (inr (record { inside = h.inside; processor = h.processor; at = h.at; hand = go (cases_eq h.processor p); copies = h.copies }))
    where
      go : (h.processor ≡ p) ⊎ (h.processor ≡ p → ⊥) → m.hand h.processor ≡ hand.Recovering h.at
      go (inl e) = absurd (let k : hand.Down ≡ hand.Recovering h.at = sym (update_same m.hand p hand.Down) ∙ ap n.hand (sym e) ∙ h.hand in let c : ⊥ = cc in c)
      go (inr ne) = sym (update_other m.hand p hand.Down h.processor ne) ∙ h.hand
  newly q forward (inl h) = go (st.ruled q h.inside)
    where
      go : Ruled w q → IsLeft d m q forward ⊎ IsLeftBy d m q forward (m.hand p)
      go (inl free) = absurd (false≢true (sym (ap (is_deserted n.incarnation) (says_free d m.copies q (st.served q) free.free)) ∙ h.deserted))
      go (inr (inr x)) = inl (inl (record {
        inside = h.inside;
        deserted = deserted_says d m.copies m.incarnation q x.kind x.holder x.number (st.served q) x.small x.named (λ same. let s = x.stopped in let c : ⊥ = omega (arith, s, same) in c);
        way = h.way;
      }))
      go (inr (inl x)) = held (cases_eq x.holder p)
        where
          status : status_now d m.copies q ≡ said x.kind (holder_is x.holder (m.incarnation x.holder))
          status = says_held d m.copies q x.kind x.holder (m.incarnation x.holder) (st.served q) x.small x.named

          held : (x.holder ≡ p) ⊎ (x.holder ≡ p → ⊥) → IsLeft d m q forward ⊎ IsLeftBy d m q forward (m.hand p)
          held (inr ne) = absurd (true≢false (sym h.deserted ∙ ap (is_deserted n.incarnation) status
              ∙ said_deserted_not x.kind _ n.incarnation (eq-eqb _ _ (sym (update_other m.incarnation p (suc (m.incarnation p)) x.holder ne)))))
          held (inl e) =
              let g : grip (m.hand p) ≡ On q x.stage = ap (λ y. grip (m.hand y)) (sym e) ∙ x.gripped in
              let named = named_all d m st p q x.stage all g in
              let grips : Grips w p q x.stage = subst (GripHolds w p) g (st.grips p) in
              let says : ruling (w.view q) ≡ word (kind_at x.stage) p (m.incarnation p) = first q _ (claims_kind (w.view q) p (m.incarnation p) x.stage (all q).0 grips.claims) in
              let kind : x.kind ≡ kind_at x.stage = same_kind x.kind (kind_at x.stage) x.holder p (m.incarnation x.holder) (m.incarnation p) x.small grips.processor (sym x.named ∙ says) in
              left_by (m.hand p) refl q x.stage forward g (ap kind_way (sym kind) ∙ sym (said_way x.kind _) ∙ ap way_of (sym status) ∙ h.way)

  leaves : (h : Hand) → m.hand p ≡ h → Leaves d m n h
  leaves hand.Down e = tt
  leaves hand.Seek e = tt
  leaves (hand.Claiming x c) e = tt
  leaves (hand.Running r) e = tt
  leaves (hand.Acquiring r t c) e = tt
  leaves (hand.Flushing r why mask f) e = λ may forward way'. (left_then r.pid.0 (flush_stage f) forward (ap grip e) (pass_way f forward may way'), λ a is. flush_in_left r why mask f e a is)
  leaves (hand.Unlocking r why mask l) e = tt
  leaves (hand.Leaving x l) e = tt
  leaves (hand.Recovering x) e = tt

  pub is_stop : IsStop d m p
  is_stop = record { still = still; newly = newly; leaves = leaves (m.hand p) refl }
