-- The turns of a recovery: the first two claim the words of a process that was left, then its blocks are copied.
use Rattle.std.proofs.Common.{◌≡◌, ◌≢◌, inl, inr, ℕ, ◌+◌, ◌<◌, Bool, true, false, not, ◌==◌, nat_le, if◌then◌else◌, Option, Some, None, slice_get, List, length, refl, ap, sym, ◌∙◌, subst, arith}
use Rattle.std.proofs.lemmas.Bool.{cond_both, cond-false, ne_eqb, true≢false, false≢true}
use Rattle.seq_words.specs.Description.{IsDescription}
use Rattle.seq_words.specs.declared.description.MachineDesc.{MachineDesc}
use Rattle.seq_words.specs.declared.events.Event.{Event}
use Rattle.seq_layout.specs.Shapes.{shape_of}
use Rattle.seq_layout.specs.Copies.{serves}
use Rattle.seq_status.specs.declared.status.Status.{Status}
use Rattle.seq_status.specs.declared.status.Status.TheVariants as status
use Rattle.seq_turns.specs.declared.hand.Hand.TheVariants as hand
use Rattle.seq_recover.specs.declared.recovery.Recovery.{Recovery}
use Rattle.seq_recover.specs.declared.recovery.Claimed as claimed_stage
use Rattle.seq_recover.specs.declared.recovery.Copying as copying_stage
use Rattle.seq_turns.specs.declared.hand.RecoveryAt.{RecoveryAt}
use Rattle.seq_turns.specs.declared.hand.RecoveryAt.TheVariants as recovery
use Rattle.seq_turns.specs.Machines.{Machine, Change, Move, copies_after, after_move}
use Rattle.seq_turns.specs.Machines.Turn.{Moves}
use Rattle.seq_io.specs.Changes.Change.{Unchanged, To_block}
use Rattle.seq_turns.specs.Reading.{ruling, is_deserted, goes_forward, write_word}
use Rattle.seq_turns.specs.Operations.{goes}
use Rattle.seq_recover.specs.Reading.{recovered_blocks}
use Rattle.seq_recover.specs.Turns.{recovery_word, into_stage}
use Rattle.seq_turns.specs.Recoveries.{begins, claimed_move, recovers, copied_over, copying_move}
use Rattle.seq_turns.specs.Functions.{update}
use Rattle.seq_turns.proofs.Functions.{update_same, copy_elsewhere}
use Rattle.seq_stands.specs.Grips.{Stage, grip, way}
use Rattle.seq_stands.specs.Grips.Stage.{Holding, Recovering}
use Rattle.seq_stands.specs.Grips.Grip.{On}
use Rattle.seq_stands.specs.Words.{words_of, AllUp, IsDeserted, GripHolds, WordsStand}
use Rattle.seq_stands.specs.Hands.{IsHand}
use Rattle.seq_stands.specs.Locks.{held_in, owners_with}
use Rattle.seq_stands.proofs.Gripped.{process_of, recovery_stage, all_recovered}
use Rattle.seq_stands.proofs.LockTurns.{OnlyOf, only_unchanged, only_block, only_status}
use Rattle.seq_invariant.specs.BlockApart.{owners_of}
use Rattle.seq_invariant.specs.BlockAreas.{hand_area, left_area, Rests}
use Rattle.seq_invariant.specs.BlockWorks.{Committed, committed_blocks}
use Rattle.seq_invariant.specs.BlockHands.{HandKnows}
use Rattle.seq_invariant.specs.BlockLeft.{way_of, HasToCopy, IsLeft, LeftKnows}
use Rattle.seq_invariant.specs.BlockRecovered.{CopiesOn}
use Rattle.seq_invariant.specs.BlockStanding.{AreBlocks, ExtentStands, BlocksStand}
use Rattle.seq_invariant.specs.BlockStops.{IsFree}
use Rattle.seq_invariant.proofs.BlockFrame.{recovered_inside, left_inside, left_there}
use Rattle.seq_invariant.proofs.BlockRecovered.{copies_more, copying_keeps}
use Rattle.seq_invariant.proofs.BlockStops.{rest_holds}
use Rattle.seq_invariant.specs.Holds.{Holds}
use Rattle.seq_invariant.proofs.Left.{has_to, deserted_word, gripped_is_alive, one_grips}
use Rattle.seq_invariant.proofs.Apart.{is_apart, left_areas_apart, left_is_free}
use Rattle.seq_invariant.proofs.Kept.{word_quiet}
use Rattle.seq_invariant.proofs.LeftFrame.{recovers_blocks}
use Rattle.seq_invariant.proofs.Moved.{TurnMade}
use Rattle.seq_invariant.proofs.Recovering.{back, on, names_stay, area_on, word_blocks}

-- a process of which another recovery has something to copy isn't one that a processor has hold of
module _ (d : MachineDesc) (m : Machine) (p q : ℕ) (st : WordsStand (words_of d m)) where
  pub others_apart : (stage : Stage) → AllUp (words_of d m) → grip (m.hand p) ≡ On q stage → (r : ℕ) (x : RecoveryAt) (y : ℕ) (forward : Bool) → r ≢ p → m.hand r ≡ hand.Recovering x → HasToCopy x y forward → y ≢ q
  others_apart stage all g r x y forward ne e its same =
      let s = recovery_stage x in
      ne (one_grips d m st r p q s.0 stage all (ap grip e ∙ s.1 ∙ ap (λ z. On z s.0) (has_to x y forward its ∙ same)) g)

  pub others_deserted : IsDeserted (words_of d m) q → (r : ℕ) (x : RecoveryAt) (y : ℕ) (forward : Bool) → m.hand r ≡ hand.Recovering x → HasToCopy x y forward → y ≢ q
  others_deserted h r x y forward e its same =
      let s = recovery_stage x in
      gripped_is_alive d m st r q s.0 (ap grip e ∙ s.1 ∙ ap (λ z. On z s.0) (has_to x y forward its ∙ same)) h

-- a process is left one way, by the processor that recovers it
one_way : (d : MachineDesc) (m : Machine) (st : WordsStand (words_of d m)) (p q : ℕ) (x : RecoveryAt) (forward : Bool) → m.hand p ≡ hand.Recovering x → process_of x ≡ q → ((b : Bool) → HasToCopy x q b → b ≡ forward) → (b : Bool) → IsLeft d m q b → b ≡ forward
one_way d m st p q x forward e same ways b (inl h) = absurd (gripped_is_alive d m st p q (recovery_stage x).0 (ap grip e ∙ (recovery_stage x).1 ∙ ap (λ z. On z (recovery_stage x).0) same) (deserted_word d m st q b h))
one_way d m st p q x forward e same ways b (inr h) =
    let s = recovery_stage x in
    let s' = recovery_stage h.at in
    let one : p ≡ h.processor = one_grips d m st p h.processor q s.0 s'.0 (all_recovered d m st p x e) (ap grip e ∙ s.1 ∙ ap (λ z. On z s.0) same) (ap grip h.hand ∙ s'.1 ∙ ap (λ z. On z s'.0) (has_to h.at q b h.copies)) in
    let hands : hand.Recovering h.at ≡ hand.Recovering x = sym h.hand ∙ ap m.hand (sym one) ∙ e in
    ways b (subst (λ y. HasToCopy y q b) (let c : h.at ≡ x = cc in c) h.copies)

module _ (d : MachineDesc) (events : List Event) (at : Committed) (m : Machine) (p : ℕ) (described : IsDescription d) (st : Holds d events at m) where
  abbrev w : WordsStand (words_of d m)
  w = st.words.words

  made : (move : Move) → move.commit ≡ None → BlocksStand d at (after_move p move m) → TurnMade d at m p (Moves move)
  made move none blocks = record { now = at; inputs = refl; owners = λ s. sym (ap (λ c. owners_with (owners_of at.state) (held_in (m.hand p)) c s) none); blocks = blocks }

  -- The first turn, of a process that names a processor that has stopped.
  module _ (q : ℕ) (there : q < length d.processes) (e : m.hand p ≡ hand.Seek) (h : IsDeserted (words_of d m) q) (says : is_deserted m.incarnation (ruling d m.copies q) ≡ true) where
    abbrev forward : Bool
    forward = goes_forward (ruling d m.copies q)

    abbrev begun : Recovery claimed_stage.Claimed
    begun = record (begins m p q (goes_forward (ruling d m.copies q))) { cursor = 1 }

    -- the way in which it was left, or nobody has anything to do in its extents
    was : LeftKnows d at m.copies q (goes_forward (ruling d m.copies q))
    was = go (ruling d m.copies q) refl
      where
        left_as : (b : Bool) → way_of (ruling d m.copies q) ≡ Some b → LeftKnows d at m.copies q b
        left_as b way = st.blocks.left q b (inl (record { inside = there; deserted = says; way = way }))

        free : way_of (ruling d m.copies q) ≡ None → LeftKnows d at m.copies q false
        free none = rest_holds (shape_of d) m.copies true (left_area d m.copies q) (committed_blocks d at) (λ a is. rests a (left_is_free d (owners_of at.state) m w st.locks q there
            (λ r a inside f. gripped_is_alive d m w r q f.stage f.gripped h) not_left a is) (st.blocks.extents a (left_inside d m.copies q a there is)))
          where
            not_left : (b : Bool) → IsLeft d m q b → ⊥
            not_left b (inl x) = let k : None ≡ Some b = sym none ∙ x.way in let c : ⊥ = cc in c
            not_left b (inr x) = others_deserted d m p q w h x.processor x.at q b x.hand x.copies refl

            rests : (a : ℕ) → IsFree d m a → ExtentStands d at m a → Rests (shape_of d) m.copies (committed_blocks d at) a
            rests a f (inl x) = absurd (f.hand x)
            rests a f (inr (inl x)) = absurd (f.left x)
            rests a f (inr (inr x)) = x

        go : (s : Status) → ruling d m.copies q ≡ s → LeftKnows d at m.copies q (goes_forward s)
        go status.Idle k = absurd (false≢true (sym (ap (is_deserted m.incarnation) k) ∙ says))
        go (status.Run x) k = free (ap way_of k)
        go (status.Pass1 x) k = left_as false (ap way_of k)
        go (status.Pass2 x) k = left_as true (ap way_of k)
        go (status.Back x) k = left_as false (ap way_of k)
        go (status.Forward x) k = left_as true (ap way_of k)

    pub begun_made : WordsStand (words_of d (after_move p (recovers d m p q) m)) → TurnMade d at m p (Moves (recovers d m p q))
    begun_made st' =
        let move : Move = recovers d m p q in
        let now : update m.hand p move.hand p ≡ hand.Recovering (recovery.Claimed begun) = update_same m.hand p move.hand in
        made move refl (word_blocks d m p q move (only_status d m.copies q false _ there) (λ x y b k its. let z : hand.Seek ≡ hand.Recovering x = sym e ∙ k in let c : ⊥ = cc in absurd c)
        (λ x y b k its. let z : recovery.Claimed begun ≡ x = cc in sym (subst (λ u. HasToCopy u y b) (sym z) its).0)
        at (owners_of at.state) st.blocks refl (st.blocks.caches p) there (word_quiet d m.copies q 0 false _) (λ a. ap (λ k. hand_area d k a) e)
        (λ r x y b ne k its. others_deserted d m p q w h r x y b k its) forward was
        (inr (record { inside = there; processor = p; at = recovery.Claimed begun; hand = now; copies = (refl, refl) }))
        (one_way d (after_move p move m) st' p q (recovery.Claimed begun) forward now refl (λ b its. sym its.1)) tt)

  -- The second turn.
  pub claimed_made : (r : Recovery claimed_stage.Claimed) → m.hand p ≡ hand.Recovering (recovery.Claimed r) → WordsStand (words_of d (after_move p (claimed_move d m p r) m)) → TurnMade d at m p (Moves (claimed_move d m p r))
  claimed_made r e =
      let is = subst (IsHand d p (m.incarnation p)) e (st.words.hands.hands p) in
      subst (λ (move : Move). WordsStand (words_of d (after_move p move m)) → TurnMade d at m p (Moves move)) (sym (cond-false (r.cursor == 0) _ _ (ne_eqb r.cursor 0 (λ z. let t = is.turns in let c : ⊥ = omega (arith, z, t) in c)))) second
    where
      move : Move
      move = goes m p (write_word d m.copies r.pid.0 0 true (recovery_word r.forward r.holder)) (hand.Recovering (recovery.Copying (into_stage r (record {}))))

      there : r.pid.0 < length d.processes
      there = (subst (GripHolds (words_of d m) p) (ap grip e) (w.grips p)).process

      now : (after_move p move m).hand p ≡ hand.Recovering (recovery.Copying (into_stage r (record {})))
      now = update_same m.hand p move.hand

      second : WordsStand (words_of d (after_move p move m)) → TurnMade d at m p (Moves move)
      second st' = made move refl (word_blocks d m p r.pid.0 move (only_status d m.copies r.pid.0 true _ there)
          (λ x y b k its. let z : hand.Recovering (recovery.Claimed r) ≡ hand.Recovering x = sym e ∙ k in let z' : recovery.Claimed r ≡ x = cc in sym (subst (λ u. HasToCopy u y b) (sym z') its).0)
          (λ x y b k its. let z : recovery.Copying (into_stage r (record {})) ≡ x = cc in sym (subst (λ u. HasToCopy u y b) (sym z) its).0)
          at (owners_of at.state) st.blocks refl (st.blocks.caches p) there (word_quiet d m.copies r.pid.0 0 true _) (λ a. ap (λ k. hand_area d k a) e)
          (λ s x y b ne k its. others_apart d m p r.pid.0 w (Recovering (way r.forward)) (all_recovered d m w p (recovery.Claimed r) e) (ap grip e) s x y b ne k its) r.forward
          (st.blocks.left r.pid.0 r.forward (inr (record { inside = there; processor = p; at = recovery.Claimed r; hand = e; copies = (refl, refl) })))
          (inr (record { inside = there; processor = p; at = recovery.Copying (into_stage r (record {})); hand = now; copies = (refl, refl) }))
          (one_way d (after_move p move m) st' p r.pid.0 (recovery.Copying (into_stage r (record {}))) r.forward now refl (λ b its. sym its.1))
          (record { inside = there; same = λ k below. absurd (let c : ⊥ = omega (arith, below) in c) }))

  -- A turn that copies a block, or the last one.
  module _ (r : Recovery copying_stage.Copying) (e : m.hand p ≡ hand.Recovering (recovery.Copying r)) where
    abbrev q : ℕ
    q = r.pid.0

    abbrev blocks : List (ℕ × ℕ)
    blocks = recovered_blocks d m.copies r.pid.0

    abbrev change : Change
    change = copied_over d m.copies r.forward (slice_get (recovered_blocks d m.copies r.pid.0) r.cursor)

    -- what the hand is then, whether the last block is copied or not
    abbrev after : Bool → RecoveryAt
    after b = if b then recovery.Locks (into_stage r (record {})) else recovery.Copying (record r { cursor = r.cursor + 1 })

    abbrev move_if : Bool → Move
    move_if b = goes m p change (hand.Recovering (after b))

    all : AllUp (words_of d m)
    all = all_recovered d m w p (recovery.Copying r) e

    gripped : grip (m.hand p) ≡ On r.pid.0 (Holding (way r.forward))
    gripped = ap grip e

    there : r.pid.0 < length d.processes
    there = (subst (GripHolds (words_of d m) p) gripped (w.grips p)).process

    is_left : IsLeft d m r.pid.0 r.forward
    is_left = inr (record { inside = there; processor = p; at = recovery.Copying r; hand = e; copies = (refl, refl) })

    up : (a : ℕ) (shadow : Bool) → left_area d m.copies r.pid.0 a ≡ true → serves (shape_of d) m.copies a shadow ≡ true
    up a true is = (all a).1
    up a false is = (all a).0

    knows : HandKnows d at m.copies (m.cache p) (hand.Recovering (recovery.Copying r))
    knows = subst (HandKnows d at m.copies (m.cache p)) e (st.blocks.hands p)

    on_copies : CopiesOn d at m p r
    on_copies = copying_keeps d at m p r up st.blocks.blocks (st.blocks.left r.pid.0 r.forward is_left) knows

    -- words stay, and so do blocks outside the extents of the process
    only : OnlyOf d r.pid.0 change
    only = go (slice_get blocks r.cursor)
      where
        go : (o : Option (ℕ × ℕ)) → OnlyOf d r.pid.0 (copied_over d m.copies r.forward o)
        go None = only_unchanged d r.pid.0
        go (Some b) = only_block d m.copies r.pid.0 b.0 b.1 r.forward (m.copies.block b.0 b.1 (not r.forward))

    block : (a n : ℕ) (c : Bool) → left_area d m.copies r.pid.0 a ≡ false → (copies_after change m.copies).block a n c ≡ m.copies.block a n c
    block a n c out = go (slice_get blocks r.cursor) refl
      where
        go : (o : Option (ℕ × ℕ)) → slice_get (recovered_blocks d m.copies r.pid.0) r.cursor ≡ o → (copies_after (copied_over d m.copies r.forward o) m.copies).block a n c ≡ m.copies.block a n c
        go None is = refl
        go (Some b) is = cond_both (serves (shape_of d) m.copies b.0 r.forward) (To_block b.0 b.1 r.forward (m.copies.block b.0 b.1 (not r.forward))) Unchanged (λ x. (copies_after x m.copies).block a n c ≡ m.copies.block a n c)
            (λ _. copy_elsewhere m.copies.block b.0 b.1 r.forward _ a n c (λ same. true≢false (sym (recovered_inside d m.copies r.pid.0 r.cursor b there is) ∙ ap (left_area d m.copies r.pid.0) (sym same) ∙ out))) (λ _. refl)

    are : AreBlocks d (copies_after change m.copies)
    are = (copies_more d at m.copies r.pid.0 r.forward r.cursor up (st.blocks.left r.pid.0 r.forward is_left) knows st.blocks.blocks).are

    next_its : (b : Bool) (x : RecoveryAt) (y : ℕ) (forward : Bool) → (move_if b).hand ≡ hand.Recovering x → HasToCopy x y forward → (y ≡ r.pid.0) × (forward ≡ r.forward) × (b ≡ false)
    next_its true x y forward k its = let z : recovery.Locks (into_stage r (record {})) ≡ x = cc in absurd (subst (λ u. HasToCopy u y forward) (sym z) its)
    next_its false x y forward k its =
        let z : recovery.Copying (record r { cursor = r.cursor + 1 }) ≡ x = cc in
        let h = subst (λ u. HasToCopy u y forward) (sym z) its in
        (sym h.0, sym h.1, refl)

    now_its : (x : RecoveryAt) (y : ℕ) (forward : Bool) → m.hand p ≡ hand.Recovering x → HasToCopy x y forward → y ≡ r.pid.0
    now_its x y forward k its = let z : hand.Recovering (recovery.Copying r) ≡ hand.Recovering x = sym e ∙ k in let z' : recovery.Copying r ≡ x = cc in sym (subst (λ u. HasToCopy u y forward) (sym z') its).0

    -- an extent of the process then
    extent : (b : Bool) → nat_le (length blocks) (r.cursor + 1) ≡ b → (a : ℕ) → left_area d m.copies r.pid.0 a ≡ true → ExtentStands d at (after_move p (move_if b) m) a
    extent true last a is = inr (inr (on_copies.rests last a is))
    extent false more a is = inr (inl (record {
      process = r.pid.0;
      forward = r.forward;
      left = inr (record { inside = there; processor = p; at = recovery.Copying (record r { cursor = r.cursor + 1 }); hand = update_same m.hand p (move_if false).hand; copies = (refl, refl) });
      inside = area_on d m p r.pid.0 (move_if false) only now_its (λ x y f k its. (next_its false x y f k its).0) a there is;
    }))

    -- whom it has hold of then
    process_then : (b : Bool) → process_of (after b) ≡ r.pid.0
    process_then true = refl
    process_then false = refl

    copied_blocks : (b : Bool) → nat_le (length blocks) (r.cursor + 1) ≡ b → HandKnows d at (copies_after change m.copies) (m.cache p) (hand.Recovering (after b)) → WordsStand (words_of d (after_move p (move_if b) m)) → BlocksStand d at (after_move p (move_if b) m)
    copied_blocks b k knows' st' = recovers_blocks d at m p r.pid.0 (move_if b) (left_area d m.copies r.pid.0) (record {
      none = refl;
      cache = st.blocks.caches p;
      before = λ a. ap (λ h. hand_area d h a) e;
      block = block;
      are = are;
      hands = λ s a ne is. (is_apart d (owners_of at.state) m w st.locks s).left r.pid.0 a r.forward is_left is;
      lefts = λ x a forward ne is inside. left_areas_apart d m x r.pid.0 a (left_there d m x forward is) there ne inside;
      names = λ x t ne. names_stay d m p r.pid.0 (move_if b) only now_its (λ x y f i its. (next_its b x y f i its).0) x t;
      back = back d m p r.pid.0 (move_if b) only now_its (λ x y f i its. (next_its b x y f i its).0);
      on = on d m p r.pid.0 (move_if b) only now_its (λ x y f i its. (next_its b x y f i its).0);
      others = λ s x y f ne i its. others_apart d m p r.pid.0 w (Holding (way r.forward)) all gripped s x y f ne i its;
      mine = λ f is. subst (λ f'. LeftKnows d at (copies_after change m.copies) r.pid.0 f') (sym (ways f is)) on_copies.left;
      knows = knows';
      extents = λ a f is inside. extent b k a inside;
      rests = λ a inside. extent b k a inside;
    }) st.blocks
      where
        ways : (f : Bool) → IsLeft d (after_move p (move_if b) m) r.pid.0 f → f ≡ r.forward
        ways f is = one_way d (after_move p (move_if b) m) st' p r.pid.0 (after b) r.forward (update_same m.hand p (move_if b).hand) (process_then b) (λ g its. (next_its b (after b) r.pid.0 g refl its).1) f is

    pub copying_made : WordsStand (words_of d (after_move p (copying_move d m p r) m)) → TurnMade d at m p (Moves (copying_move d m p r))
    copying_made st' = made (copying_move d m p r) refl (copied_blocks (nat_le (length blocks) (r.cursor + 1)) refl on_copies.knows st')
