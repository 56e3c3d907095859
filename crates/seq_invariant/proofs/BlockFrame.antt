-- A turn of a processor keeps what stands of the blocks of others.
use Rattle.std.proofs.Common.{◌≡◌, ◌≢◌, ◌⊎◌, ℕ, zero, suc, ◌+◌, ◌<◌, ◌≤◌, Bool, true, false, not, if◌then◌else◌, [], ◌++◌, length, slice_get, Option, Some, None, inl, inr, refl, sym, ap, ◌∙◌, subst, arith, All}
use Rattle.std.specs.List.{range_with_len}
use Rattle.std.specs.Prelude.{slice_index}
use Rattle.std.proofs.lemmas.Bool.{cases_eq, cases_Bool, true≢false, false≢true}
use Rattle.std.proofs.lemmas.List.Elements.{All-append, All-map, All-get_or}
use Rattle.std.proofs.lemmas.Option.{slice_get_within, get_or_from_slice_get}
use Rattle.seq_words.specs.Blocks.{zero_block}
use Rattle.seq_words.specs.declared.description.MachineDesc.{MachineDesc}
use Rattle.seq_layout.specs.Places.{is_place}
use Rattle.seq_layout.specs.Shapes.{shape_of, segment_extent}
use Rattle.seq_layout.specs.Copies.{Copies}
use Rattle.seq_cache.specs.Changes.{IsCache}
use Rattle.seq_image.specs.Areas.{AreAlike}
use Rattle.seq_image.specs.Flushing.{KeepsCopies}
use Rattle.seq_image.proofs.Areas.{area_cases, process_in_area, segment_in_area}
use Rattle.seq_image.proofs.ImageBlocks.{place_test}
use Rattle.seq_turns.specs.declared.hand.Hand.{Hand}
use Rattle.seq_turns.specs.declared.hand.Hand.TheVariants as hand
use Rattle.seq_turns.specs.declared.hand.RecoveryAt.{RecoveryAt}
use Rattle.seq_turns.specs.declared.hand.RecoveryAt.TheVariants as recovery
use Rattle.seq_turns.specs.Machines.{Machine, Change, Move, copies_after, after_move}
use Rattle.seq_io.specs.Changes.Change.{Unchanged, To_block, To_word}
use Rattle.seq_recover.specs.Reading.{names, blocks_in, blocks_below, recovered_blocks}
use Rattle.seq_turns.proofs.Functions.{update_same, update_other, update_cases, copy_elsewhere}
use Rattle.seq_invariant.specs.BlockAreas.{hand_area, left_area, Rests}
use Rattle.seq_invariant.specs.BlockWorks.{Committed, committed_blocks}
use Rattle.seq_invariant.specs.BlockHands.{IsSame, RecoveryKnows, HandKnows}
use Rattle.seq_invariant.specs.BlockLeft.{IsLeft, LeftKnows}
use Rattle.seq_invariant.specs.BlockStanding.{IsCommitted, AreBlocks, ExtentStands, BlocksStand}
use Rattle.seq_invariant.specs.BlockFrame.{IsWithin, IsApart, KeepsLeft, KeepsOthers, OwnStands, MovesKeepBlocks}
use Rattle.seq_invariant.proofs.BlockCopies.{either_block, holds_kept, holds_alike, holds_less}
use Rattle.seq_invariant.proofs.BlockStays.{hand_kept}

-- a change outside some extents
module _ (d : MachineDesc) (p : Copies) (inside : ℕ → Bool) where
  pub block_stays : (change : Change) → IsWithin d inside change → (e n : ℕ) (c : Bool) → inside e ≡ false → (copies_after change p).block e n c ≡ p.block e n c
  block_stays Unchanged within e n c out = refl
  block_stays (To_block e' n' c' b) within e n c out = copy_elsewhere p.block e' n' c' b e n c (λ same. true≢false (sym within.0 ∙ ap inside (sym same) ∙ out))
  block_stays (To_word e' n' c' w) within e n c out = refl

  pub states_stay : (change : Change) → (copies_after change p).state ≡ p.state
  states_stay change = refl

  pub area_stays : (change : Change) → IsWithin d inside change → (area : ℕ → Bool) → ((e : ℕ) → area e ≡ true → inside e ≡ false) → (shadow : Bool) → KeepsCopies (shape_of d) p (copies_after change p) shadow area
  area_stays change within area apart shadow = record {
    served = λ e there serving. serving;
    block = λ e n there serving. block_stays change within e n shadow (apart e there);
  }

  pub blocks_stay : (change : Change) → IsWithin d inside change → AreBlocks d p → AreBlocks d (copies_after change p)
  blocks_stay Unchanged within blocks = record { whole = blocks.whole; nowhere = blocks.nowhere }
  blocks_stay (To_block e n c b) within blocks = record { whole = whole; nowhere = nowhere }
    where
      whole : (e' n' : ℕ) (c' : Bool) → length ((copies_after (To_block e n c b) p).block e' n' c').bytes ≡ 32
      whole e' n' c' = either_block (λ x. length x.bytes ≡ 32) p.block e n c b e' n' c' (λ _. within.2) (blocks.whole e' n' c')

      nowhere : (e' n' : ℕ) (c' : Bool) → is_place (shape_of d).blocks e' n' ≡ false → (copies_after (To_block e n c b) p).block e' n' c' ≡ zero_block
      nowhere e' n' c' out = either_block (λ x. x ≡ zero_block) p.block e n c b e' n' c'
          (λ same. absurd (false≢true (sym out ∙ ap (is_place (shape_of d).blocks e') same.1 ∙ ap (λ x. is_place (shape_of d).blocks x n) same.0 ∙ place_test (shape_of d).blocks e n within.1)))
          (blocks.nowhere e' n' c' out)
  blocks_stay (To_word e n c w) within blocks = record { whole = blocks.whole; nowhere = blocks.nowhere }

-- where both ways lie apart
apart_back : (f g : ℕ → Bool) → ((e : ℕ) → f e ≡ true → g e ≡ false) → (e : ℕ) → g e ≡ true → f e ≡ false
apart_back f g apart e there = go (cases_Bool (f e))
  where
    go : (f e ≡ true) ⊎ (f e ≡ false) → f e ≡ false
    go (inl is) = absurd (true≢false (sym there ∙ apart e is))
    go (inr off) = off

-- the blocks of a recovery are of its extents
in_left : (d : MachineDesc) (p : Copies) (q : ℕ) → ℕ × ℕ → Type 0
in_left d p q b = left_area d p q b.0 ≡ true

extent_in_left : (d : MachineDesc) (p : Copies) (q e : ℕ) → left_area d p q e ≡ true → All (in_left d p q) (blocks_in d e)
unfolding in_left
extent_in_left d p q e there = All-map (in_left d p q) (λ n. (e, n)) (range_with_len 0 (slice_index (shape_of d).blocks e)) (λ j x l. there)

no_blocks : (d : MachineDesc) (p : Copies) (q : ℕ) → All (in_left d p q) []
no_blocks d p q k u l = absurd (let c : ⊥ = omega (arith, l) in c)

added_in_left : (d : MachineDesc) (p : Copies) (q t : ℕ) → q < length d.processes → t < length d.segments → (b : Bool) → names d p q t false ≡ b → All (in_left d p q) (if b then blocks_in d (segment_extent (shape_of d) t) else [])
added_in_left d p q t there lt true is = extent_in_left d p q (segment_extent (shape_of d) t) (segment_in_area d q (λ u. names d p q u false) t there lt is)
added_in_left d p q t there lt false is = no_blocks d p q

below_in_left : (d : MachineDesc) (p : Copies) (q t : ℕ) → q < length d.processes → t ≤ length d.segments → All (in_left d p q) (blocks_below d p q t)
below_in_left d p q zero there lt = no_blocks d p q
below_in_left d p q (suc t) there lt = All-append (in_left d p q) (blocks_below d p q t) _ (below_in_left d p q t there (omega (arith, lt))) (added_in_left d p q t there (omega (arith, lt)) (names d p q t false) refl)

all_in_left : (d : MachineDesc) (p : Copies) (q : ℕ) → q < length d.processes → All (in_left d p q) (recovered_blocks d p q)
unfolding recovered_blocks
all_in_left d p q there = All-append (in_left d p q) (blocks_in d q) _ (extent_in_left d p q q (process_in_area d q (λ u. names d p q u false))) (below_in_left d p q (length d.segments) there (omega arith))

pub recovered_inside : (d : MachineDesc) (p : Copies) (q k : ℕ) (b : ℕ × ℕ) → q < length d.processes → slice_get (recovered_blocks d p q) k ≡ Some b → left_area d p q b.0 ≡ true
unfolding in_left
recovered_inside d p q k b there is =
    subst (in_left d p q) (get_or_from_slice_get (recovered_blocks d p q) k b b is) (All-get_or (in_left d p q) (recovered_blocks d p q) k b (slice_get_within (recovered_blocks d p q) k b is) (all_in_left d p q there))

-- they depend on whom lock words name
below_same : (d : MachineDesc) (p p' : Copies) (q t : ℕ) → ((u : ℕ) → names d p' q u false ≡ names d p q u false) → blocks_below d p' q t ≡ blocks_below d p q t
below_same d p p' q zero same = refl
below_same d p p' q (suc t) same =
    ap (λ xs. xs ++ (if names d p' q t false then blocks_in d (segment_extent (shape_of d) t) else [])) (below_same d p p' q t same)
    ∙ ap (λ b. blocks_below d p q t ++ (if b then blocks_in d (segment_extent (shape_of d) t) else [])) (same t)

pub recovered_same : (d : MachineDesc) (p p' : Copies) (q : ℕ) → ((u : ℕ) → names d p' q u false ≡ names d p q u false) → recovered_blocks d p' q ≡ recovered_blocks d p q
unfolding recovered_blocks
recovered_same d p p' q same = ap (λ xs. blocks_in d q ++ xs) (below_same d p p' q (length d.segments) same)

pub left_same : (d : MachineDesc) (p p' : Copies) (q : ℕ) → q < length d.processes → ((u : ℕ) → names d p' q u false ≡ names d p q u false) → (e : ℕ) → left_area d p' q e ≡ true → left_area d p q e ≡ true
left_same d p p' q there same e inside = elim (area_cases d q (λ u. names d p' q u false) e inside) [
  | inl own ↦ subst (λ x. left_area d p q x ≡ true) (sym own) (process_in_area d q (λ u. names d p q u false))
  | inr (t, lt, is, extent) ↦ subst (λ x. left_area d p q x ≡ true) (sym extent) (segment_in_area d q (λ u. names d p q u false) t there lt (sym (same t) ∙ is))
]

pub left_inside : (d : MachineDesc) (p : Copies) (q e : ℕ) → q < length d.processes → left_area d p q e ≡ true → e < length d.processes + length d.segments
left_inside d p q e there inside = elim (area_cases d q (λ u. names d p q u false) e inside) [
  | inl own ↦ omega (arith, there, own)
  | inr (t, lt, is, extent) ↦ omega (arith, lt, extent)
]

-- a process that was left is one of the description's
pub left_there : (d : MachineDesc) (m : Machine) (q : ℕ) (forward : Bool) → IsLeft d m q forward → q < length d.processes
left_there d m q forward (inl h) = h.inside
left_there d m q forward (inr h) = h.inside

module _ (d : MachineDesc) (at at' : Committed) (m : Machine) (p : ℕ) (move : Move) (st : BlocksStand d at m) (committed : IsCommitted d at' (after_move p move m)) (within : IsWithin d (hand_area d (m.hand p)) move.change)
    (apart : IsApart d m p) (left : KeepsLeft d m (after_move p move m)) (others : KeepsOthers d at at' m p) (own : OwnStands d at' m p move) where
  abbrev n : Machine
  n = after_move p move m

  abbrev inside : ℕ → Bool
  inside = hand_area d (m.hand p)

  -- another hand
  hand_stays : (r : ℕ) → r ≢ p → (h : Hand) → m.hand r ≡ h → HandKnows d at' n.copies (m.cache r) h
  hand_stays r ne h e =
      let known : HandKnows d at' m.copies (m.cache r) h = subst (HandKnows d at' m.copies (m.cache r)) e (others.hands r ne (st.hands r)) in
      let area : (x : ℕ) → hand_area d h x ≡ true → inside x ≡ false = λ x there. apart_back inside (hand_area d h) (λ y is. subst (λ k. hand_area d k y ≡ false) e (apart.hands r y ne is)) x there in
      hand_kept d at' m.copies n.copies (m.cache r) h
      (record { primaries = area_stays d m.copies inside move.change within (hand_area d h) area false; shadows = area_stays d m.copies inside move.change within (hand_area d h) area true })
      (λ x is. recovers x (e ∙ is)) known
    where
      same_block : (q : ℕ) → IsLeft d m q true ⊎ IsLeft d m q false → (b : ℕ × ℕ) → left_area d m.copies q b.0 ≡ true → (c : Bool) → n.copies.block b.0 b.1 c ≡ m.copies.block b.0 b.1 c
      same_block q (inl is) b there c = block_stays d m.copies inside move.change within b.0 b.1 c (apart_back inside (left_area d m.copies q) (λ y h. apart.left q y true is h) b.0 there)
      same_block q (inr is) b there c = block_stays d m.copies inside move.change within b.0 b.1 c (apart_back inside (left_area d m.copies q) (λ y h. apart.left q y false is h) b.0 there)

      same_names : (q : ℕ) → IsLeft d m q true ⊎ IsLeft d m q false → (u : ℕ) → names d n.copies q u false ≡ names d m.copies q u false
      same_names q (inl is) u = left.names q u true is
      same_names q (inr is) u = left.names q u false is

      one_same : (q k : ℕ) → q < length d.processes → IsLeft d m q true ⊎ IsLeft d m q false → (o : Option (ℕ × ℕ)) → slice_get (recovered_blocks d m.copies q) k ≡ o → IsSame m.copies o → IsSame n.copies o
      one_same q k there is (Some b) found h =
          let inleft = recovered_inside d m.copies q k b there found in
          same_block q is b inleft true ∙ h ∙ sym (same_block q is b inleft false)
      one_same q k there is None found h = tt

      recovers : (x : RecoveryAt) → m.hand r ≡ hand.Recovering x → RecoveryKnows d m.copies x → RecoveryKnows d n.copies x
      recovers (recovery.Claimed x) is h = tt
      recovers (recovery.Copying x) is h =
          let q : ℕ = x.pid.0 in
          let who : IsLeft d m q true ⊎ IsLeft d m q false = go x.forward refl in
          record {
            inside = h.inside;
            same = λ k below. subst (λ xs. IsSame n.copies (slice_get xs k)) (sym (recovered_same d m.copies n.copies q (same_names q who)))
                (one_same q k h.inside who (slice_get (recovered_blocks d m.copies q) k) refl (h.same k below));
          }
        where
          go : (b : Bool) → x.forward ≡ b → IsLeft d m x.pid.0 true ⊎ IsLeft d m x.pid.0 false
          go true e' = inl (inr (record { inside = h.inside; processor = r; at = recovery.Copying x; hand = is; copies = (refl, e') }))
          go false e' = inr (inr (record { inside = h.inside; processor = r; at = recovery.Copying x; hand = is; copies = (refl, e') }))
      recovers (recovery.Locks x) is h = tt
      recovers (recovery.Closing x) is h = tt

  -- a process that was left
  left_stays : (q : ℕ) (forward : Bool) → IsLeft d n q forward → LeftKnows d at' n.copies q forward
  left_stays q forward is =
      let was : IsLeft d m q forward = left.before q forward is in
      let there : q < length d.processes = left_there d m q forward was in
      let out : (e : ℕ) → left_area d m.copies q e ≡ true → inside e ≡ false = λ e. apart_back inside (left_area d m.copies q) (λ x h. apart.left q x forward was h) e in
      let alike : AreAlike (left_area d m.copies q) (committed_blocks d at) (committed_blocks d at') = record { each = λ e k h. others.blocks e k (left_inside d m.copies q e there h) (out e h) } in
      holds_less (shape_of d) n.copies (not forward) (left_area d m.copies q) (left_area d n.copies q) (committed_blocks d at') (left_same d m.copies n.copies q there (λ u. left.names q u forward was))
      (holds_alike (shape_of d) n.copies (not forward) (left_area d m.copies q) (committed_blocks d at) (committed_blocks d at') alike
      (holds_kept (shape_of d) m.copies n.copies (not forward) (left_area d m.copies q) (committed_blocks d at) (area_stays d m.copies inside move.change within (left_area d m.copies q) out (not forward)) (st.left q forward was)))

  -- each extent
  own_extent : (e : ℕ) → inside e ≡ true → ExtentStands d at' n e
  own_extent e is = go (own.rests e is)
    where
      go : (hand_area d move.hand e ≡ true) ⊎ Rests (shape_of d) n.copies (committed_blocks d at') e → ExtentStands d at' n e
      go (inl mine) = inl (record { holder = p; inside = ap (λ h. hand_area d h e) (update_same m.hand p move.hand) ∙ mine })
      go (inr rests) = inr (inr rests)

  extent_stays : (e : ℕ) → e < length d.processes + length d.segments → ExtentStands d at m e → ExtentStands d at' n e
  extent_stays e lt (inl h) = go (cases_eq h.holder p)
    where
      go : (h.holder ≡ p) ⊎ (h.holder ≡ p → ⊥) → ExtentStands d at' n e
      go (inl i) = own_extent e (ap (λ r. hand_area d (m.hand r) e) (sym i) ∙ h.inside)
      go (inr ne) = inl (record { holder = h.holder; inside = ap (λ k. hand_area d k e) (update_other m.hand p move.hand h.holder ne) ∙ h.inside })
  extent_stays e lt (inr (inl h)) = inr (inl (record {
    process = h.process;
    forward = h.forward;
    left = left.still h.process h.forward h.left;
    inside = left_same d n.copies m.copies h.process (left_there d m h.process h.forward h.left) (λ u. sym (left.names h.process u h.forward h.left)) e h.inside;
  }))
  extent_stays e lt (inr (inr h)) = go (cases_Bool (inside e))
    where
      go : (inside e ≡ true) ⊎ (inside e ≡ false) → ExtentStands d at' n e
      go (inl is) = own_extent e is
      go (inr out) = inr (inr (record { each = λ k c serving. block_stays d m.copies inside move.change within e k c out ∙ h.each k c serving ∙ others.blocks e k lt out }))

  pub frame : BlocksStand d at' n
  frame = record {
    committed = committed;
    blocks = blocks_stay d m.copies inside move.change within st.blocks;
    caches = λ r. update_cases IsCache m.cache p move.cache r (λ _. own.cache) (λ _. st.caches r);
    hands = λ r. hand_at r (cases_eq r p);
    left = left_stays;
    extents = λ e lt. extent_stays e lt (st.extents e lt);
  }
    where
      hand_at : (r : ℕ) → (r ≡ p) ⊎ (r ≡ p → ⊥) → HandKnows d at' n.copies (n.cache r) (n.hand r)
      hand_at r (inl e) = subst (λ x. HandKnows d at' n.copies (n.cache x) (n.hand x)) (sym e)
          (subst (λ c. HandKnows d at' n.copies c (n.hand p)) (sym (update_same m.cache p move.cache)) (subst (HandKnows d at' n.copies move.cache) (sym (update_same m.hand p move.hand)) own.knows))
      hand_at r (inr ne) =
          subst (λ c. HandKnows d at' n.copies c (n.hand r)) (sym (update_other m.cache p move.cache r ne)) (subst (HandKnows d at' n.copies (m.cache r)) (sym (update_other m.hand p move.hand r ne)) (hand_stays r ne (m.hand r) refl))

pub moves_keep_blocks : MovesKeepBlocks
moves_keep_blocks d at at' m p move st committed within apart left others own = frame d at at' m p move st committed within apart left others own
