-- The turns of a recovery that copy.
use Rattle.std.proofs.Common.{◌≡◌, ◌≢◌, ◌⊎◌, ℕ, zero, suc, ◌+◌, ◌-◌, ◌<◌, Bool, true, false, not, if◌then◌else◌, List, [], ◌++◌, length, get_or, slice_get, slice_index, Option, Some, None, All, inl, inr, refl, sym, ap, ◌∙◌, subst, arith}
use Rattle.std.proofs.lemmas.Bool.{cond_both, cases_eq, true≢false, false≢true}
use Rattle.std.proofs.lemmas.List.{get_or-append_right, get_or_append_left, length-append}
use Rattle.std.proofs.lemmas.List.FromFn.{get_or-map-range_with_len, length-map-range_with_len}
use Rattle.seq_words.specs.declared.description.MachineDesc.{MachineDesc}
use Rattle.seq_layout.specs.Shapes.{shape_of, segment_extent}
use Rattle.seq_layout.specs.Copies.{Copies, serves}
use Rattle.seq_image.proofs.Areas.{area_cases}
use Rattle.seq_turns.specs.Machines.{copies_after}
use Rattle.seq_io.specs.Changes.Change.{Unchanged, To_block}
use Rattle.seq_recover.specs.Reading.{names, blocks_in, blocks_below, recovered_blocks}
use Rattle.seq_turns.specs.Recoveries.{copied_over}
use Rattle.seq_turns.proofs.Functions.{copy_same, copy_other, copy_elsewhere, copy_other_part}
use Rattle.seq_invariant.specs.BlockAreas.{left_area}
use Rattle.seq_invariant.specs.BlockWorks.{Committed}
use Rattle.seq_invariant.specs.BlockHands.{IsSame, CopiedBehind}
use Rattle.seq_invariant.specs.BlockLeft.{LeftKnows}
use Rattle.std.proofs.lemmas.Option.{slice_get-get_or}
use Rattle.std.proofs.lemmas.Bool.{cases_Bool, leb-true}
use Rattle.std.proofs.Common.{nat_le, refl, ◌≤◌}
use Rattle.seq_words.specs.Blocks.{zero_block}
use Rattle.seq_layout.specs.Places.{is_place}
use Rattle.seq_image.specs.Areas.{CopyHolds}
use Rattle.seq_image.proofs.ImageBlocks.{place_of_test}
use Rattle.seq_turns.specs.declared.hand.RecoveryAt.TheVariants as recovery
use Rattle.seq_recover.specs.Turns.{into_stage}
use Rattle.seq_invariant.specs.BlockAreas.{Rests}
use Rattle.seq_invariant.specs.BlockWorks.{committed_blocks}
use Rattle.seq_invariant.specs.BlockHands.{RecoveryKnows}
use Rattle.seq_invariant.specs.BlockStanding.{AreBlocks}
use Rattle.seq_invariant.specs.BlockRecovered.{CopyingKeeps}
use Rattle.seq_invariant.proofs.BlockCopies.{either_block}
use Rattle.seq_invariant.proofs.BlockFrame.{recovered_inside, recovered_same}

-- of all elements of two lists, those of each
all_right : {X : Type 0} (P : X → Type 0) (xs ys : List X) → All P (xs ++ ys) → All P ys
all_right P xs ys h k d lt =
    let number : length xs + k - length xs ≡ k = omega arith in
    subst P (get_or-append_right xs ys (length xs) (length xs + k) d refl (omega arith) ∙ ap (λ i. get_or ys i d) number) (h (length xs + k) d (omega (arith, lt, length-append xs ys)))

all_left : {X : Type 0} (P : X → Type 0) (xs ys : List X) → All P (xs ++ ys) → All P xs
all_left P xs ys h k d lt = subst P (get_or_append_left xs ys d k lt) (h k d (omega (arith, lt, length-append xs ys)))

-- each block of an extent is among its blocks
of_extent : (P : ℕ × ℕ → Type 0) (d : MachineDesc) (e n : ℕ) → n < slice_index (shape_of d).blocks e → All P (blocks_in d e) → P (e, n)
of_extent P d e n lt h =
    subst P (get_or-map-range_with_len (λ k. (e, k)) 0 (slice_index (shape_of d).blocks e) n n (e, 0) lt (omega arith))
    (h n (e, 0) (omega (arith, lt, length-map-range_with_len {X = ℕ × ℕ} (λ k. (e, k)) 0 (slice_index (shape_of d).blocks e))))

of_named : (P : ℕ × ℕ → Type 0) (d : MachineDesc) (p : Copies) (q t k : ℕ) → t < k → names d p q t false ≡ true → All P (blocks_below d p q k) → All P (blocks_in d (segment_extent (shape_of d) t))
of_named P d p q t zero lt is h = absurd (omega (arith, lt))
of_named P d p q t (suc k) lt is h = go (cases_eq t k) (λ ne. of_named P d p q t k (omega (arith, lt, ne)) is (all_left P (blocks_below d p q k) (if names d p q k false then blocks_in d (segment_extent (shape_of d) k) else []) h))
  where
    go : (t ≡ k) ⊎ (t ≡ k → ⊥) → ((t ≡ k → ⊥) → All P (blocks_in d (segment_extent (shape_of d) t))) → All P (blocks_in d (segment_extent (shape_of d) t))
    go (inl e) below =
        let last : All P (if names d p q k false then blocks_in d (segment_extent (shape_of d) k) else []) = all_right P (blocks_below d p q k) (if names d p q k false then blocks_in d (segment_extent (shape_of d) k) else []) h in
        let here : names d p q k false ≡ true = ap (λ x. names d p q x false) (sym e) ∙ is in
        subst (λ x. All P (blocks_in d (segment_extent (shape_of d) x))) (sym e) (subst (λ b. All P (if b then blocks_in d (segment_extent (shape_of d) k) else [])) here last)
    go (inr ne) below = below ne

-- each block of the area of a process that was left is copied
of_left : (P : ℕ × ℕ → Type 0) (d : MachineDesc) (p : Copies) (q e n : ℕ) → left_area d p q e ≡ true → n < slice_index (shape_of d).blocks e → All P (recovered_blocks d p q) → P (e, n)
unfolding recovered_blocks
of_left P d p q e n inside lt h = elim (area_cases d q (λ t. names d p q t false) e inside) [
  | inl own ↦ of_extent P d e n lt (subst (λ x. All P (blocks_in d x)) (sym own) (all_left P (blocks_in d q) (blocks_below d p q (length d.segments)) h))
  | inr (t, below, is, extent) ↦
      of_extent P d e n lt (subst (λ x. All P (blocks_in d x)) (sym extent) (of_named P d p q t (length d.segments) below is (all_right P (blocks_in d q) (blocks_below d p q (length d.segments)) h)))
]

not_same : (b : Bool) → not b ≢ b
not_same true e = false≢true e
not_same false e = true≢false e

-- both copies of a block are the same once one is copied to the other
copied_is : (p : Copies) (e n : ℕ) (to : Bool) → IsSame (copies_after (To_block e n to (p.block e n (not to))) p) (Some (e, n))
copied_is p e n true =
    copy_same p.block e n true (p.block e n false) ∙ sym (copy_other p.block e n true (p.block e n false) e n false false≢true)
copied_is p e n false =
    copy_other p.block e n false (p.block e n true) e n true true≢false ∙ sym (copy_same p.block e n false (p.block e n true))

-- and others stay the same
still_same : (p : Copies) (e n : ℕ) (to : Bool) (x : ℕ × ℕ) → IsSame p (Some x) → IsSame (copies_after (To_block e n to (p.block e n (not to))) p) (Some x)
still_same p e n to x same = go (cases_eq x.0 e) (cases_eq x.1 n)
  where
    go : (x.0 ≡ e) ⊎ (x.0 ≡ e → ⊥) → (x.1 ≡ n) ⊎ (x.1 ≡ n → ⊥) → IsSame (copies_after (To_block e n to (p.block e n (not to))) p) (Some x)
    go (inr ne) b = copy_elsewhere p.block e n to (p.block e n (not to)) x.0 x.1 true ne ∙ same ∙ sym (copy_elsewhere p.block e n to (p.block e n (not to)) x.0 x.1 false ne)
    go (inl a) (inr ne) = copy_other_part p.block e n to (p.block e n (not to)) x.0 x.1 true ne ∙ same ∙ sym (copy_other_part p.block e n to (p.block e n (not to)) x.0 x.1 false ne)
    go (inl a) (inl b) =
        subst (λ i. (copies_after (To_block e n to (p.block e n (not to))) p).block i x.1 true ≡ (copies_after (To_block e n to (p.block e n (not to))) p).block i x.1 false) (sym a)
        (subst (λ i. (copies_after (To_block e n to (p.block e n (not to))) p).block e i true ≡ (copies_after (To_block e n to (p.block e n (not to))) p).block e i false) (sym b) (copied_is p e n to))

module _ (d : MachineDesc) (at : Committed) (p : Copies) (q : ℕ) (forward : Bool) (cursor : ℕ) (up : (e : ℕ) (shadow : Bool) → left_area d p q e ≡ true → serves (shape_of d) p e shadow ≡ true)
    (known : LeftKnows d at p q forward) (behind : CopiedBehind d p q cursor) (whole : AreBlocks d p) where
  abbrev blocks : List (ℕ × ℕ)
  blocks = recovered_blocks d p q

  -- after a change, with one block more the same
  pub record More (now : Copies) : Type 0 where
    pub left : LeftKnows d at now q forward
    pub kept : CopyHolds (shape_of d) now (not forward) (left_area d p q) (committed_blocks d at)
    pub are : AreBlocks d now
    pub listed : recovered_blocks d now q ≡ blocks
    pub same : (k : ℕ) → k < cursor + 1 → IsSame now (slice_get blocks k)

  one_more : (o : Option (ℕ × ℕ)) → slice_get blocks cursor ≡ o → More (copies_after (copied_over d p forward o) p)
  one_more None is = record {
    left = known;
    kept = known;
    are = whole;
    listed = recovered_same d p (copies_after Unchanged p) q (λ u. refl);
    same = λ k few. go k few (cases_eq k cursor);
  }
    where
      go : (k : ℕ) → k < cursor + 1 → (k ≡ cursor) ⊎ (k ≡ cursor → ⊥) → IsSame p (slice_get blocks k)
      go k few (inl e) = subst (IsSame p) (sym (ap (slice_get blocks) e ∙ is)) tt
      go k few (inr ne) = behind.same k (omega (arith, few, ne))
  one_more (Some b) is = cond_both (serves (shape_of d) p b.0 forward) (To_block b.0 b.1 forward (p.block b.0 b.1 (not forward))) Unchanged (λ change. More (copies_after change p))
      (λ served. record {
        left = record { each = λ e n inside. copy_other p.block b.0 b.1 forward (p.block b.0 b.1 (not forward)) e n (not forward) (not_same forward) ∙ known.each e n inside };
        kept = record { each = λ e n inside. copy_other p.block b.0 b.1 forward (p.block b.0 b.1 (not forward)) e n (not forward) (not_same forward) ∙ known.each e n inside };
        are = record {
          whole = λ e n c. either_block (λ x. length x.bytes ≡ 32) p.block b.0 b.1 forward (p.block b.0 b.1 (not forward)) e n c (λ _. whole.whole b.0 b.1 (not forward)) (whole.whole e n c);
          nowhere = λ e n c out. either_block (λ x. x ≡ zero_block) p.block b.0 b.1 forward (p.block b.0 b.1 (not forward)) e n c
              (λ part. whole.nowhere b.0 b.1 (not forward) (ap (λ x. is_place (shape_of d).blocks x b.1) (sym part.0) ∙ ap (is_place (shape_of d).blocks e) (sym part.1) ∙ out)) (whole.nowhere e n c out);
        };
        listed = recovered_same d p now q (λ u. refl);
        same = λ k few. go k few (cases_eq k cursor);
      })
      (λ out. absurd (false≢true (sym out ∙ up b.0 forward (recovered_inside d p q cursor b behind.inside is))))
    where
      now : Copies
      now = copies_after (To_block b.0 b.1 forward (p.block b.0 b.1 (not forward))) p

      old : (o : Option (ℕ × ℕ)) → IsSame p o → IsSame (copies_after (To_block b.0 b.1 forward (p.block b.0 b.1 (not forward))) p) o
      old (Some x) h = still_same p b.0 b.1 forward x h
      old None h = tt

      go : (k : ℕ) → k < cursor + 1 → (k ≡ cursor) ⊎ (k ≡ cursor → ⊥) → IsSame (copies_after (To_block b.0 b.1 forward (p.block b.0 b.1 (not forward))) p) (slice_get blocks k)
      go k few (inl e) = subst (IsSame (copies_after (To_block b.0 b.1 forward (p.block b.0 b.1 (not forward))) p)) (sym (ap (slice_get blocks) e ∙ is)) (copied_is p b.0 b.1 forward)
      go k few (inr ne) = old (slice_get blocks k) (behind.same k (omega (arith, few, ne)))

  pub copies_more : More (copies_after (copied_over d p forward (slice_get blocks cursor)) p)
  copies_more = one_more (slice_get blocks cursor) refl

  abbrev after : Copies
  after = copies_after (copied_over d p forward (slice_get blocks cursor)) p

  -- once all are copied, both copies of each block are the same
  all_same : length blocks ≤ cursor + 1 → (e n : ℕ) → left_area d p q e ≡ true → after.block e n true ≡ after.block e n false
  all_same done e n inside = go (cases_Bool (is_place (shape_of d).blocks e n))
    where
      all : All (λ b. IsSame after (Some b)) blocks
      all k x lt = subst (IsSame after) (slice_get-get_or blocks k x lt) (copies_more.same k (omega (arith, lt, done)))

      go : (is_place (shape_of d).blocks e n ≡ true) ⊎ (is_place (shape_of d).blocks e n ≡ false) → after.block e n true ≡ after.block e n false
      go (inl placed) = of_left (λ b. IsSame after (Some b)) d p q e n inside (place_of_test (shape_of d).blocks e n placed).part_in all
      go (inr none) = copies_more.are.nowhere e n true none ∙ sym (copies_more.are.nowhere e n false none)

  pub all_rest : length blocks ≤ cursor + 1 → (e : ℕ) → left_area d p q e ≡ true → Rests (shape_of d) after (committed_blocks d at) e
  all_rest done e inside = record { each = λ n c serving. go forward refl n c }
    where
      kept : (n : ℕ) → after.block e n (not forward) ≡ committed_blocks d at e n
      kept n = copies_more.kept.each e n (rw (inside, up e (not forward) inside) refl)

      go : (b : Bool) → forward ≡ b → (n : ℕ) (c : Bool) → after.block e n c ≡ committed_blocks d at e n
      go true is n true = all_same done e n inside ∙ subst (λ x. after.block e n (not x) ≡ committed_blocks d at e n) is (kept n)
      go true is n false = subst (λ x. after.block e n (not x) ≡ committed_blocks d at e n) is (kept n)
      go false is n true = subst (λ x. after.block e n (not x) ≡ committed_blocks d at e n) is (kept n)
      go false is n false = sym (all_same done e n inside) ∙ subst (λ x. after.block e n (not x) ≡ committed_blocks d at e n) is (kept n)

pub copying_keeps : CopyingKeeps
copying_keeps d at m p r up are left behind =
    let q : ℕ = r.pid.0 in
    let blocks : List (ℕ × ℕ) = recovered_blocks d m.copies q in
    let more = copies_more d at m.copies q r.forward r.cursor up left behind are in
    record {
      left = more.left;
      knows = cond_both (nat_le (length blocks) (r.cursor + 1)) (recovery.Locks (into_stage r (record {}))) (recovery.Copying (record r { cursor = r.cursor + 1 }))
          (λ next. RecoveryKnows d (copies_after (copied_over d m.copies r.forward (slice_get blocks r.cursor)) m.copies) next) (λ _. tt)
          (λ _. record {
            inside = behind.inside;
            same = λ k few. subst (λ xs. IsSame (copies_after (copied_over d m.copies r.forward (slice_get blocks r.cursor)) m.copies) (slice_get xs k)) (sym more.listed) (more.same k few);
          });
      rests = λ done. all_rest d at m.copies q r.forward r.cursor up left behind are (leb-true (length blocks) (r.cursor + 1) done);
    }
