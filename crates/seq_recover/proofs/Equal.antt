-- What the turns of Copying leave equal on both copies.
use Rattle.std.proofs.Common.{◌≡◌, ◌⊎◌, inl, inr, ℕ, zero, suc, ◌+◌, ◌<◌, ◌≤◌, Bool, true, false, not, ◌&&◌, ◌==◌, if◌then◌else◌, List, [], ◌++◌, length, slice_get, slice_index, Option, Some, None, refl, sym, ap, ◌∙◌, subst, arith}
use Rattle.std.proofs.lemmas.Bool.{cases_eq, cond-true, true≢false, false≢true}
use Rattle.std.proofs.lemmas.Option.{slice_get_within}
use Rattle.seq_words.specs.declared.description.MachineDesc.{MachineDesc}
use Rattle.seq_memory.specs.States.{is_in_service}
use Rattle.seq_layout.specs.Places.{memory_of, IsSamePart}
use Rattle.seq_layout.specs.Shapes.{shape_of, segment_extent}
use Rattle.seq_layout.specs.Copies.{Copies, serves, with_block, block_written}
use Rattle.seq_layout.proofs.CopiesLaws.{block_changes_alone}
use Rattle.seq_layout.proofs.CopiesWritten.{block_states, block_words}
use Rattle.seq_recover.specs.declared.recovery.Copying.{Copying}
use Rattle.seq_recover.specs.declared.recovery.Recovery.{Recovery}
use Rattle.seq_recover.specs.Reading.{names, blocks_in, named_blocks, blocks_below, recovered_blocks}
use Rattle.seq_recover.specs.Turns.{block_copied}
use Rattle.seq_recover.specs.Stands.{AllServe, IsEqual, IsInArea, IsAreaEqual, CopyingKnows}
use Rattle.seq_recover.proofs.Listed.{so_far, count_named, found, found_own}

-- one copy of a block is copied to the other
abbrev over : Copies → ℕ → ℕ → Bool → Copies
over p e n to = with_block p e n to (p.block e n (not to))

copied_is : (p : Copies) (e n : ℕ) (to : Bool) → IsEqual (over p e n to) e n
copied_is p e n true = (block_changes_alone p e n true (p.block e n false)).elsewhere e n false (λ same. true≢false same.copy) ∙ sym (block_changes_alone p e n true (p.block e n false)).here
copied_is p e n false = (block_changes_alone p e n false (p.block e n true)).here ∙ sym ((block_changes_alone p e n false (p.block e n true)).elsewhere e n true (λ same. false≢true same.copy))

-- blocks that are equal stay so
still_equal : (p : Copies) (e n : ℕ) (to : Bool) (x y : ℕ) → IsEqual p x y → IsEqual (over p e n to) x y
still_equal p e n to x y same = go (cases_eq x e) (cases_eq y n)
  where
    stays : ((c : Bool) → IsSamePart e n to x y c → ⊥) → IsEqual (over p e n to) x y
    stays differ =
        let alone = block_changes_alone p e n to (p.block e n (not to)) in
        alone.elsewhere x y false (differ false) ∙ same ∙ sym (alone.elsewhere x y true (differ true))

    go : (x ≡ e) ⊎ (x ≡ e → ⊥) → (y ≡ n) ⊎ (y ≡ n → ⊥) → IsEqual (over p e n to) x y
    go (inr ne) b = stays (λ c s. ne (sym s.extent))
    go (inl a) (inr ne) = stays (λ c s. ne (sym s.part))
    go (inl a) (inl b) = subst (λ i. IsEqual (over p e n to) i y) (sym a) (subst (λ i. IsEqual (over p e n to) e i) (sym b) (copied_is p e n to))

-- the same words in the same states name the same segments
module _ (d : MachineDesc) (p now : Copies) (q : ℕ) (states : now.state ≡ p.state) (words : now.word ≡ p.word) where
  same_names : (t : ℕ) (c : Bool) → names d now q t c ≡ names d p q t c
  same_names t c i =
      let e = segment_extent (shape_of d) t in
      is_in_service (states i (memory_of (shape_of d).memories e c)) && (words i e 0 c == suc q)

  same_below : (t : ℕ) → blocks_below d now q t ≡ blocks_below d p q t
  same_below zero = refl
  same_below (suc t) = λ i. same_below t i ++ (if same_names t false i then blocks_in d (segment_extent (shape_of d) t) else [])

  same_listed : recovered_blocks d now q ≡ recovered_blocks d p q
  unfolding recovered_blocks
  same_listed = ap (λ (xs : List (ℕ × ℕ)). blocks_in d q ++ xs) (same_below (length d.segments))

-- a turn that copies, with all copies in service
module _ (d : MachineDesc) (p : Copies) (to : Bool) (serve : AllServe (shape_of d) p) where
  abbrev after : Option (ℕ × ℕ) → Copies
  after o = block_copied d p to o

  some_is : (b : ℕ × ℕ) → after (Some b) ≡ over p b.0 b.1 to
  unfolding block_written
  some_is b = cond-true (serves (shape_of d) p b.0 to) (over p b.0 b.1 to) p (serve b.0 to)

  pub states_stay : (o : Option (ℕ × ℕ)) → (after o).state ≡ p.state
  states_stay None = refl
  states_stay (Some b) = block_states (shape_of d) p b.0 b.1 to (p.block b.0 b.1 (not to))

  words_stay : (o : Option (ℕ × ℕ)) → (after o).word ≡ p.word
  words_stay None = refl
  words_stay (Some b) = block_words (shape_of d) p b.0 b.1 to (p.block b.0 b.1 (not to))

  equal_stays : (o : Option (ℕ × ℕ)) (x y : ℕ) → IsEqual p x y → IsEqual (after o) x y
  equal_stays None x y same = same
  equal_stays (Some b) x y same = subst (λ (z : Copies). IsEqual z x y) (sym (some_is b)) (still_equal p b.0 b.1 to x y same)

  equal_here : (b : ℕ × ℕ) → IsEqual (after (Some b)) b.0 b.1
  equal_here b = subst (λ (z : Copies). IsEqual z b.0 b.1) (sym (some_is b)) (copied_is p b.0 b.1 to)

module _ (d : MachineDesc) (p : Copies) (r : Recovery Copying) (serve : AllServe (shape_of d) p) (knows : CopyingKnows d p r) where
  abbrev q : ℕ
  q = r.pid.0

  abbrev blocks : List (ℕ × ℕ)
  blocks = recovered_blocks d p q

  -- the copies after the turn
  abbrev pub now : Copies
  now = block_copied d p r.forward (slice_get blocks r.cursor)

  listed : recovered_blocks d now q ≡ blocks
  listed = same_listed d p now q (states_stay d p r.forward serve (slice_get blocks r.cursor)) (words_stay d p r.forward serve (slice_get blocks r.cursor))

  -- one block more is equal
  one_more : (k : ℕ) (b : ℕ × ℕ) → k < r.cursor + 1 → slice_get blocks k ≡ Some b → IsEqual now b.0 b.1
  one_more k b few is = go (cases_eq k r.cursor)
    where
      go : (k ≡ r.cursor) ⊎ (k ≡ r.cursor → ⊥) → IsEqual now b.0 b.1
      go (inl e) =
          let here : slice_get blocks r.cursor ≡ Some b = ap (slice_get blocks) (sym e) ∙ is in
          subst (λ o. IsEqual (block_copied d p r.forward o) b.0 b.1) (sym here) (equal_here d p r.forward serve b)
      go (inr ne) = equal_stays d p r.forward serve (slice_get blocks r.cursor) b.0 b.1 (knows.behind k b (omega (arith, few, ne)) is)

  pub copying_knows : CopyingKnows d now (record r { cursor = r.cursor + 1 })
  copying_knows = record { behind = λ k b few is. one_more k b few (ap (λ (xs : List (ℕ × ℕ)). slice_get xs k) (sym listed) ∙ is) }

  -- after the last block the whole area is equal
  pub area_equal : length blocks ≤ r.cursor + 1 → IsAreaEqual d now q
  area_equal done = record { each = λ e n inside lt. go e n inside lt }
    where
      copied : (k : ℕ) (b : ℕ × ℕ) → slice_get blocks k ≡ Some b → IsEqual now b.0 b.1
      copied k b is = one_more k b (omega (arith, done, slice_get_within blocks k b is)) is

      named : (t n : ℕ) → t < length d.segments → names d p q t false ≡ true → n < slice_index (shape_of d).blocks (segment_extent (shape_of d) t) → n < length (named_blocks d p q t)
      named t n below is lt =
          omega (arith, lt, count_named d p q t is)

      go : (e n : ℕ) → IsInArea d now q e → n < slice_index (shape_of d).blocks e → IsEqual now e n
      go e n (inl own) lt = copied n (e, n) (subst (λ x. slice_get blocks n ≡ Some (x, n)) (sym own) (found_own d p q n (subst (λ x. n < slice_index (shape_of d).blocks x) own lt)))
      go e n (inr (t, below, extent, is)) lt =
          let is' : names d p q t false ≡ true = sym (same_names d p now q (states_stay d p r.forward serve (slice_get blocks r.cursor)) (words_stay d p r.forward serve (slice_get blocks r.cursor)) t false) ∙ is in
          let lt' : n < slice_index (shape_of d).blocks (segment_extent (shape_of d) t) = subst (λ x. n < slice_index (shape_of d).blocks x) extent lt in
          copied (length (so_far d p q t) + n) (e, n) (subst (λ x. slice_get blocks (length (so_far d p q t) + n) ≡ Some (x, n)) (sym extent) (found d p q t (length (so_far d p q t) + n) n below refl (named t n below is' lt')))
