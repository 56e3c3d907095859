-- What the states of a recovery know survives what other elements write.
use Rattle.std.proofs.Math.Path.{fun_ext}
use Rattle.std.proofs.Common.{◌≡◌, ◌≢◌, ◌⊎◌, inl, inr, ℕ, zero, suc, ◌/◌, ◌<◌, Bool, true, false, not, ◌&&◌, ◌==◌, cond, List, [], ◌++◌, length, map, slice_get, Some, refl, sym, ap, ◌∙◌, subst}
use Rattle.std.specs.List.{range_with_len}
use Rattle.std.proofs.lemmas.Bool.{cases_eq, ne_eqb, true≢false, false≢true}
use Rattle.seq_words.specs.Masks.{has_bit}
use Rattle.seq_words.specs.declared.block.Block.{Block}
use Rattle.seq_words.specs.declared.description.MachineDesc.{MachineDesc}
use Rattle.seq_memory.specs.States.{is_in_service}
use Rattle.seq_layout.specs.Places.{memory_of}
use Rattle.seq_layout.specs.Shapes.{shape_of, segment_extent}
use Rattle.seq_layout.specs.Copies.{Copies, serves, first_block, with_block, with_word}
use Rattle.seq_layout.specs.Held.{IsOther}
use Rattle.seq_layout.specs.declared.context.Context.{Context}
use Rattle.seq_layout.proofs.CopiesLaws.{block_changes_alone, word_changes_alone}
use Rattle.seq_recover.specs.declared.recovery.Copying.{Copying}
use Rattle.seq_recover.specs.declared.recovery.Locks.{Locks}
use Rattle.seq_recover.specs.declared.recovery.Closing.{Closing}
use Rattle.seq_recover.specs.declared.recovery.Recovery.{Recovery}
use Rattle.seq_recover.specs.Reading.{context_in, context_of, names, blocks_in, blocks_below, recovered_blocks, is_shadow}
use Rattle.seq_recover.specs.Stands.{IsInArea, IsAreaEqual, NamesHeld, CopyingKnows, LocksKnows, ClosingKnows, RecoveredKnows}
use Rattle.seq_recover.specs.Survive.{CopyingSurvives, LocksSurvives, ClosingSurvives, RecoveredSurvives}
use Rattle.seq_recover.proofs.Listed.{in_listed}

-- For process q, these hold the same: the same lock words name it, its area and its context are the same, and its status word.
pub record AreAlike (d : MachineDesc) (q : ℕ) (p now : Copies) : Type 0 where
  pub named : (t : ℕ) (c : Bool) → names d now q t c ≡ names d p q t c
  pub area : (e n : ℕ) (c : Bool) → IsInArea d p q e → now.block e n c ≡ p.block e n c
  pub context : context_of d now q ≡ context_of d p q
  pub status : (c : Bool) → now.word q 0 c ≡ p.word q 0 c

module _ (d : MachineDesc) (q : ℕ) (p now : Copies) (alike : AreAlike d q p now) where
  below_alike : (t : ℕ) → blocks_below d now q t ≡ blocks_below d p q t
  below_alike zero = refl
  below_alike (suc t) = λ i. below_alike t i ++ cond (alike.named t false i) (blocks_in d (segment_extent (shape_of d) t)) []

  listed_alike : recovered_blocks d now q ≡ recovered_blocks d p q
  unfolding recovered_blocks
  listed_alike = ap (λ (xs : List (ℕ × ℕ)). blocks_in d q ++ xs) (below_alike (length d.segments))

  in_area : (e : ℕ) → IsInArea d now q e → IsInArea d p q e
  in_area e (inl own) = inl own
  in_area e (inr (t, below, extent, is)) = inr (t, below, extent, sym (alike.named t false) ∙ is)

  area_alike : IsAreaEqual d p q → IsAreaEqual d now q
  area_alike known = record { each = λ e n inside lt. alike.area e n false (in_area e inside) ∙ known.each e n (in_area e inside) lt ∙ sym (alike.area e n true (in_area e inside)) }

  held_alike : NamesHeld d p q → NamesHeld d now q
  held_alike known = record { each = λ t c below is. ap (λ (x : Context). has_bit x.held t) alike.context ∙ known.each t c below (sym (alike.named t c) ∙ is) }

copying_alike : (d : MachineDesc) (r : Recovery Copying) (p now : Copies) → AreAlike d r.pid.0 p now → CopyingKnows d p r → CopyingKnows d now r
copying_alike d r p now alike known = record { behind = behind }
  where
    behind : (k : ℕ) (b : ℕ × ℕ) → k < r.cursor → slice_get (recovered_blocks d now r.pid.0) k ≡ Some b → now.block b.0 b.1 false ≡ now.block b.0 b.1 true
    behind k b few is =
        let was : slice_get (recovered_blocks d p r.pid.0) k ≡ Some b = ap (λ (xs : List (ℕ × ℕ)). slice_get xs k) (sym (listed_alike d r.pid.0 p now alike)) ∙ is in
        let inside = in_listed d p r.pid.0 k b was in
        alike.area b.0 b.1 false inside ∙ known.behind k b few was ∙ sym (alike.area b.0 b.1 true inside)

same_or_not : (c c' : Bool) → (c ≡ c') ⊎ (c ≡ c' → ⊥)
same_or_not true true = inl refl
same_or_not true false = inr true≢false
same_or_not false true = inr false≢true
same_or_not false false = inl refl

-- a block outside the area is written
module _ (d : MachineDesc) (q : ℕ) (p : Copies) (e n : ℕ) (c : Bool) (b : Block) (out : ¬ (IsInArea d p q e)) where
  abbrev with : Copies
  with = with_block p e n c b

  first_stays : (k : ℕ) → first_block (shape_of d) with q k ≡ first_block (shape_of d) p q k
  first_stays k =
      (λ i. with.block q k (not (is_in_service ((block_changes_alone p e n c b).states i (memory_of (shape_of d).memories q false))))) ∙
      (block_changes_alone p e n c b).elsewhere q k (not (serves (shape_of d) p q false)) (λ same. out (inl same.extent))

  context_stays : context_of d with q ≡ context_of d p q
  unfolding context_of
  context_stays = ap (λ (f : ℕ → Block). context_in (map f (range_with_len 0 8))) (fun_ext first_stays)

  named_stays : (t : ℕ) (c' : Bool) → names d with q t c' ≡ names d p q t c'
  named_stays t c' i =
      let x = segment_extent (shape_of d) t in
      is_in_service ((block_changes_alone p e n c b).states i (memory_of (shape_of d).memories x c')) && ((block_changes_alone p e n c b).words i x 0 c' == suc q)

  pub block_alike : AreAlike d q p with
  block_alike = record {
    named = named_stays;
    area = λ e' n' c' inside. (block_changes_alone p e n c b).elsewhere e' n' c' (λ same. out (subst (IsInArea d p q) (sym same.extent) inside));
    context = context_stays;
    status = λ c' i. (block_changes_alone p e n c b).words i q 0 c';
  }

-- a word is written that isn't the status word, and that names the process neither before nor after
module _ (d : MachineDesc) (q : ℕ) (p : Copies) (e n : ℕ) (c : Bool) (w : ℕ) (other : IsOther q 0 e n) (before : p.word e n c ≢ suc q) (after : w ≢ suc q) where
  abbrev set : Copies
  set = with_word p e n c w

  here_unnamed : (set.word e n c == suc q) ≡ (p.word e n c == suc q)
  here_unnamed = ne_eqb (set.word e n c) (suc q) (λ is. after (sym (word_changes_alone p e n c w).here ∙ is)) ∙ sym (ne_eqb (p.word e n c) (suc q) before)

  tested : (x m : ℕ) (c' : Bool) → (set.word x m c' == suc q) ≡ (p.word x m c' == suc q)
  tested x m c' = go (cases_eq e x) (cases_eq n m) (same_or_not c c')
    where
      go : (e ≡ x) ⊎ (e ≡ x → ⊥) → (n ≡ m) ⊎ (n ≡ m → ⊥) → (c ≡ c') ⊎ (c ≡ c' → ⊥) → (set.word x m c' == suc q) ≡ (p.word x m c' == suc q)
      go (inr ne) j k = ap (λ v. v == suc q) ((word_changes_alone p e n c w).elsewhere x m c' (λ same. ne same.extent))
      go (inl i) (inr ne) k = ap (λ v. v == suc q) ((word_changes_alone p e n c w).elsewhere x m c' (λ same. ne same.part))
      go (inl i) (inl j) (inr ne) = ap (λ v. v == suc q) ((word_changes_alone p e n c w).elsewhere x m c' (λ same. ne same.copy))
      go (inl i) (inl j) (inl k) =
          (λ l. set.word (sym i l) (sym j l) (sym k l) == suc q) ∙ here_unnamed ∙ (λ l. p.word (i l) (j l) (k l) == suc q)

  names_stay : (t : ℕ) (c' : Bool) → names d set q t c' ≡ names d p q t c'
  names_stay t c' =
      let x = segment_extent (shape_of d) t in
      (λ i. is_in_service ((word_changes_alone p e n c w).states i (memory_of (shape_of d).memories x c')) && (set.word x 0 c' == suc q)) ∙
      ap (λ t'. serves (shape_of d) p x c' && t') (tested x 0 c')

  context_kept : context_of d set q ≡ context_of d p q
  unfolding context_of
  context_kept i = context_in (map (λ k. (word_changes_alone p e n c w).blocks i q k (not (is_in_service ((word_changes_alone p e n c w).states i (memory_of (shape_of d).memories q false))))) (range_with_len 0 8))

  pub word_alike : AreAlike d q p set
  word_alike = record {
    named = names_stay;
    area = λ e' n' c' inside i. (word_changes_alone p e n c w).blocks i e' n' c';
    context = context_kept;
    status = λ c'. (word_changes_alone p e n c w).elsewhere q 0 c' (λ same. other.other (sym same.extent) (sym same.part));
  }

pub copying_survives : CopyingSurvives
copying_survives d r = record {
  block = λ p e n c b out. copying_alike d r p (with_block p e n c b) (block_alike d r.pid.0 p e n c b out);
  word = λ p e n c w other before after. copying_alike d r p (with_word p e n c w) (word_alike d r.pid.0 p e n c w other before after);
}

locks_alike : (d : MachineDesc) (r : Recovery Locks) (p now : Copies) → AreAlike d r.pid.0 p now → LocksKnows d p r → LocksKnows d now r
locks_alike d r p now alike known = record {
  area = area_alike d r.pid.0 p now alike known.area;
  behind = λ k lt. (λ i. not (has_bit (alike.context i).held (k / 2)) && alike.named (k / 2) (is_shadow k) i) ∙ known.behind k lt;
}

pub locks_survives : LocksSurvives
locks_survives d r = record {
  block = λ p e n c b out. locks_alike d r p (with_block p e n c b) (block_alike d r.pid.0 p e n c b out);
  word = λ p e n c w other before after. locks_alike d r p (with_word p e n c w) (word_alike d r.pid.0 p e n c w other before after);
}

closing_alike : (d : MachineDesc) (r : Recovery Closing) (p now : Copies) → AreAlike d r.pid.0 p now → ClosingKnows d p r → ClosingKnows d now r
closing_alike d r p now alike known = record {
  area = area_alike d r.pid.0 p now alike known.area;
  locks = held_alike d r.pid.0 p now alike known.locks;
  begun = λ more. alike.status true ∙ known.begun more;
}

pub closing_survives : ClosingSurvives
closing_survives d r = record {
  block = λ p e n c b out. closing_alike d r p (with_block p e n c b) (block_alike d r.pid.0 p e n c b out);
  word = λ p e n c w other before after. closing_alike d r p (with_word p e n c w) (word_alike d r.pid.0 p e n c w other before after);
}

recovered_alike : (d : MachineDesc) (q : ℕ) (p now : Copies) → AreAlike d q p now → RecoveredKnows d p q → RecoveredKnows d now q
recovered_alike d q p now alike known = record {
  area = area_alike d q p now alike known.area;
  locks = held_alike d q p now alike known.locks;
  primary = alike.status false ∙ known.primary;
  shadow = alike.status true ∙ known.shadow;
}

pub recovered_survives : RecoveredSurvives
recovered_survives d q = record {
  block = λ p e n c b out. recovered_alike d q p (with_block p e n c b) (block_alike d q p e n c b out);
  word = λ p e n c w other before after. recovered_alike d q p (with_word p e n c w) (word_alike d q p e n c w other before after);
}
