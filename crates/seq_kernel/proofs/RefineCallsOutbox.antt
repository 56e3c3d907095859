-- An outbox after bytes are put out, as it is read.
use Rattle.std.proofs.Common.{◌≡◌, ◌≢◌, ◌⊎◌, ℕ, ◌+◌, ◌*◌, ◌/◌, ◌%◌, ◌<◌, ◌≤◌, true, false, ◌&&◌, ◌==◌, List, [], ◌∷◌, length, inl, inr, arith, refl, sym, ◌∙◌, ap}
use Rattle.std.specs.Prelude.{nat_lt, if◌then◌else◌, slice_index}
use Rattle.std.specs.List.{All, range_with_len, list_any}
use Rattle.std.proofs.lemmas.Bool.{false≢true, cases_Bool, cases_eq, eq-eqb, ne_eqb, ltb-true, false_from_ne_true, or_right, and_left, and_right, cond_both}
use Rattle.std.proofs.lemmas.List.{length-map}
use Rattle.std.proofs.lemmas.List.Elements.{All-head, All-tail}
use Rattle.std.proofs.lemmas.List.FromFn.{get_or-map-range_with_len}
use Rattle.seq_words.specs.declared.block.Block.{Block}
use Rattle.seq_layout.specs.Shapes.{Shape}
use Rattle.seq_layout.specs.Copies.{Copies}
use Rattle.seq_cache.specs.Changes.{Changes, with_change}
use Rattle.seq_cache.specs.Overlay.{overlay}
use Rattle.seq_cache.proofs.LawsHold.{put_is_read_at_one_block}
use Rattle.seq_kernel.specs.Views.{Blocks, byte_in}
use Rattle.seq_kernel.specs.Outboxes.{outbox_block, after_place, filled_block, touched, blocks_filled, outbox_filled}
use Rattle.seq_kernel.proofs.RefineCallsPlaces.{touched_at, touched_below}
use Rattle.seq_kernel.proofs.RefineCallsLines.{KeepsOthers}

-- a byte of a block that is filled
filled_byte : (from : ℕ) (bytes : List ℕ) (k : ℕ) (b : Block) (j : ℕ) → j < 32 → slice_index (filled_block from bytes k b).bytes j ≡ (if nat_lt (after_place from (32 * k + j)) (length bytes) then slice_index bytes (after_place from (32 * k + j)) else slice_index b.bytes j)
unfolding filled_block
filled_byte from bytes k b j lt =
    get_or-map-range_with_len (λ (j : ℕ). if nat_lt (after_place from (32 * k + j)) (length bytes) then slice_index bytes (after_place from (32 * k + j)) else slice_index b.bytes j) 0 32 j j 0 lt (omega arith)

filled_whole : (from : ℕ) (bytes : List ℕ) (k : ℕ) (b : Block) → length (filled_block from bytes k b).bytes ≡ 32
unfolding filled_block
filled_whole from bytes k b = length-map (range_with_len 0 32) (λ (j : ℕ). if nat_lt (after_place from (32 * k + j)) (length bytes) then slice_index bytes (after_place from (32 * k + j)) else slice_index b.bytes j)

module _ (s : Shape) (p : Copies) (o : Blocks) (e index from : ℕ) (bytes : List ℕ) where
  -- what block k of the outbox is filled to
  filled : ℕ → Block
  filled k = filled_block from bytes k (o e (outbox_block index k))

  -- it is read so where it is among the blocks that are put, and else as before
  block_read : (ks : List ℕ) (c : Changes) (k : ℕ) → overlay s p (blocks_filled o c e index from bytes ks).changes e (outbox_block index k) ≡ (if list_any (λ j. j == k) ks then filled k else overlay s p c.changes e (outbox_block index k))
  unfolding blocks_filled filled
  block_read [] c k = refl
  block_read (j ∷ js) c k =
      let later = block_read js (with_change c e (outbox_block index j) (filled j)) k in
      let here = put_is_read_at_one_block s p c.changes e (outbox_block index j) (filled j) e (outbox_block index k) in
      let own : (e == e) ≡ true = eq-eqb e e refl in
      elim (cases_Bool (list_any (λ i. i == k) js)) [
        | inl again ↦ later ∙ rw (again, or_right (j == k) true refl) refl
        | inr once ↦ elim (cases_eq j k) [
          | inl same ↦
              let test : (outbox_block index k == outbox_block index j) ≡ true = eq-eqb (outbox_block index k) (outbox_block index j) (ap (outbox_block index) (sym same)) in
              later ∙ rw (once, eq-eqb j k same) (here ∙ rw (own, test) (ap filled same))
          | inr other ↦
              let test : (outbox_block index k == outbox_block index j) ≡ false = ne_eqb (outbox_block index k) (outbox_block index j) (λ equal. other (omega arith)) in
              later ∙ rw (once, ne_eqb j k other) (here ∙ rw (own, test) refl)
        ]
      ]

  -- every other block is read as before
  other_read : (ks : List ℕ) (c : Changes) (e' n' : ℕ) → All (λ k. k < 8) ks → (e' ≢ e) ⊎ ((n' < 8 + 8 * index) ⊎ (16 + 8 * index ≤ n')) → overlay s p (blocks_filled o c e index from bytes ks).changes e' n' ≡ overlay s p c.changes e' n'
  unfolding blocks_filled
  other_read [] c e' n' below apart = refl
  other_read (j ∷ js) c e' n' below apart =
      let later = other_read js (with_change c e (outbox_block index j) (filled_block from bytes j (o e (outbox_block index j)))) e' n' (All-tail (λ (k : ℕ). k < 8) j js below) apart in
      let here = put_is_read_at_one_block s p c.changes e (outbox_block index j) (filled_block from bytes j (o e (outbox_block index j))) e' n' in
      let small : j < 8 = All-head (λ (k : ℕ). k < 8) j js below in
      let none : (e' == e && n' == outbox_block index j) ≡ false = elim apart [
        | inl extent ↦ and_left (e' == e) (n' == outbox_block index j) (ne_eqb e' e extent)
        | inr (inl low) ↦ and_right (e' == e) (n' == outbox_block index j) (ne_eqb n' (outbox_block index j) (λ equal. omega arith))
        | inr (inr high) ↦ and_right (e' == e) (n' == outbox_block index j) (ne_eqb n' (outbox_block index j) (λ equal. omega arith))
      ] in
      later ∙ here ∙ rw none refl

  -- all blocks stay whole
  all_whole : (ks : List ℕ) (c : Changes) → ((e' n' : ℕ) → length (overlay s p c.changes e' n').bytes ≡ 32) → (e' n' : ℕ) → length (overlay s p (blocks_filled o c e index from bytes ks).changes e' n').bytes ≡ 32
  unfolding blocks_filled
  all_whole [] c whole e' n' = whole e' n'
  all_whole (j ∷ js) c whole e' n' = all_whole js (with_change c e (outbox_block index j) (filled_block from bytes j (o e (outbox_block index j)))) (λ e'' n''.
      rw (put_is_read_at_one_block s p c.changes e (outbox_block index j) (filled_block from bytes j (o e (outbox_block index j))) e'' n'')
      (cond_both (e'' == e && n'' == outbox_block index j) _ (overlay s p c.changes e'' n'') (λ (b : Block). length b.bytes ≡ 32)
      (λ here. filled_whole from bytes j (o e (outbox_block index j))) (λ elsewhere. whole e'' n''))) e' n'

-- a byte of an outbox after the bytes are put out
pub outbox_read : (s : Shape) (p : Copies) (c : Changes) (e index from : ℕ) (bytes : List ℕ) (q : ℕ) → q < 256
    → byte_in (overlay s p (outbox_filled (overlay s p c.changes) c e index from bytes).changes) e (256 + 256 * index + q) ≡ (if nat_lt (after_place from q) (length bytes) then slice_index bytes (after_place from q) else byte_in (overlay s p c.changes) e (256 + 256 * index + q))
unfolding filled
outbox_read s p c e index from bytes q lt =
    let o : Blocks = overlay s p c.changes in
    let k : ℕ = q / 32 in
    let j : ℕ = q % 32 in
    let small : j < 32 = omega arith in
    let block : (256 + 256 * index + q) / 32 ≡ outbox_block index k = omega arith in
    let byte : (256 + 256 * index + q) % 32 ≡ j = omega arith in
    let whole : 32 * k + j ≡ q = omega arith in
    let read = block_read s p o e index from bytes (touched from (length bytes)) c k in
    rw (block, byte, read) (elim (cases_Bool (list_any (λ i. i == k) (touched from (length bytes)))) [
      | inl new ↦
          rw new (filled_byte from bytes k (o e (outbox_block index k)) j small
          ∙ ap (λ m. if nat_lt (after_place from m) (length bytes) then slice_index bytes (after_place from m) else slice_index (o e (outbox_block index k)).bytes j) whole)
      | inr other ↦
          let old : nat_lt (after_place from q) (length bytes) ≡ false = false_from_ne_true _ (λ new. false≢true (sym other ∙ touched_at from (length bytes) q lt (ltb-true _ _ new))) in
          rw (other, old) refl
    ])

pub outbox_whole : (s : Shape) (p : Copies) (c : Changes) (e index from : ℕ) (bytes : List ℕ) → ((e' n' : ℕ) → length (overlay s p c.changes e' n').bytes ≡ 32) → (e' n' : ℕ) → length (overlay s p (outbox_filled (overlay s p c.changes) c e index from bytes).changes e' n').bytes ≡ 32
outbox_whole s p c e index from bytes whole = all_whole s p (overlay s p c.changes) e index from bytes (touched from (length bytes)) c whole

pub outbox_keeps : (s : Shape) (p : Copies) (c : Changes) (e index from : ℕ) (bytes : List ℕ) → KeepsOthers e index (overlay s p c.changes) (overlay s p (outbox_filled (overlay s p c.changes) c e index from bytes).changes)
outbox_keeps s p c e index from bytes = record {
  byte = λ e' at elsewhere.
      let apart : (e' ≢ e) ⊎ ((at / 32 < 8 + 8 * index) ⊎ (16 + 8 * index ≤ at / 32)) = elim elsewhere [
        | inl extent ↦ inl extent
        | inr (inl low) ↦ inr (inl (omega arith))
        | inr (inr high) ↦ inr (inr (omega arith))
      ] in
      ap (λ (b : Block). slice_index b.bytes (at % 32)) (other_read s p (overlay s p c.changes) e index from bytes (touched from (length bytes)) c e' (at / 32) (touched_below from (length bytes)) apart);
}
