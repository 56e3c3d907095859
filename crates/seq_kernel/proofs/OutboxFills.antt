-- An outbox is filled block by block.
use Rattle.std.proofs.Common.{◌≡◌, ℕ, suc, ◌+◌, ◌-◌, ◌<◌, ◌≤◌, Bool, true, false, ◌==◌, if◌then◌else◌, not, List, ◌∷◌, map, length, get_or, is_some, Result, Ok, Err, is_ok, OnOk, refl, sym, ap, subst, ◌∙◌, arith}
use Rattle.std.specs.Prelude.{count_by}
use Rattle.std.specs.List.{range_with_len}
use Rattle.std.proofs.lemmas.Bool.Decides.{nat_tests}
use Rattle.std.proofs.lemmas.List.FromFn.{fill_by_all, sum_by-map-range_with_len_more}
use Rattle.std.proofs.lemmas.List.Sums.{sum_by-cons}
use Rattle.seq_words.specs.declared.block.Block.{Block}
use Rattle.seq_layout.specs.Shapes.{Shape}
use Rattle.seq_layout.specs.Copies.{Copies}
use Rattle.seq_cache.specs.declared.change.Change.{Change}
use Rattle.seq_cache.specs.Changes.{Changes, IsCache, admits, changed, put, with_change}
use Rattle.seq_cache.specs.Overlay.{overlay}
use Rattle.seq_cache.proofs.LawsHold.{put_changes_one_block, put_adds_new_blocks, admitted_fits}
use Rattle.seq_kernel.specs.Outboxes.{outbox_block, filled_byte, filled_block, touched_count, touched_block, touched, needed, blocks_filled, outbox_filled}
use Rattle.seq_kernel.proofs.OutboxTouched.{touched_is}

-- a block whose bytes are those of the filled block
pub filled_is : (from : ℕ) (bytes : List ℕ) (k : ℕ) (b filled : Block) → length filled.bytes ≡ 32 → ((j : ℕ) → j < 32 → get_or filled.bytes j 0 ≡ filled_byte from bytes k b j) → filled ≡ filled_block from bytes k b
unfolding filled_block
filled_is from bytes k b filled full each = ap (λ (l : List ℕ). record b { bytes = l }) (fill_by_all (filled_byte from bytes k b) filled.bytes 32 0 full each)

-- one block more of those that are counted
pub counted_more : (p : ℕ → Bool) (f : ℕ → ℕ) (n : ℕ) → count_by p (map f (range_with_len 0 (n + 1))) ≡ count_by p (map f (range_with_len 0 n)) + (if p (f n) then 1 else 0)
counted_more p f n = sum_by-map-range_with_len_more (λ k. if p k then 1 else 0) f 0 n n (omega arith)

-- a block of an outbox isn't changed yet
abbrev pub is_new : Changes → ℕ → ℕ → ℕ → Bool
is_new c e index k = not (is_some (changed c.changes e (outbox_block index k)))

-- the touched blocks from the i-th of n on
abbrev pub touched_from : ℕ → ℕ → ℕ → List ℕ
touched_from from i n = map (touched_block from) (range_with_len i (n - i))

touched_first : (from i n : ℕ) → i < n → touched_from from i n ≡ touched_block from i ∷ touched_from from (i + 1) n
touched_first from i n below =
    let more : n - i ≡ suc (n - (i + 1)) = omega arith in
    rw more refl

-- After the first i of n touched blocks are filled: the others are as they were, there is room for them, and filling them
-- gives the outbox with all bytes.
pub record IsFilling (s : Shape) (p : Copies) (c₀ c : Changes) (e index from : ℕ) (bytes : List ℕ) (n i : ℕ) : Type 0 where
  pub cache : IsCache c
  pub capacity : c.capacity ≡ c₀.capacity
  pub others : (k : ℕ) → i ≤ k → k < n → changed c.changes e (outbox_block index (touched_block from k)) ≡ changed c₀.changes e (outbox_block index (touched_block from k))
  pub room : length c.changes + count_by (is_new c₀ e index) (touched_from from i n) ≤ c₀.capacity
  pub rest : blocks_filled (overlay s p c₀.changes) c e index from bytes (touched_from from i n) ≡ outbox_filled (overlay s p c₀.changes) c₀ e index from bytes

pub filling_begins : (s : Shape) (p : Copies) (c₀ : Changes) (e index from : ℕ) (bytes : List ℕ) (n : ℕ) → IsCache c₀ → n ≡ touched_count from (length bytes) → length bytes ≤ 64 → length c₀.changes + needed c₀ e index from (length bytes) ≤ c₀.capacity → IsFilling s p c₀ c₀ e index from bytes n 0
filling_begins s p c₀ e index from bytes n is count few room =
    let all : touched_from from 0 n ≡ touched from (length bytes) = ap (λ (m : ℕ). map (touched_block from) (range_with_len 0 m)) (omega arith) ∙ sym (touched_is from (length bytes) few) in
    record {
      cache = is;
      capacity = refl;
      others = λ k low high. refl;
      room = subst (λ (ks : List ℕ). length c₀.changes + count_by (is_new c₀ e index) ks ≤ c₀.capacity) (sym all) room;
      rest = ap (blocks_filled (overlay s p c₀.changes) c₀ e index from bytes) all;
    }

-- touched blocks, of which there are at most three, differ
touched_differ : (from index i k : ℕ) → i < k → k < 3 → (outbox_block index (touched_block from k) == outbox_block index (touched_block from i)) ≡ false
touched_differ from index i k lt few = grind (arith, nat_tests)

-- a change is not seen at another block of its extent
put_elsewhere : (cs : List Change) (e n : ℕ) (b : Block) (n' : ℕ) → (n' == n) ≡ false → changed (put e n b cs) e n' ≡ changed cs e n'
put_elsewhere cs e n b n' other = put_changes_one_block cs e n b e n' ∙ grind (arith, nat_tests)

module _ (s : Shape) (p : Copies) (c₀ c : Changes) (e index from : ℕ) (bytes : List ℕ) (n i : ℕ) (is : IsFilling s p c₀ c e index from bytes n i) (below : i < n) where
  -- the i-th touched block
  abbrev at : ℕ
  at = outbox_block index (touched_block from i)

  here : changed c.changes e at ≡ changed c₀.changes e at
  here = is.others i (omega arith) below

  counts : count_by (is_new c₀ e index) (touched_from from i n) ≡ (if is_some (changed c.changes e at) then 0 else 1) + count_by (is_new c₀ e index) (touched_from from (i + 1) n)
  counts = rw (touched_first from i n below, here) (grind (arith, nat_tests, sum_by-cons (λ k. if is_new c₀ e index k then 1 else 0) (touched_block from i) (touched_from from (i + 1) n)))

  -- the cache has room for the next block
  pub filling_admits : admits c e at ≡ true
  filling_admits = grind (arith, nat_tests, counts, is.room, is.capacity)

  -- and reads it as it was
  reads : overlay s p c.changes e at ≡ overlay s p c₀.changes e at
  unfolding overlay
  reads = rw here refl

  -- one block more is filled
  more : n ≤ 3 → IsFilling s p c₀ (with_change c e at (filled_block from bytes (touched_block from i) (overlay s p c.changes e at))) e index from bytes n (i + 1)
  unfolding blocks_filled
  more few =
      let k = touched_block from i in
      let b = filled_block from bytes k (overlay s p c.changes e at) in
      let o = overlay s p c₀.changes in
      record {
        cache = admitted_fits c e at b is.cache filling_admits;
        capacity = is.capacity;
        others = λ l low high. put_elsewhere c.changes e at b (outbox_block index (touched_block from l)) (touched_differ from index i l (omega arith) (omega arith)) ∙ is.others l (omega arith) high;
        room = grind (arith, nat_tests, counts, is.room, put_adds_new_blocks c.changes e at b is.cache.ascending);
        rest = rw reads (subst (λ (ks : List ℕ). blocks_filled o c e index from bytes ks ≡ outbox_filled o c₀ e index from bytes) (touched_first from i n below) is.rest);
      }

-- One block more is filled, where `filled` is what block `at` becomes.
pub filling_more : (s : Shape) (p : Copies) (c₀ c c' : Changes) (e index from : ℕ) (bytes : List ℕ) (n i k at : ℕ) (block filled : Block) → IsFilling s p c₀ c e index from bytes n i → i < n → n ≤ 3
    → k ≡ touched_block from i → at ≡ outbox_block index k → block ≡ overlay s p c.changes e at → filled ≡ filled_block from bytes k block → c' ≡ with_change c e at filled
    → IsFilling s p c₀ c' e index from bytes n (i + 1)
filling_more s p c₀ c c' e index from bytes n i k at block filled is below few number place read fills writes =
    rw (writes, fills, read, place, number) (more s p c₀ c e index from bytes n i is below few)

pub filling_ends : (s : Shape) (p : Copies) (c₀ c : Changes) (e index from : ℕ) (bytes : List ℕ) (n i : ℕ) → IsFilling s p c₀ c e index from bytes n i → n ≤ i → c ≡ outbox_filled (overlay s p c₀.changes) c₀ e index from bytes
unfolding blocks_filled
filling_ends s p c₀ c e index from bytes n i is end =
    let none : n - i ≡ 0 = omega arith in
    rw none at is.rest

-- what holds of a success
pub of_success : {T E P : Type 0} (r : Result T E) → is_ok r ≡ true → OnOk r P → P
of_success (Ok x) ok p = p
of_success (Err e) ok p = absurd (cc)
