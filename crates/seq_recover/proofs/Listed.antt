-- The blocks that a recovery copies, found by their numbers.
use Rattle.std.proofs.Common.{◌≡◌, ℕ, zero, suc, ◌+◌, ◌-◌, ◌<◌, ◌≤◌, ◌⊎◌, inl, inr, Bool, true, false, cond, not, nat_le, List, [], ◌++◌, length, slice_get, slice_index, Option, Some, None, refl, sym, ap, ◌∙◌, subst, arith, append_assoc, length-append}
use Rattle.std.specs.Prelude.{sum}
use Rattle.std.specs.Option.{option_map, is_some}
use Rattle.std.proofs.Math.Nat.{eq-or-lt_of_le}
use Rattle.std.proofs.lemmas.Bool.{cond-true, cond-false, cases_lt, cases_Bool, le-leb, lt-leb, true≢false, false≢true}
use Rattle.std.proofs.lemmas.List.{append-nil, get_or_append_left, get_or-append-add}
use Rattle.std.proofs.lemmas.List.FromFn.{get_or-map-range_with_len, length-map-range_with_len}
use Rattle.std.proofs.lemmas.List.Sums.{sum_by-le}
use Rattle.std.proofs.lemmas.Option.{slice_get-get_or, slice_get_past, slice_get_within}
use Rattle.seq_words.specs.Description.{IsDescription, IsBetween}
use Rattle.seq_words.specs.declared.description.MachineDesc.{MachineDesc}
use Rattle.seq_layout.specs.declared.extents.Extent.{Extent}
use Rattle.seq_layout.specs.Places.{IsPlace}
use Rattle.seq_layout.specs.Shapes.{shape_of, blocks_of, segment_extent}
use Rattle.seq_layout.specs.Copies.{Copies}
use Rattle.seq_layout.proofs.Sizes.{blocks_between, extents_few, segment_is_extent}
use Rattle.std.proofs.lemmas.List.Elements.{All-weaker}
use Rattle.seq_recover.specs.Reading.{names, block_of, blocks_in, named_blocks, blocks_below, recovered_blocks}
use Rattle.seq_recover.specs.Stands.{IsInArea}

-- a pair of a list of two, by its number
left_of : (xs ys : List (ℕ × ℕ)) (n : ℕ) → n < length xs → slice_get (xs ++ ys) n ≡ slice_get xs n
left_of xs ys n lt = slice_get-get_or (xs ++ ys) n (0, 0) (omega (arith, lt, length-append xs ys)) ∙ ap Some (get_or_append_left xs ys (0, 0) n lt) ∙ sym (slice_get-get_or xs n (0, 0) lt)

right_of : (xs ys : List (ℕ × ℕ)) (n : ℕ) → n < length ys → slice_get (xs ++ ys) (length xs + n) ≡ slice_get ys n
right_of xs ys n lt = slice_get-get_or (xs ++ ys) (length xs + n) (0, 0) (omega (arith, lt, length-append xs ys)) ∙ ap Some (get_or-append-add xs ys n (0, 0)) ∙ sym (slice_get-get_or ys n (0, 0) lt)

-- the blocks of an extent
pub count_in : (d : MachineDesc) (e : ℕ) → length (blocks_in d e) ≡ slice_index (shape_of d).blocks e
count_in d e = length-map-range_with_len {X = ℕ × ℕ} (λ n. (e, n)) 0 (slice_index (shape_of d).blocks e)

pub block_in : (d : MachineDesc) (e n : ℕ) → n < slice_index (shape_of d).blocks e → slice_get (blocks_in d e) n ≡ Some (e, n)
block_in d e n lt =
    slice_get-get_or (blocks_in d e) n (0, 0) (omega (arith, lt, count_in d e)) ∙
    ap Some (get_or-map-range_with_len (λ k. (e, k)) 0 (slice_index (shape_of d).blocks e) n n (0, 0) lt (omega arith))

module _ (d : MachineDesc) (p : Copies) (q : ℕ) where
  -- the blocks of the process, and of the segments below this one
  abbrev pub so_far : ℕ → List (ℕ × ℕ)
  so_far t = blocks_in d q ++ blocks_below d p q t

  pub all_are : recovered_blocks d p q ≡ so_far (length d.segments)
  unfolding recovered_blocks
  all_are = refl

  pub none_below : so_far 0 ≡ blocks_in d q
  none_below = append-nil (blocks_in d q)

  pub count_none : length (so_far 0) ≡ slice_index (shape_of d).blocks q
  count_none = ap (λ (xs : List (ℕ × ℕ)). length xs) none_below ∙ count_in d q

  pub one_more : (t : ℕ) → so_far (suc t) ≡ so_far t ++ named_blocks d p q t
  one_more t = sym (append_assoc (blocks_in d q) (blocks_below d p q t) (named_blocks d p q t))

  pub count_more : (t : ℕ) → length (so_far (suc t)) ≡ length (so_far t) + length (named_blocks d p q t)
  count_more t = ap (λ (xs : List (ℕ × ℕ)). length xs) (one_more t) ∙ length-append (so_far t) (named_blocks d p q t)

  -- as many as the segment has, if its primary lock word names the process
  pub count_named : (t : ℕ) → names d p q t false ≡ true → length (named_blocks d p q t) ≡ slice_index (shape_of d).blocks (segment_extent (shape_of d) t)
  count_named t is = ap (λ (xs : List (ℕ × ℕ)). length xs) (cond-true (names d p q t false) (blocks_in d (segment_extent (shape_of d) t)) [] is) ∙ count_in d (segment_extent (shape_of d) t)

  pub count_other : (t : ℕ) → names d p q t false ≡ false → length (named_blocks d p q t) ≡ 0
  count_other t out = ap (λ (xs : List (ℕ × ℕ)). length xs) (cond-false (names d p q t false) (blocks_in d (segment_extent (shape_of d) t)) [] out)

  -- a block of those has its place
  pub place_named : (t n : ℕ) → t < length d.segments → n < length (named_blocks d p q t) → IsPlace (shape_of d).blocks (segment_extent (shape_of d) t) n
  place_named t n below lt = record {
    extent_in = segment_is_extent d t below;
    part_in = elim (cases_Bool (names d p q t false)) [
      | inl is ↦ omega (arith, lt, count_named t is)
      | inr out ↦ absurd (let c : ⊥ = omega (arith, lt, count_other t out) in c)
    ];
  }

  -- those of further segments come after them
  pub record Follows (t k : ℕ) : Type 0 where
    pub rest : List (ℕ × ℕ)
    pub joined : so_far k ≡ so_far t ++ rest

  itself : (t : ℕ) → Follows t t
  itself t = record { rest = []; joined = sym (append-nil (so_far t)) }

  follows : (t k : ℕ) → t ≤ k → Follows t k
  follows t zero le = let same : t ≡ 0 = omega (arith, le) in subst (λ i. Follows t i) same (itself t)
  follows t (suc k) le = go (eq-or-lt_of_le le) (λ lt. follows t k (omega (arith, lt)))
    where
      go : (t ≡ suc k) ⊎ (t < suc k) → (t < suc k → Follows t k) → Follows t (suc k)
      go (inl e) before = subst (λ i. Follows t i) e (itself t)
      go (inr lt) before =
          let f = before lt in
          record {
            rest = f.rest ++ named_blocks d p q k;
            joined = one_more k ∙ ap (λ (xs : List (ℕ × ℕ)). xs ++ named_blocks d p q k) f.joined ∙ append_assoc (so_far t) f.rest (named_blocks d p q k);
          }

  -- one of those of the first so many segments is found among all
  among_all : (t n : ℕ) → t ≤ length d.segments → n < length (so_far t) → slice_get (recovered_blocks d p q) n ≡ slice_get (so_far t) n
  among_all t n le lt =
      let f = follows t (length d.segments) le in
      ap (λ (xs : List (ℕ × ℕ)). slice_get xs n) (all_are ∙ f.joined) ∙ left_of (so_far t) f.rest n lt

  named_at : (b : Bool) (e n : ℕ) → n < length (cond b (blocks_in d e) []) → slice_get (cond b (blocks_in d e) []) n ≡ Some (e, n)
  named_at true e n lt = block_in d e n (omega (arith, lt, count_in d e))
  named_at false e n lt = absurd (let c : ⊥ = omega (arith, lt) in c)

  -- a block of a segment, by its number among all
  pub found : (t n left : ℕ) → t < length d.segments → length (so_far t) + left ≡ n → left < length (named_blocks d p q t) → slice_get (recovered_blocks d p q) n ≡ Some (segment_extent (shape_of d) t, left)
  found t n left below number inside =
      let e : ℕ = segment_extent (shape_of d) t in
      among_all (suc t) n (omega (arith, below)) (omega (arith, number, inside, count_more t)) ∙
      ap (λ (xs : List (ℕ × ℕ)). slice_get xs n) (one_more t) ∙
      ap (slice_get (so_far t ++ named_blocks d p q t)) (sym number) ∙
      right_of (so_far t) (named_blocks d p q t) left inside ∙
      named_at (names d p q t false) e left inside

  -- a block of the process
  pub found_own : (n : ℕ) → n < slice_index (shape_of d).blocks q → slice_get (recovered_blocks d p q) n ≡ Some (q, n)
  found_own n lt =
      among_all 0 n (omega arith) (omega (arith, lt, count_none)) ∙
      ap (λ (xs : List (ℕ × ℕ)). slice_get xs n) none_below ∙ block_in d q n lt

  -- past the last
  pub found_none : (n : ℕ) → length (so_far (length d.segments)) ≤ n → slice_get (recovered_blocks d p q) n ≡ None
  found_none n past = ap (λ (xs : List (ℕ × ℕ)). slice_get xs n) all_are ∙ slice_get_past (so_far (length d.segments)) n past

-- each of the blocks is of the area
module _ (d : MachineDesc) (p : Copies) (q : ℕ) where
  in_own : (k : ℕ) (b : ℕ × ℕ) → slice_get (blocks_in d q) k ≡ Some b → IsInArea d p q b.0
  in_own k b is =
      let lt = slice_get_within (blocks_in d q) k b is in
      let found = block_in d q k (omega (arith, lt, count_in d q)) in
      inl (let same : ◌≡◌ {A = ℕ × ℕ} b (q, k) = cc in ap (λ (x : ℕ × ℕ). x.0) same)

  in_named : (t k : ℕ) (b : ℕ × ℕ) → t < length d.segments → slice_get (named_blocks d p q t) k ≡ Some b → IsInArea d p q b.0
  in_named t k b below is = go (names d p q t false) refl is
    where
      go : (n : Bool) → names d p q t false ≡ n → slice_get (cond n (blocks_in d (segment_extent (shape_of d) t)) []) k ≡ Some b → IsInArea d p q b.0
      go true named got =
          let lt = slice_get_within (blocks_in d (segment_extent (shape_of d) t)) k b got in
          let found = block_in d (segment_extent (shape_of d) t) k (omega (arith, lt, count_in d (segment_extent (shape_of d) t))) in
          let same : ◌≡◌ {A = ℕ × ℕ} b (segment_extent (shape_of d) t, k) = cc in
          inr (t, below, ap (λ (x : ℕ × ℕ). x.0) same, named)
      go false named got = absurd (let lt = slice_get_within {A = ℕ × ℕ} [] k b got in let c : ⊥ = omega (arith, lt) in c)

  in_so_far : (t k : ℕ) (b : ℕ × ℕ) → t ≤ length d.segments → slice_get (so_far d p q t) k ≡ Some b → IsInArea d p q b.0
  in_so_far zero k b few is = in_own k b (ap (λ (xs : List (ℕ × ℕ)). slice_get xs k) (sym (none_below d p q)) ∙ is)
  in_so_far (suc t) k b few is = go (cases_lt k (length (so_far d p q t))) (in_so_far t k b (omega (arith, few)))
    where
      joined : slice_get (so_far d p q t ++ named_blocks d p q t) k ≡ Some b
      joined = ap (λ (xs : List (ℕ × ℕ)). slice_get xs k) (sym (one_more d p q t)) ∙ is

      go : (k < length (so_far d p q t)) ⊎ (length (so_far d p q t) ≤ k) → (slice_get (so_far d p q t) k ≡ Some b → IsInArea d p q b.0) → IsInArea d p q b.0
      go (inl lt) rest = rest (sym (left_of (so_far d p q t) (named_blocks d p q t) k lt) ∙ joined)
      go (inr le) rest =
          let number : length (so_far d p q t) + (k - length (so_far d p q t)) ≡ k = omega (arith, le) in
          let all = slice_get_within (so_far d p q t ++ named_blocks d p q t) k b joined in
          let lt : k - length (so_far d p q t) < length (named_blocks d p q t) = omega (arith, all, le, length-append (so_far d p q t) (named_blocks d p q t)) in
          in_named t (k - length (so_far d p q t)) b (omega (arith, few)) (sym (right_of (so_far d p q t) (named_blocks d p q t) (k - length (so_far d p q t)) lt) ∙ ap (slice_get (so_far d p q t ++ named_blocks d p q t)) number ∙ joined)

  pub in_listed : (k : ℕ) (b : ℕ × ℕ) → slice_get (recovered_blocks d p q) k ≡ Some b → IsInArea d p q b.0
  in_listed k b is = in_so_far (length d.segments) k b (omega arith) (ap (λ (xs : List (ℕ × ℕ)). slice_get xs k) (sym (all_are d p q)) ∙ is)

-- the last is the one past which none is
pub none_past : (xs : List (ℕ × ℕ)) (n : ℕ) → slice_get xs n ≡ None → length xs ≤ n
none_past xs n none = elim (cases_lt n (length xs)) [
  | inl lt ↦ absurd (let found = slice_get-get_or xs n (0, 0) lt in let c : ⊥ = (cc) in c)
  | inr le ↦ le
]

-- whether none is found says whether the number is past the last
pub past_is : (o : Option (Extent × ℕ)) (xs : List (ℕ × ℕ)) (n : ℕ) (none : Bool) → option_map block_of o ≡ slice_get xs n → is_some o ≡ not none → none ≡ nat_le (length xs) n
past_is None xs n true e same = sym (le-leb (length xs) n (none_past xs n (sym e)))
past_is None xs n false e same = absurd (false≢true same)
past_is (Some b) xs n true e same = absurd (true≢false same)
past_is (Some b) xs n false e same = sym (lt-leb (length xs) n (slice_get_within xs n (block_of b) (sym e)))

-- the blocks of a machine are few
pub few_blocks : (d : MachineDesc) → IsDescription d → sum (blocks_of d) ≤ 200448
few_blocks d is = omega (arith, sum_by-le (λ (n : ℕ). n) 2088 (blocks_of d) (All-weaker (IsBetween 1 2088) (λ n. n ≤ 2088) (λ n b. b.high_at) (blocks_of d) (blocks_between d is)), extents_few d is)
