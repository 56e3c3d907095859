-- A recovery copies at most as many blocks as the machine has.
use Rattle.std.proofs.Common.{◌≡◌, ℕ, zero, suc, ◌+◌, ◌*◌, ◌<◌, ◌≤◌, Bool, true, false, cond, List, [], ◌++◌, length, map, take, get_or, slice_index, arith, refl, sym, ap, ◌∙◌, subst, length-append, add-one}
use Rattle.std.specs.Prelude.{sum}
use Rattle.std.specs.List.{range_with_len}
use Rattle.std.proofs.lemmas.List.{get_or-take, length-take-le}
use Rattle.std.proofs.lemmas.List.FromFn.{length-map-range_with_len}
use Rattle.std.proofs.lemmas.List.Sums.{sum_by_more, sum_by-take-le, get_or-le-sum_by}
use Rattle.seq_words.specs.declared.description.MachineDesc.{MachineDesc}
use Rattle.seq_layout.specs.Shapes.{shape_of, blocks_of, segment_extent}
use Rattle.seq_layout.specs.Copies.{Copies}
use Rattle.seq_layout.proofs.Sizes.{length_blocks}
use Rattle.seq_recover.specs.Reading.{names, blocks_in, blocks_below, recovered_blocks}

summed : (xs : List ℕ) (j : ℕ) → j < length xs → sum (take (suc j) xs) ≡ sum (take j xs) + get_or xs j 0
summed xs j inside = ap (λ i. sum (take i xs)) (sym (add-one j)) ∙ sum_by_more (λ x. x) xs j 0 inside

module _ (d : MachineDesc) (p : Copies) (q : ℕ) (there : q < length d.processes) where
  abbrev n : ℕ
  n = length d.processes

  in_extent : (e : ℕ) → length (blocks_in d e) ≡ get_or (blocks_of d) e 0
  in_extent e = length-map-range_with_len (λ k. (e, k)) 0 (slice_index (blocks_of d) e)

  added : (b : Bool) (e : ℕ) → length (cond b (blocks_in d e) []) ≤ get_or (blocks_of d) e 0
  added true e = omega (arith, in_extent e)
  added false e = omega arith

  own : get_or (blocks_of d) q 0 ≤ sum (take n (blocks_of d))
  own =
      let inside : q < length (take n (blocks_of d)) = omega (arith, there, length_blocks d, length-take-le n (blocks_of d) (omega (arith, length_blocks d))) in
      let most : get_or (take n (blocks_of d)) q 0 ≤ sum (take n (blocks_of d)) = get_or-le-sum_by (λ x. x) (take n (blocks_of d)) q 0 inside in
      omega (arith, most, get_or-take n (blocks_of d) q 0 there)

  below : (t : ℕ) → t ≤ length d.segments → length (blocks_below d p q t) + sum (take n (blocks_of d)) ≤ sum (take (n + t) (blocks_of d))
  below zero few = let same : n + 0 ≡ n = omega arith in omega (arith, ap (λ k. sum (take k (blocks_of d))) same)
  below (suc t) few =
      let before = below t (omega (arith, few)) in
      let same : n + suc t ≡ suc (n + t) = omega arith in
      let one = summed (blocks_of d) (n + t) (omega (arith, few, length_blocks d)) in
      let more = added (names d p q t false) (segment_extent (shape_of d) t) in
      let joined = length-append (blocks_below d p q t) (cond (names d p q t false) (blocks_in d (segment_extent (shape_of d) t)) []) in
      omega (arith, before, one, more, joined, ap (λ k. sum (take k (blocks_of d))) same)

  pub few_recovered : length (recovered_blocks d p q) ≤ sum (blocks_of d)
  unfolding recovered_blocks
  few_recovered =
      let all : sum (take (n + length d.segments) (blocks_of d)) ≤ sum (blocks_of d) = sum_by-take-le (λ x. x) (blocks_of d) (n + length d.segments) in
      omega (arith, all, own, in_extent q, below (length d.segments) (omega arith), length-append (blocks_in d q) (blocks_below d p q (length d.segments)))
