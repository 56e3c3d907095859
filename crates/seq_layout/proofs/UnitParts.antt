-- The units of a memory are the parts that stand on it, each once, and they are few.
use Rattle.std.proofs.Common.{◌≡◌, ◌≢◌, ◌⊎◌, ℕ, zero, suc, ◌+◌, ◌-◌, ◌*◌, ◌<◌, ◌≤◌, Bool, true, false, not, cond, List, [], ◌++◌, length, map, replicate, take, get_or, slice_get, slice_index, Some, arith, refl, sym, ap, ◌∙◌, subst, inl, inr, All, length-append, eq-eqb, add-one}
use Rattle.std.specs.Prelude.{◌==◌, sum}
use Rattle.std.specs.List.{range_with_len, sum_by}
use Rattle.std.proofs.Math.Seq.{take-length}
use Rattle.std.proofs.lemmas.Bool.{cases_eq, cases_lt, eqb-true, ne_eqb, or_cases}
use Rattle.std.proofs.lemmas.List.{get_or_past, get_or_append_left, get_or-append-add}
use Rattle.std.proofs.lemmas.List.Elements.{All-append, All-map, All-get_or}
use Rattle.std.proofs.lemmas.List.Folds.{sum_by-replicate}
use Rattle.std.proofs.lemmas.List.FromFn.{get_or-range_with_len, length-range_with_len, get_or-map-range_with_len, length-map-range_with_len}
use Rattle.std.proofs.lemmas.List.Sums.{sum_by-append, sum_by_more}
use Rattle.std.proofs.lemmas.Option.{slice_get_within, get_or_from_slice_get}
use Rattle.seq_words.specs.Description.{line_count}
use Rattle.seq_words.specs.declared.description.MachineDesc.{MachineDesc}
use Rattle.seq_layout.specs.declared.units.Unit.{Unit}
use Rattle.seq_layout.specs.declared.units.Unit.TheVariants.{Block, Word}
use Rattle.seq_layout.specs.Places.{memory_of, keeps, start_of, IsPlace}
use Rattle.seq_layout.specs.Shapes.{Shape, blocks_of, words_of, shape_of}
use Rattle.seq_layout.specs.Tables.{AreUnits, IsPart}
use Rattle.seq_layout.specs.Units.{extent_units, units_below, units_of, extent_of, HasPlace, copy_on, StandsOn, UnitsStand, StandingAreUnits, UnitsAreOnce, UnitsAreFew}
use Rattle.seq_layout.proofs.Apart.{keeps_copy}
use Rattle.seq_layout.proofs.Sizes.{length_blocks, length_words}
use Rattle.seq_layout.proofs.UnitLists.{no_unit, block_unit, word_unit, unit_block, unit_word, length_extent, length_below}

-- the copy that a memory keeps of an extent
pub copy_on_is : (memories m e : ℕ) → keeps memories m e ≡ true → memory_of memories e (copy_on memories m e) ≡ m
copy_on_is memories m e k = go (cases_eq (memory_of memories e false) m)
  where
    go : (memory_of memories e false ≡ m) ⊎ (memory_of memories e false ≡ m → ⊥) → memory_of memories e (copy_on memories m e) ≡ m
    go (inl h) = subst (λ c. memory_of memories e c ≡ m) (sym (ap not (eq-eqb (memory_of memories e false) m h))) h
    go (inr ne) = subst (λ c. memory_of memories e c ≡ m) (sym (ap not (ne_eqb (memory_of memories e false) m ne))) (second (or_cases _ _ k))
      where
        second : ((memory_of memories e false == m) ≡ true) ⊎ ((memory_of memories e true == m) ≡ true) → memory_of memories e true ≡ m
        second (inl t) = absurd (ne (eqb-true _ _ t))
        second (inr t) = eqb-true _ _ t

-- a part below its extent's size is a place
place_below : (sizes : List ℕ) (e n : ℕ) → n < get_or sizes e 0 → IsPlace sizes e n
place_below sizes e n within = elim (cases_lt e (length sizes)) [
  | inl inside ↦ record { extent_in = inside; part_in = within }
  | inr past ↦ let none : get_or sizes e 0 ≡ 0 = get_or_past sizes e 0 past in absurd (let c : ⊥ = omega (arith, none) in c)
]

module _ (s : Shape) (m : ℕ) where
  abbrev Kept : Unit → Type 0
  Kept u = StandsOn s m u

  none_kept : All Kept []
  none_kept k u l = absurd (let c : ⊥ = omega (arith, l) in c)

  extent_kept : (e : ℕ) → keeps s.memories m e ≡ true → All Kept (extent_units s e)
  extent_kept e k =
      let blocks = range_with_len 0 (get_or s.blocks e 0) in
      let words = range_with_len 0 (get_or s.words e 0) in
      let number : (size j d : ℕ) → j < length (range_with_len 0 size) → get_or (range_with_len 0 size) j d < size = λ size j d l. omega (arith, l, length-range_with_len 0 size, get_or-range_with_len 0 size j d) in
      All-append Kept (map (λ n. Block (record { 0 = e }) n) blocks) (map (λ n. Word (record { extent = record { 0 = e }; word = n })) words)
      (All-map Kept (λ n. Block (record { 0 = e }) n) blocks (λ j d l. record { place = place_below s.blocks e (get_or blocks j d) (number (get_or s.blocks e 0) j d l); copy = copy_on_is s.memories m e k }))
      (All-map Kept (λ n. Word (record { extent = record { 0 = e }; word = n })) words (λ j d l. record { place = place_below s.words e (get_or words j d) (number (get_or s.words e 0) j d l); copy = copy_on_is s.memories m e k }))

  added_kept : (e : ℕ) (b : Bool) → keeps s.memories m e ≡ b → All Kept (cond b (extent_units s e) [])
  added_kept e true k = extent_kept e k
  added_kept e false k = none_kept

  below_kept : (j : ℕ) → All Kept (units_below s m j)
  unfolding units_below
  below_kept zero = none_kept
  below_kept (suc j) = All-append Kept (units_below s m j) (cond (keeps s.memories m j) (extent_units s j) []) (below_kept j) (added_kept j (keeps s.memories m j) refl)

  -- a unit of the memory stands on it
  pub unit_stands : (k : ℕ) (u : Unit) → slice_get (units_of s m) k ≡ Some u → StandsOn s m u
  unit_stands k u e = subst Kept (get_or_from_slice_get (units_of s m) k u u e) (All-get_or Kept (units_of s m) k u (slice_get_within (units_of s m) k u e) (below_kept (length s.blocks)))

  -- which is so where the memory keeps the unit's extent
  pub stands_kept : (u : Unit) → StandsOn s m u → keeps s.memories m (extent_of u) ≡ true
  stands_kept u h = subst (λ i. keeps s.memories i (extent_of u) ≡ true) h.copy (keeps_copy s.memories (extent_of u) (copy_on s.memories m (extent_of u)))

  pub unit_kept : (k : ℕ) (u : Unit) → slice_get (units_of s m) k ≡ Some u → keeps s.memories m (extent_of u) ≡ true
  unit_kept k u e = stands_kept u (unit_stands k u e)

  abbrev sizes : List ℕ
  sizes = map (λ e. slice_index s.blocks e + slice_index s.words e) (range_with_len 0 (length s.blocks))

  are : AreUnits s.blocks s.words sizes
  are = record {
    extents = length-map-range_with_len _ _ _;
    unit = λ e l. get_or-map-range_with_len (λ e. slice_index s.blocks e + slice_index s.words e) 0 (length s.blocks) e e 0 l (omega arith);
  }

  part : (e n : ℕ) → keeps s.memories m e ≡ true → e < length s.blocks → n < slice_index s.blocks e + slice_index s.words e → IsPart (record { memories = s.memories; sizes = sizes }) m (start_of s.memories sizes m e + n) e n
  part e n k l within = record {
    part = record { extent_in = omega (arith, l, are.extents); part_in = omega (arith, within, are.unit e l) };
    kept = k;
    place_is = refl;
  }

  -- each word of an extent that it keeps is one of its units
  pub word_listed : (e n : ℕ) → keeps s.memories m e ≡ true → e < length s.blocks → n < slice_index s.words e → (k : ℕ) × (slice_get (units_of s m) k ≡ Some (Word (record { extent = record { 0 = e }; word = n })))
  word_listed e n k l within =
      let b = slice_index s.blocks e in
      let same : b + n - b ≡ n = omega arith in (
        start_of s.memories sizes m e + (b + n),
        subst (λ j. slice_get (units_of s m) (start_of s.memories sizes m e + (b + n)) ≡ Some (Word (record { extent = record { 0 = e }; word = j }))) same
            (unit_word s sizes m (start_of s.memories sizes m e + (b + n)) are (record { 0 = e }) (b + n) (part e (b + n) k l (omega (arith, within))) (omega arith)),
      )

  -- and so is each of its blocks
  pub block_listed : (e n : ℕ) → keeps s.memories m e ≡ true → e < length s.blocks → n < slice_index s.blocks e → (k : ℕ) × (slice_get (units_of s m) k ≡ Some (Block (record { 0 = e }) n))
  block_listed e n k l within =
      (start_of s.memories sizes m e + n, unit_block s sizes m (start_of s.memories sizes m e + n) are (record { 0 = e }) n (part e n k l (omega (arith, within))) within)

  -- the number of a unit of the memory
  abbrev number_in : Unit → ℕ
  number_in (Block e n) = start_of s.memories sizes m e.0 + n
  number_in (Word at) = start_of s.memories sizes m at.extent.0 + (get_or s.blocks at.extent.0 0 + at.word)

  extent_numbered : (e n : ℕ) → n < length (extent_units s e) → number_in (get_or (extent_units s e) n no_unit) ≡ start_of s.memories sizes m e + n
  extent_numbered e n within = elim (cases_lt n (get_or s.blocks e 0)) [
    | inl block ↦ ap number_in (block_unit s e n block)
    | inr word ↦ ap number_in (word_unit s e n word (omega (arith, length_extent s e))) ∙ (omega (arith, word))
  ]

  added_numbered : (e : ℕ) (b : Bool) (us : List Unit) (k : ℕ) → length us ≡ start_of s.memories sizes m e → ((i : ℕ) → i < length us → number_in (get_or us i no_unit) ≡ i) →
      k < length (us ++ cond b (extent_units s e) []) → number_in (get_or (us ++ cond b (extent_units s e) []) k no_unit) ≡ k
  added_numbered e false us k start before within =
      let inside : k < length us = omega (arith, within, length-append us []) in
      ap number_in (get_or_append_left us [] no_unit k inside) ∙ before k inside
  added_numbered e true us k start before within = elim (cases_lt k (length us)) [
    | inl first ↦ ap number_in (get_or_append_left us (extent_units s e) no_unit k first) ∙ before k first
    | inr past ↦
        let place : k ≡ length us + (k - length us) = omega (arith, past) in
        let few : k - length us < length (extent_units s e) = omega (arith, past, within, length-append us (extent_units s e)) in
        ap (λ i. number_in (get_or (us ++ extent_units s e) i no_unit)) place
        ∙ ap number_in (get_or-append-add us (extent_units s e) (k - length us) no_unit)
        ∙ extent_numbered e (k - length us) few
        ∙ omega (arith, start, past)
  ]

  below_numbered : (j : ℕ) → j ≤ length s.blocks → (k : ℕ) → k < length (units_below s m j) → number_in (get_or (units_below s m j) k no_unit) ≡ k
  unfolding units_below
  below_numbered zero inside k within = absurd (let c : ⊥ = omega (arith, within) in c)
  below_numbered (suc j) inside k within =
      added_numbered j (keeps s.memories m j) (units_below s m j) k (length_below s sizes m j are (omega (arith, inside))) (below_numbered j (omega (arith, inside))) within

  unit_numbered : (k : ℕ) (u : Unit) → slice_get (units_of s m) k ≡ Some u → number_in u ≡ k
  unit_numbered k u found =
      ap number_in (sym (get_or_from_slice_get (units_of s m) k u no_unit found)) ∙ below_numbered (length s.blocks) (omega arith) k (slice_get_within (units_of s m) k u found)

  pub unit_once : (k k' : ℕ) (u : Unit) → slice_get (units_of s m) k ≡ Some u → slice_get (units_of s m) k' ≡ Some u → k ≡ k'
  unit_once k k' u one two = sym (unit_numbered k u one) ∙ unit_numbered k' u two

  -- whatever stands on the memory is one of its units
  pub standing_listed : (u : Unit) → length s.words ≡ length s.blocks → StandsOn s m u → (k : ℕ) × (slice_get (units_of s m) k ≡ Some u)
  standing_listed (Block e n) same h = block_listed e.0 n (stands_kept (Block e n) h) h.place.extent_in h.place.part_in
  standing_listed (Word at) same h = let inside = h.place.extent_in in word_listed at.extent.0 at.word (stands_kept (Word at) h) (omega (arith, inside, same)) h.place.part_in

  -- an extent adds no more units than it has
  length_added : (e : ℕ) (b : Bool) → length (cond b (extent_units s e) []) ≤ get_or s.blocks e 0 + get_or s.words e 0
  length_added e true = omega (arith, length_extent s e)
  length_added e false = omega arith

  summed : (xs : List ℕ) (j : ℕ) → j < length xs → sum (take (suc j) xs) ≡ sum (take j xs) + get_or xs j 0
  summed xs j inside = ap (λ i. sum (take i xs)) (sym (add-one j)) ∙ sum_by_more (λ x. x) xs j 0 inside

  few_below : (j : ℕ) → length s.words ≡ length s.blocks → j ≤ length s.blocks → length (units_below s m j) ≤ sum (take j s.blocks) + sum (take j s.words)
  unfolding units_below
  few_below zero same inside = omega arith
  few_below (suc j) same inside =
      let before = few_below j same (omega arith) in
      let added = length_added j (keeps s.memories m j) in
      let blocks = summed s.blocks j (omega arith) in
      let words = summed s.words j (omega (arith, same)) in
      omega (arith, length-append (units_below s m j) (cond (keeps s.memories m j) (extent_units s j) []))

  pub units_few : length s.words ≡ length s.blocks → length (units_of s m) ≤ sum s.blocks + sum s.words
  units_few same =
      let most = few_below (length s.blocks) same (omega arith) in
      omega (arith, most, ap sum (take-length s.blocks), ap (λ j. sum (take j s.words)) (sym same) ∙ ap sum (take-length s.words))

pub units_stand : UnitsStand
units_stand s m k u found = unit_stands s m k u found

pub standing_are_units : StandingAreUnits
standing_are_units s m u same h = standing_listed s m u same h

pub units_are_once : UnitsAreOnce
units_are_once s m k k' u one two = unit_once s m k k' u one two

-- the words of a machine's extents
words_counted : (d : MachineDesc) → sum (words_of d) ≡ length d.processes + length d.segments + 3 * line_count d
words_counted d =
    let one = λ (n : ℕ). sum_by-replicate (λ x. x) n 1 in
    let three = sum_by-replicate (λ x. x) (line_count d) 3 in
    let all = sum_by-append (λ x. x) (replicate (length d.processes) 1 ++ replicate (length d.segments) 1) (replicate (line_count d) 3) in
    let first = sum_by-append (λ x. x) (replicate (length d.processes) 1) (replicate (length d.segments) 1) in
    omega (arith, all, first, one (length d.processes), one (length d.segments), three)

pub units_are_few : UnitsAreFew
units_are_few d m =
    let few = units_few (shape_of d) m (length_words d ∙ sym (length_blocks d)) in
    omega (arith, few, words_counted d)
