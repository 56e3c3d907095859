-- The unit at a place of a memory's list of units.
use Rattle.std.proofs.Common.{◌≡◌, ℕ, zero, suc, ◌+◌, ◌-◌, ◌<◌, ◌≤◌, Bool, true, false, cond, List, [], ◌++◌, length, get_or, map, slice_get, Some, None, arith, refl, ap, ◌∙◌, inl, inr, length-append}
use Rattle.std.specs.List.{range_with_len}
use Rattle.std.proofs.lemmas.Bool.{cases_eq}
use Rattle.std.proofs.lemmas.List.{get_or_append_left, get_or-append-add}
use Rattle.std.proofs.lemmas.List.FromFn.{get_or-map-range_with_len, length-map-range_with_len}
use Rattle.std.proofs.lemmas.Option.{slice_get-get_or, slice_get_past}
use Rattle.seq_layout.specs.declared.extents.Extent.{Extent}
use Rattle.seq_layout.specs.declared.units.Unit.{Unit}
use Rattle.seq_layout.specs.declared.units.Unit.TheVariants.{Block, Word}
use Rattle.seq_layout.specs.Places.{keeps, start_of}
use Rattle.seq_layout.specs.Shapes.{Shape}
use Rattle.seq_layout.specs.Tables.{AreUnits, IsPart}
use Rattle.seq_layout.specs.Units.{extent_units, units_below, units_of}

abbrev pub no_unit : Unit
no_unit = Block (record { 0 = 0 }) 0

-- an extent has its blocks and its words
pub length_extent : (s : Shape) (e : ℕ) → length (extent_units s e) ≡ get_or s.blocks e 0 + get_or s.words e 0
length_extent s e = simp (length-append, length-map-range_with_len)

-- first its blocks, then its words
pub block_unit : (s : Shape) (e n : ℕ) → n < get_or s.blocks e 0 → get_or (extent_units s e) n no_unit ≡ Block (record { 0 = e }) n
block_unit s e n below =
    let blocks : List Unit = map (λ n. Block (record { 0 = e }) n) (range_with_len 0 (get_or s.blocks e 0)) in
    let words : List Unit = map (λ n. Word (record { extent = record { 0 = e }; word = n })) (range_with_len 0 (get_or s.words e 0)) in
    let inside : n < length blocks = rw length-map-range_with_len below in
    get_or_append_left blocks words no_unit n inside ∙ get_or-map-range_with_len (λ n. Block (record { 0 = e }) n) 0 (get_or s.blocks e 0) n n no_unit below (omega arith)

pub word_unit : (s : Shape) (e n : ℕ) → get_or s.blocks e 0 ≤ n → n < get_or s.blocks e 0 + get_or s.words e 0 → get_or (extent_units s e) n no_unit ≡ Word (record { extent = record { 0 = e }; word = n - get_or s.blocks e 0 })
word_unit s e n past below =
    let blocks : List Unit = map (λ n. Block (record { 0 = e }) n) (range_with_len 0 (get_or s.blocks e 0)) in
    let words : List Unit = map (λ n. Word (record { extent = record { 0 = e }; word = n })) (range_with_len 0 (get_or s.words e 0)) in
    let count : length blocks ≡ get_or s.blocks e 0 = length-map-range_with_len _ _ _ in
    let place : n ≡ length blocks + (n - get_or s.blocks e 0) = omega arith in
    let here = get_or-append-add blocks words (n - get_or s.blocks e 0) no_unit in
    let word = get_or-map-range_with_len (λ n. Word (record { extent = record { 0 = e }; word = n })) 0 (get_or s.words e 0) (n - get_or s.blocks e 0) (n - get_or s.blocks e 0) no_unit (omega arith) (omega arith) in
    ap (λ i. get_or (blocks ++ words) i no_unit) place ∙ here ∙ word

-- so many units are below an extent as the table of units says
length_added : (s : Shape) (e : ℕ) (kept : Bool) → length (cond kept (extent_units s e) []) ≡ cond kept (get_or s.blocks e 0 + get_or s.words e 0) 0
length_added s e true = length_extent s e
length_added s e false = refl

pub length_below : (s : Shape) (units : List ℕ) (m e : ℕ) → AreUnits s.blocks s.words units → e ≤ length s.blocks → length (units_below s m e) ≡ start_of s.memories units m e
unfolding units_below start_of
length_below s units m zero are inside = refl
length_below s units m (suc e) are inside =
    let before = length_below s units m e are (omega arith) in
    let size = are.unit e (omega arith) in
    rw (length-append, before, length_added s e (keeps s.memories m e), size) refl

-- the list of units grows at its end
longer : (s : Shape) (m i j : ℕ) → i ≤ j → length (units_below s m i) ≤ length (units_below s m j)
unfolding units_below
longer s m i zero h = let same : i ≡ 0 = omega arith in rw same (omega arith)
longer s m i (suc j) h =
    elim (cases_eq i (suc j)) [
      | inl same ↦ rw same (omega arith)
      | inr other ↦ let before = longer s m i j (omega arith) in rw length-append (omega arith)
    ]

-- the units below an extent are the first of those below a later one
below_first : (s : Shape) (m i j k : ℕ) → i ≤ j → k < length (units_below s m i) → get_or (units_below s m j) k no_unit ≡ get_or (units_below s m i) k no_unit
unfolding units_below
below_first s m i zero k h inside = let same : i ≡ 0 = omega arith in rw same refl
below_first s m i (suc j) k h inside =
    elim (cases_eq i (suc j)) [
      | inl same ↦ rw same refl
      | inr other ↦
          let within : k < length (units_below s m j) = omega (arith, longer s m i j (omega arith)) in
          get_or_append_left (units_below s m j) _ no_unit k within ∙ below_first s m i j k (omega arith) inside
    ]

-- an extent that the memory keeps has its units after those below it
next_units : (s : Shape) (m e n : ℕ) → keeps s.memories m e ≡ true → get_or (units_below s m (suc e)) (length (units_below s m e) + n) no_unit ≡ get_or (extent_units s e) n no_unit
unfolding units_below
next_units s m e n kept = rw kept (get_or-append-add (units_below s m e) (extent_units s e) n no_unit)

next_length : (s : Shape) (m e : ℕ) → keeps s.memories m e ≡ true → length (units_below s m (suc e)) ≡ length (units_below s m e) + length (extent_units s e)
unfolding units_below
next_length s m e kept = rw kept (length-append (units_below s m e) (extent_units s e))

module _ (s : Shape) (units : List ℕ) (m place : ℕ) (are : AreUnits s.blocks s.words units) where
  -- the unit at a place is the one of the extent that has the place
  pub unit_of_part : (e n : ℕ) → IsPart (record { memories = s.memories; sizes = units }) m place e n → slice_get (units_of s m) place ≡ Some (get_or (extent_units s e) n no_unit)
  unit_of_part e n part =
      let inside : e < length s.blocks = omega (arith, are.extents, part.part.extent_in) in
      let before = length_below s units m e are (omega arith) in
      let here : place ≡ length (units_below s m e) + n = omega (arith, part.place_is) in
      let size = length_extent s e in
      let next = next_length s m e part.kept in
      let within : place < length (units_below s m (suc e)) = omega (arith, part.part.part_in, are.unit e inside) in
      let all = longer s m (suc e) (length s.blocks) (omega arith) in
      let found = below_first s m (suc e) (length s.blocks) place (omega arith) within in
      let unit : get_or (units_of s m) place no_unit ≡ get_or (extent_units s e) n no_unit = found ∙ (rw here (next_units s m e n part.kept)) in
      slice_get-get_or (units_of s m) place no_unit (omega arith) ∙ ap Some unit

  -- past the last part there is no unit
  pub no_unit_past : start_of s.memories units m (length units) ≤ place → slice_get (units_of s m) place ≡ None
  no_unit_past past =
      let all = length_below s units m (length s.blocks) are (omega arith) in
      let same : start_of s.memories units m (length units) ≡ start_of s.memories units m (length s.blocks) = rw are.extents refl in
      slice_get_past (units_of s m) place (omega arith)

  -- the unit is a block, or else a word
  pub unit_block : (at : Extent) (n : ℕ) → IsPart (record { memories = s.memories; sizes = units }) m place at.0 n → n < get_or s.blocks at.0 0 → slice_get (units_of s m) place ≡ Some (Block at n)
  unit_block at n part below = unit_of_part at.0 n part ∙ ap Some (block_unit s at.0 n below)

  pub unit_word : (at : Extent) (n : ℕ) → IsPart (record { memories = s.memories; sizes = units }) m place at.0 n → get_or s.blocks at.0 0 ≤ n → slice_get (units_of s m) place ≡ Some (Word (record { extent = at; word = n - get_or s.blocks at.0 0 }))
  unit_word at n part past =
      let inside : at.0 < length s.blocks = omega (arith, are.extents, part.part.extent_in) in
      unit_of_part at.0 n part ∙ ap Some (word_unit s at.0 n past (omega (arith, part.part.part_in, are.unit at.0 inside)))
