-- Numbers and stores in a list of bytes.
use Rattle.std.proofs.Common.{◌≡◌, ◌≢◌, ℕ, zero, suc, ◌+◌, ◌-◌, ◌<◌, ◌≤◌, true, false, List, length, get_or, set, slice_get, Option, Some, None, is_none, option_map, arith, refl, sym, ◌∙◌, inl, inr, length-set, get_or-set_same, get_or-set_other, add-one}
use Rattle.std.proofs.lemmas.Option.{slice_get-get_or, slice_get_past}
use Rattle.std.proofs.lemmas.Bool.{cases_lt, cases_eq, le-leb, lt-ltb}
use Rattle.std.proofs.lemmas.Bool.Decides.{nat_tests}
use Rattle.std.specs.Int.{byte_at, w32, to_le_bytes}
use mathlib.Core.Path.{fun_ext}
use Rattle.seq_isa.specs.Meaning.{number_at, stored}
use Rattle.seq_rv32.specs.ByteMemory.{bytes_stored}

is_none_map : {A B : Type 0} (f : A → B) (o : Option A) → is_none (option_map f o) ≡ is_none o
is_none_map f (Some x) = refl
is_none_map f None = refl

pub number_some : (xs : List ℕ) (at width : ℕ) → at + width ≤ length xs → is_none (number_at (slice_get xs) at width) ≡ false
unfolding number_at
number_some xs at zero h = refl
number_some xs at (suc width) h =
    let inside : at < length xs = omega arith in
    rw (slice_get-get_or xs at 0 inside, is_none_map) (number_some xs (at + 1) width (omega arith))

pub number_none : (xs : List ℕ) (at width : ℕ) → length xs < at + width → 0 < width → is_none (number_at (slice_get xs) at width) ≡ true
unfolding number_at
number_none xs at zero h p = absurd (omega arith)
number_none xs at (suc width) h p = elim (cases_lt at (length xs)) [
  | inl inside ↦ rw (slice_get-get_or xs at 0 inside, is_none_map) (number_none xs (at + 1) width (omega arith) (omega arith))
  | inr past ↦ rw (slice_get_past xs at past) refl
]

slice_get-set_same : (xs : List ℕ) (i b : ℕ) → i < length xs → slice_get (set xs i b) i ≡ Some b
slice_get-set_same xs i b h =
    let inside : i < length (set xs i b) = simp length-set h in
    slice_get-get_or (set xs i b) i 0 inside ∙ (rw (get_or-set_same xs i b 0 h) refl)

slice_get-set_other : (xs : List ℕ) (i a b : ℕ) → a ≢ i → slice_get (set xs i b) a ≡ slice_get xs a
slice_get-set_other xs i a b h = elim (cases_lt a (length xs)) [
  | inl inside ↦
      let inside_set : a < length (set xs i b) = simp length-set inside in
      slice_get-get_or (set xs i b) a 0 inside_set ∙ (rw (get_or-set_other xs i a b 0 h) (sym (slice_get-get_or xs a 0 inside)))
  | inr past ↦
      let past_set : length (set xs i b) ≤ a = simp length-set past in
      slice_get_past (set xs i b) a past_set ∙ sym (slice_get_past xs a past)
]

pub stored_none : (f : ℕ → Option ℕ) (at v : ℕ) → f ≡ stored f at 0 v
unfolding stored
stored_none f at v = fun_ext (λ a. grind (arith, nat_tests))

stored_next : (f : ℕ → Option ℕ) (at i v a : ℕ) → a ≢ at + i → stored f at i v a ≡ stored f at (i + 1) v a
unfolding stored
stored_next f at i v a h = grind (arith, nat_tests)

stored_here : (f : ℕ → Option ℕ) (at i v : ℕ) → stored f at (i + 1) v (at + i) ≡ Some (byte_at i v)
unfolding stored
stored_here f at i v =
    let e : at + i - at ≡ i = omega arith in
    rw (le-leb at (at + i) (omega arith), lt-ltb (at + i) (at + (i + 1)) (omega arith), e) refl

pub stored_more : (f : ℕ → Option ℕ) (xs : List ℕ) (at i v b : ℕ) → slice_get xs ≡ stored f at i v → at + i < length xs → b ≡ byte_at i v → slice_get (set xs (at + i) b) ≡ stored f at (i + 1) v
stored_more f xs at i v b before inside is = fun_ext (λ a. elim (cases_eq a (at + i)) [
  | inl here ↦ rw here (slice_get-set_same xs (at + i) b inside ∙ (rw is (sym (stored_here f at i v))))
  | inr there ↦ slice_get-set_other xs (at + i) a b there ∙ (rw before (stored_next f at i v a there))
])

-- the bytes that the code writes
pub le_byte : (v i : ℕ) → i < 4 → get_or (to_le_bytes w32 v) i 0 ≡ byte_at i v
le_byte v zero h = refl
le_byte v (suc zero) h = refl
le_byte v (suc (suc zero)) h = refl
le_byte v (suc (suc (suc zero))) h = refl
le_byte v (suc (suc (suc (suc i)))) h = absurd (omega arith)

pub bytes_stored_length : (xs : List ℕ) (at width v : ℕ) → length (bytes_stored xs at width v) ≡ length xs
unfolding bytes_stored
bytes_stored_length xs at zero v = refl
bytes_stored_length xs at (suc width) v = simp length-set (bytes_stored_length xs at width v)

pub bytes_stored_next : (xs : List ℕ) (at i v b : ℕ) → b ≡ byte_at i v → set (bytes_stored xs at i v) (at + i) b ≡ bytes_stored xs at (i + 1) v
unfolding bytes_stored
bytes_stored_next xs at i v b e = rw (add-one, e) refl

-- the list after a store, seen as a memory
pub bytes_stored_is : (xs : List ℕ) (at width v : ℕ) → at + width ≤ length xs → slice_get (bytes_stored xs at width v) ≡ stored (slice_get xs) at width v
unfolding bytes_stored
bytes_stored_is xs at zero v h = stored_none (slice_get xs) at v
bytes_stored_is xs at (suc width) v h =
    let before = bytes_stored_is xs at width v (omega arith) in
    let inside : at + width < length (bytes_stored xs at width v) = rw bytes_stored_length (omega arith) in
    stored_more (slice_get xs) (bytes_stored xs at width v) at width v (byte_at width v) before inside refl ∙ (rw add-one refl)
