-- An image that is written violates no rule, and its numbers are read again.
use Rattle.std.proofs.Common.{◌≡◌, ℕ, ◌+◌, ◌<◌, ◌%◌, true, false, ltb, List, [], length, None, refl, sym, subst, arith}
use Rattle.std.proofs.lemmas.Bool.{le-leb, lt-ltb, le-ltb, eq-eqb, and_from}
use Rattle.byteorder.specs.Numbers.{little_number-reads_back}
use Rattle.seq_words.specs.Description.{IsSize}
use Rattle.seq_loader.specs.declared.image.Image.{Image}
use Rattle.seq_loader.specs.Image.{IsImage, spelling}
use Rattle.seq_loader.specs.Faults.{size_of, length_of, entry_of, is_size, is_entry, fault_behind_mark, first_fault}

pub size_of-spelling : (i : Image) → IsImage i → size_of (spelling i) ≡ i.size
size_of-spelling i h = little_number-reads_back 4 i.size [] (omega (arith, h.size.between.high_at))

pub length_of-spelling : (i : Image) → IsImage i → length_of (spelling i) ≡ length i.bytes
length_of-spelling i h = little_number-reads_back 4 (length i.bytes) [] (omega (arith, h.fits, h.size.between.high_at))

pub entry_of-spelling : (i : Image) → IsImage i → entry_of (spelling i) ≡ i.entry
entry_of-spelling i h = little_number-reads_back 4 i.entry [] (omega (arith, h.inside, h.size.between.high_at))

pub length-spelling : (i : Image) → length (spelling i) ≡ 16 + length i.bytes
length-spelling i = omega arith

pub is_size-from : (n : ℕ) → IsSize 65536 n → is_size n ≡ true
is_size-from n h = and_from _ _ (and_from _ _ (le-leb _ _ h.between.low_at) (le-leb _ _ h.between.high_at)) (eq-eqb _ _ h.whole)

pub is_entry-from : (size n : ℕ) → n % 4 ≡ 0 → n < size → is_entry size n ≡ true
is_entry-from size n aligned inside = and_from _ _ (eq-eqb _ _ aligned) (lt-ltb _ _ inside)

-- numbers that keep the rules have no fault
no_fault_at : (file : List ℕ) (i : Image) → IsImage i → length file ≡ 16 + length i.bytes → size_of file ≡ i.size → length_of file ≡ length i.bytes → entry_of file ≡ i.entry → fault_behind_mark file ≡ None
no_fault_at file i h whole size len entry =
    let there : ltb (length file) 16 ≡ false = le-ltb _ _ (omega arith) in
    let sized : is_size (size_of file) ≡ true = is_size-from _ (subst (IsSize 65536) (sym size) h.size) in
    let fits : ltb (size_of file) (length_of file) ≡ false = le-ltb _ _ (omega (arith, h.fits)) in
    let entered : is_entry (size_of file) (entry_of file) ≡ true = rw (size, entry) (is_entry-from i.size i.entry h.aligned h.inside) in
    let ends : ltb (length file) (16 + length_of file) ≡ false = le-ltb _ _ (omega arith) in
    let ended : ltb (16 + length_of file) (length file) ≡ false = le-ltb _ _ (omega arith) in
    rw (there, sized, fits, entered, ends, ended) refl

pub first_fault-spelling : (i : Image) → IsImage i → first_fault (spelling i) ≡ None
first_fault-spelling i h = no_fault_at (spelling i) i h (length-spelling i) (size_of-spelling i h) (length_of-spelling i h) (entry_of-spelling i h)
