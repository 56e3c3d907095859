-- A file that violates no rule is the written form of the image that is read from it.
use Rattle.std.proofs.Common.{◌≡◌, ℕ, suc, ◌+◌, ◌<◌, ◌≤◌, ◌%◌, Bool, true, false, not, cond, eqb, List, [], ◌∷◌, ◌++◌, length, drop, take, get_or, Option, Some, None, refl, sym, ap, subst, ◌∙◌, arith}
use Rattle.std.proofs.Common.{inl, inr, All, ◌*◌}
use Rattle.std.proofs.lemmas.Bool.{leb-true, ltb-true, ltb-false, eqb-true, and_parts, not-false, cases_lt}
use Rattle.std.proofs.lemmas.List.{length-take-le, length-drop, get_or-take, get_or-drop, get_or_past, take-append-drop, drop-drop}
use Rattle.std.specs.Int.{w32, from_le_bytes}
use Rattle.std.proofs.lemmas.Nat.{le_bytes_4}
use Rattle.byteorder.specs.Endian.{little_bytes}
use Rattle.seq_words.specs.Description.{IsSize}
use Rattle.seq_loader.specs.declared.image.Image.{Image}
use Rattle.seq_loader.specs.Image.{IsImage, Spells, mark, spelling}
use Rattle.seq_loader.specs.Faults.{wrong_byte, number_at, size_of, length_of, entry_of, is_size, fault_behind_mark, fault_after, first_fault}
use Rattle.seq_loader.proofs.Written.{size_of-spelling, entry_of-spelling, first_fault-spelling}

-- no element is above 255
abbrev pub IsBytes : List ℕ → Type 0
IsBytes file = (k : ℕ) → get_or file k 0 < 256

guard : {A : Type 0} (b : Bool) (x : A) (r : Option A) → cond b (Some x) r ≡ None → (b ≡ false) × (r ≡ None)
guard true x r e = absurd cc
guard false x r e = (refl, e)

-- what is read from a file
abbrev pub image_of : List ℕ → Image
image_of file = record { size = size_of file; entry = entry_of file; bytes = drop 16 file }

is_size-true : (n : ℕ) → is_size n ≡ true → IsSize 65536 n
is_size-true n e =
    let both = and_parts _ _ e in
    let ends = and_parts _ _ both.0 in
    record { between = record { low_at = leb-true _ _ ends.0; high_at = leb-true _ _ ends.1 }; whole = eqb-true _ _ both.1 }

-- the facts of a file that violates no rule behind the mark
record IsWhole (file : List ℕ) : Type 0 where
  pub there : 16 ≤ length file
  pub size : IsSize 65536 (size_of file)
  pub fits : length_of file ≤ size_of file
  pub aligned : entry_of file % 4 ≡ 0
  pub inside : entry_of file < size_of file
  pub whole : length file ≡ 16 + length_of file

whole_from : (file : List ℕ) → fault_behind_mark file ≡ None → IsWhole file
whole_from file e =
    let a = guard _ _ _ e in
    let b = guard _ _ _ a.1 in
    let c = guard _ _ _ b.1 in
    let d = guard _ _ _ c.1 in
    let f = guard _ _ _ d.1 in
    let g = guard _ _ _ f.1 in
    let entry = and_parts _ _ (not-false _ d.0) in
    let short : 16 + length_of file ≤ length file = ltb-false _ _ f.0 in
    let long : length file ≤ 16 + length_of file = ltb-false _ _ g.0 in
    record {
      there = ltb-false _ _ a.0;
      size = is_size-true _ (not-false _ b.0);
      fits = ltb-false _ _ c.0;
      aligned = eqb-true _ _ entry.0;
      inside = ltb-true _ _ entry.1;
      whole = omega arith;
    }

-- the four bytes from a place are those of the number that they are read as
number_again : (file : List ℕ) (p : ℕ) → IsBytes file → p + 4 ≤ length file → take 4 (drop p file) ≡ little_bytes 4 (number_at file p)
number_again file p fits there =
    let four : List ℕ = take 4 (drop p file) in
    let len : length four ≡ 4 = length-take-le 4 (drop p file) (omega (arith, length-drop p file)) in
    let at : (k : ℕ) → k < 4 → get_or four k 0 ≡ get_or file (p + k) 0 = λ k lt. get_or-take 4 (drop p file) k 0 lt ∙ get_or-drop p file k 0 in
    let byte : (k : ℕ) → get_or four k 0 < 256 = λ k. byte_of four k (λ lt. subst (λ n. n < 256) (sym (at k (omega arith))) (fits (p + k))) in
    let a0 : get_or four 0 0 ≡ get_or file p 0 = at 0 (omega arith) ∙ ap (λ n. get_or file n 0) (omega arith) in
    let a1 : get_or four 1 0 ≡ get_or file (suc p) 0 = at 1 (omega arith) ∙ ap (λ n. get_or file n 0) (omega arith) in
    let a2 : get_or four 2 0 ≡ get_or file (suc (suc p)) 0 = at 2 (omega arith) ∙ ap (λ n. get_or file n 0) (omega arith) in
    let a3 : get_or four 3 0 ≡ get_or file (suc (suc (suc p))) 0 = at 3 (omega arith) ∙ ap (λ n. get_or file n 0) (omega arith) in
    sym (le_bytes_4 four (number_at file p) len byte (worth four (number_at file p) (get_or file p 0) (get_or file (suc p) 0) (get_or file (suc (suc p)) 0) (get_or file (suc (suc (suc p))) 0) a0 a1 a2 a3 refl))
  where
    byte_of : (xs : List ℕ) (k : ℕ) → (k < length xs → get_or xs k 0 < 256) → get_or xs k 0 < 256
    byte_of xs k h = elim (cases_lt k (length xs)) [ inl lt ↦ h lt | inr le ↦ let e = get_or_past xs k 0 le in omega (arith, e) ]

    worth : (xs : List ℕ) (n a b c d : ℕ) → get_or xs 0 0 ≡ a → get_or xs 1 0 ≡ b → get_or xs 2 0 ≡ c → get_or xs 3 0 ≡ d → n ≡ a + 256 * (b + 256 * (c + 256 * (d + 256 * 0))) → n ≡ from_le_bytes w32 xs
    worth xs n a b c d ea eb ec ed e = omega arith

mark_from : (file : List ℕ) → 4 ≤ length file → wrong_byte file ≡ None → take 4 file ≡ mark
mark_from [] h e = absurd (omega arith)
mark_from (a ∷ []) h e = absurd (omega arith)
mark_from (a ∷ b ∷ []) h e = absurd (omega arith)
mark_from (a ∷ b ∷ c ∷ []) h e = absurd (omega arith)
mark_from (a ∷ b ∷ c ∷ d ∷ rest) h e =
    let p = guard (not (eqb a 83)) 0 _ e in
    let q = guard (not (eqb b 81)) 1 _ p.1 in
    let r = guard (not (eqb c 73)) 2 _ q.1 in
    let s = guard (not (eqb d 49)) 3 _ r.1 in
    let ea : a ≡ 83 = eqb-true _ _ (not-false _ p.0) in
    let eb : b ≡ 81 = eqb-true _ _ (not-false _ q.0) in
    let ec : c ≡ 73 = eqb-true _ _ (not-false _ r.0) in
    let ed : d ≡ 49 = eqb-true _ _ (not-false _ s.0) in
    cells a b c d ea eb ec ed
  where
    cells : (a b c d : ℕ) → a ≡ 83 → b ≡ 81 → c ≡ 73 → d ≡ 49 → a ∷ b ∷ c ∷ d ∷ [] ≡ 83 ∷ 81 ∷ 73 ∷ 49 ∷ []
    cells a b c d ea eb ec ed = cc

piece : (p : ℕ) (file : List ℕ) → drop p file ≡ take 4 (drop p file) ++ drop (p + 4) file
piece p file = sym (take-append-drop 4 (drop p file)) ∙ ap (λ rest. take 4 (drop p file) ++ rest) (drop-drop 4 p file)

joined : (a b c d a' b' c' d' f g h file rest : List ℕ) → file ≡ a ++ f → f ≡ b ++ g → g ≡ c ++ h → h ≡ d ++ rest → a ≡ a' → b ≡ b' → c ≡ c' → d ≡ d' → file ≡ a' ++ (b' ++ (c' ++ (d' ++ rest)))
joined a b c d a' b' c' d' f g h file rest e0 e1 e2 e3 ea eb ec ed = cc

-- a file that violates no rule is the written form of what is read from it
pub Spells-image_of : (file : List ℕ) → IsBytes file → first_fault file ≡ None → Spells file (image_of file)
Spells-image_of file fits e =
    let m = mark_part file e in
    let w = whole_from file m.1 in
    let there : 16 ≤ length file = w.there in
    let len : length_of file ≡ length (drop 16 file) = omega (arith, w.whole, length-drop 16 file) in
    record {
      image = record {
        size = w.size;
        fits = omega (arith, len, w.fits);
        aligned = w.aligned;
        inside = w.inside;
      };
      text = joined (take 4 file) (take 4 (drop 4 file)) (take 4 (drop 8 file)) (take 4 (drop 12 file)) mark (little_bytes 4 (size_of file)) (little_bytes 4 (length (drop 16 file))) (little_bytes 4 (entry_of file)) (drop 4 file) (drop 8 file) (drop 12 file) file (drop 16 file) (piece 0 file) (piece 4 file) (piece 8 file) (piece 12 file) (mark_from file (omega arith) m.0) (number_again file 4 fits (omega arith)) (number_again file 8 fits (omega arith) ∙ ap (λ n. little_bytes 4 n) len) (number_again file 12 fits (omega arith));
    }
  where
    behind : (o : Option ℕ) (file : List ℕ) → fault_after o file ≡ None → (o ≡ None) × (fault_behind_mark file ≡ None)
    behind (Some place) file e = absurd cc
    behind None file e = (refl, e)

    mark_part : (file : List ℕ) → first_fault file ≡ None → (wrong_byte file ≡ None) × (fault_behind_mark file ≡ None)
    mark_part file e = behind (wrong_byte file) file e

pair : (a b c d : ℕ) → a ≡ b → c ≡ d → ◌≡◌ {A = ℕ × ℕ} (a, c) (b, d)
pair a b c d e f = cc

-- and no file is that of two images
pub image_of-spelling : (i : Image) → IsImage i → image_of (spelling i) ≡ i
image_of-spelling i h = same (size_of (spelling i)) (entry_of (spelling i)) i (size_of-spelling i h) (entry_of-spelling i h)
  where
    same : (size entry : ℕ) (i : Image) → size ≡ i.size → entry ≡ i.entry → ◌≡◌ {A = Image} (record { size = size; entry = entry; bytes = i.bytes }) i
    same size entry i e f = ap (λ (p : ℕ × ℕ). record i { size = p.0; entry = p.1 }) (pair size i.size entry i.entry e f)

pub image_of-Spells : (file : List ℕ) (i : Image) → Spells file i → image_of file ≡ i
image_of-Spells file i h = ap image_of h.text ∙ image_of-spelling i h.image

pub first_fault-Spells : (file : List ℕ) (i : Image) → Spells file i → first_fault file ≡ None
first_fault-Spells file i h = ap first_fault h.text ∙ first_fault-spelling i h.image

pub bytes_from : (file : List ℕ) → All (λ byte. byte < 256) file → IsBytes file
bytes_from file each k = elim (cases_lt k (length file)) [ inl lt ↦ each k 0 lt | inr le ↦ let e = get_or_past file k 0 le in omega (arith, e) ]

pub Spells-parts : (file bytes : List ℕ) (size entry : ℕ) → IsBytes file → first_fault file ≡ None → size ≡ size_of file → entry ≡ entry_of file → bytes ≡ drop 16 file → Spells file (record { size = size; entry = entry; bytes = bytes })
Spells-parts file bytes size entry fits none s e b = subst (Spells file) (parts (size_of file) (entry_of file) (drop 16 file) size entry bytes s e b) (Spells-image_of file fits none)
  where
    parts : (s' e' : ℕ) (b' : List ℕ) (s e : ℕ) (b : List ℕ) → s ≡ s' → e ≡ e' → b ≡ b' → ◌≡◌ {A = Image} (record { size = s'; entry = e'; bytes = b' }) (record { size = s; entry = e; bytes = b })
    parts s' e' b' s e b p q r = cc
