-- A context is told by its numbers.
use Rattle.std.proofs.Common.{◌≡◌, ℕ, suc, ◌+◌, ◌-◌, ◌%◌, ◌/◌, ◌^◌, ◌<◌, ◌≤◌, List, [], ◌∷◌, ◌++◌, length, take, drop, replicate, get_or, arith, refl, ap, sym, ◌∙◌, drop-cons, length-drop}
use Rattle.std.proofs.lemmas.Slice.{put_mid-paste}
use Rattle.std.proofs.lemmas.List.Edits.{paste_all}
use Rattle.std.proofs.Math.Seq.{take-append_seam, drop-append-add}
use Rattle.std.proofs.lemmas.List.{take-append-drop, length-replicate, get_or-replicate, get_or-drop, get_or-take, length-take-le}
use Rattle.std.proofs.lemmas.Grind.{same_number_lists}
use Rattle.std.specs.List.{EachIndex}
use Rattle.seq_layout.specs.Contexts.{numbers_of}
use Rattle.seq_layout.specs.declared.context.Context.{Context}
use borrow.Rule.Slice.PartMut.{put_mid}

-- sixteen numbers are written after the registers
pub after_registers : (x after : List ℕ) → length x ≡ 32 → length after ≡ 16 → put_mid 32 16 (x ++ replicate 32 0) after ≡ x ++ (after ++ replicate 16 0)
after_registers x after full sixteen =
    let before : take 32 (x ++ replicate 32 0) ≡ x = ap (λ n. take n (x ++ replicate 32 0)) (sym full) ∙ take-append_seam x (replicate 32 0) in
    let behind : drop 48 (x ++ replicate 32 0) ≡ replicate 16 0 = ap (λ n. drop (n + 16) (x ++ replicate 32 0)) (sym full) ∙ drop-append-add x (replicate 32 0) 16 in
    let written : put_mid 32 16 (x ++ replicate 32 0) after ≡ take 32 (x ++ replicate 32 0) ++ (after ++ drop 48 (x ++ replicate 32 0)) = put_mid-paste 32 16 (x ++ replicate 32 0) after after 16 refl refl (sym sixteen) ∙ paste_all (x ++ replicate 32 0) 32 after 16 (sym sixteen) in
    written ∙ rw (before, behind) refl

-- a list of zeros
all_zero : (xs : List ℕ) (n : ℕ) → length xs ≡ n → ((k : ℕ) → k < n → get_or xs k 0 ≡ 0) → xs ≡ replicate n 0
all_zero xs n full zeros = same_number_lists xs (replicate n 0) (full ∙ sym (length-replicate n 0)) (λ k within. zeros k (omega (arith, full)) ∙ sym (get_or-replicate n k 0 0 (omega (arith, full))))

-- the last sixteen numbers are zero
last_zero : (numbers : List ℕ) → length numbers ≡ 64 → ((i : ℕ) → 48 ≤ i → i < 64 → get_or numbers i 0 ≡ 0) → drop 48 numbers ≡ replicate 16 0
last_zero numbers full zeros =
    all_zero (drop 48 numbers) 16 (length-drop 48 numbers ∙ ap (λ n. n - 48) full) (λ k within. get_or-drop 48 numbers k 0 ∙ zeros (48 + k) (omega arith) (omega arith))

-- the part of the last sixteen numbers
last : (numbers : List ℕ) (k : ℕ) → k < 16 → get_or (take 16 (drop 48 numbers)) k 0 ≡ get_or numbers (48 + k) 0
last numbers k within = get_or-take 16 (drop 48 numbers) k 0 within ∙ get_or-drop 48 numbers k 0

length_last : (numbers : List ℕ) → length numbers ≡ 64 → length (take 16 (drop 48 numbers)) ≡ 16
length_last numbers full = length-take-le 16 (drop 48 numbers) (omega (arith, length-drop 48 numbers, full))

pub zero_from : (numbers : List ℕ) → length numbers ≡ 64 → EachIndex (take 16 (drop 48 numbers)) (λ i. get_or (take 16 (drop 48 numbers)) i 0 ≡ 0) → (i : ℕ) → 48 ≤ i → i < 64 → get_or numbers i 0 ≡ 0
zero_from numbers full zeros i low high =
    let j : 48 + (i - 48) ≡ i = omega arith in
    ap (λ k. get_or numbers k 0) (sym j) ∙ sym (last numbers (i - 48) (omega arith)) ∙ zeros (i - 48) (omega (arith, length_last numbers full))

pub zero_in : (numbers : List ℕ) → length numbers ≡ 64 → ((i : ℕ) → 48 ≤ i → i < 64 → get_or numbers i 0 ≡ 0) → EachIndex (take 16 (drop 48 numbers)) (λ i. get_or (take 16 (drop 48 numbers)) i 0 ≡ 0)
zero_in numbers full zeros k within =
    last numbers k (omega (arith, length_last numbers full)) ∙ zeros (48 + k) (omega arith) (omega (arith, length_last numbers full))

-- the numbers after the registers
after : (numbers : List ℕ) → length numbers ≡ 64 → drop 48 numbers ≡ replicate 16 0
    → drop 32 numbers ≡ get_or numbers 32 0 ∷ get_or numbers 33 0 ∷ get_or numbers 34 0 ∷ get_or numbers 35 0 ∷ get_or numbers 36 0 ∷ get_or numbers 37 0 ∷ get_or numbers 38 0 ∷ get_or numbers 39 0 ∷ get_or numbers 40 0 ∷ get_or numbers 41 0 ∷ get_or numbers 42 0 ∷ get_or numbers 43 0 ∷ get_or numbers 44 0 ∷ get_or numbers 45 0 ∷ get_or numbers 46 0 ∷ get_or numbers 47 0 ∷ replicate 16 0
after numbers full end =
    let step : (i : ℕ) → i < 64 → drop i numbers ≡ get_or numbers i 0 ∷ drop (suc i) numbers = λ i within. drop-cons numbers i 0 (omega arith) in
    rw (step 32 (omega arith), step 33 (omega arith), step 34 (omega arith), step 35 (omega arith), step 36 (omega arith), step 37 (omega arith), step 38 (omega arith), step 39 (omega arith), step 40 (omega arith), step 41 (omega arith), step 42 (omega arith), step 43 (omega arith), step 44 (omega arith), step 45 (omega arith), step 46 (omega arith), step 47 (omega arith), end) refl

-- Numbers are those of a context with these fields.
pub numbers_back : (numbers : List ℕ) (c : Context) → length numbers ≡ 64 → get_or numbers 37 0 ≡ 0 → ((i : ℕ) → 48 ≤ i → i < 64 → get_or numbers i 0 ≡ 0)
    → c.regs.x ≡ take 32 numbers → c.regs.pc ≡ get_or numbers 32 0 → c.end ≡ get_or numbers 33 0 → c.value ≡ get_or numbers 34 0 → c.end_pc ≡ get_or numbers 35 0 → c.held ≡ get_or numbers 36 0
    → c.commits % 2 ^ 32 ≡ get_or numbers 38 0 → c.commits / 2 ^ 32 ≡ get_or numbers 39 0
    → c.reads ≡ get_or numbers 40 0 ∷ get_or numbers 42 0 ∷ get_or numbers 44 0 ∷ get_or numbers 46 0 ∷ []
    → c.writes ≡ get_or numbers 41 0 ∷ get_or numbers 43 0 ∷ get_or numbers 45 0 ∷ get_or numbers 47 0 ∷ []
    → numbers_of c ≡ numbers
numbers_back numbers c full unused zeros x pc end value end_pc held low high reads writes =
    let whole : take 32 numbers ++ drop 32 numbers ≡ numbers = take-append-drop 32 numbers in
    let part = rw (unused) at (after numbers full (last_zero numbers full zeros)) in
    rw (x, pc, end, value, end_pc, held, low, high, reads, writes) (ap (λ xs. take 32 numbers ++ xs) (sym part) ∙ whole)
