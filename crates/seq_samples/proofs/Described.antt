-- Samples with lines describe machines.
use Rattle.std.proofs.Common.{◌≡◌, ℕ, zero, suc, ◌/◌, ◌%◌, ◌^◌, ◌<◌, ◌≤◌, Bool, true, false, List, [], ◌∷◌, length, arith, refl, sym, ap, ◌∙◌, inl, inr, lit≤}
use Rattle.std.specs.Prelude.{if◌then◌else◌, nat_lt, count_by, sum_by, count_ones}
use Rattle.std.specs.List.{AllByRecursion}
use Rattle.std.proofs.Math.Nat.{div-eq_of_lt}
use Rattle.std.proofs.Math.Pow.{pow_mono}
use Rattle.std.proofs.lemmas.Bool.{cases_lt, le-ltb, lt-ltb}
use Rattle.std.proofs.lemmas.List.Elements.{All-from_recursion}
use Rattle.std.proofs.lemmas.List.Sums.{sum_by-cons}
use lib.Count.{ones}
use Rattle.seq_words.specs.Masks.{has_bit}
use Rattle.seq_words.specs.declared.description.MachineDesc.{MachineDesc}
use Rattle.seq_words.specs.declared.description.SegmentDesc.{SegmentDesc}
use Rattle.seq_words.specs.declared.description.ProcessDesc.{ProcessDesc}
use Rattle.seq_words.specs.Description.{IsBetween, IsSize, IsSegment, IsProcess, IsDescription, line_count}
use Rattle.seq_samples.specs.Samples.{segment_of_size, process_of_size, machine_of, three_memories, one_line, two_images}

-- ---- masks
-- a mask below 2 ^ n has no bit from n on
no_bit : (mask n l : ℕ) → mask < 2 ^ n → n ≤ l → has_bit mask l ≡ false
no_bit mask n l small above =
    let high : 2 ^ n ≤ 2 ^ l = pow_mono above in
    let none : mask / 2 ^ l ≡ 0 = div-eq_of_lt (omega arith) in
    rw none refl

bit_below : (mask n l : ℕ) → mask < 2 ^ n → has_bit mask l ≡ true → l < n
bit_below mask n l small has = elim (cases_lt l n) [
  | inl lt ↦ lt
  | inr ge ↦ absurd (let e : has_bit mask l ≡ false = no_bit mask n l small ge in let c : ⊥ = cc in c)
]

-- where all masks are below 2 ^ n, nobody owns a line from n on
no_owner : (n l : ℕ) (ps : List ProcessDesc) → AllByRecursion (λ p. p.lines < 2 ^ n) ps → n ≤ l → count_by (λ (p : ProcessDesc). has_bit p.lines l) ps ≡ 0
no_owner n l [] small above = refl
no_owner n l (p ∷ ps) small above =
    let none = no_bit p.lines n l small.0 above in
    let rest = no_owner n l ps small.1 above in
    sum_by-cons (λ (q : ProcessDesc). if has_bit q.lines l then 1 else 0) p ps ∙ rw none (omega (arith, rest))

-- lines 0 to n - 1 with one owner each, and no other
numbered : (n : ℕ) (ps : List ProcessDesc) → AllByRecursion (λ p. p.lines < 2 ^ n) ps → ((l : ℕ) → l < n → count_by (λ (p : ProcessDesc). has_bit p.lines l) ps ≡ 1)
    → sum_by (λ (p : ProcessDesc). count_ones p.lines) ps ≡ n → (l : ℕ) → count_by (λ (p : ProcessDesc). has_bit p.lines l) ps ≡ (if nat_lt l (sum_by (λ (p : ProcessDesc). count_ones p.lines) ps) then 1 else 0)
numbered n ps small once total l = elim (cases_lt l n) [
  | inl lt ↦ let below : nat_lt l n ≡ true = lt-ltb l n lt in rw (once l lt, total, below) refl
  | inr ge ↦ let above : nat_lt l n ≡ false = le-ltb l n ge in rw (no_owner n l ps small ge, total, above) refl
]

-- ---- the parts
between : (low high n : ℕ) → low ≤ n → n ≤ high → IsBetween low high n
between low high n at_least at_most = record { low_at = at_least; high_at = at_most }

size : (most n : ℕ) → 32 ≤ n → n ≤ most → n % 32 ≡ 0 → IsSize most n
size most n low high whole = record { between = between 32 most n low high; whole = whole }

segment : (n : ℕ) → IsSize 16384 n → IsSegment (segment_of_size n)
segment n is = record { size = is; first = omega arith }

process : (segments n : ℕ) (image : List ℕ) (lines grants : ℕ) → IsSize 65536 n → length image ≤ n → count_ones lines ≤ 4 → grants < 2 ^ segments → IsProcess segments (process_of_size n image lines grants)
process segments n image lines grants is fits few small = record {
  size = is;
  image = fits;
  aligned = refl;
  inside = let low : 32 ≤ n = is.between.low_at in omega arith;
  few = few;
  granted = λ s has. bit_below grants segments s small has;
}

-- a machine of sound parts, whose lines are numbered
described : (memories journal : ℕ) (segments : List SegmentDesc) (processes : List ProcessDesc) (lines : ℕ)
    → IsBetween 2 8 memories → IsSize 65536 journal → length segments ≤ 16 → AllByRecursion IsSegment segments → IsBetween 1 16 (length processes) → AllByRecursion (IsProcess (length segments)) processes
    → lines ≤ 16 → AllByRecursion (λ p. p.lines < 2 ^ lines) processes → ((l : ℕ) → l < lines → count_by (λ (p : ProcessDesc). has_bit p.lines l) processes ≡ 1) → sum_by (λ (p : ProcessDesc). count_ones p.lines) processes ≡ lines
    → IsDescription (machine_of memories journal segments processes)
described memories journal segments processes lines few_memories whole few_segments each_segment few_processes each_process few small once total = record {
  processors = between 1 8 1 (omega arith) (omega arith);
  memories = few_memories;
  ios = between 1 4 1 (omega arith) (omega arith);
  cache = between 16 256 16 (omega arith) (omega arith);
  quantum = between 1 10000 1000 (omega arith) (omega arith);
  journal = whole;
  segments = few_segments;
  each_segment = All-from_recursion IsSegment segments each_segment;
  processes = few_processes;
  each_process = All-from_recursion (IsProcess (length segments)) processes each_process;
  few_lines = rw total few;
  lines = numbered lines processes small once total;
}

none_ones : count_ones 0 ≡ 0
unfolding ones
none_ones = refl

one_of_ones : count_ones 1 ≡ 1
unfolding ones
one_of_ones = refl

two_of_ones : count_ones 3 ≡ 2
unfolding ones
two_of_ones = refl

-- ---- the samples
size_32 : (most : ℕ) → 32 ≤ most → IsSize most 32
size_32 most room = size most 32 (omega arith) room refl

size_64 : (most : ℕ) → 64 ≤ most → IsSize most 64
size_64 most room = size most 64 (omega arith) room refl

once_of_two : (l : ℕ) → l < 2 → count_by (λ (p : ProcessDesc). has_bit p.lines l) (process_of_size 64 [] 0 0 ∷ process_of_size 32 [] 3 0 ∷ []) ≡ 1
once_of_two zero lt = refl
once_of_two (suc zero) lt = refl
once_of_two (suc (suc l)) lt = absurd (omega arith)

pub three_memories-is : IsDescription three_memories
three_memories-is =
    described 3 96 (segment_of_size 32 ∷ segment_of_size 64 ∷ []) (process_of_size 64 [] 0 0 ∷ process_of_size 32 [] 3 0 ∷ []) 2
    (between 2 8 3 (omega arith) (omega arith)) (size 65536 96 (omega arith) (omega arith) refl) (omega arith)
    (segment 32 (size_32 16384 (omega arith)), (segment 64 (size_64 16384 (omega arith)), tt))
    (between 1 16 2 (omega arith) (omega arith)) (
      process 2 64 [] 0 0 (size_64 65536 (omega arith)) (omega arith) (omega (arith, none_ones)) (omega arith),
      (process 2 32 [] 3 0 (size_32 65536 (omega arith)) (omega arith) (omega (arith, two_of_ones)) (omega arith), tt),
    )
    (omega arith) (omega arith, (omega arith, tt)) once_of_two (rw (none_ones, two_of_ones) refl)

once_of_one : (p : ProcessDesc) → p.lines ≡ 1 → (l : ℕ) → l < 1 → count_by (λ (p : ProcessDesc). has_bit p.lines l) (p ∷ []) ≡ 1
once_of_one p is zero lt = rw is refl
once_of_one p is (suc l) lt = absurd (omega arith)

pub one_line-is : IsDescription one_line
one_line-is =
    described 2 32 (segment_of_size 32 ∷ segment_of_size 32 ∷ segment_of_size 32 ∷ []) (process_of_size 64 [] 1 5 ∷ []) 1
    (between 2 8 2 (omega arith) (omega arith)) (size_32 65536 (omega arith)) (omega arith)
    (segment 32 (size_32 16384 (omega arith)), (segment 32 (size_32 16384 (omega arith)), (segment 32 (size_32 16384 (omega arith)), tt)))
    (between 1 16 1 (omega arith) (omega arith))
    (process 3 64 [] 1 5 (size_64 65536 (omega arith)) (omega arith) (omega (arith, one_of_ones)) (omega arith), tt)
    (omega arith) (omega arith, tt) (once_of_one (process_of_size 64 [] 1 5) refl) (rw one_of_ones refl)

once_of_first : (p q : ProcessDesc) → p.lines ≡ 1 → q.lines ≡ 0 → (l : ℕ) → l < 1 → count_by (λ (p : ProcessDesc). has_bit p.lines l) (p ∷ q ∷ []) ≡ 1
once_of_first p q first second zero lt = rw (first, second) refl
once_of_first p q first second (suc l) lt = absurd (omega arith)

pub two_images-is : (n : ℕ) (image : List ℕ) (m : ℕ) (other : List ℕ) → IsSize 65536 n → length image ≤ n → IsSize 65536 m → length other ≤ m → IsDescription (two_images n image m other)
two_images-is n image m other n_is fits m_is other_fits =
    let whole = segment 32 (size_32 16384 (omega arith)) in
    described 2 32 (segment_of_size 32 ∷ segment_of_size 32 ∷ segment_of_size 32 ∷ segment_of_size 32 ∷ []) (process_of_size n image 1 7 ∷ process_of_size m other 0 7 ∷ []) 1
    (between 2 8 2 (omega arith) (omega arith)) (size_32 65536 (omega arith)) (omega arith)
    (whole, (whole, (whole, (whole, tt))))
    (between 1 16 2 (omega arith) (omega arith)) (
      process 4 n image 1 7 n_is fits (omega (arith, one_of_ones)) (omega arith),
      (process 4 m other 0 7 m_is other_fits (omega (arith, none_ones)) (omega arith), tt),
    )
    (omega arith) (omega arith, (omega arith, tt)) (once_of_first (process_of_size n image 1 7) (process_of_size m other 0 7) refl refl) (rw (one_of_ones, none_ones) refl)
