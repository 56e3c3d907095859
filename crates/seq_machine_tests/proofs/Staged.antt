-- The machines on which scenes are played are described as they should be.
use Rattle.std.proofs.Common.{◌≡◌, ℕ, zero, suc, ◌/◌, ◌%◌, ◌^◌, ◌<◌, ◌≤◌, true, false, List, [], ◌∷◌, length, arith, refl, sym, ap, ◌∙◌, inl, inr}
use Rattle.std.specs.Prelude.{if◌then◌else◌, nat_lt, count_by, sum_by, count_ones}
use Rattle.std.specs.List.{AllByRecursion}
use Rattle.std.proofs.Math.Nat.{div-eq_of_lt}
use Rattle.std.proofs.Math.Pow.{pow_mono}
use Rattle.std.proofs.lemmas.Bool.{cases_lt, le-ltb}
use Rattle.std.proofs.lemmas.List.Elements.{All-from_recursion}
use lib.Count.{ones}
use Rattle.seq_words.specs.Masks.{has_bit}
use Rattle.seq_words.specs.declared.description.MachineDesc.{MachineDesc}
use Rattle.seq_words.specs.declared.description.SegmentDesc.{SegmentDesc}
use Rattle.seq_words.specs.declared.description.ProcessDesc.{ProcessDesc}
use Rattle.seq_words.specs.Description.{IsBetween, IsSize, IsSegment, IsProcess, IsDescription}
use Rattle.seq_samples.specs.Samples.{segment_of_size, process_of_size}

-- ---- masks
-- a mask below 2 ^ n has no bit from n on
no_bit : (mask n l : ℕ) → mask < 2 ^ n → n ≤ l → has_bit mask l ≡ false
no_bit mask n l small above =
    let high : 2 ^ n ≤ 2 ^ l = pow_mono above in
    let none : mask / 2 ^ l ≡ 0 = div-eq_of_lt (omega arith) in
    rw none refl

bit_below : (mask n l : ℕ) → mask < 2 ^ n → has_bit mask l ≡ true → l < n
bit_below mask n l small has = elim (cases_lt l n) [
  | inl lt ↦ lt
  | inr ge ↦ absurd (let e : has_bit mask l ≡ false = no_bit mask n l small ge in let c : ⊥ = cc in c)
]

none_ones : count_ones 0 ≡ 0
unfolding ones
none_ones = refl

one_of_ones : count_ones 1 ≡ 1
unfolding ones
one_of_ones = refl

two_of_ones : count_ones 3 ≡ 2
unfolding ones
two_of_ones = refl

-- ---- the parts
between : (low high n : ℕ) → low ≤ n → n ≤ high → IsBetween low high n
between low high n at_least at_most = record { low_at = at_least; high_at = at_most }

size : (most n : ℕ) → 32 ≤ n → n ≤ most → n % 32 ≡ 0 → IsSize most n
size most n low high whole = record { between = between 32 most n low high; whole = whole }

segment : IsSegment (segment_of_size 32)
segment = record { size = size 16384 32 (omega arith) (omega arith) refl; first = omega arith }

process : (segments n : ℕ) (image : List ℕ) (lines grants : ℕ) → IsSize 65536 n → length image ≤ n → count_ones lines ≤ 4 → grants < 2 ^ segments → IsProcess segments (process_of_size n image lines grants)
process segments n image lines grants is fits few small = record {
  size = is;
  image = fits;
  aligned = refl;
  inside = let low : 32 ≤ n = is.between.low_at in omega arith;
  few = few;
  granted = λ s has. bit_below grants segments s small has;
}

-- two memories, a cache of 16 blocks and journals of 32 bytes
abbrev staged : ℕ → ℕ → ℕ → List SegmentDesc → List ProcessDesc → MachineDesc
staged processors ios quantum segments processes = record {
  processors = processors;
  memories = 2;
  ios = ios;
  cache = 16;
  quantum = quantum;
  journal = 32;
  segments = segments;
  processes = processes;
}

described : (processors ios quantum : ℕ) (segments : List SegmentDesc) (processes : List ProcessDesc) (lines : ℕ)
    → IsBetween 1 8 processors → IsBetween 1 4 ios → IsBetween 1 10000 quantum → length segments ≤ 16 → AllByRecursion IsSegment segments → IsBetween 1 16 (length processes) → AllByRecursion (IsProcess (length segments)) processes
    → lines ≤ 16 → sum_by (λ (p : ProcessDesc). count_ones p.lines) processes ≡ lines → ((l : ℕ) → count_by (λ (p : ProcessDesc). has_bit p.lines l) processes ≡ (if nat_lt l lines then 1 else 0))
    → IsDescription (staged processors ios quantum segments processes)
described processors ios quantum segments processes lines few_processors few_ios within few_segments each_segment few_processes each_process few total owners = record {
  processors = few_processors;
  memories = between 2 8 2 (omega arith) (omega arith);
  ios = few_ios;
  cache = between 16 256 16 (omega arith) (omega arith);
  quantum = within;
  journal = size 65536 32 (omega arith) (omega arith) refl;
  segments = few_segments;
  each_segment = All-from_recursion IsSegment segments each_segment;
  processes = few_processes;
  each_process = All-from_recursion (IsProcess (length segments)) processes each_process;
  few_lines = rw total few;
  lines = λ l. owners l ∙ ap (λ n. if nat_lt l n then 1 else 0) (sym total);
}

-- ---- one process with line 0
one_owned : (n : ℕ) (image : List ℕ) (l : ℕ) → count_by (λ (p : ProcessDesc). has_bit p.lines l) (process_of_size n image 1 0 ∷ []) ≡ (if nat_lt l 1 then 1 else 0)
one_owned n image zero = refl
one_owned n image (suc l) =
    let none : has_bit 1 (suc l) ≡ false = no_bit 1 1 (suc l) (omega arith) (omega arith) in
    let past : nat_lt (suc l) 1 ≡ false = le-ltb (suc l) 1 (omega arith) in
    rw (none, past) refl

pub alone-is : (processors quantum n : ℕ) (image : List ℕ) → IsBetween 1 8 processors → IsBetween 1 10000 quantum → IsSize 65536 n → length image ≤ n → IsDescription (staged processors 1 quantum [] (process_of_size n image 1 0 ∷ []))
alone-is processors quantum n image few within is fits =
    described processors 1 quantum [] (process_of_size n image 1 0 ∷ []) 1
    few (between 1 4 1 (omega arith) (omega arith)) within (omega arith) tt
    (between 1 16 1 (omega arith) (omega arith)) (process 0 n image 1 0 is fits (omega (arith, one_of_ones)) (omega arith), tt)
    (omega arith) (rw one_of_ones refl) (one_owned n image)

-- ---- one process with lines 0 and 1
two_owned : (n : ℕ) (image : List ℕ) (l : ℕ) → count_by (λ (p : ProcessDesc). has_bit p.lines l) (process_of_size n image 3 0 ∷ []) ≡ (if nat_lt l 2 then 1 else 0)
two_owned n image zero = refl
two_owned n image (suc zero) = refl
two_owned n image (suc (suc l)) =
    let none : has_bit 3 (suc (suc l)) ≡ false = no_bit 3 2 (suc (suc l)) (omega arith) (omega arith) in
    let past : nat_lt (suc (suc l)) 2 ≡ false = le-ltb (suc (suc l)) 2 (omega arith) in
    rw (none, past) refl

pub with_two_lines-is : (n : ℕ) (image : List ℕ) → IsSize 65536 n → length image ≤ n → IsDescription (staged 1 2 1000 [] (process_of_size n image 3 0 ∷ []))
with_two_lines-is n image is fits =
    described 1 2 1000 [] (process_of_size n image 3 0 ∷ []) 2
    (between 1 8 1 (omega arith) (omega arith)) (between 1 4 2 (omega arith) (omega arith)) (between 1 10000 1000 (omega arith) (omega arith)) (omega arith) tt
    (between 1 16 1 (omega arith) (omega arith)) (process 0 n image 3 0 is fits (omega (arith, two_of_ones)) (omega arith), tt)
    (omega arith) (rw two_of_ones refl) (two_owned n image)

-- ---- two processes of one image, the first with line 0, and a segment
first_owns : (n : ℕ) (image : List ℕ) (l : ℕ) → count_by (λ (p : ProcessDesc). has_bit p.lines l) (process_of_size n image 1 1 ∷ process_of_size n image 0 1 ∷ []) ≡ (if nat_lt l 1 then 1 else 0)
first_owns n image zero = refl
first_owns n image (suc l) =
    let none : has_bit 1 (suc l) ≡ false = no_bit 1 1 (suc l) (omega arith) (omega arith) in
    let neither : has_bit 0 (suc l) ≡ false = no_bit 0 1 (suc l) (omega arith) (omega arith) in
    let past : nat_lt (suc l) 1 ≡ false = le-ltb (suc l) 1 (omega arith) in
    rw (none, neither, past) refl

pub sharing-is : (n : ℕ) (image : List ℕ) → IsSize 65536 n → length image ≤ n → IsDescription (staged 2 2 1000 (segment_of_size 32 ∷ []) (process_of_size n image 1 1 ∷ process_of_size n image 0 1 ∷ []))
sharing-is n image is fits =
    described 2 2 1000 (segment_of_size 32 ∷ []) (process_of_size n image 1 1 ∷ process_of_size n image 0 1 ∷ []) 1
    (between 1 8 2 (omega arith) (omega arith)) (between 1 4 2 (omega arith) (omega arith)) (between 1 10000 1000 (omega arith) (omega arith)) (omega arith) (segment, tt)
    (between 1 16 2 (omega arith) (omega arith))
    (process 1 n image 1 1 is fits (omega (arith, one_of_ones)) (omega arith), (process 1 n image 0 1 is fits (omega (arith, none_ones)) (omega arith), tt))
    (omega arith) (rw (one_of_ones, none_ones) refl) (first_owns n image)
