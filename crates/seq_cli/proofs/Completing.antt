-- A draft, part by part completed, describes a machine.
use Rattle.std.proofs.Common.{◌≡◌, ℕ, ◌+◌, ◌<◌, ◌≤◌, Bool, true, false, cond, None, Some, Option, List, length, get_or, set, inl, inr, arith, refl, sym, ap, ◌∙◌, subst}
use Rattle.std.specs.Prelude.{count_ones, count_by, sum_by, if◌then◌else◌, nat_lt}
use Rattle.std.proofs.lemmas.Bool.{cases_eq, cases_lt, lt-ltb, ltb-true, ltb-false}
use Rattle.std.proofs.lemmas.List.{length-set, get_or-set_same, get_or-set_other, get_or_default}
use Rattle.std.proofs.lemmas.List.Sums.{sum_by-set}
use Rattle.seq_words.specs.Masks.{has_bit}
use Rattle.seq_words.specs.declared.description.MachineDesc.{MachineDesc}
use Rattle.seq_words.specs.declared.description.SegmentDesc.{SegmentDesc}
use Rattle.seq_words.specs.declared.description.ProcessDesc.{ProcessDesc}
use Rattle.seq_words.specs.Description.{IsBetween, IsDescription, IsProcess, IsSegment, no_process, no_segment, process_of, segment_of, line_count, owner_count}
use Rattle.seq_loader.specs.declared.image.Image.{Image}
use Rattle.seq_loader.specs.Image.{IsImage}
use Rattle.seq_cli.specs.Parts.{IsPartly, is_process, segment_at, with_image, with_first, segment_fault, part_fault, CompletesBy, Completes}

-- an element for which a test answers as for the one in its place
count_by-set : {X : Type 0} (p : X → Bool) (xs : List X) (i : ℕ) (y d : X) → p y ≡ p (get_or xs i d) → i < length xs → count_by p (set xs i y) ≡ count_by p xs
count_by-set p xs i y d e lt =
    let sum : count_by p (set xs i y) + cond (p (get_or xs i d)) 1 0 ≡ count_by p xs + cond (p y) 1 0 = sum_by-set (λ x. cond (p x) 1 0) xs i y d lt in
    let same : ◌≡◌ {A = ℕ} (cond (p y) 1 0) (cond (p (get_or xs i d)) 1 0) = ap (λ b. cond {A = ℕ} b 1 0) e in
    omega (arith, sum, same)

filled : ProcessDesc → Image → ProcessDesc
filled p i = record p { size = i.size; entry = i.entry; image = i.bytes }

-- the process is complete with its image
filled_process : (d : MachineDesc) (p : ℕ) (n : ℕ) (i : Image) → IsPartly n d → p < length d.processes → IsImage i → IsProcess (length d.segments) (filled (process_of d p) i)
unfolding filled
filled_process d p n i h lt image = record { size = image.size; image = image.fits; aligned = image.aligned; inside = image.inside; few = h.few p lt; granted = h.granted p lt }

pub image_completes : (n : ℕ) (d : MachineDesc) (i : Image) → IsPartly n d → n < length d.processes → IsImage i → IsPartly (n + 1) (with_image d n i)
unfolding filled
image_completes n d i h lt image = record {
  processors = h.processors;
  memories = h.memories;
  ios = h.ios;
  cache = h.cache;
  quantum = h.quantum;
  journal = h.journal;
  segments = h.segments;
  each_segment = h.each_segment;
  processes = subst (λ k. IsBetween 1 16 k) (sym len) h.processes;
  each_process = each;
  few = λ p below. at p (λ q. count_ones q.lines ≤ 4) (omega (arith, below, len)) (h.few n lt) (h.few p);
  granted = λ p below. at p (λ q. (s : ℕ) → has_bit q.grants s ≡ true → s < length d.segments) (omega (arith, below, len)) (h.granted n lt) (h.granted p);
  few_lines = omega (arith, lines, h.few_lines);
  lines = λ l. owners l ∙ h.lines l ∙ ap (λ k. if nat_lt l k then 1 else 0) (sym lines);
}
  where
    made : ProcessDesc
    made = filled (process_of d n) i

    len : length (set d.processes n made) ≡ length d.processes
    len = length-set d.processes n made

    at : (p : ℕ) (P : ProcessDesc → Type 0) → p < length d.processes → P made → (p < length d.processes → P (process_of d p)) → P (get_or (set d.processes n made) p no_process)
    at p P below here other = elim (cases_eq p n) [
      | inl same ↦ subst P (sym (ap (λ k. get_or (set d.processes n made) k no_process) same ∙ get_or-set_same d.processes n made no_process lt)) here
      | inr apart ↦ subst P (sym (get_or-set_other d.processes n p made no_process apart)) (other below)
    ]

    each : (p : ℕ) → p < length (set d.processes n made) → p < n + 1 → IsProcess (length d.segments) (get_or (set d.processes n made) p no_process)
    each p below before = elim (cases_eq p n) [
      | inl same ↦ subst (λ q. IsProcess (length d.segments) q) (sym (ap (λ k. get_or (set d.processes n made) k no_process) same ∙ get_or-set_same d.processes n made no_process lt)) (filled_process d n n i h lt image)
      | inr apart ↦ subst (λ q. IsProcess (length d.segments) q) (sym (get_or-set_other d.processes n p made no_process apart)) (h.each_process p (omega (arith, below, len)) (strictly p apart before))
    ]
      where
        strictly : (p : ℕ) → (p ≡ n → ⊥) → p < n + 1 → p < n
        strictly p apart before = elim (cases_lt p n) [ inl lt ↦ lt | inr le ↦ absurd (apart (omega arith)) ]

    lines : sum_by (λ (q : ProcessDesc). count_ones q.lines) (set d.processes n made) ≡ line_count d
    lines = let sum = sum_by-set (λ (q : ProcessDesc). count_ones q.lines) d.processes n made no_process lt in omega (arith, sum)

    owners : (l : ℕ) → count_by (λ (q : ProcessDesc). has_bit q.lines l) (set d.processes n made) ≡ owner_count d l
    owners l = count_by-set (λ (q : ProcessDesc). has_bit q.lines l) d.processes n made no_process refl lt

pub first_completes : (n : ℕ) (d : MachineDesc) (s : ℕ) (bytes : List ℕ) → IsPartly n d → length d.processes ≤ n → s < length d.segments → length bytes ≤ (segment_of d s).size → IsPartly (n + 1) (with_first d s bytes)
first_completes n d s bytes h all lt fits = record {
  processors = h.processors;
  memories = h.memories;
  ios = h.ios;
  cache = h.cache;
  quantum = h.quantum;
  journal = h.journal;
  segments = omega (arith, len, h.segments);
  each_segment = each;
  processes = h.processes;
  each_process = λ p below before. subst (λ k. IsProcess k (process_of d p)) (sym len) (h.each_process p below (omega (arith, all, below)));
  few = h.few;
  granted = λ p below. subst (λ k. (t : ℕ) → has_bit (process_of d p).grants t ≡ true → t < k) (sym len) (h.granted p below);
  few_lines = h.few_lines;
  lines = h.lines;
}
  where
    made : SegmentDesc
    made = record (segment_of d s) { first = bytes }

    len : length (set d.segments s made) ≡ length d.segments
    len = length-set d.segments s made

    each : (t : ℕ) (e : SegmentDesc) → t < length (set d.segments s made) → IsSegment (get_or (set d.segments s made) t e)
    each t e below = elim (cases_eq t s) [
      | inl same ↦ subst IsSegment (sym (ap (λ k. get_or (set d.segments s made) k e) same ∙ get_or-set_same d.segments s made e lt)) (record { size = (h.each_segment s no_segment lt).size; first = fits })
      | inr apart ↦ subst IsSegment (sym (get_or-set_other d.segments s t made e apart)) (h.each_segment t e (omega (arith, below, len)))
    ]

within : (size : ℕ) (text : List ℕ) → segment_fault size text ≡ None → length text ≤ size
within size text none = elim (cases_lt size (length text)) [
  | inl long ↦ absurd (let e : ◌≡◌ {A = Option (ℕ × ℕ)} (Some (size, 27)) None = subst (λ b. ◌≡◌ {A = Option (ℕ × ℕ)} (cond b (Some (size, 27)) None) None) (lt-ltb size (length text) long) none in cc)
  | inr short ↦ short
]

completed_by : (b : Bool) (n : ℕ) (d : MachineDesc) (text : List ℕ) (e : MachineDesc) → is_process d n ≡ b → IsPartly n d → n < length d.processes + length d.segments → CompletesBy b d n text e → part_fault d n text ≡ None → IsPartly (n + 1) e
completed_by true n d text e is h lt c none =
    subst (λ (x : MachineDesc). IsPartly (n + 1) x) (sym c.2) (image_completes n d c.0 h (ltb-true n (length d.processes) is) c.1.image)
completed_by false n d text e is h lt c none =
    let all : length d.processes ≤ n = ltb-false n (length d.processes) is in
    let fault : segment_fault (segment_of d (segment_at d n)).size text ≡ None = rw is at none in
    subst (λ (x : MachineDesc). IsPartly (n + 1) x) (sym c) (first_completes n d (segment_at d n) text h all (omega (arith, all, lt)) (within (segment_of d (segment_at d n)).size text fault))

pub completed : (n : ℕ) (d : MachineDesc) (text : List ℕ) (e : MachineDesc) → IsPartly n d → n < length d.processes + length d.segments → Completes d n text e → part_fault d n text ≡ None → IsPartly (n + 1) e
completed n d text e h lt c none = completed_by (is_process d n) n d text e refl h lt c none

pub ended : (n : ℕ) (d : MachineDesc) → IsPartly n d → length d.processes ≤ n → IsDescription d
ended n d h all = record {
  processors = h.processors;
  memories = h.memories;
  ios = h.ios;
  cache = h.cache;
  quantum = h.quantum;
  journal = h.journal;
  segments = h.segments;
  each_segment = h.each_segment;
  processes = h.processes;
  each_process = λ p e below. subst (λ q. IsProcess (length d.segments) q) (get_or_default d.processes p no_process e below) (h.each_process p below (omega (arith, all, below)));
  few_lines = h.few_lines;
  lines = h.lines;
}
