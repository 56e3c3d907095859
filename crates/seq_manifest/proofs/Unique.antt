-- A text describes one draft at most.
use Rattle.std.proofs.Common.{◌≡◌, ℕ, zero, suc, ◌^◌, ◌<◌, eqb, Option, Some, None, List, [], ◌∷◌, ◌++◌, map, length, refl, sym, ap, subst, ◌∙◌, arith}
use Rattle.std.specs.Int.{bit_at}
use Rattle.std.specs.List.{zip, filter_map, AllByRecursion}
use Rattle.std.proofs.lemmas.List.{append-nil}
use Rattle.std.proofs.lemmas.List.Elements.{filter_map-append, recursion_from_All}
use Rattle.std.proofs.lemmas.Nat.Bits.{bit_at-lt, same_from_bits_below}
use Rattle.seq_words.specs.Masks.{has_bit}
use Rattle.seq_words.specs.declared.description.MachineDesc.{MachineDesc}
use Rattle.seq_words.specs.declared.description.SegmentDesc.{SegmentDesc}
use Rattle.seq_words.specs.declared.description.ProcessDesc.{ProcessDesc}
use Rattle.seq_manifest.specs.declared.draft.Draft.{Draft}
use Rattle.seq_manifest.specs.declared.parts.Parts.{Parts}
use Rattle.seq_manifest.specs.Statements.{Statement, heading, segment, process}
use Rattle.seq_manifest.specs.Drafts.{headings, numbers_in, segment_of, process_of, said_by, parts_of, IsSegmentDraft, IsProcessDraft, Describes}
use Rattle.seq_manifest.specs.Faults.{is_in}
use Rattle.seq_manifest.proofs.Saying.{first_lines, segment_lines, process_lines, said_by-pieces, in-numbers_in}
use Rattle.seq_manifest.proofs.Texts.{somes}

somes_same : (xs ys : List Statement) → somes xs ≡ somes ys → xs ≡ ys
somes_same [] [] e = refl
somes_same [] (y ∷ ys) e = absurd cc
somes_same (x ∷ xs) [] e = absurd cc
somes_same (x ∷ xs) (y ∷ ys) e =
    let head : x ≡ y = cc in
    let tail : somes xs ≡ somes ys = cc in
    let rest = somes_same xs ys tail in
    cc

-- ---- what statements of one kind say
abbrev number_said : Statement → Option ℕ
number_said (heading h n) = Some n
number_said (segment size file) = None
number_said (process file lines segments) = None

abbrev segment_said : Statement → Option (ℕ × List ℕ)
segment_said (heading h n) = None
segment_said (segment size file) = Some (size, file)
segment_said (process file lines segments) = None

abbrev Told : Type 0
Told = List ℕ × List ℕ × List ℕ

abbrev process_said : Statement → Option Told
process_said (heading h n) = None
process_said (segment size file) = None
process_said (process file lines segments) = Some (file, lines, segments)

map_none : {A B : Type 0} (f : A → Statement) (h : Statement → Option B) → ((x : A) → h (f x) ≡ None) → (xs : List A) → filter_map h (map f xs) ≡ []
map_none f h none [] = refl
map_none f h none (x ∷ xs) = rw (none x) (map_none f h none xs)

map_some : {A B : Type 0} (f : A → Statement) (h : Statement → Option B) (g : A → B) → ((x : A) → h (f x) ≡ Some (g x)) → (xs : List A) → filter_map h (map f xs) ≡ map g xs
map_some f h g some [] = refl
map_some f h g some (x ∷ xs) = rw (some x) (ap (λ ys. g x ∷ ys) (map_some f h g some xs))

pieces : {B : Type 0} (h : Statement → Option B) (p : Parts) → filter_map h (said_by p) ≡ filter_map h (first_lines p.numbers) ++ filter_map h (segment_lines p.segments p.firsts) ++ filter_map h (process_lines p.processes p.images)
pieces h p =
    ap (filter_map h) (said_by-pieces p) ∙ filter_map-append h (first_lines p.numbers ++ segment_lines p.segments p.firsts) (process_lines p.processes p.images)
    ∙ ap (λ xs. xs ++ filter_map h (process_lines p.processes p.images)) (filter_map-append h (first_lines p.numbers) (segment_lines p.segments p.firsts))

abbrev told_segment : SegmentDesc × List ℕ → ℕ × List ℕ
told_segment x = (x.0.size, x.1)

abbrev told_process : ProcessDesc × List ℕ → Told
told_process x = (x.1, numbers_in x.0.lines, numbers_in x.0.grants)

numbers_told : (p : Parts) → filter_map number_said (said_by p) ≡ map (λ x. x.1) (zip headings p.numbers)
numbers_told p =
    let a = map_some (λ part. heading part.0 part.1) number_said (λ x. x.1) (λ x. refl) (zip headings p.numbers) in
    let b = map_none segment_of number_said (λ x. refl) (zip p.segments p.firsts) in
    let c = map_none process_of number_said (λ x. refl) (zip p.processes p.images) in
    pieces number_said p ∙ joined _ _ _ _ a b c
  where
    joined : (a b c d : List ℕ) → a ≡ d → b ≡ [] → c ≡ [] → a ++ b ++ c ≡ d
    joined a b c d e f g = rw (f, g) (append-nil _ ∙ append-nil _ ∙ e)

segments_told : (p : Parts) → filter_map segment_said (said_by p) ≡ map told_segment (zip p.segments p.firsts)
segments_told p =
    let a = map_none (λ part. heading part.0 part.1) segment_said (λ x. refl) (zip headings p.numbers) in
    let b = map_some segment_of segment_said told_segment (λ x. refl) (zip p.segments p.firsts) in
    let c = map_none process_of segment_said (λ x. refl) (zip p.processes p.images) in
    pieces segment_said p ∙ joined _ _ _ _ a b c
  where
    joined : (a b c d : List (ℕ × List ℕ)) → a ≡ [] → b ≡ d → c ≡ [] → a ++ b ++ c ≡ d
    joined a b c d e f g = rw (e, g) (append-nil _ ∙ f)

processes_told : (p : Parts) → filter_map process_said (said_by p) ≡ map told_process (zip p.processes p.images)
processes_told p =
    let a = map_none (λ part. heading part.0 part.1) process_said (λ x. refl) (zip headings p.numbers) in
    let b = map_none segment_of process_said (λ x. refl) (zip p.segments p.firsts) in
    let c = map_some process_of process_said told_process (λ x. refl) (zip p.processes p.images) in
    pieces process_said p ∙ joined _ _ _ _ a b c
  where
    joined : (a b c d : List Told) → a ≡ [] → b ≡ [] → c ≡ d → a ++ b ++ c ≡ d
    joined a b c d e f g = rw (e, f) g

-- ---- masks with the same numbers
same_mask : (m n : ℕ) → m < 2 ^ 16 → n < 2 ^ 16 → numbers_in m ≡ numbers_in n → m ≡ n
same_mask m n lm ln e = same_from_bits_below 16 m n lm ln (λ i lt.
    let bits : has_bit m i ≡ has_bit n i = sym (in-numbers_in m i lt) ∙ ap (λ ns. is_in ns i) e ∙ in-numbers_in n i lt in
    same_bit (bit_at m i) (bit_at n i) (bit_at-lt m i) (bit_at-lt n i) bits)
  where
    same_bit : (a b : ℕ) → a < 2 → b < 2 → eqb a 1 ≡ eqb b 1 → a ≡ b
    same_bit zero zero la lb e = refl
    same_bit zero (suc zero) la lb e = absurd cc
    same_bit (suc zero) zero la lb e = absurd cc
    same_bit (suc zero) (suc zero) la lb e = refl
    same_bit (suc (suc a)) b la lb e = absurd (omega arith)
    same_bit zero (suc (suc b)) la lb e = absurd (omega arith)
    same_bit (suc zero) (suc (suc b)) la lb e = absurd (omega arith)

same_segment : (s t : SegmentDesc) → IsSegmentDraft s → IsSegmentDraft t → s.size ≡ t.size → s ≡ t
same_segment s t hs ht e = fields s.size t.size s.first t.first e (hs.first ∙ sym ht.first)
  where
    fields : (a b : ℕ) (c d : List ℕ) → a ≡ b → c ≡ d → ◌≡◌ {A = SegmentDesc} (record { size = a; first = c }) (record { size = b; first = d })
    fields a b c d e f = cc

same_process : (n : ℕ) (p q : ProcessDesc) → IsProcessDraft n p → IsProcessDraft n q → numbers_in p.lines ≡ numbers_in q.lines → numbers_in p.grants ≡ numbers_in q.grants → p ≡ q
same_process n p q hp hq e f =
    fields p.size q.size p.entry q.entry p.image q.image p.lines q.lines p.grants q.grants (hp.size ∙ sym hq.size) (hp.entry ∙ sym hq.entry) (hp.image ∙ sym hq.image) (same_mask p.lines q.lines hp.line_mask hq.line_mask e) (same_mask p.grants q.grants hp.grant_mask hq.grant_mask f)
  where
    fields : (a b c d : ℕ) (i j : List ℕ) (k l m n : ℕ) → a ≡ b → c ≡ d → i ≡ j → k ≡ l → m ≡ n → ◌≡◌ {A = ProcessDesc} (record { size = a; entry = c; image = i; lines = k; grants = m }) (record { size = b; entry = d; image = j; lines = l; grants = n })
    fields a b c d i j k l m n e f g h o = cc

segments_same : (ss ts : List SegmentDesc) (fs gs : List (List ℕ)) → length fs ≡ length ss → length gs ≡ length ts → AllByRecursion IsSegmentDraft ss → AllByRecursion IsSegmentDraft ts → map told_segment (zip ss fs) ≡ map told_segment (zip ts gs) → (ss ≡ ts) × (fs ≡ gs)
segments_same [] [] [] [] ls lt hs ht e = (refl, refl)
segments_same [] [] [] (g ∷ gs) ls lt hs ht e = absurd (omega arith)
segments_same [] [] (f ∷ fs) gs ls lt hs ht e = absurd (omega arith)
segments_same [] (t ∷ ts) fs [] ls lt hs ht e = absurd (omega arith)
segments_same [] (t ∷ ts) fs (g ∷ gs) ls lt hs ht e = absurd cc
segments_same (s ∷ ss) ts [] gs ls lt hs ht e = absurd (omega arith)
segments_same (s ∷ ss) [] (f ∷ fs) gs ls lt hs ht e = absurd cc
segments_same (s ∷ ss) (t ∷ ts) (f ∷ fs) [] ls lt hs ht e = absurd (omega arith)
segments_same (s ∷ ss) (t ∷ ts) (f ∷ fs) (g ∷ gs) ls lt hs ht e =
    let head : told_segment (s, f) ≡ told_segment (t, g) = cc in
    let tail : map told_segment (zip ss fs) ≡ map told_segment (zip ts gs) = cc in
    let rest = segments_same ss ts fs gs (omega arith) (omega arith) hs.1 ht.1 tail in
    let s_is : s ≡ t = same_segment s t hs.0 ht.0 (ap (λ x. x.0) head) in
    let f_is : f ≡ g = ap (λ x. x.1) head in
    (both s t ss ts s_is rest.0, names f g fs gs f_is rest.1)
  where
    both : (s t : SegmentDesc) (ss ts : List SegmentDesc) → s ≡ t → ss ≡ ts → s ∷ ss ≡ t ∷ ts
    both s t ss ts e f = cc

    names : (f g : List ℕ) (fs gs : List (List ℕ)) → f ≡ g → fs ≡ gs → f ∷ fs ≡ g ∷ gs
    names f g fs gs d e = cc

processes_same : (n : ℕ) (ps qs : List ProcessDesc) (fs gs : List (List ℕ)) → length fs ≡ length ps → length gs ≡ length qs → AllByRecursion (IsProcessDraft n) ps → AllByRecursion (IsProcessDraft n) qs → map told_process (zip ps fs) ≡ map told_process (zip qs gs) → (ps ≡ qs) × (fs ≡ gs)
processes_same n [] [] [] [] lp lq hp hq e = (refl, refl)
processes_same n [] [] [] (g ∷ gs) lp lq hp hq e = absurd (omega arith)
processes_same n [] [] (f ∷ fs) gs lp lq hp hq e = absurd (omega arith)
processes_same n [] (q ∷ qs) fs [] lp lq hp hq e = absurd (omega arith)
processes_same n [] (q ∷ qs) fs (g ∷ gs) lp lq hp hq e = absurd cc
processes_same n (p ∷ ps) qs [] gs lp lq hp hq e = absurd (omega arith)
processes_same n (p ∷ ps) [] (f ∷ fs) gs lp lq hp hq e = absurd cc
processes_same n (p ∷ ps) (q ∷ qs) (f ∷ fs) [] lp lq hp hq e = absurd (omega arith)
processes_same n (p ∷ ps) (q ∷ qs) (f ∷ fs) (g ∷ gs) lp lq hp hq e =
    let head : told_process (p, f) ≡ told_process (q, g) = cc in
    let tail : map told_process (zip ps fs) ≡ map told_process (zip qs gs) = cc in
    let rest = processes_same n ps qs fs gs (omega arith) (omega arith) hp.1 hq.1 tail in
    let p_is : p ≡ q = same_process n p q hp.0 hq.0 (ap (λ x. x.1) head) (ap (λ x. x.2) head) in
    let f_is : f ≡ g = ap (λ x. x.0) head in
    (both p q ps qs p_is rest.0, names f g fs gs f_is rest.1)
  where
    both : (p q : ProcessDesc) (ps qs : List ProcessDesc) → p ≡ q → ps ≡ qs → p ∷ ps ≡ q ∷ qs
    both p q ps qs e f = cc

    names : (f g : List ℕ) (fs gs : List (List ℕ)) → f ≡ g → fs ≡ gs → f ∷ fs ≡ g ∷ gs
    names f g fs gs d e = cc

-- ---- all fields
record SevenSame (d e : MachineDesc) : Type 0 where
  pub processors : d.processors ≡ e.processors
  pub memories : d.memories ≡ e.memories
  pub ios : d.ios ≡ e.ios
  pub cache : d.cache ≡ e.cache
  pub quantum : d.quantum ≡ e.quantum
  pub journal : d.journal ≡ e.journal

seven_same : (d e : Draft) → (parts_of d).numbers ≡ (parts_of e).numbers → SevenSame d.desc e.desc
seven_same d e h = record { processors = cc; memories = cc; ios = cc; cache = cc; quantum = cc; journal = cc }

all_same : (d e : Draft) → SevenSame d.desc e.desc → d.desc.segments ≡ e.desc.segments → d.firsts ≡ e.firsts → d.desc.processes ≡ e.desc.processes → d.images ≡ e.images → d ≡ e
all_same d e h s f p i =
    fields d.desc.processors e.desc.processors d.desc.memories e.desc.memories d.desc.ios e.desc.ios d.desc.cache e.desc.cache d.desc.quantum e.desc.quantum d.desc.journal e.desc.journal d.desc.segments e.desc.segments d.desc.processes e.desc.processes d.images e.images d.firsts e.firsts h.processors h.memories h.ios h.cache h.quantum h.journal s p i f
  where
    fields : (a a' b b' c c' k k' q q' j j' : ℕ) (s s' : List SegmentDesc) (p p' : List ProcessDesc) (i i' f f' : List (List ℕ)) → a ≡ a' → b ≡ b' → c ≡ c' → k ≡ k' → q ≡ q' → j ≡ j' → s ≡ s' → p ≡ p' → i ≡ i' → f ≡ f'
        → ◌≡◌ {A = Draft} (record { desc = record { processors = a; memories = b; ios = c; cache = k; quantum = q; journal = j; segments = s; processes = p }; images = i; firsts = f }) (record { desc = record { processors = a'; memories = b'; ios = c'; cache = k'; quantum = q'; journal = j'; segments = s'; processes = p' }; images = i'; firsts = f' })
    fields a a' b b' c c' k k' q q' j j' s s' p p' i i' f f' e1 e2 e3 e4 e5 e6 e7 e8 e9 e10 = cc

pub one : (text : List ℕ) (d e : Draft) → Describes text d → Describes text e → d ≡ e
one text d e h k =
    let same : said_by (parts_of d) ≡ said_by (parts_of e) = somes_same _ _ (sym h.lines ∙ k.lines) in
    let numbers : (parts_of d).numbers ≡ (parts_of e).numbers = sym (numbers_told (parts_of d)) ∙ ap (filter_map number_said) same ∙ numbers_told (parts_of e) in
    let segs = segments_same d.desc.segments e.desc.segments d.firsts e.firsts h.draft.firsts k.draft.firsts (recursion_from_All IsSegmentDraft d.desc.segments h.draft.each_segment) (recursion_from_All IsSegmentDraft e.desc.segments k.draft.each_segment)
    (sym (segments_told (parts_of d)) ∙ ap (filter_map segment_said) same ∙ segments_told (parts_of e)) in
    let counts : length e.desc.segments ≡ length d.desc.segments = ap length (sym segs.0) in
    let each = recursion_from_All (IsProcessDraft (length e.desc.segments)) e.desc.processes k.draft.each_process in
    let procs = processes_same (length d.desc.segments) d.desc.processes e.desc.processes d.images e.images h.draft.images k.draft.images (recursion_from_All (IsProcessDraft (length d.desc.segments)) d.desc.processes h.draft.each_process) (subst (λ n. AllByRecursion (IsProcessDraft n) e.desc.processes) counts each)
    (sym (processes_told (parts_of d)) ∙ ap (filter_map process_said) same ∙ processes_told (parts_of e)) in
    all_same d e (seven_same d e numbers) segs.0 segs.1 procs.0 procs.1
