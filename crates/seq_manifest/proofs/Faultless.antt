-- A text that describes a draft has no fault.
use Rattle.std.proofs.Common.{◌≡◌, ℕ, ◌+◌, ◌^◌, ◌<◌, ◌≤◌, Bool, true, false, not, ◌&&◌, ◌||◌, cond, ltb, leb, ◌⊎◌, Some, None, List, [], ◌∷◌, ◌++◌, map, length, inl, inr, refl, sym, ap, subst, ◌∙◌, append_assoc, arith, count_by}
use Rattle.std.specs.List.{list_any, zip, AllByRecursion}
use Rattle.std.proofs.lemmas.Bool.{cases_lt, le-leb, lt-leb, lt-ltb, le-ltb, leb-true, ltb-true, eq-eqb, and_from, and_parts, or_from, both_ways, false_from_ne_true, not-true}
use Rattle.std.proofs.lemmas.List.{append-nil, length_push}
use Rattle.std.proofs.lemmas.List.Elements.{recursion_from_All}
use Rattle.std.proofs.lemmas.List.Folds.{list_any-append}
use Rattle.std.proofs.lemmas.List.Sums.{sum_by_push, sum_by-cons}
use Rattle.seq_words.specs.Masks.{has_bit}
use Rattle.seq_words.specs.Description.{IsBetween, IsSize, line_count}
use Rattle.seq_words.specs.declared.description.SegmentDesc.{SegmentDesc}
use Rattle.seq_words.specs.declared.description.ProcessDesc.{ProcessDesc}
use Rattle.seq_text.specs.Lines.{lines_of}
use Rattle.seq_text.specs.Words.{words_of}
use Rattle.seq_manifest.specs.declared.draft.Draft.{Draft}
use Rattle.seq_manifest.specs.declared.heading.Heading.{Heading}
use Rattle.seq_manifest.specs.declared.heading.Heading.TheVariants.{Version, Processors, Memories, Ios, Cache, Quantum, Journal}
use Rattle.seq_manifest.specs.Statements.{Statement, heading, segment, process, is_passed_over, said, is_file}
use Rattle.seq_manifest.specs.Drafts.{headings, numbers_in, segment_of, said_by, parts_of, content, IsSegmentDraft, IsProcessDraft, IsDraft, Describes}
use Rattle.seq_manifest.specs.Faults.{is_segment, is_process, is_in, is_owned, is_misplaced, place_of, is_within, is_allowed, is_out_of_limits, is_badly_listed, is_absent, some_below, has_gap, end_rule, fault_or, fault_from, first_fault}
use Rattle.seq_manifest.specs.Taking.{IsParts}
use Rattle.seq_manifest.proofs.Saying.{first_lines, segment_lines, process_lines, said_by-pieces, any-no, count-no, count-yes, length-zip_same, in-numbers_in, out-numbers_in, owned-said_by, some_process-said_by}
use Rattle.seq_manifest.proofs.Below.{some_below-true}
use Rattle.seq_manifest.proofs.Keeping.{any-true}
use Rattle.seq_manifest.proofs.Lines.{line_rule-said, with_line-said, line_rule-passed, with_line-passed}
use Rattle.seq_manifest.proofs.Ascending.{ascending-numbers_in}
use Rattle.seq_manifest.proofs.Ones.{ones-numbers_in}
use Rattle.seq_manifest.proofs.Steps.{IsFine, rule_of-IsFine, no_bit_above, count_zero}
use Rattle.seq_manifest.proofs.Numbering.{owners, some_owner}
use Rattle.seq_manifest.proofs.Texts.{somes, words_said, content-cons, fault_from-none, fault_from-end}

-- each of these statements violates no rule behind those before it
abbrev pub AllFine : List Statement → List Statement → Type 0
AllFine before [] = Unit {0}
AllFine before (s ∷ ss) = IsFine before s × AllFine (before ++ s ∷ []) ss

AllFine-append : (before xs ys : List Statement) → AllFine before xs → AllFine (before ++ xs) ys → AllFine before (xs ++ ys)
AllFine-append before [] ys f g = subst (λ b. AllFine b ys) (append-nil before) g
AllFine-append before (x ∷ xs) ys f g = (f.0, AllFine-append (before ++ x ∷ []) xs ys f.1 (subst (λ b. AllFine b ys) (sym (append_assoc before (x ∷ []) xs)) g))

-- ---- lines that say fine statements
no_more : (before after : List Statement) (place : ℕ) → [] ≡ somes after → end_rule (before ++ after) ≡ None → fault_from place before [] ≡ None
no_more before [] place e ended = fault_from-end place before ∙ ap (λ o. fault_or place o None) (sym (ap end_rule (append-nil before)) ∙ ended)
no_more before (s ∷ ss) place e ended = absurd cc

by_kind : (line : List ℕ) (lines : List (List ℕ)) (place : ℕ) (before : List Statement) (b : Bool) (after : List Statement)
    → ((place : ℕ) (before after : List Statement) → map said (content lines) ≡ somes after → AllFine before after → end_rule (before ++ after) ≡ None → fault_from place before lines ≡ None)
    → is_passed_over (words_of line) ≡ b → words_said (words_of line) ++ map said (content lines) ≡ somes after → AllFine before after → end_rule (before ++ after) ≡ None → fault_from place before (line ∷ lines) ≡ None
by_kind line lines place before true after again f g fine ended =
    let rest : map said (content lines) ≡ somes after = sym (ap (λ b. cond (not b) (said (words_of line) ∷ []) [] ++ map said (content lines)) f) ∙ g in
    fault_from-none place before line lines (line_rule-passed before (words_of line) (words_of line) refl f)
    ∙ ap (λ b. fault_from (place + 1) b lines) (with_line-passed before (words_of line) (words_of line) refl f)
    ∙ again (place + 1) before after rest fine ended
by_kind line lines place before false [] again f g fine ended =
    let some : said (words_of line) ∷ map said (content lines) ≡ [] = sym (ap (λ b. cond (not b) (said (words_of line) ∷ []) [] ++ map said (content lines)) f) ∙ g in
    absurd cc
by_kind line lines place before false (s ∷ ss) again f g fine ended =
    let some : said (words_of line) ∷ map said (content lines) ≡ Some s ∷ somes ss = sym (ap (λ b. cond (not b) (said (words_of line) ∷ []) [] ++ map said (content lines)) f) ∙ g in
    let first : said (words_of line) ≡ Some s = cc in
    let rest : map said (content lines) ≡ somes ss = cc in
    fault_from-none place before line lines (line_rule-said before (words_of line) (words_of line) (Some s) refl f first ∙ rule_of-IsFine before s fine.0)
    ∙ ap (λ b. fault_from (place + 1) b lines) (with_line-said before (words_of line) (words_of line) s refl f first)
    ∙ again (place + 1) (before ++ s ∷ []) ss rest fine.1 (ap end_rule (append_assoc before (s ∷ []) ss) ∙ ended)

pub fault_none : (lines : List (List ℕ)) (place : ℕ) (before after : List Statement) → map said (content lines) ≡ somes after → AllFine before after → end_rule (before ++ after) ≡ None → fault_from place before lines ≡ None
fault_none [] place before after e fine ended = no_more before after place e ended
fault_none (line ∷ lines) place before after e fine ended = by_kind line lines place before (is_passed_over (words_of line)) after (λ place before after e fine ended. fault_none lines place before after e fine ended) refl (sym (content-cons line lines) ∙ e) fine ended

-- ---- the statements of a draft are fine
heading_fine : (before : List Statement) (h : Heading) (n : ℕ) → length before ≡ place_of h → is_allowed h n ≡ true → IsFine before (heading h n)
unfolding is_misplaced is_out_of_limits is_badly_listed is_absent
heading_fine before h n at ok = record {
  placed = ap not (eq-eqb _ _ at);
  limited = ap not ok;
  listed = refl;
  there = refl;
}

within_from : (least most n : ℕ) → IsBetween least most n → is_within least most 1 n ≡ true
within_from least most n b = and_from _ _ (and_from _ _ (le-leb _ _ b.low_at) (le-leb _ _ b.high_at)) (eq-eqb _ _ (omega arith))

sized_from : (most n : ℕ) → IsSize most n → is_within 32 most 32 n ≡ true
sized_from most n b = and_from _ _ (and_from _ _ (le-leb _ _ b.between.low_at) (le-leb _ _ b.between.high_at)) (eq-eqb _ _ b.whole)

pub headings_fine : (d : Draft) → IsDraft d → AllFine [] (first_lines (parts_of d).numbers)
headings_fine d draft = (
  heading_fine _ Version 1 refl refl,
  (
    heading_fine _ Processors d.desc.processors refl (within_from 1 8 _ draft.processors),
    (
      heading_fine _ Memories d.desc.memories refl (within_from 2 8 _ draft.memories),
      (
        heading_fine _ Ios d.desc.ios refl (within_from 1 4 _ draft.ios),
        (
          heading_fine _ Cache d.desc.cache refl (within_from 16 256 _ draft.cache),
          (
            heading_fine _ Quantum d.desc.quantum refl (within_from 1 10000 _ draft.quantum),
            (heading_fine _ Journal d.desc.journal refl (sized_from 65536 _ draft.journal), tt),
          ),
        ),
      ),
    ),
  ),
)

any_push : (test : Statement → Bool) (before : List Statement) (s : Statement) → list_any test (before ++ s ∷ []) ≡ (list_any test before || (test s || false))
any_push test before s = list_any-append test before (s ∷ [])

pub segments_fine : (segs : List SegmentDesc) (firsts : List (List ℕ)) (before : List Statement) → length firsts ≡ length segs → 7 ≤ length before → list_any is_process before ≡ false → count_by is_segment before + length segs ≤ 16 → AllByRecursion IsSegmentDraft segs → AllFine before (segment_lines segs firsts)
unfolding is_misplaced is_out_of_limits is_badly_listed is_absent
segments_fine [] firsts before e long none room each = tt
segments_fine (s ∷ segs) [] before e long none room each = absurd (omega arith)
segments_fine (s ∷ segs) (f ∷ firsts) before e long none room each =
    let one = length_push before (segment s.size f) in
    let count = sum_by_push (λ s. cond (is_segment s) 1 0) before (segment s.size f) in (
      record {
        placed = or_from _ _ (or_from _ _ (le-ltb _ _ long) none) (lt-leb _ _ (omega (arith, room)));
        limited = ap not (sized_from 16384 s.size each.0.size);
        listed = refl;
        there = refl;
      },
      segments_fine segs firsts (before ++ segment s.size f ∷ []) (omega arith) (omega (arith, one, long)) (any_push is_process before (segment s.size f) ∙ or_from _ _ none refl) (omega (arith, count, room)) each.1,
    )

in_mask : (mask l : ℕ) → mask < 2 ^ 16 → is_in (numbers_in mask) l ≡ has_bit mask l
in_mask mask l small = elim (cases_lt l 16) [
  | inl lt ↦ in-numbers_in mask l lt
  | inr le ↦ out-numbers_in mask l le ∙ sym (no_bit_above mask l small le)
]

cond_or : (a b : Bool) → cond (a || (b || false)) 1 0 ≤ cond a 1 0 + cond b 1 0
cond_or true b = omega arith
cond_or false true = omega arith
cond_or false false = omega arith

owned_push : (before : List Statement) (file ls gs : List ℕ) (l : ℕ) → is_owned (before ++ process file ls gs ∷ []) l ≡ (is_owned before l || (is_in ls l || false))
unfolding is_owned
owned_push before file ls gs l = list_any-append _ before (process file ls gs ∷ [])

pub processes_fine : (qs : List ProcessDesc) (images : List (List ℕ)) (before : List Statement) (count : ℕ) → length images ≡ length qs → 7 ≤ length before → count_by is_process before + length qs ≤ 16 → count_by is_segment before ≡ count → AllByRecursion (IsProcessDraft count) qs → ((l : ℕ) → cond (is_owned before l) 1 0 + owners qs l ≤ 1) → AllFine before (process_lines qs images)
unfolding is_misplaced is_out_of_limits is_badly_listed is_absent
processes_fine [] images before count e long room segments each apart = tt
processes_fine (q ∷ qs) [] before count e long room segments each apart = absurd (omega arith)
processes_fine (q ∷ qs) (f ∷ images) before count e long room segments each apart =
    let s : Statement = process f (numbers_in q.lines) (numbers_in q.grants) in
    let one = length_push before s in
    let more = sum_by_push (λ s. cond (is_process s) 1 0) before s in
    let same = sum_by_push (λ s. cond (is_segment s) 1 0) before s in
    let few : length (numbers_in q.lines) ≤ 4 = omega (arith, ones-numbers_in q.lines each.0.line_mask, each.0.few) in (
      record {
        placed = or_from _ _ (le-ltb _ _ long) (lt-leb _ _ (omega (arith, room)));
        limited = refl;
        listed = or_from _ _ (or_from _ _ (or_from _ _ (ap not (ascending-numbers_in q.lines)) (ap not (ascending-numbers_in q.grants))) (le-ltb _ _ few))
            (false_from_ne_true _ (λ t. let w = any-true (is_owned before) (numbers_in q.lines) t in twice w.0 (sym (in_mask q.lines w.0 each.0.line_mask) ∙ w.1) w.2));
        there = or_from _ _
            (false_from_ne_true _ (λ t. let w = any-true (λ s. leb (count_by is_segment before) s) (numbers_in q.grants) t in
            let lt = each.0.granted w.0 (sym (in_mask q.grants w.0 each.0.grant_mask) ∙ w.1) in
            let le : count_by is_segment before ≤ w.0 = leb-true _ _ w.2 in
            omega (arith, lt, le, segments)))
            (false_from_ne_true _ (λ t. let w = any-true (λ l. leb 16 l) (numbers_in q.lines) t in
            both_ways _ (out-numbers_in q.lines w.0 (leb-true _ _ w.2)) w.1));
      },
      processes_fine qs images (before ++ s ∷ []) count (omega arith) (omega (arith, one, long)) (omega (arith, more, room)) (same ∙ omega (arith, segments)) each.1 (λ l. next l),
    )
  where
    twice : (l : ℕ) → has_bit q.lines l ≡ true → is_owned before l ≡ true → ⊥
    twice l bit owned =
        let both = apart l in
        let count = sum_by-cons (λ q. cond (has_bit q.lines l) 1 0) q qs in
        omega (arith, both, count, ap (λ b. cond {A = ℕ} b 1 0) bit, ap (λ b. cond {A = ℕ} b 1 0) owned)

    next : (l : ℕ) → cond (is_owned (before ++ process f (numbers_in q.lines) (numbers_in q.grants) ∷ []) l) 1 0 + owners qs l ≤ 1
    next l =
        let both = apart l in
        let count = sum_by-cons (λ q. cond (has_bit q.lines l) 1 0) q qs in
        let now = ap (λ b. cond {A = ℕ} b 1 0) (owned_push before f (numbers_in q.lines) (numbers_in q.grants) l) in
        let bit = ap (λ b. cond {A = ℕ} b 1 0) (in_mask q.lines l each.0.line_mask) in
        omega (arith, both, count, now, bit, cond_or (is_owned before l) (is_in (numbers_in q.lines) l))

-- ---- the draft's parts stand
at_most_one : (b : Bool) → cond {A = ℕ} b 1 0 ≤ 1
at_most_one true = omega arith
at_most_one false = omega arith

pub parts_stand : (d : Draft) → IsDraft d → IsParts (parts_of d)
parts_stand d draft = record {
  numbers = omega arith;
  allowed = and_from _ _ (within_from 1 8 d.desc.processors draft.processors) (and_from _ _ (within_from 2 8 d.desc.memories draft.memories) (and_from _ _ (within_from 1 4 d.desc.ios draft.ios) (and_from _ _ (within_from 16 256 d.desc.cache draft.cache) (and_from _ _ (within_from 1 10000 d.desc.quantum draft.quantum) (and_from _ _ (sized_from 65536 d.desc.journal draft.journal) refl)))));
  first = λ some. refl;
  segments = draft.segments;
  each_segment = recursion_from_All IsSegmentDraft d.desc.segments draft.each_segment;
  firsts = draft.firsts;
  each_first = recursion_from_All (λ name. (name ≡ []) ⊎ (is_file name ≡ true)) d.firsts draft.each_first;
  processes = draft.processes.high_at;
  each_process = recursion_from_All (IsProcessDraft (length d.desc.segments)) d.desc.processes draft.each_process;
  images = draft.images;
  each_image = recursion_from_All (λ name. is_file name ≡ true) d.images draft.each_image;
  apart = λ l. omega (arith, draft.lines l, at_most_one (ltb l (line_count d.desc)));
}

unowned_before : (numbers : List ℕ) (segs : List SegmentDesc) (firsts : List (List ℕ)) (l : ℕ) → is_owned (first_lines numbers ++ segment_lines segs firsts) l ≡ false
unfolding is_owned
unowned_before numbers segs firsts l =
    list_any-append _ (first_lines numbers) (segment_lines segs firsts)
    ∙ or_from _ _ (any-no _ (λ part. heading part.0 part.1) (λ x. refl) (zip headings numbers)) (any-no _ segment_of (λ x. refl) (zip segs firsts))

all_fine : (d : Draft) → IsDraft d → AllFine [] (said_by (parts_of d))
all_fine d draft =
    let parts = parts_stand d draft in
    let h = first_lines (parts_of d).numbers in
    let s = segment_lines d.desc.segments d.firsts in
    let hs = AllFine-append [] h s (headings_fine d draft) (segments_fine d.desc.segments d.firsts h draft.firsts (omega arith) refl (omega (arith, draft.segments)) parts.each_segment) in
    let ps = processes_fine d.desc.processes d.images (h ++ s) (length d.desc.segments) draft.images (omega arith)
    (omega (arith, count-no is_process segment_of (λ x. refl) (zip d.desc.segments d.firsts), draft.processes.high_at))
    (count-yes is_segment segment_of (λ x. refl) (zip d.desc.segments d.firsts) ∙ length-zip_same d.desc.segments d.firsts draft.firsts)
    parts.each_process
    (λ l. omega (arith, ap (λ b. cond {A = ℕ} b 1 0) (unowned_before (parts_of d).numbers d.desc.segments d.firsts l), parts.apart l)) in
    subst (AllFine []) (sym (said_by-pieces (parts_of d))) (AllFine-append [] (h ++ s) (process_lines d.desc.processes d.images) hs ps)

-- ---- and the text doesn't end too early
below_count : (n a b : ℕ) → n ≡ cond (ltb a b) 1 0 → 1 ≤ n → a < b
below_count n a b e some = elim (cases_lt a b) [ inl lt ↦ lt | inr le ↦ absurd (omega (arith, e, ap (λ t. cond {A = ℕ} t 1 0) (le-ltb a b le), some)) ]

gapless : (d : Draft) → IsDraft d → has_gap (said_by (parts_of d)) ≡ false
unfolding has_gap
gapless d draft = false_from_ne_true _ (λ t.
    let parts = parts_stand d draft in
    let w = some_below-true 16 (λ l. not (is_owned (said_by (parts_of d)) l) && some_below 16 (λ a. ltb l a && is_owned (said_by (parts_of d)) a)) t in
    let p = and_parts _ _ w.2 in
    let v = some_below-true 16 (λ a. ltb w.0 a && is_owned (said_by (parts_of d)) a) p.1 in
    let q = and_parts _ _ v.2 in
    let under : w.0 < v.0 = ltb-true _ _ q.0 in
    let owner = some_owner d.desc.processes v.0 (owned-said_by (parts_of d) v.0 parts v.1 ∙ q.1) in
    let counted : v.0 < line_count d.desc = below_count (owners d.desc.processes v.0) v.0 (line_count d.desc) (draft.lines v.0) owner in
    let here : owners d.desc.processes w.0 ≡ 0 = count_zero (λ q. has_bit q.lines w.0) d.desc.processes (owned-said_by (parts_of d) w.0 parts w.1 ∙ not-true _ p.0) in
    let one : cond {A = ℕ} (ltb w.0 (line_count d.desc)) 1 0 ≡ 1 = ap (λ t. cond {A = ℕ} t 1 0) (lt-ltb _ _ (omega arith)) in
    let told : owners d.desc.processes w.0 ≡ cond (ltb w.0 (line_count d.desc)) 1 0 = draft.lines w.0 in
    omega (arith, here, one, told))

ends_well : (d : Draft) → IsDraft d → end_rule (said_by (parts_of d)) ≡ None
ends_well d draft =
    let parts = parts_stand d draft in
    let some : list_any is_process (said_by (parts_of d)) ≡ true = sym (some_process-said_by (parts_of d) parts) ∙ lt-ltb _ _ draft.processes.low_at in
    rw (some, gapless d draft) refl

pub no_fault : (text : List ℕ) (d : Draft) → Describes text d → first_fault text ≡ None
no_fault text d h = fault_none (lines_of text) 1 [] (said_by (parts_of d)) h.lines (all_fine d h.draft) (ends_well d h.draft)
