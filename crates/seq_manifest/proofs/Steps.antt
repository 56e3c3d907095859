-- One statement that violates no rule, on parts that stand.
use Rattle.std.proofs.Common.{◌≡◌, ℕ, zero, suc, ◌+◌, ◌^◌, ◌<◌, ◌≤◌, Bool, true, false, cond, leb, ◌⊎◌, Option, Some, None, List, [], ◌∷◌, ◌++◌, map, drop, length, inl, inr, refl, sym, ap, subst, ◌∙◌, append_assoc, arith, count_by}
use Rattle.std.specs.List.{list_any, list_all, zip, AllByRecursion}
use Rattle.std.proofs.lemmas.Bool.{cases_lt, ltb-false, leb-true, leb-false, lt-ltb, le-leb, eqb-true, ne_eqb, not-false, or_parts, and_parts, and_from, false≢true, both_ways}
use Rattle.std.proofs.lemmas.List.{append-nil, map_push, length_push, nil_from_length}
use Rattle.std.proofs.lemmas.List.Folds.{list_all-append}
use Rattle.std.proofs.lemmas.List.Sums.{sum_by_push, sum_by-cons}
use Rattle.std.proofs.lemmas.Nat.Bits.{bit_at_above}
use Rattle.seq_words.specs.Masks.{has_bit}
use Rattle.seq_words.specs.Description.{IsSize}
use Rattle.seq_words.specs.declared.description.SegmentDesc.{SegmentDesc}
use Rattle.seq_words.specs.declared.description.ProcessDesc.{ProcessDesc}
use Rattle.seq_text.specs.Numbers.{capped}
use Rattle.seq_manifest.specs.declared.parts.Parts.{Parts}
use Rattle.seq_manifest.specs.declared.heading.Heading.{Heading}
use Rattle.seq_manifest.specs.declared.heading.Heading.TheVariants.{Version, Processors, Memories, Ios, Cache, Quantum, Journal}
use Rattle.seq_manifest.specs.Statements.{Statement, heading, segment, process, is_file}
use Rattle.seq_manifest.specs.Drafts.{headings, numbers_in, segment_of, process_of, said_by, IsSegmentDraft, IsProcessDraft}
use Rattle.seq_manifest.specs.Faults.{is_segment, is_in, is_owned, is_misplaced, place_of, is_within, is_allowed, is_out_of_limits, is_ascending, is_badly_listed, is_absent, rule_of}
use Rattle.seq_manifest.specs.Kept.{mask_of, kept}
use Rattle.seq_manifest.specs.Taking.{with_kept, IsParts}
use Rattle.seq_manifest.proofs.Sequences.{capped-small}
use Rattle.seq_manifest.proofs.Saying.{first_lines, segment_lines, process_lines, said_by-pieces, length-said_by, segments-said_by, processes-said_by, some_process-said_by, owned-said_by}
use Rattle.seq_manifest.proofs.Keeping.{has_bit-mask_of, mask_of-small, any-from}
use Rattle.seq_manifest.proofs.Lines.{IsForm}
use Rattle.seq_manifest.proofs.Ones.{ones-numbers_in}
use Rattle.seq_manifest.proofs.Ascending.{numbers_in-mask_of}

pub guard : (b : Bool) (x : ℕ) (r : Option ℕ) → cond b (Some x) r ≡ None → (b ≡ false) × (r ≡ None)
guard true x r e = absurd cc
guard false x r e = (refl, e)

-- no rule is violated
pub record IsFine (before : List Statement) (s : Statement) : Type 0 where
  pub placed : is_misplaced before s ≡ false
  pub limited : is_out_of_limits s ≡ false
  pub listed : is_badly_listed before s ≡ false
  pub there : is_absent before s ≡ false

pub IsFine-from : (before : List Statement) (s : Statement) → rule_of before (Some s) ≡ None → IsFine before s
IsFine-from before s e =
    let a = guard (is_misplaced before s) 11 _ e in
    let b = guard (is_out_of_limits s) 12 _ a.1 in
    let c = guard (is_badly_listed before s) 13 _ b.1 in
    let d = guard (is_absent before s) 14 _ c.1 in
    record { placed = a.0; limited = b.0; listed = c.0; there = d.0 }

pub rule_of-IsFine : (before : List Statement) (s : Statement) → IsFine before s → rule_of before (Some s) ≡ None
rule_of-IsFine before s f = rw (f.placed, f.limited, f.listed, f.there) refl

-- ---- lists that grow
pub all_push : {A : Type 0} (P : A → Type 0) (xs : List A) (x : A) → AllByRecursion P xs → P x → AllByRecursion P (xs ++ x ∷ [])
all_push P [] x h p = (p, tt)
all_push P (y ∷ xs) x h p = (h.0, all_push P xs x h.1 p)

zip-nil : {A B : Type 0} (xs : List A) → zip {X = B} xs [] ≡ []
zip-nil [] = refl
zip-nil (x ∷ xs) = refl

zip_push : {A B : Type 0} (xs : List A) (ys : List B) (x : A) (y : B) → length ys ≡ length xs → zip (xs ++ x ∷ []) (ys ++ y ∷ []) ≡ zip xs ys ++ (x, y) ∷ []
zip_push [] [] x y e = refl
zip_push [] (b ∷ ys) x y e = absurd (omega arith)
zip_push (a ∷ xs) [] x y e = absurd (omega arith)
zip_push (a ∷ xs) (b ∷ ys) x y e = ap (λ zs. (a, b) ∷ zs) (zip_push xs ys x y (omega arith))

zip_next : {A B : Type 0} (xs rest : List A) (ys : List B) (x : A) (y : B) → drop (length ys) xs ≡ x ∷ rest → zip xs (ys ++ y ∷ []) ≡ zip xs ys ++ (x, y) ∷ []
zip_next [] rest [] x y e = absurd cc
zip_next [] rest (b ∷ ys) x y e = absurd cc
zip_next (a ∷ xs) rest [] x y e = let same : a ≡ x = cc in ap (λ zs. (a, y) ∷ zs) (zip-nil xs) ∙ ap (λ z. (z, y) ∷ []) same
zip_next (a ∷ xs) rest (b ∷ ys) x y e = ap (λ zs. (a, b) ∷ zs) (zip_next xs rest ys x y e)

-- ---- a first line
place-lt : (h : Heading) → place_of h < 7
place-lt Version = omega arith
place-lt Processors = omega arith
place-lt Memories = omega arith
place-lt Ios = omega arith
place-lt Cache = omega arith
place-lt Quantum = omega arith
place-lt Journal = omega arith

pub at_place : (h : Heading) → (rest : List Heading) × (drop (place_of h) headings ≡ h ∷ rest)
at_place Version = (Processors ∷ Memories ∷ Ios ∷ Cache ∷ Quantum ∷ Journal ∷ [], refl)
at_place Processors = (Memories ∷ Ios ∷ Cache ∷ Quantum ∷ Journal ∷ [], refl)
at_place Memories = (Ios ∷ Cache ∷ Quantum ∷ Journal ∷ [], refl)
at_place Ios = (Cache ∷ Quantum ∷ Journal ∷ [], refl)
at_place Cache = (Quantum ∷ Journal ∷ [], refl)
at_place Quantum = (Journal ∷ [], refl)
at_place Journal = ([], refl)

within-most : (least most unit n : ℕ) → is_within least most unit n ≡ true → n ≤ most
within-most least most unit n e = leb-true _ _ (and_parts _ _ (and_parts _ _ e).0).1

allowed-le : (h : Heading) (n : ℕ) → is_allowed h n ≡ true → n ≤ 65536
allowed-le Version n e = omega (arith, within-most 1 1 1 n e)
allowed-le Processors n e = omega (arith, within-most 1 8 1 n e)
allowed-le Memories n e = omega (arith, within-most 2 8 1 n e)
allowed-le Ios n e = omega (arith, within-most 1 4 1 n e)
allowed-le Cache n e = omega (arith, within-most 16 256 1 n e)
allowed-le Quantum n e = omega (arith, within-most 1 10000 1 n e)
allowed-le Journal n e = omega (arith, within-most 32 65536 32 n e)

pub zip_heading : (numbers : List ℕ) (h : Heading) (n : ℕ) → length numbers ≡ place_of h → zip headings (numbers ++ n ∷ []) ≡ zip headings numbers ++ (h, n) ∷ []
zip_heading numbers h n e = let r = at_place h in zip_next headings r.0 numbers h n (ap (λ k. drop k headings) e ∙ r.1)

-- what a step gives
pub record Steps (p : Parts) (s : Statement) : Type 0 where
  pub parts : IsParts (with_kept p (kept s))
  pub said : said_by (with_kept p (kept s)) ≡ said_by p ++ s ∷ []

middle : {A : Type 0} (a b c : List A) (x : A) → b ≡ [] → c ≡ [] → (a ++ x ∷ []) ++ b ++ c ≡ (a ++ b ++ c) ++ x ∷ []
middle a b c x e f = rw (e, f) (append-nil _ ∙ append-nil _ ∙ sym (ap (λ z. z ++ x ∷ []) (append-nil _ ∙ append-nil _)))

-- ---- by kinds
pub heading_step : (p : Parts) (h : Heading) (n : ℕ) → IsParts p → IsFine (said_by p) (heading h n) → Steps p (heading h n)
unfolding is_misplaced is_out_of_limits
heading_step p h n parts fine =
    let at : length (said_by p) ≡ place_of h = eqb-true _ _ (not-false _ fine.placed) in
    let count = length-said_by p parts in
    let ok : is_allowed h n ≡ true = not-false _ fine.limited in
    let small = allowed-le h n ok in
    let exact : capped n ≡ n = capped-small n (omega arith) in
    let before = place-lt h in
    let none : length p.segments + length p.processes ≡ 0 = nothing (length p.segments + length p.processes) (λ some. let full = parts.first some in omega (arith, full, count, at, before)) in
    let no_segments : p.segments ≡ [] = nil_from_length p.segments (omega arith) in
    let no_processes : p.processes ≡ [] = nil_from_length p.processes (omega arith) in
    let place : length p.numbers ≡ place_of h = omega arith in
    let zipped : zip headings (p.numbers ++ capped n ∷ []) ≡ zip headings p.numbers ++ (h, n) ∷ [] = zip_heading p.numbers h (capped n) place ∙ ap (λ k. zip headings p.numbers ++ (h, k) ∷ []) exact in
    let lines : first_lines (p.numbers ++ capped n ∷ []) ≡ first_lines p.numbers ++ heading h n ∷ [] = ap (map (λ part. heading part.0 part.1)) zipped ∙ map_push (λ part. heading part.0 part.1) (zip headings p.numbers) (h, n) in
    let one = length_push p.numbers (capped n) in
    record {
      parts = record {
        numbers = omega (arith, one, place, before);
        allowed = ap (list_all (λ part. is_allowed part.0 part.1)) zipped ∙ list_all-append (λ part. is_allowed part.0 part.1) (zip headings p.numbers) ((h, n) ∷ []) ∙ and_from _ _ parts.allowed (and_from _ _ ok refl);
        first = λ some. absurd (omega (arith, none, some));
        segments = parts.segments;
        each_segment = parts.each_segment;
        firsts = parts.firsts;
        each_first = parts.each_first;
        processes = parts.processes;
        each_process = parts.each_process;
        images = parts.images;
        each_image = parts.each_image;
        apart = parts.apart;
      };
      said = said_by-pieces (with_kept p (kept (heading h n)))
          ∙ ap (λ z. z ++ segment_lines p.segments p.firsts ++ process_lines p.processes p.images) lines
          ∙ middle (first_lines p.numbers) (segment_lines p.segments p.firsts) (process_lines p.processes p.images) (heading h n) (ap (λ ss. segment_lines ss p.firsts) no_segments) (ap (λ ps. process_lines ps p.images) no_processes)
          ∙ ap (λ z. z ++ heading h n ∷ []) (sym (said_by-pieces p));
    }
  where
    nothing : (n : ℕ) → (0 < n → ⊥) → n ≡ 0
    nothing zero f = refl
    nothing (suc n) f = absurd (f (omega arith))

size-from : (n : ℕ) → is_within 32 16384 32 n ≡ true → IsSize 16384 n
size-from n e =
    let both = and_parts _ _ e in
    let ends = and_parts _ _ both.0 in
    record { between = record { low_at = leb-true _ _ ends.0; high_at = leb-true _ _ ends.1 }; whole = eqb-true _ _ both.1 }

pub segment_step : (p : Parts) (size : ℕ) (file : List ℕ) → IsParts p → (file ≡ []) ⊎ (is_file file ≡ true) → IsFine (said_by p) (segment size file) → Steps p (segment size file)
unfolding is_misplaced is_out_of_limits
segment_step p size file parts form fine =
    let a = or_parts _ _ fine.placed in
    let b = or_parts _ _ a.0 in
    let count = length-said_by p parts in
    let headed : 7 ≤ length (said_by p) = ltb-false _ _ b.0 in
    let no_process : 0 < length p.processes → ⊥ = λ lt. false≢true (sym b.1 ∙ sym (some_process-said_by p parts) ∙ lt-ltb _ _ lt) in
    let zero_processes : length p.processes ≡ 0 = nothing (length p.processes) no_process in
    let none : p.processes ≡ [] = nil_from_length p.processes zero_processes in
    let room : length p.segments < 16 = omega (arith, leb-false _ _ a.1, segments-said_by p parts) in
    let sized : is_within 32 16384 32 size ≡ true = not-false _ fine.limited in
    let most = within-most 32 16384 32 size sized in
    let exact : capped size ≡ size = capped-small size (omega arith) in
    let seven : length p.numbers ≡ 7 = full (length p.numbers) (length p.segments) (length p.processes) parts.numbers parts.first zero_processes (omega (arith, headed, count)) in
    let made : SegmentDesc = record { size = capped size; first = [] } in
    let zipped = zip_push p.segments p.firsts made file parts.firsts in
    let lines : segment_lines (p.segments ++ made ∷ []) (p.firsts ++ file ∷ []) ≡ segment_lines p.segments p.firsts ++ segment size file ∷ [] = ap (map segment_of) zipped ∙ map_push segment_of (zip p.segments p.firsts) (made, file) ∙ ap (λ k. segment_lines p.segments p.firsts ++ segment k file ∷ []) exact in
    let one = length_push p.segments made in
    let one_first = length_push p.firsts file in
    record {
      parts = record {
        numbers = parts.numbers;
        allowed = parts.allowed;
        first = λ some. seven;
        segments = omega (arith, one, room);
        each_segment = all_push IsSegmentDraft p.segments made parts.each_segment (record { size = subst (IsSize 16384) (sym exact) (size-from size sized); first = refl });
        firsts = omega (arith, one, one_first, parts.firsts);
        each_first = all_push (λ name. (name ≡ []) ⊎ (is_file name ≡ true)) p.firsts file parts.each_first form;
        processes = parts.processes;
        each_process = subst (λ ps. AllByRecursion (IsProcessDraft (length (p.segments ++ made ∷ []))) ps) (sym none) tt;
        images = parts.images;
        each_image = parts.each_image;
        apart = parts.apart;
      };
      said = said_by-pieces (with_kept p (kept (segment size file)))
          ∙ ap (λ z. first_lines p.numbers ++ z ++ process_lines p.processes p.images) lines
          ∙ last (first_lines p.numbers) (segment_lines p.segments p.firsts) (process_lines p.processes p.images) (segment size file) (ap (λ ps. process_lines ps p.images) none)
          ∙ ap (λ z. z ++ segment size file ∷ []) (sym (said_by-pieces p));
    }
  where
    nothing : (n : ℕ) → (0 < n → ⊥) → n ≡ 0
    nothing zero f = refl
    nothing (suc n) f = absurd (f (omega arith))

    full : (n s q : ℕ) → n ≤ 7 → (0 < s + q → n ≡ 7) → q ≡ 0 → 7 ≤ n + s → n ≡ 7
    full n zero q le f e h = omega arith
    full n (suc s) q le f e h = f (omega arith)

    last : (a b c : List Statement) (x : Statement) → c ≡ [] → a ++ (b ++ x ∷ []) ++ c ≡ (a ++ b ++ c) ++ x ∷ []
    last a b c x e = rw e (append-nil _ ∙ sym (append_assoc a b (x ∷ [])) ∙ sym (ap (λ z. z ++ x ∷ []) (append-nil _)))

pub no_bit_above : (mask s : ℕ) → mask < 2 ^ 16 → 16 ≤ s → has_bit mask s ≡ false
no_bit_above mask s lt le = ne_eqb _ _ (λ e. absurd (omega (arith, e, bit_at_above mask 16 s lt le)))

pub count_zero : {A : Type 0} (test : A → Bool) (xs : List A) → list_any test xs ≡ false → count_by test xs ≡ 0
count_zero test [] e = refl
count_zero test (x ∷ xs) e = let p : (test x ≡ false) × (list_any test xs ≡ false) = or_parts _ _ e in let rest = count_zero test xs p.1 in sum_by-cons (λ y. cond (test y) 1 0) x xs ∙ rw p.0 (omega (arith, rest))

process_first : (n s q : ℕ) → n ≤ 7 → (0 < s + q → n ≡ 7) → 7 ≤ n + s + q → n ≡ 7
process_first n zero zero le f h = omega arith
process_first n (suc s) q le f h = f (omega arith)
process_first n zero (suc q) le f h = f (omega arith)

pub process_step : (p : Parts) (file lines segments : List ℕ) → IsParts p → is_file file ≡ true → IsFine (said_by p) (process file lines segments) → Steps p (process file lines segments)
unfolding is_misplaced is_badly_listed is_absent
process_step p file lines segments parts form fine =
    let a = or_parts _ _ fine.placed in
    let headed : 7 ≤ length (said_by p) = ltb-false _ _ a.0 in
    let room : length p.processes < 16 = omega (arith, leb-false _ _ a.1, processes-said_by p parts) in
    let count = length-said_by p parts in
    let seven : length p.numbers ≡ 7 = process_first (length p.numbers) (length p.segments) (length p.processes) parts.numbers parts.first (omega (arith, headed, count)) in
    let l1 = or_parts _ _ fine.listed in
    let l2 = or_parts _ _ l1.0 in
    let l3 = or_parts _ _ l2.0 in
    let lines_asc : is_ascending lines ≡ true = not-false _ l3.0 in
    let segments_asc : is_ascending segments ≡ true = not-false _ l3.1 in
    let few : length lines ≤ 4 = ltb-false _ _ l2.1 in
    let t = or_parts _ _ fine.there in
    let line_below : (k : ℕ) → is_in lines k ≡ true → k < 16 = λ k i. below k 16 (λ le. both_ways _ t.1 (any-from (λ l. leb 16 l) lines k i (le-leb _ _ le))) in
    let segment_there : (k : ℕ) → is_in segments k ≡ true → k < length p.segments = λ k i. below k (length p.segments) (λ le. both_ways _ t.0 (any-from (λ s. leb (count_by is_segment (said_by p)) s) segments k i (le-leb _ _ (omega (arith, le, segments-said_by p parts))))) in
    let segment_below : (k : ℕ) → is_in segments k ≡ true → k < 16 = λ k i. omega (arith, segment_there k i, parts.segments) in
    let made : ProcessDesc = record { size = 0; entry = 0; image = []; lines = mask_of lines; grants = mask_of segments } in
    let lines_back = numbers_in-mask_of lines lines_asc line_below in
    let segments_back = numbers_in-mask_of segments segments_asc segment_below in
    let zipped = zip_push p.processes p.images made file parts.images in
    let said_lines : process_lines (p.processes ++ made ∷ []) (p.images ++ file ∷ []) ≡ process_lines p.processes p.images ++ process file lines segments ∷ [] =
    ap (map process_of) zipped ∙ map_push process_of (zip p.processes p.images) (made, file) ∙ ap (λ x. process_lines p.processes p.images ++ process file x (numbers_in (mask_of segments)) ∷ []) lines_back ∙ ap (λ x. process_lines p.processes p.images ++ process file lines x ∷ []) segments_back in
    let one = length_push p.processes made in
    let one_image = length_push p.images file in
    record {
      parts = record {
        numbers = parts.numbers;
        allowed = parts.allowed;
        first = λ some. seven;
        segments = parts.segments;
        each_segment = parts.each_segment;
        firsts = parts.firsts;
        each_first = parts.each_first;
        processes = omega (arith, one, room);
        each_process = all_push (IsProcessDraft (length p.segments)) p.processes made parts.each_process (record {
          size = refl;
          entry = refl;
          image = refl;
          line_mask = mask_of-small lines;
          grant_mask = mask_of-small segments;
          few = omega (arith, ones-numbers_in (mask_of lines) (mask_of-small lines), ap length lines_back, few);
          granted = λ s bit. granted s bit (cases_lt s 16) segment_there;
        });
        images = omega (arith, one, one_image, parts.images);
        each_image = all_push (λ name. is_file name ≡ true) p.images file parts.each_image form;
        apart = λ l. omega (arith, sum_by_push (λ q. cond (has_bit q.lines l) 1 0) p.processes made, once l (has_bit (mask_of lines) l) refl l1.1);
      };
      said = said_by-pieces (with_kept p (kept (process file lines segments)))
          ∙ ap (λ z. first_lines p.numbers ++ segment_lines p.segments p.firsts ++ z) said_lines
          ∙ sym (append_assoc (first_lines p.numbers ++ segment_lines p.segments p.firsts) (process_lines p.processes p.images) (process file lines segments ∷ []))
          ∙ ap (λ z. z ++ process file lines segments ∷ []) (sym (said_by-pieces p));
    }
  where
    below : (k n : ℕ) → (n ≤ k → ⊥) → k < n
    below k n h = elim (cases_lt k n) [ inl lt ↦ lt | inr le ↦ absurd (h le) ]

    granted : (s : ℕ) → has_bit (mask_of segments) s ≡ true → (s < 16) ⊎ (16 ≤ s) → ((k : ℕ) → is_in segments k ≡ true → k < length p.segments) → s < length p.segments
    granted s bit (inl lt) there = there s (sym (has_bit-mask_of segments s lt) ∙ bit)
    granted s bit (inr le) there = absurd (both_ways _ (no_bit_above (mask_of segments) s (mask_of-small segments) le) bit)

    unowned : (l : ℕ) → has_bit (mask_of lines) l ≡ true → list_any (is_owned (said_by p)) lines ≡ false → (s : (l < 16) ⊎ (16 ≤ l)) → list_any (λ q. has_bit q.lines l) p.processes ≡ false
    unowned l bit none (inl lt) = false_else _ (λ owned. both_ways _ none (any-from (is_owned (said_by p)) lines l (sym (has_bit-mask_of lines l lt) ∙ bit) (sym (owned-said_by p l parts lt) ∙ owned)))
      where
        false_else : (b : Bool) → (b ≡ true → ⊥) → b ≡ false
        false_else true h = absurd (h refl)
        false_else false h = refl
    unowned l bit none (inr le) = absurd (both_ways _ (no_bit_above (mask_of lines) l (mask_of-small lines) le) bit)

    once : (l : ℕ) (b : Bool) → has_bit (mask_of lines) l ≡ b → list_any (is_owned (said_by p)) lines ≡ false → count_by (λ q. has_bit q.lines l) p.processes + cond b 1 0 ≤ 1
    once l true e none = omega (arith, count_zero (λ q. has_bit q.lines l) p.processes (unowned l e none (cases_lt l 16)))
    once l false e none = omega (arith, parts.apart l)

-- a statement that violates no rule is taken
pub step : (p : Parts) (s : Statement) → IsParts p → IsForm s → rule_of (said_by p) (Some s) ≡ None → Steps p s
step p (heading h n) parts form e = heading_step p h n parts (IsFine-from _ _ e)
step p (segment size file) parts form e = segment_step p size file parts form (IsFine-from _ _ e)
step p (process file lines segments) parts form e = process_step p file lines segments parts form (IsFine-from _ _ e)
