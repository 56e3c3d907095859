-- What the statements that made some parts are.
use Rattle.std.proofs.Common.{◌≡◌, ℕ, zero, suc, ◌+◌, ◌<◌, ◌≤◌, Bool, true, false, ◌&&◌, ◌||◌, cond, ltb, eqb, List, [], ◌∷◌, ◌++◌, map, length, inl, inr, refl, sym, ap, ◌∙◌, arith, count_by, zero-add}
use Rattle.std.specs.List.{list_any, filter, zip, range_with_len}
use Rattle.std.proofs.lemmas.Bool.{cases_lt, cases_eq, lt-ltb, eq-eqb, ne_eqb}
use Rattle.std.proofs.lemmas.List.{length-append, length-map}
use Rattle.std.proofs.lemmas.List.Folds.{list_any-append}
use Rattle.std.proofs.lemmas.List.Sums.{sum_by-append, sum_by-cons}
use Rattle.std.proofs.lemmas.Slice.Zip.{length-zip}
use Rattle.std.proofs.Math.Nat.{min-eq_left, min-eq_right}
use Rattle.seq_words.specs.Masks.{has_bit}
use Rattle.seq_words.specs.declared.description.SegmentDesc.{SegmentDesc}
use Rattle.seq_words.specs.declared.description.ProcessDesc.{ProcessDesc}
use Rattle.seq_manifest.specs.declared.parts.Parts.{Parts}
use Rattle.seq_manifest.specs.declared.heading.Heading.{Heading}
use Rattle.seq_manifest.specs.Statements.{Statement, heading, segment}
use Rattle.seq_manifest.specs.Drafts.{headings, numbers_in, segment_of, process_of, said_by}
use Rattle.seq_manifest.specs.Faults.{is_segment, is_process, is_in, owns, is_owned}
use Rattle.seq_manifest.specs.Taking.{IsParts}

-- ---- the three pieces
abbrev pub first_lines : List ℕ → List Statement
first_lines numbers = map (λ part. heading part.0 part.1) (zip headings numbers)

abbrev pub segment_lines : List SegmentDesc → List (List ℕ) → List Statement
segment_lines segments firsts = map segment_of (zip segments firsts)

abbrev pub process_lines : List ProcessDesc → List (List ℕ) → List Statement
process_lines processes images = map process_of (zip processes images)

pub said_by-pieces : (p : Parts) → said_by p ≡ first_lines p.numbers ++ segment_lines p.segments p.firsts ++ process_lines p.processes p.images
unfolding said_by
said_by-pieces p = refl

length-zipped : {A B : Type 0} (xs : List A) (ys : List B) → length ys ≤ length xs → length (zip xs ys) ≡ length ys
length-zipped xs ys le = length-zip xs ys ∙ min-eq_right le

pub length-zip_same : {A B : Type 0} (xs : List A) (ys : List B) → length ys ≡ length xs → length (zip xs ys) ≡ length xs
length-zip_same xs ys e = length-zip xs ys ∙ min-eq_left (omega (arith, e))

-- a count and a test over what a function makes
pub count-no : {A : Type 0} (test : Statement → Bool) (f : A → Statement) (fails : (x : A) → test (f x) ≡ false) (xs : List A) → count_by test (map f xs) ≡ 0
count-no test f fails [] = refl
count-no test f fails (x ∷ xs) = sum_by-cons (λ s. cond (test s) 1 0) (f x) (map f xs) ∙ rw (fails x) (zero-add _ ∙ count-no test f fails xs)

pub count-yes : {A : Type 0} (test : Statement → Bool) (f : A → Statement) (passes : (x : A) → test (f x) ≡ true) (xs : List A) → count_by test (map f xs) ≡ length xs
count-yes test f passes [] = refl
count-yes test f passes (x ∷ xs) = sum_by-cons (λ s. cond (test s) 1 0) (f x) (map f xs) ∙ rw (passes x) (let e = count-yes test f passes xs in omega (arith, e))

pub any-no : {A : Type 0} (test : Statement → Bool) (f : A → Statement) (fails : (x : A) → test (f x) ≡ false) (xs : List A) → list_any test (map f xs) ≡ false
any-no test f fails [] = refl
any-no test f fails (x ∷ xs) = rw (fails x) (any-no test f fails xs)

any-yes : {A : Type 0} (test : Statement → Bool) (f : A → Statement) (passes : (x : A) → test (f x) ≡ true) (xs : List A) → list_any test (map f xs) ≡ ltb 0 (length xs)
any-yes test f passes [] = refl
any-yes test f passes (x ∷ xs) = let some : ltb 0 (suc (length xs)) ≡ true = lt-ltb _ _ (omega arith) in rw (passes x, some) refl

-- ---- how many there are
pub length-said_by : (p : Parts) → IsParts p → length (said_by p) ≡ length p.numbers + length p.segments + length p.processes
length-said_by p h =
    let a = length-map (zip headings p.numbers) (λ part. heading part.0 part.1) ∙ length-zipped headings p.numbers h.numbers in
    let b = length-map (zip p.segments p.firsts) segment_of ∙ length-zip_same p.segments p.firsts h.firsts in
    let c = length-map (zip p.processes p.images) process_of ∙ length-zip_same p.processes p.images h.images in
    let d = length-append (first_lines p.numbers ++ segment_lines p.segments p.firsts) (process_lines p.processes p.images) in
    let e = length-append (first_lines p.numbers) (segment_lines p.segments p.firsts) in
    ap length (said_by-pieces p) ∙ omega (arith, a, b, c, d, e)

pub segments-said_by : (p : Parts) → IsParts p → count_by is_segment (said_by p) ≡ length p.segments
segments-said_by p h =
    let a = count-no is_segment (λ part. heading part.0 part.1) (λ x. refl) (zip headings p.numbers) in
    let b = count-yes is_segment segment_of (λ x. refl) (zip p.segments p.firsts) ∙ length-zip_same p.segments p.firsts h.firsts in
    let c = count-no is_segment process_of (λ x. refl) (zip p.processes p.images) in
    let d = sum_by-append (λ s. cond (is_segment s) 1 0) (first_lines p.numbers ++ segment_lines p.segments p.firsts) (process_lines p.processes p.images) in
    let e = sum_by-append (λ s. cond (is_segment s) 1 0) (first_lines p.numbers) (segment_lines p.segments p.firsts) in
    ap (count_by is_segment) (said_by-pieces p) ∙ omega (arith, a, b, c, d, e)

pub processes-said_by : (p : Parts) → IsParts p → count_by is_process (said_by p) ≡ length p.processes
processes-said_by p h =
    let a = count-no is_process (λ part. heading part.0 part.1) (λ x. refl) (zip headings p.numbers) in
    let b = count-no is_process segment_of (λ x. refl) (zip p.segments p.firsts) in
    let c = count-yes is_process process_of (λ x. refl) (zip p.processes p.images) ∙ length-zip_same p.processes p.images h.images in
    let d = sum_by-append (λ s. cond (is_process s) 1 0) (first_lines p.numbers ++ segment_lines p.segments p.firsts) (process_lines p.processes p.images) in
    let e = sum_by-append (λ s. cond (is_process s) 1 0) (first_lines p.numbers) (segment_lines p.segments p.firsts) in
    ap (count_by is_process) (said_by-pieces p) ∙ omega (arith, a, b, c, d, e)

or_false : (b : Bool) → (b || false) ≡ b
or_false true = refl
or_false false = refl

-- a test that only processes pass
pub any-said_by : (test : Statement → Bool) (p : Parts) → ((h : Heading) (n : ℕ) → test (heading h n) ≡ false) → ((n : ℕ) (file : List ℕ) → test (segment n file) ≡ false) → list_any test (said_by p) ≡ list_any test (process_lines p.processes p.images)
any-said_by test p no_heading no_segment =
    let a = any-no test (λ part. heading part.0 part.1) (λ x. no_heading x.0 x.1) (zip headings p.numbers) in
    let b = any-no test segment_of (λ x. no_segment x.0.size x.1) (zip p.segments p.firsts) in
    let both : list_any test (first_lines p.numbers ++ segment_lines p.segments p.firsts) ≡ false = list_any-append test (first_lines p.numbers) (segment_lines p.segments p.firsts) ∙ rw (a, b) refl in
    ap (list_any test) (said_by-pieces p) ∙ list_any-append test (first_lines p.numbers ++ segment_lines p.segments p.firsts) (process_lines p.processes p.images)
    ∙ ap (λ t. t || list_any test (process_lines p.processes p.images)) both

pub some_process-said_by : (p : Parts) → IsParts p → ltb 0 (length p.processes) ≡ list_any is_process (said_by p)
some_process-said_by p h =
    let c = any-yes is_process process_of (λ x. refl) (zip p.processes p.images) ∙ ap (ltb 0) (length-zip_same p.processes p.images h.images) in
    sym (any-said_by is_process p (λ h n. refl) (λ n file. refl) ∙ c)

-- ---- the numbers of a mask
cond_in : (b : Bool) (x l : ℕ) (xs : List ℕ) → is_in (cond b (x ∷ xs) xs) l ≡ ((b && eqb x l) || is_in xs l)
cond_in true x l xs = refl
cond_in false x l xs = refl

and_false : (b : Bool) → (b && false) ≡ false
and_false true = refl
and_false false = refl

in_below : (test : ℕ → Bool) (lo n l : ℕ) → l < lo → is_in (filter test (range_with_len lo n)) l ≡ false
in_below test lo zero l lt = refl
in_below test lo (suc n) l lt =
    let ne : eqb lo l ≡ false = ne_eqb _ _ (λ e. absurd (omega (arith, e))) in
    cond_in (test lo) lo l (filter test (range_with_len (lo + 1) n)) ∙ rw (ne, and_false (test lo)) (in_below test (lo + 1) n l (omega arith))

in_above : (test : ℕ → Bool) (lo n l : ℕ) → lo + n ≤ l → is_in (filter test (range_with_len lo n)) l ≡ false
in_above test lo zero l le = refl
in_above test lo (suc n) l le =
    let ne : eqb lo l ≡ false = ne_eqb _ _ (λ e. absurd (omega (arith, e))) in
    cond_in (test lo) lo l (filter test (range_with_len (lo + 1) n)) ∙ rw (ne, and_false (test lo)) (in_above test (lo + 1) n l (omega arith))

in_range : (test : ℕ → Bool) (lo n l : ℕ) → lo ≤ l → l < lo + n → is_in (filter test (range_with_len lo n)) l ≡ test l
in_range test lo zero l le lt = absurd (omega arith)
in_range test lo (suc n) l le lt = cond_in (test lo) lo l (filter test (range_with_len (lo + 1) n)) ∙ elim (cases_eq lo l) [
  | inl e ↦ here (test lo) (eq-eqb _ _ e) (in_below test (lo + 1) n l (omega arith)) ∙ ap test e
  | inr ne ↦ there (test lo) (ne_eqb _ _ ne) (in_range test (lo + 1) n l (above lo l le ne) (omega arith))
]
  where
    here : (b : Bool) → eqb lo l ≡ true → is_in (filter test (range_with_len (lo + 1) n)) l ≡ false → ((b && eqb lo l) || is_in (filter test (range_with_len (lo + 1) n)) l) ≡ b
    here true e f = rw e refl
    here false e f = f

    there : (b : Bool) → eqb lo l ≡ false → is_in (filter test (range_with_len (lo + 1) n)) l ≡ test l → ((b && eqb lo l) || is_in (filter test (range_with_len (lo + 1) n)) l) ≡ test l
    there b ne f = rw (ne, and_false b) f

    above : (a b : ℕ) → a ≤ b → (a ≡ b → ⊥) → a + 1 ≤ b
    above a b le ne = elim (cases_lt a b) [ inl lt ↦ omega arith | inr ge ↦ absurd (ne (omega arith)) ]

pub in-numbers_in : (mask l : ℕ) → l < 16 → is_in (numbers_in mask) l ≡ has_bit mask l
unfolding numbers_in
in-numbers_in mask l lt = in_range (λ n. has_bit mask n) 0 16 l (omega arith) (omega arith)

pub out-numbers_in : (mask l : ℕ) → 16 ≤ l → is_in (numbers_in mask) l ≡ false
unfolding numbers_in
out-numbers_in mask l le = in_above (λ n. has_bit mask n) 0 16 l (omega arith)

-- ---- who owns a line
any_zip : (f : ProcessDesc × List ℕ → Bool) (g : ProcessDesc → Bool) → ((x : ProcessDesc × List ℕ) → f x ≡ g x.0) → (xs : List ProcessDesc) (ys : List (List ℕ)) → length ys ≡ length xs → list_any f (zip xs ys) ≡ list_any g xs
any_zip f g same [] ys e = refl
any_zip f g same (x ∷ xs) [] e = absurd (omega arith)
any_zip f g same (x ∷ xs) (y ∷ ys) e = rw (same (x, y)) (ap (λ t. g x || t) (any_zip f g same xs ys (omega arith)))

any-map : {A : Type 0} (test : Statement → Bool) (f : A → Statement) (xs : List A) → list_any test (map f xs) ≡ list_any (λ x. test (f x)) xs
any-map test f [] = refl
any-map test f (x ∷ xs) = ap (λ t. test (f x) || t) (any-map test f xs)

pub owned-said_by : (p : Parts) (l : ℕ) → IsParts p → l < 16 → list_any (λ q. has_bit q.lines l) p.processes ≡ is_owned (said_by p) l
unfolding is_owned
owned-said_by p l h lt =
    sym (any-said_by (owns l) p (λ h n. refl) (λ n file. refl)
    ∙ any-map (owns l) process_of (zip p.processes p.images)
    ∙ any_zip (λ x. owns l (process_of x)) (λ q. has_bit q.lines l) (λ x. in-numbers_in x.0.lines l lt) p.processes p.images h.images)

any-none : {A : Type 0} (xs : List A) → list_any (λ x. false) xs ≡ false
any-none [] = refl
any-none (x ∷ xs) = any-none xs

pub unowned-said_by : (p : Parts) (l : ℕ) → IsParts p → 16 ≤ l → is_owned (said_by p) l ≡ false
unfolding is_owned
unowned-said_by p l h le =
    any-said_by (owns l) p (λ h n. refl) (λ n file. refl)
    ∙ any-map (owns l) process_of (zip p.processes p.images)
    ∙ any_zip (λ x. owns l (process_of x)) (λ q. false) (λ x. out-numbers_in x.0.lines l le) p.processes p.images h.images
    ∙ any-none p.processes
