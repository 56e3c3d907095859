-- What is kept of a statement violates the rules that the statement violates.
use Rattle.std.proofs.Common.{◌≡◌, ℕ, ◌+◌, ◌%◌, ◌^◌, ◌<◌, ◌≤◌, max, Bool, true, false, not, ◌&&◌, ◌||◌, ltb, leb, eqb, List, [], ◌∷◌, length, inl, inr, refl, sym, ap, subst, ◌∙◌, arith, count_by}
use Rattle.std.specs.List.{list_any, fold}
use Rattle.std.specs.Int.{bit_at}
use Rattle.std.specs.Prelude.{bit_or}
use Rattle.std.proofs.lemmas.Bool.{cases_lt, cases_eq, lt-ltb, le-ltb, ltb-true, leb-true, le-leb, lt-leb, eq-eqb, ne_eqb, eqb-true, or_cases, or_left, or_right, and_parts, and_from, false≢true}
use Rattle.std.proofs.lemmas.Nat.{or_of_16, pow_below, pow_pos}
use Rattle.std.proofs.lemmas.Nat.Bits.{bit_at_or, bit_at-pow_same, bit_at-pow_other, bit_at-lt, bit_at_above}
use Rattle.seq_words.specs.Masks.{has_bit}
use Rattle.seq_text.specs.Numbers.{capped}
use Rattle.seq_manifest.specs.declared.parts.Parts.{Parts}
use Rattle.seq_manifest.specs.declared.heading.Heading.{Heading}
use Rattle.seq_manifest.specs.declared.heading.Heading.TheVariants.{Version, Processors, Memories, Ios, Cache, Quantum, Journal}
use Rattle.seq_manifest.specs.Statements.{Statement, heading, segment, process}
use Rattle.seq_manifest.specs.Drafts.{said_by}
use Rattle.seq_manifest.specs.Faults.{is_segment, is_in, is_owned, is_misplaced, is_within, is_allowed, is_out_of_limits, is_ascending, is_badly_listed, is_absent, some_below}
use Rattle.seq_manifest.specs.Kept.{with_bit, mask_of, above, end_of, Kept, kept}
use Rattle.seq_manifest.specs.Taking.{IsParts}
use Rattle.seq_manifest.proofs.Table.{kept_misplaced, kept_out, kept_badly, kept_absent}
use Rattle.seq_manifest.proofs.Sequences.{capped-small, capped-large}
use Rattle.seq_manifest.proofs.Saying.{unowned-said_by, segments-said_by}
use Rattle.seq_manifest.proofs.Below.{some_below-true, some_below-from, same_bool}

-- ---- limits
within-capped : (least most unit n : ℕ) → most < 2 ^ 64 → is_within least most unit (capped n) ≡ is_within least most unit n
within-capped least most unit n small = elim (cases_lt n (2 ^ 64)) [
  | inl lt ↦ ap (is_within least most unit) (capped-small n lt)
  | inr le ↦ outside (capped-large n le) le
]
  where
    gone : (x y u v : Bool) → (x && false && u) ≡ (y && false && v)
    gone true true u v = refl
    gone true false u v = refl
    gone false true u v = refl
    gone false false u v = refl

    outside : capped n ≡ 2 ^ 64 → 2 ^ 64 ≤ n → is_within least most unit (capped n) ≡ is_within least most unit n
    outside e le =
        let a : leb (capped n) most ≡ false = lt-leb _ _ (omega arith) in
        let b : leb n most ≡ false = lt-leb _ _ (omega arith) in
        rw (a, b) (gone (leb least (capped n)) (leb least n) (eqb (capped n % unit) 0) (eqb (n % unit) 0))

allowed-capped : (h : Heading) (n : ℕ) → is_allowed h (capped n) ≡ is_allowed h n
allowed-capped Version n = within-capped 1 1 1 n (omega arith)
allowed-capped Processors n = within-capped 1 8 1 n (omega arith)
allowed-capped Memories n = within-capped 2 8 1 n (omega arith)
allowed-capped Ios n = within-capped 1 4 1 n (omega arith)
allowed-capped Cache n = within-capped 16 256 1 n (omega arith)
allowed-capped Quantum n = within-capped 1 10000 1 n (omega arith)
allowed-capped Journal n = within-capped 32 65536 32 n (omega arith)

-- ---- masks
has_bit-or : (m n l : ℕ) → has_bit (bit_or m (2 ^ n)) l ≡ (has_bit m l || eqb n l)
has_bit-or m n l = elim (cases_eq n l) [
  | inl e ↦
      let one : bit_at (2 ^ n) l ≡ 1 = subst (λ k. bit_at (2 ^ n) k ≡ 1) e (bit_at-pow_same n) in
      let lt = bit_at-lt m l in
      let set : bit_at (bit_or m (2 ^ n)) l ≡ 1 = bit_at_or m (2 ^ n) l ∙ omega arith in
      eq-eqb _ _ set ∙ sym (or_right _ _ (eq-eqb _ _ e))
  | inr ne ↦
      let none : bit_at (2 ^ n) l ≡ 0 = bit_at-pow_other n l (λ e. ne (sym e)) in
      let same : bit_at (bit_or m (2 ^ n)) l ≡ bit_at m l = bit_at_or m (2 ^ n) l ∙ omega arith in
      let off : eqb n l ≡ false = ne_eqb _ _ ne in
      rw off (ap (λ b. eqb b 1) same ∙ sym (or_off (has_bit m l)))
]
  where
    or_off : (b : Bool) → (b || false) ≡ b
    or_off true = refl
    or_off false = refl

has_bit-with_bit : (m n l : ℕ) → l < 16 → has_bit (with_bit m n) l ≡ (has_bit m l || eqb n l)
has_bit-with_bit m n l lt = elim (cases_lt n 16) [
  | inl small ↦ let e : ltb n 16 ≡ true = lt-ltb _ _ small in rw e (has_bit-or m n l)
  | inr large ↦ let e : ltb n 16 ≡ false = le-ltb _ _ large in let f : eqb n l ≡ false = ne_eqb _ _ (λ z. absurd (omega (arith, z))) in rw (e, f) (or_off (has_bit m l))
]
  where
    or_off : (b : Bool) → b ≡ (b || false)
    or_off true = refl
    or_off false = refl

or_assoc : (a b c : Bool) → (a || b || c) ≡ (a || (b || c))
or_assoc true b c = refl
or_assoc false b c = refl

has_bit-fold : (ns : List ℕ) (m l : ℕ) → l < 16 → has_bit (fold with_bit m ns) l ≡ (has_bit m l || is_in ns l)
has_bit-fold [] m l lt = or_off (has_bit m l)
  where
    or_off : (b : Bool) → b ≡ (b || false)
    or_off true = refl
    or_off false = refl
has_bit-fold (n ∷ ns) m l lt =
    has_bit-fold ns (with_bit m n) l lt ∙ ap (λ b. b || is_in ns l) (has_bit-with_bit m n l lt) ∙ or_assoc (has_bit m l) (eqb n l) (is_in ns l)

has_bit-zero : (l : ℕ) → has_bit 0 l ≡ false
has_bit-zero l = ne_eqb _ _ (λ e. let z = bit_at_above 0 l l (pos l) (omega arith) in absurd (omega (arith, e, z)))
  where
    pos : (l : ℕ) → 0 < 2 ^ l
    pos l = pow_pos l

pub has_bit-mask_of : (ns : List ℕ) (l : ℕ) → l < 16 → has_bit (mask_of ns) l ≡ is_in ns l
unfolding mask_of
has_bit-mask_of ns l lt = has_bit-fold ns 0 l lt ∙ rw (has_bit-zero l) refl

with_bit-small : (m n : ℕ) → m < 2 ^ 16 → with_bit m n < 2 ^ 16
with_bit-small m n lt = elim (cases_lt n 16) [
  | inl small ↦ let e : ltb n 16 ≡ true = lt-ltb _ _ small in rw e (or_of_16 m (2 ^ n) lt (pow_below n 16 small))
  | inr large ↦ let e : ltb n 16 ≡ false = le-ltb _ _ large in rw e lt
]

mask-small : (ns : List ℕ) (m : ℕ) → m < 2 ^ 16 → fold with_bit m ns < 2 ^ 16
mask-small [] m lt = lt
mask-small (n ∷ ns) m lt = mask-small ns (with_bit m n) (with_bit-small m n lt)

pub mask_of-small : (ns : List ℕ) → mask_of ns < 2 ^ 16
unfolding mask_of
mask_of-small ns = mask-small ns 0 (omega arith)

-- ---- a number of a list that passes a test
pub any-true : (test : ℕ → Bool) (ns : List ℕ) → list_any test ns ≡ true → (k : ℕ) × (is_in ns k ≡ true) × (test k ≡ true)
any-true test [] e = absurd (false≢true e)
any-true test (n ∷ ns) e = elim (or_cases _ _ e) [
  | inl here ↦ (n, or_left _ _ (eq-eqb n n refl), here)
  | inr later ↦ let w = any-true test ns later in (w.0, or_right _ _ w.1, w.2)
]

pub any-from : (test : ℕ → Bool) (ns : List ℕ) (k : ℕ) → is_in ns k ≡ true → test k ≡ true → list_any test ns ≡ true
any-from test [] k i e = absurd (false≢true i)
any-from test (n ∷ ns) k i e = elim (or_cases _ _ i) [
  | inl here ↦ or_left _ _ (subst (λ j. test j ≡ true) (sym (eqb-true n k here)) e)
  | inr later ↦ or_right _ _ (any-from test ns k later e)
]

overlap : (mask : ℕ) (ns : List ℕ) (owned : ℕ → Bool) → ((l : ℕ) → l < 16 → has_bit mask l ≡ is_in ns l) → ((l : ℕ) → 16 ≤ l → owned l ≡ false) → some_below 16 (λ l. has_bit mask l && owned l) ≡ list_any owned ns
overlap mask ns owned bits none = same_bool _ _
    (λ e. let w = some_below-true 16 (λ l. has_bit mask l && owned l) e in
    let p = and_parts _ _ w.2 in
    any-from owned ns w.0 (sym (bits w.0 w.1) ∙ p.0) p.1)
    (λ e. let w = any-true owned ns e in
    let lt : w.0 < 16 = below w.0 (λ le. absurd (false≢true (sym (none w.0 le) ∙ w.2))) in
    some_below-from 16 w.0 (λ l. has_bit mask l && owned l) lt (and_from _ _ (bits w.0 lt ∙ w.1) w.2))
  where
    below : (k : ℕ) → (16 ≤ k → ⊥) → k < 16
    below k h = elim (cases_lt k 16) [ inl lt ↦ lt | inr le ↦ absurd (h le) ]

-- ---- the greatest number
ltb-max : (m e k : ℕ) → ltb m (max e k) ≡ (ltb m e || ltb m k)
ltb-max m e k = same_bool _ _
    (λ t. let lt : m < max e k = ltb-true _ _ t in elim (cases_lt m e) [ inl le ↦ or_left (ltb m e) (ltb m k) (lt-ltb _ _ le) | inr ge ↦ let above : m < k = omega arith in or_right (ltb m e) (ltb m k) (lt-ltb _ _ above) ])
    (λ t. elim (or_cases (ltb m e) (ltb m k) t) [ inl a ↦ let lt : m < e = ltb-true _ _ a in lt-ltb m (max e k) (omega arith) | inr b ↦ let lt : m < k = ltb-true _ _ b in lt-ltb m (max e k) (omega arith) ])

ltb-capped : (m n : ℕ) → m < 2 ^ 64 → ltb m (capped n + 1) ≡ leb m n
ltb-capped m n small = elim (cases_lt n (2 ^ 64)) [
  | inl lt ↦ let e = capped-small n lt in same_bool _ _ (λ t. let lt' : m < capped n + 1 = ltb-true _ _ t in le-leb _ _ (omega (arith, e))) (λ t. let le' : m ≤ n = leb-true _ _ t in lt-ltb _ _ (omega (arith, e)))
  | inr le ↦ let e = capped-large n le in same_bool _ _ (λ t. le-leb _ _ (omega arith)) (λ t. lt-ltb _ _ (omega (arith, e)))
]

ltb-fold : (ns : List ℕ) (e m : ℕ) → m < 2 ^ 64 → ltb m (fold above e ns) ≡ (ltb m e || list_any (λ n. leb m n) ns)
ltb-fold [] e m small = or_off (ltb m e)
  where
    or_off : (b : Bool) → b ≡ (b || false)
    or_off true = refl
    or_off false = refl
ltb-fold (n ∷ ns) e m small =
    ltb-fold ns (above e n) m small ∙ ap (λ b. b || list_any (λ n. leb m n) ns) (ltb-max m e (capped n + 1) ∙ ap (λ b. ltb m e || b) (ltb-capped m n small)) ∙ or_assoc (ltb m e) (leb m n) (list_any (λ n. leb m n) ns)

pub ltb-end_of : (ns : List ℕ) (m : ℕ) → m < 2 ^ 64 → ltb m (end_of ns) ≡ list_any (λ n. leb m n) ns
unfolding end_of
ltb-end_of ns m small = ltb-fold ns 0 m small ∙ let e : ltb m 0 ≡ false = le-ltb _ _ (omega arith) in rw e refl

-- ---- rule by rule
same_misplaced : (before : List Statement) (s : Statement) → kept_misplaced before (kept s) ≡ is_misplaced before s
unfolding is_misplaced
same_misplaced before (heading h n) = refl
same_misplaced before (segment size file) = refl
same_misplaced before (process file lines segments) = refl

pub same_out : (s : Statement) → kept_out (kept s) ≡ is_out_of_limits s
unfolding is_out_of_limits
same_out (heading h n) = ap not (allowed-capped h n)
same_out (segment size file) = ap not (within-capped 32 16384 32 size (omega arith))
same_out (process file lines segments) = refl

same_badly : (p : Parts) (s : Statement) → IsParts p → kept_badly (said_by p) (kept s) ≡ is_badly_listed (said_by p) s
unfolding is_badly_listed
same_badly p (heading h n) parts = refl
same_badly p (segment size file) parts = refl
same_badly p (process file lines segments) parts =
    ap (λ b. not (is_ascending lines) || not (is_ascending segments) || ltb 4 (length lines) || b)
    (overlap (mask_of lines) lines (is_owned (said_by p)) (λ l lt. has_bit-mask_of lines l lt) (λ l le. unowned-said_by p l parts le))

same_absent : (p : Parts) (s : Statement) → IsParts p → kept_absent (said_by p) (kept s) ≡ is_absent (said_by p) s
unfolding is_absent
same_absent p (heading h n) parts = refl
same_absent p (segment size file) parts = refl
same_absent p (process file lines segments) parts =
    let small : count_by is_segment (said_by p) < 2 ^ 64 = omega (arith, segments-said_by p parts, parts.segments) in
    let a = ltb-end_of segments (count_by is_segment (said_by p)) small in
    let b = ltb-end_of lines 16 (omega arith) in
    ap (λ t. t || ltb 16 (end_of lines)) a ∙ ap (λ t. list_any (λ s. leb (count_by is_segment (said_by p)) s) segments || t) b

-- ---- the same of a statement of which this was kept
pub misplaced_kept : (before : List Statement) (b : Bool) (k : Kept) → b ≡ kept_misplaced before k → (s : Statement) → k ≡ kept s → b ≡ is_misplaced before s
misplaced_kept before b k e s f = e ∙ ap (kept_misplaced before) f ∙ same_misplaced before s

pub out_kept : (b : Bool) (k : Kept) → b ≡ kept_out k → (s : Statement) → k ≡ kept s → b ≡ is_out_of_limits s
out_kept b k e s f = e ∙ ap kept_out f ∙ same_out s

pub badly_kept : (p : Parts) (b : Bool) (k : Kept) → IsParts p → b ≡ kept_badly (said_by p) k → (s : Statement) → k ≡ kept s → b ≡ is_badly_listed (said_by p) s
badly_kept p b k parts e s f = e ∙ ap (kept_badly (said_by p)) f ∙ same_badly p s parts

pub absent_kept : (p : Parts) (b : Bool) (k : Kept) → IsParts p → b ≡ kept_absent (said_by p) k → (s : Statement) → k ≡ kept s → b ≡ is_absent (said_by p) s
absent_kept p b k parts e s f = e ∙ ap (kept_absent (said_by p)) f ∙ same_absent p s parts
