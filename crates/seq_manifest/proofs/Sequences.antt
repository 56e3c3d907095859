-- Lists of numbers, one number on.
use Rattle.std.proofs.Common.{◌≡◌, ℕ, ◌+◌, ◌^◌, ◌<◌, ◌≤◌, max, Bool, true, false, ◌&&◌, ltb, eqb, Option, Some, None, List, [], ◌∷◌, ◌++◌, length, inl, inr, refl, sym, ap, ◌∙◌, append_assoc, arith}
use Rattle.std.specs.List.{slice_split}
use Rattle.std.specs.Option.{option_map}
use Rattle.std.proofs.Math.Nat.{min-eq_left, min-eq_right}
use Rattle.std.proofs.lemmas.Bool.{cases_lt, le-ltb}
use Rattle.std.proofs.lemmas.List.{length_push}
use Rattle.std.proofs.lemmas.List.Sums.{fold_push}
use Rattle.seq_text.specs.Cuts.{parts_behind, left}
use Rattle.seq_text.specs.Numbers.{number_of, capped}
use Rattle.seq_manifest.specs.declared.lists.NumberList.{NumberList}
use Rattle.std.specs.Prelude.{codes}
use Rattle.std.specs.Str.{bytes_eq}
use Rattle.seq_manifest.specs.Statements.{list_of, numbers_of, cons_number}
use Rattle.seq_manifest.specs.Faults.{is_ascending}
use Rattle.seq_manifest.specs.Kept.{with_bit, mask_of, above, end_of, kept_list}

pub and_assoc : (a b c : Bool) → (a && b && c) ≡ (a && (b && c))
and_assoc true b c = refl
and_assoc false b c = refl

is_ascending-push : (ns : List ℕ) (m n : ℕ) → is_ascending ((ns ++ m ∷ []) ++ n ∷ []) ≡ (is_ascending (ns ++ m ∷ []) && ltb m n)
is_ascending-push [] m n = both (ltb m n)
  where
    both : (b : Bool) → (b && true) ≡ (true && b)
    both true = refl
    both false = refl
is_ascending-push (k ∷ []) m n = front (ltb k m) (ltb m n)
  where
    front : (a b : Bool) → (a && (b && true)) ≡ (a && true && b)
    front true true = refl
    front true false = refl
    front false b = refl
is_ascending-push (k ∷ l ∷ ns) m n =
    ap (λ b. ltb k l && b) (is_ascending-push (l ∷ ns) m n) ∙ sym (and_assoc (ltb k l) (is_ascending ((l ∷ ns) ++ m ∷ [])) (ltb m n))

-- a number that is too large for every limit is kept as one
pub capped-small : (n : ℕ) → n < 2 ^ 64 → capped n ≡ n
capped-small n lt = min-eq_left (omega arith)

pub capped-large : (n : ℕ) → 2 ^ 64 ≤ n → capped n ≡ 2 ^ 64
capped-large n le = min-eq_right le

with_bit-capped : (mask n : ℕ) → with_bit mask (capped n) ≡ with_bit mask n
with_bit-capped mask n = elim (cases_lt n (2 ^ 64)) [
  | inl lt ↦ ap (with_bit mask) (capped-small n lt)
  | inr le ↦ large (capped-large n le) le
]
  where
    large : capped n ≡ 2 ^ 64 → 2 ^ 64 ≤ n → with_bit mask (capped n) ≡ with_bit mask n
    large e le =
        let a : ltb (capped n) 16 ≡ false = le-ltb _ _ (omega arith) in
        let b : ltb n 16 ≡ false = le-ltb _ _ (omega arith) in
        rw (a, b) refl

-- a list of which the four parts are told
pub list_is : (list : NumberList) (ns : List ℕ) → list.count ≡ length ns → list.ascends ≡ is_ascending ns → list.mask ≡ mask_of ns → list.end ≡ end_of ns → list ≡ kept_list ns
list_is list ns c a m e = parts list.count list.ascends list.mask list.end (length ns) (is_ascending ns) (mask_of ns) (end_of ns) c a m e
  where
    parts : (c : ℕ) (a : Bool) (m e c' : ℕ) (a' : Bool) (m' e' : ℕ) → c ≡ c' → a ≡ a' → m ≡ m' → e ≡ e' → ◌≡◌ {A = NumberList} (record { count = c; ascends = a; mask = m; end = e }) (record { count = c'; ascends = a'; mask = m'; end = e' })
    parts c a m e c' a' m' e' p q r s = cc

mask_of-push : (ns : List ℕ) (n : ℕ) → mask_of (ns ++ n ∷ []) ≡ with_bit (mask_of ns) n
unfolding mask_of
mask_of-push ns n = fold_push with_bit 0 ns n

end_of-push : (ns : List ℕ) (n : ℕ) → end_of (ns ++ n ∷ []) ≡ above (end_of ns) n
unfolding end_of
end_of-push ns n = fold_push above 0 ns n

-- one number on
pub kept_list-push : (list list' : NumberList) (ns : List ℕ) (m n k : ℕ) (b : Bool) → list ≡ kept_list (ns ++ m ∷ []) → k ≡ capped n → b ≡ ltb m n
    → list'.count ≡ list.count + 1 → list'.ascends ≡ (list.ascends && b) → list'.mask ≡ with_bit list.mask k → list'.end ≡ max list.end (k + 1)
    → list' ≡ kept_list ((ns ++ m ∷ []) ++ n ∷ [])
kept_list-push list list' ns m n k b was kept asc count ascends mask end =
    list_is list' ((ns ++ m ∷ []) ++ n ∷ [])
    (count ∙ ap (λ (l : NumberList). l.count + 1) was ∙ sym (length_push (ns ++ m ∷ []) n))
    (ascends ∙ ap (λ (l : NumberList). l.ascends && b) was ∙ ap (λ t. is_ascending (ns ++ m ∷ []) && t) asc ∙ sym (is_ascending-push ns m n))
    (mask ∙ ap (λ (l : NumberList). with_bit l.mask k) was ∙ ap (with_bit (mask_of (ns ++ m ∷ []))) kept ∙ with_bit-capped _ n ∙ sym (mask_of-push (ns ++ m ∷ []) n))
    (end ∙ ap (λ (l : NumberList). max l.end (k + 1)) was ∙ ap (λ k. max (end_of (ns ++ m ∷ [])) (k + 1)) kept ∙ sym (end_of-push (ns ++ m ∷ []) n))

-- the first number
pub kept_list-first : (list : NumberList) (n k : ℕ) → k ≡ capped n → list.count ≡ 0 + 1 → list.ascends ≡ true → list.mask ≡ with_bit 0 k → list.end ≡ max 0 (k + 1) → list ≡ kept_list (n ∷ [])
unfolding mask_of end_of
kept_list-first list n k kept count ascends mask end =
    list_is list (n ∷ []) count ascends (mask ∙ ap (with_bit 0) kept ∙ with_bit-capped 0 n) (end ∙ ap (λ k. max 0 (k + 1)) kept)

pub kept_list-nil : kept_list [] ≡ record { count = 0; ascends = true; mask = 0; end = 0 }
unfolding mask_of end_of
kept_list-nil = refl

-- ---- the numbers so far, and those that are left
abbrev pub prepend : List ℕ → Option (List ℕ) → Option (List ℕ)
prepend front None = None
prepend front (Some ns) = Some (front ++ ns)

prepend-cons : (front : List ℕ) (n : ℕ) (o : Option (List ℕ)) → prepend front (cons_number (Some n) o) ≡ prepend (front ++ n ∷ []) o
prepend-cons front n None = refl
prepend-cons front n (Some ns) = ap Some (sym (append_assoc front (n ∷ []) ns))

pub record IsSoFar (word part : List ℕ) (rest : Option (List ℕ)) (list : NumberList) : Type 0 where
  pub front : List ℕ
  pub last : ℕ
  pub number : number_of part ≡ Some last
  pub list_is : list ≡ kept_list (front ++ last ∷ [])
  pub whole : numbers_of (slice_split (λ byte. eqb byte 44) word) ≡ prepend (front ++ last ∷ []) (numbers_of (parts_behind 44 rest))
  pub count : list.count + left rest ≤ length word + 1

-- a number that is read is one that is written
pub capped_some : (o : Option ℕ) (k : ℕ) → Some k ≡ option_map capped o → (n : ℕ) × (o ≡ Some n) × (k ≡ capped n)
capped_some None k e = absurd cc
capped_some (Some n) k e = (n, refl, cc)

cons-prepend : (n : ℕ) (o : Option (List ℕ)) → cons_number (Some n) o ≡ prepend (n ∷ []) o
cons-prepend n None = refl
cons-prepend n (Some ns) = refl

numbers_of-parts : (parts : List (List ℕ)) (part : List ℕ) (others : List (List ℕ)) (n : ℕ) → parts ≡ part ∷ others → number_of part ≡ Some n → numbers_of parts ≡ cons_number (Some n) (numbers_of others)
numbers_of-parts parts part others n e f = ap numbers_of e ∙ ap (λ o. cons_number o (numbers_of others)) f

pub so_far-first : (word part : List ℕ) (rest : Option (List ℕ)) (list : NumberList) (k : ℕ) → slice_split (λ byte. eqb byte 44) word ≡ part ∷ parts_behind 44 rest → Some k ≡ option_map capped (number_of part)
    → list.count ≡ 0 + 1 → list.ascends ≡ true → list.mask ≡ with_bit 0 k → list.end ≡ max 0 (k + 1) → left rest ≤ length word → IsSoFar word part rest list
so_far-first word part rest list k cut read count ascends mask end shorter =
    let n = capped_some (number_of part) k read in
    record {
      front = [];
      last = n.0;
      number = n.1;
      list_is = kept_list-first list n.0 k n.2 count ascends mask end;
      whole = numbers_of-parts _ part (parts_behind 44 rest) n.0 cut n.1 ∙ cons-prepend n.0 (numbers_of (parts_behind 44 rest));
      count = omega (arith, count, shorter);
    }

pub so_far-next : (word part after next : List ℕ) (behind : Option (List ℕ)) (list list' : NumberList) (k : ℕ) (b : Bool) → IsSoFar word part (Some after) list
    → slice_split (λ byte. eqb byte 44) after ≡ next ∷ parts_behind 44 behind → Some k ≡ option_map capped (number_of next)
    → ((m n : ℕ) → number_of part ≡ Some m → number_of next ≡ Some n → b ≡ ltb m n)
    → list'.count ≡ list.count + 1 → list'.ascends ≡ (list.ascends && b) → list'.mask ≡ with_bit list.mask k → list'.end ≡ max list.end (k + 1) → left behind ≤ length after → IsSoFar word next behind list'
so_far-next word part after next behind list list' k b so_far cut read below count ascends mask end shorter =
    let n = capped_some (number_of next) k read in
    record {
      front = so_far.front ++ so_far.last ∷ [];
      last = n.0;
      number = n.1;
      list_is = kept_list-push list list' so_far.front so_far.last n.0 k b so_far.list_is n.2 (below so_far.last n.0 so_far.number n.1) count ascends mask end;
      whole = so_far.whole ∙ ap (prepend (so_far.front ++ so_far.last ∷ [])) (numbers_of-parts _ next (parts_behind 44 behind) n.0 cut n.1) ∙ prepend-cons (so_far.front ++ so_far.last ∷ []) n.0 (numbers_of (parts_behind 44 behind));
      count = omega (arith, count, shorter, so_far.count);
    }

pub list_of-dash : (word : List ℕ) → bytes_eq word (codes "-") ≡ true → Some (record { count = 0; ascends = true; mask = 0; end = 0 }) ≡ option_map kept_list (list_of word)
unfolding list_of mask_of end_of
list_of-dash word e = rw e refl

pub list_of-numbers : (word : List ℕ) (o : Option NumberList) → bytes_eq word (codes "-") ≡ false → o ≡ option_map kept_list (numbers_of (slice_split (λ byte. eqb byte 44) word)) → o ≡ option_map kept_list (list_of word)
unfolding list_of
list_of-numbers word o e f = rw e f
