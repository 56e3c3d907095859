-- The owner of a line is found among the processes.
use Rattle.std.proofs.Common.{◌≡◌, ℕ, zero, suc, ◌+◌, ◌*◌, ◌/◌, ◌%◌, ◌^◌, ◌<◌, ◌≤◌, Bool, true, false, cond, List, [], ◌∷◌, ◌++◌, length, get_or, map, slice_get, Some, arith, refl, ap, sym, ◌∙◌, inl, inr, drop, drop-cons, add-one}
use Rattle.std.specs.Prelude.{IsSomeAnd, count_ones, count_by, nat_lt, if◌then◌else◌}
use Rattle.std.specs.List.{range_with_len}
use Rattle.std.proofs.Math.Pow.{split}
use Rattle.std.proofs.lemmas.Bool.{eqb-true, cases_lt, cases_order}
use Rattle.std.proofs.lemmas.Bool.Decides.{nat_tests}
use Rattle.std.proofs.lemmas.List.Elements.{All-get_or}
use Rattle.std.proofs.lemmas.List.{drop_all}
use Rattle.std.proofs.lemmas.List.FromFn.{map-range_with_len_more, get_or-map-range_with_len, length-map-range_with_len}
use Rattle.std.proofs.lemmas.List.Sums.{sum_by-cons}
use Rattle.std.proofs.lemmas.Option.{slice_get-get_or, get_or_from_slice_get, slice_get_within}
use lib.Count.{ones_cat, ones_step}
use Rattle.std.proofs.lemmas.Nat.{mod_below, pow_pos}
use Rattle.seq_words.specs.Masks.{has_bit}
use Rattle.seq_words.specs.Description.{IsDescription, IsProcess, line_count, owner_count, no_process}
use Rattle.seq_words.specs.declared.names.Pid.{Pid}
use Rattle.seq_words.specs.declared.description.MachineDesc.{MachineDesc}
use Rattle.seq_words.specs.declared.description.ProcessDesc.{ProcessDesc}
use Rattle.seq_layout.specs.Shapes.{index_of, owner_from, owners_of, Owns, OwnersAreAlone}

-- a mask that has a line has fewer lines below it than it has lines
pub index_below : (lines l : ℕ) → has_bit lines l ≡ true → index_of lines l < count_ones lines
index_below lines l h =
    let whole : lines / 2 ^ l * 2 ^ l + lines % 2 ^ l ≡ lines = split lines l in
    let apart : count_ones (lines / 2 ^ l * 2 ^ l + lines % 2 ^ l) ≡ count_ones (lines / 2 ^ l) + count_ones (lines % 2 ^ l) = ones_cat l (lines / 2 ^ l) (lines % 2 ^ l) (mod_below lines (2 ^ l) (pow_pos l)) in
    let counts : count_ones lines ≡ count_ones (lines / 2 ^ l) + count_ones (lines % 2 ^ l) = rw whole at apart in
    let odd : lines / 2 ^ l % 2 ≡ 1 = eqb-true _ _ h in
    omega (arith, ones_step (lines / 2 ^ l))

-- an owner of the line, in the list of the processes from some number on
pub record IsFound (first : ℕ) (ps : List ProcessDesc) (l : ℕ) (owner : Pid × ℕ) : Type 0 where
  pub place : ℕ
  pub inside : place < length ps
  pub process : owner.0.0 ≡ first + place
  pub owned : (none : ProcessDesc) → has_bit (get_or ps place none).lines l ≡ true
  pub number : (none : ProcessDesc) → owner.1 ≡ index_of (get_or ps place none).lines l

-- the first process of the list has the line
first_found : (first : ℕ) (q : ProcessDesc) (qs : List ProcessDesc) (l : ℕ) → has_bit q.lines l ≡ true → IsFound first (q ∷ qs) l (record { 0 = first }, index_of q.lines l)
first_found first q qs l e = record {
  place = 0;
  inside = omega arith;
  process = omega arith;
  owned = λ none. e;
  number = λ none. refl;
}

-- one of the others has it
later_found : (first : ℕ) (q : ProcessDesc) (qs : List ProcessDesc) (l : ℕ) (owner : Pid × ℕ) → IsFound (suc first) qs l owner → IsFound first (q ∷ qs) l owner
later_found first q qs l owner f = record {
  place = suc f.place;
  inside = omega (arith, f.inside);
  process = omega (arith, f.process);
  owned = f.owned;
  number = f.number;
}

-- a process of the list has the line
abbrev IsOwned : List ProcessDesc → ℕ → Type 0
IsOwned ps l = 0 < count_by (λ p. has_bit p.lines l) ps

-- where the first process has the line it is found, else one of the others
found_first : (first : ℕ) (q : ProcessDesc) (qs : List ProcessDesc) (l : ℕ) (b : Bool) → has_bit q.lines l ≡ b → (IsOwned qs l → IsFound (suc first) qs l (owner_from (suc first) qs l)) → IsOwned (q ∷ qs) l → IsFound first (q ∷ qs) l (owner_from first (q ∷ qs) l)
unfolding owner_from
found_first first q qs l true e later some = rw e (first_found first q qs l e)
found_first first q qs l false e later some = rw e (later_found first q qs l _ (later (rw e at some)))

-- where one of the processes has the line, an owner is found
pub found : (first : ℕ) (ps : List ProcessDesc) (l : ℕ) → IsOwned ps l → IsFound first ps l (owner_from first ps l)
found first [] l some = absurd (omega arith)
found first (q ∷ qs) l some = found_first first q qs l (has_bit q.lines l) refl (found (suc first) qs l) some

-- each line of a description is owned
is_owned : (d : MachineDesc) (l : ℕ) → IsDescription d → l < line_count d → IsOwned d.processes l
is_owned d l is below =
    let one : owner_count d l ≡ 1 = grind (arith, nat_tests, is.lines l) in
    omega arith

-- an owner has at most four lines
index_few : (segments : ℕ) (p : ProcessDesc) (l : ℕ) → IsProcess segments p → has_bit p.lines l ≡ true → index_of p.lines l < 4
index_few segments p l is owned = omega (arith, is.few, index_below p.lines l owned)

-- what is found of a description is the line's owner
found_owns : (d : MachineDesc) (l : ℕ) (owner : Pid × ℕ) → IsDescription d → IsFound 0 d.processes l owner → Owns d l owner.0.0 owner.1
found_owns d l owner is f =
    let same : owner.0.0 ≡ f.place = omega (arith, f.process) in
    record {
      process = omega (arith, f.inside);
      owned = λ none. rw same (f.owned none);
      number = λ none. rw same (f.number none);
      few = rw (f.number no_process) (index_few (length d.segments) (get_or d.processes f.place no_process) l (All-get_or (IsProcess (length d.segments)) d.processes f.place no_process f.inside is.each_process) (f.owned no_process));
    }

-- the entry of a line is its owner
pub entry_owns : (d : MachineDesc) (l : ℕ) (owner : Pid × ℕ) → IsDescription d → slice_get (owners_of d) l ≡ Some owner → Owns d l owner.0.0 owner.1
entry_owns d l owner is entry =
    let inside = slice_get_within (owners_of d) l owner entry in
    let below : l < line_count d = rw length-map-range_with_len at inside in
    let none : Pid × ℕ = (record { 0 = 0 }, 0) in
    let here : owner_from 0 d.processes l ≡ owner = sym (get_or-map-range_with_len (owner_from 0 d.processes) 0 (line_count d) l l none below (omega arith)) ∙ get_or_from_slice_get (owners_of d) l owner none entry in
    found_owns d l owner is (rw here at (found 0 d.processes l (is_owned d l is below)))

-- each line has an entry, which is its owner
pub line_owned : (d : MachineDesc) (l : ℕ) → IsDescription d → l < line_count d → IsSomeAnd (slice_get (owners_of d) l) (λ owner. Owns d l owner.0.0 owner.1)
line_owned d l is below =
    let none : Pid × ℕ = (record { 0 = 0 }, 0) in
    let inside : l < length (owners_of d) = rw length-map-range_with_len below in
    let entry = slice_get-get_or (owners_of d) l none inside in
    rw entry (entry_owns d l (get_or (owners_of d) l none) is entry)

-- the processes from number p on: the first of them has the line, or it doesn't
pub owner_here : (ps : List ProcessDesc) (p l : ℕ) (none : ProcessDesc) → p < length ps → has_bit (get_or ps p none).lines l ≡ true → owner_from p (drop p ps) l ≡ (record { 0 = p }, index_of (get_or ps p none).lines l)
unfolding owner_from
owner_here ps p l none inside e = rw (drop-cons ps p none inside, e) refl

pub owner_later : (ps : List ProcessDesc) (p l : ℕ) (none : ProcessDesc) → p < length ps → has_bit (get_or ps p none).lines l ≡ false → owner_from p (drop p ps) l ≡ owner_from (p + 1) (drop (p + 1) ps) l
unfolding owner_from
owner_later ps p l none inside e = rw (drop-cons ps p none inside, e, add-one) refl

-- there is no process from number p on
pub owner_none : (ps : List ProcessDesc) (p l : ℕ) → length ps ≤ p → owner_from p (drop p ps) l ≡ (record { 0 = 0 }, 0)
unfolding owner_from
owner_none ps p l past = rw (drop_all p ps past) refl

-- one more element of a list that is made from a function of the index
pub one_more : {X : Type 0} (f : ℕ → X) (n : ℕ) → map f (range_with_len 0 (n + 1)) ≡ map f (range_with_len 0 n) ++ f n ∷ []
one_more f n = map-range_with_len_more f 0 n n (omega arith)

-- masks of sixteen bits have at most sixteen lines
pub lines_sixteen : (d : MachineDesc) → IsDescription d → ((k : ℕ) → k < length d.processes → (get_or d.processes k no_process).lines < 2 ^ 16) → line_count d ≤ 16
lines_sixteen d is small =
    elim (cases_lt 16 (line_count d)) [
      | inl more ↦
          let f = found 0 d.processes 16 (is_owned d 16 is more) in
          let odd : (get_or d.processes f.place no_process).lines / 65536 % 2 ≡ 1 = eqb-true _ _ (f.owned no_process) in
          let below = small f.place f.inside in
          absurd (omega arith)
      | inr few ↦ few
    ]

-- who passes a test is counted
counted : {A : Type 0} (test : A → Bool) (x : A) (xs : List A) → count_by test (x ∷ xs) ≡ cond (test x) 1 0 + count_by test xs
counted test x xs = sum_by-cons (λ y. cond (test y) 1 0) x xs

one_counted : {A : Type 0} (test : A → Bool) (xs : List A) (i : ℕ) (d : A) → i < length xs → test (get_or xs i d) ≡ true → 1 ≤ count_by test xs
one_counted test [] i d there pass = absurd (let c : ⊥ = omega arith in c)
one_counted test (x ∷ xs) zero d there pass = rw (counted test x xs, pass) (omega arith)
one_counted test (x ∷ xs) (suc i) d there pass =
    let more : 1 ≤ count_by test xs = one_counted test xs i d (omega arith) pass in
    rw (counted test x xs) (omega (arith, more))

pub two_counted : {A : Type 0} (test : A → Bool) (xs : List A) (i j : ℕ) (d : A) → i < j → j < length xs → test (get_or xs i d) ≡ true → test (get_or xs j d) ≡ true → 2 ≤ count_by test xs
two_counted test [] i j d less there one two = absurd (let c : ⊥ = omega arith in c)
two_counted test (x ∷ xs) i zero d less there one two = absurd (let c : ⊥ = omega arith in c)
two_counted test (x ∷ xs) zero (suc j) d less there one two =
    let more : 1 ≤ count_by test xs = one_counted test xs j d (omega arith) two in
    rw (counted test x xs, one) (omega (arith, more))
two_counted test (x ∷ xs) (suc i) (suc j) d less there one two =
    let more : 2 ≤ count_by test xs = two_counted test xs i j d (omega arith) (omega arith) one two in
    rw (counted test x xs) (omega (arith, more))

at_most_one : (b : Bool) (n : ℕ) → n ≡ (if b then 1 else 0) → n ≤ 1
at_most_one true n is = omega arith
at_most_one false n is = omega arith

-- processes of a description that have the same line are one
pub one_owner : (d : MachineDesc) (l p q : ℕ) → IsDescription d → p < length d.processes → q < length d.processes → has_bit (get_or d.processes p no_process).lines l ≡ true → has_bit (get_or d.processes q no_process).lines l ≡ true → p ≡ q
one_owner d l p q is p_in q_in first second =
    let test : ProcessDesc → Bool = λ r. has_bit r.lines l in
    let few : count_by test d.processes ≤ 1 = at_most_one (nat_lt l (line_count d)) (count_by test d.processes) (is.lines l) in
    elim (cases_order p q) [
      | inl same ↦ same
      | inr (inl less) ↦ let many : 2 ≤ count_by test d.processes = two_counted test d.processes p q no_process less q_in first second in absurd (let c : ⊥ = omega (arith, few, many) in c)
      | inr (inr more) ↦ let many : 2 ≤ count_by test d.processes = two_counted test d.processes q p no_process more p_in second first in absurd (let c : ⊥ = omega (arith, few, many) in c)
    ]

pub owners_are_alone : OwnersAreAlone
owners_are_alone d l p index q index' is first second =
    let same = one_owner d l p q is first.process second.process (first.owned no_process) (second.owned no_process) in
    (same, first.number no_process ∙ ap (λ k. index_of (get_or d.processes k no_process).lines l) same ∙ sym (second.number no_process))
