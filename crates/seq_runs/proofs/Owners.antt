-- The lines of a description have one owner.
use Rattle.std.proofs.Common.{◌≡◌, ℕ, zero, suc, ◌+◌, ◌/◌, ◌^◌, ◌<◌, ◌≤◌, Bool, true, false, cond, List, [], ◌∷◌, length, map, get_or, arith, refl, sym, ◌∙◌, ap, inl, inr, true≢false, pow_pos}
use Rattle.std.specs.Prelude.{if◌then◌else◌, nat_lt}
use Rattle.std.specs.List.{count_by}
use Rattle.std.proofs.Math.Nat.{div-eq_of_lt}
use Rattle.std.proofs.lemmas.Bool.{cases_Bool, cases_lt}
use Rattle.std.proofs.lemmas.List.{get_or-map, get_or_past, length-map}
use Rattle.std.proofs.lemmas.List.Sums.{sum_by-cons}
use Rattle.seq_words.specs.Masks.{has_bit}
use Rattle.seq_words.specs.Description.{line_count}
use Rattle.seq_words.specs.declared.description.MachineDesc.{MachineDesc}
use Rattle.seq_words.specs.declared.description.ProcessDesc.{ProcessDesc}
use Rattle.seq_flat.specs.declared.state.Rights.{Rights}
use Rattle.seq_flat.specs.State.{no_rights, rights_of}
use Rattle.seq_runs.specs.Areas.{owns}
use Rattle.seq_runs.specs.Orders.{LinesHaveOneOwner}

counted : {A : Type 0} (test : A → Bool) (x : A) (xs : List A) → count_by test (x ∷ xs) ≡ cond (test x) 1 0 + count_by test xs
counted test x xs = sum_by-cons (λ y. cond (test y) 1 0) x xs

-- who passes a test is counted
one_counted : {A : Type 0} (test : A → Bool) (xs : List A) (i : ℕ) (d : A) → i < length xs → test (get_or xs i d) ≡ true → 1 ≤ count_by test xs
one_counted test [] i d there pass = absurd (let c : ⊥ = omega arith in c)
one_counted test (x ∷ xs) zero d there pass = rw (counted test x xs, pass) (omega arith)
one_counted test (x ∷ xs) (suc i) d there pass =
    let more : 1 ≤ count_by test xs = one_counted test xs i d (omega arith) pass in
    rw (counted test x xs) (omega (arith, more))

two_counted : {A : Type 0} (test : A → Bool) (xs : List A) (i j : ℕ) (d : A) → i < j → j < length xs → test (get_or xs i d) ≡ true → test (get_or xs j d) ≡ true → 2 ≤ count_by test xs
two_counted test [] i j d less there one two = absurd (let c : ⊥ = omega arith in c)
two_counted test (x ∷ xs) i zero d less there one two = absurd (let c : ⊥ = omega arith in c)
two_counted test (x ∷ xs) zero (suc j) d less there one two =
    let more : 1 ≤ count_by test xs = one_counted test xs j d (omega arith) two in
    rw (counted test x xs, one) (omega (arith, more))
two_counted test (x ∷ xs) (suc i) (suc j) d less there one two =
    let more : 2 ≤ count_by test xs = two_counted test xs i j d (omega arith) (omega arith) one two in
    rw (counted test x xs) (omega (arith, more))

no_desc : ProcessDesc
no_desc = record { size = 0; entry = 0; image = []; lines = 0; grants = 0 }

-- an empty mask has no bit
pub no_bit : (n : ℕ) → has_bit 0 n ≡ false
no_bit n =
    let positive : 0 < 2 ^ n = pow_pos n in
    let none : 0 / 2 ^ n ≡ 0 = div-eq_of_lt positive in
    rw none refl

-- who owns a line is a process of the description, whose mask has it
owner_there : (d : MachineDesc) (p l : ℕ) → owns (rights_of d) p l ≡ true → (p < length d.processes) × (has_bit (get_or d.processes p no_desc).lines l ≡ true)
owner_there d p l is =
    let make : ProcessDesc → Rights = λ q. record { lines = q.lines; grants = q.grants } in
    elim (cases_lt p (length d.processes)) [
      | inl there ↦ (there, ap (λ (r : Rights). has_bit r.lines l) (sym (get_or-map make d.processes p no_desc no_rights there)) ∙ is)
      | inr past ↦
          let gone : get_or (map make d.processes) p no_rights ≡ no_rights = get_or_past (map make d.processes) p no_rights (rw length-map past) in
          absurd (true≢false (sym is ∙ ap (λ (r : Rights). has_bit r.lines l) gone ∙ no_bit l))
    ]

at_most_one : (b : Bool) (n : ℕ) → n ≡ (if b then 1 else 0) → n ≤ 1
at_most_one true n is = omega arith
at_most_one false n is = omega arith

pub lines_have_one_owner : LinesHaveOneOwner
lines_have_one_owner d h p q l other mine = elim (cases_Bool (owns (rights_of d) q l)) [
  | inr free ↦ free
  | inl too ↦
      let test : ProcessDesc → Bool = λ r. has_bit r.lines l in
      let one : (p < length d.processes) × (has_bit (get_or d.processes p no_desc).lines l ≡ true) = owner_there d p l mine in
      let two : (q < length d.processes) × (has_bit (get_or d.processes q no_desc).lines l ≡ true) = owner_there d q l too in
      let few : count_by test d.processes ≤ 1 = at_most_one (nat_lt l (line_count d)) (count_by test d.processes) (h.lines l) in
      elim (cases_lt p q) [
        | inl less ↦ let many : 2 ≤ count_by test d.processes = two_counted test d.processes p q no_desc less two.0 one.1 two.1 in absurd (let c : ⊥ = omega (arith, few, many) in c)
        | inr more ↦
            let less : q < p = omega (arith, more, other) in
            let many : 2 ≤ count_by test d.processes = two_counted test d.processes q p no_desc less one.0 two.1 one.1 in
            absurd (let c : ⊥ = omega (arith, few, many) in c)
      ]
]
