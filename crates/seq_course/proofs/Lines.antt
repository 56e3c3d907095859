-- A line that some process owns is one of the machine's.
use Rattle.std.proofs.Common.{◌≡◌, ℕ, ◌+◌, ◌<◌, ◌≤◌, Bool, true, false, ◌||◌, cond, List, [], ◌∷◌, arith}
use Rattle.std.specs.Prelude.{nat_lt}
use Rattle.std.specs.List.{list_any, count_by}
use Rattle.std.proofs.lemmas.Bool.{and_parts}
use Rattle.std.proofs.lemmas.Bool.Decides.{nat_tests}
use Rattle.std.proofs.lemmas.List.Sums.{sum_by-cons}
use Rattle.seq_words.specs.Masks.{has_bit}
use Rattle.seq_words.specs.Description.{IsDescription, line_count, owner_count}
use Rattle.seq_words.specs.declared.names.LineNo.{LineNo}
use Rattle.seq_words.specs.declared.description.MachineDesc.{MachineDesc}
use Rattle.seq_words.specs.declared.description.ProcessDesc.{ProcessDesc}
use Rattle.seq_schedule.specs.Rules.{is_line}

counted_more : (here rest : Bool) (n : ℕ) → (rest ≡ true → 1 ≤ n) → (here || rest) ≡ true → 1 ≤ cond here 1 0 + n
counted_more true rest n counted e = omega arith
counted_more false rest n counted e = let one : 1 ≤ n = counted e in omega arith

any_counted : {A : Type 0} (test : A → Bool) (xs : List A) → list_any test xs ≡ true → 1 ≤ count_by test xs
any_counted test [] e = absurd cc
any_counted test (x ∷ xs) e = rw (sum_by-cons (λ y. cond (test y) 1 0) x xs) (counted_more (test x) (list_any test xs) (count_by test xs) (any_counted test xs) e)

pub line_is_there : (d : MachineDesc) (l : LineNo) → IsDescription d → is_line d l ≡ true → l.0 < line_count d
line_is_there d l described e =
    let one : 1 ≤ owner_count d l.0 = any_counted (λ (p : ProcessDesc). has_bit p.lines l.0) d.processes (and_parts (nat_lt l.0 16) (list_any (λ (p : ProcessDesc). has_bit p.lines l.0) d.processes) e).1 in
    grind (arith, nat_tests, described.lines l.0)
