use Rattle.std.proofs.Common.{◌≡◌, ℕ, ◌<◌, true, false, refl, arith, inl, inr}
use Rattle.std.proofs.lemmas.Bool.{cases_lt}
use Rattle.seq_words.specs.Masks.{has_bit}
use Rattle.seq_kernel_tests.proofs.CallMachines.{no_bit, first_alone}
use Rattle.seq_kernel_tests.proofs.tests.running.Goals as goal

-- of three segments
held_below : (held t : ℕ) → held < 8 → has_bit held t ≡ true → t < 3
held_below held t small has = elim (cases_lt t 3) [
  | inl low ↦ low
  | inr high ↦ let none : has_bit held t ≡ false = no_bit held 3 t small high in absurd (let c : ⊥ = cc in c)
]

pub returns-clause-running : goal.returns-clause-running
returns-clause-running c = λ d processes segments quantum journal. record {
  within = record {
    process = rw processes (omega arith);
    aligned = rw c.load.ensures (refl, refl);
    held = λ t has. rw segments (held_below c.args.held t c.requires.held has);
    positions = record { reads = refl; writes = refl };
    reads = λ i. rw journal (first_alone c.args.reads 32 c.requires.reads i);
    writes = λ i. first_alone c.args.writes 1048576 c.requires.writes i;
    steps = omega arith;
    used = rw quantum (omega arith);
  };
  live = refl;
  left = rw quantum (omega arith);
}
