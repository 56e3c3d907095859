use Rattle.std.proofs.Common.{◌≡◌, ℕ, zero, suc, ◌/◌, ◌%◌, ◌^◌, ◌<◌, ◌≤◌, true, false, [], ◌∷◌, None, length, get_or, arith, refl, inl, inr}
use Rattle.std.proofs.Math.Nat.{div-eq_of_lt}
use Rattle.std.proofs.Math.Pow.{pow_mono}
use Rattle.std.proofs.lemmas.Bool.{cases_lt}
use Rattle.seq_words.specs.Masks.{has_bit}
use Rattle.seq_words.specs.declared.regs.Regs.{Regs}
use Rattle.seq_words.specs.declared.description.MachineDesc.{MachineDesc}
use Rattle.seq_words.specs.Description.{process_of}
use Rattle.seq_flat.specs.declared.state.End.TheVariants.{Live}
use Rattle.seq_process.specs.declared.running.Running.{Running}
use Rattle.seq_kernel.specs.Bounds.{IsRunning}
use Rattle.seq_kernel_tests.proofs.step_tests.Bench.process_at.Goals as goal

-- a mask below 2 ^ n has no bit from n on
no_bit : (mask n l : ℕ) → mask < 2 ^ n → n ≤ l → has_bit mask l ≡ false
no_bit mask n l small above =
    let high : 2 ^ n ≤ 2 ^ l = pow_mono above in
    let none : mask / 2 ^ l ≡ 0 = div-eq_of_lt (omega arith) in
    rw none refl

below : (mask n l : ℕ) → mask < 2 ^ n → has_bit mask l ≡ true → l < n
below mask n l small has = elim (cases_lt l n) [
  | inl lt ↦ lt
  | inr ge ↦ absurd (let e : has_bit mask l ≡ false = no_bit mask n l small ge in let c : ⊥ = cc in c)
]

first_alone : (x most i : ℕ) → x ≤ most → get_or (x ∷ 0 ∷ 0 ∷ 0 ∷ []) i 0 ≤ most
first_alone x most zero small = small
first_alone x most (suc zero) small = omega arith
first_alone x most (suc (suc zero)) small = omega arith
first_alone x most (suc (suc (suc zero))) small = omega arith
first_alone x most (suc (suc (suc (suc i)))) small = omega arith

abbrev made : Regs → ℕ → ℕ → ℕ → Running
made regs held read written = record {
  pid = record { 0 = 0 };
  pair = record { a = regs; b = regs; struck = None };
  held = held;
  end = Live;
  reads = read ∷ 0 ∷ 0 ∷ 0 ∷ [];
  writes = written ∷ 0 ∷ 0 ∷ 0 ∷ [];
  commits = 3;
  steps = 5;
  used = 9;
}

runs : (d : MachineDesc) (regs : Regs) (held read written : ℕ) → d.quantum ≡ 1000 → d.journal ≡ 32 → length d.segments ≡ 4 → length d.processes ≡ 2 → (process_of d 0).lines ≡ 1 → regs.pc % 4 ≡ 0 → held < 16 → read ≤ 32 → written ≤ 1048576 → IsRunning d (made regs held read written)
runs d regs held read written quantum journal segments processes lines aligned few reads writes = record {
  within = record {
    process = rw processes (omega arith);
    aligned = (aligned, aligned);
    held = λ t has. rw segments (below held 4 t (omega arith) has);
    positions = record { reads = refl; writes = refl };
    reads = λ i. rw journal (first_alone read 32 i reads);
    writes = λ i. first_alone written 1048576 i writes;
    steps = omega arith;
    used = rw quantum (omega arith);
  };
  live = refl;
  left = rw quantum (omega arith);
}

pub returns-clause-running : goal.returns-clause-running
returns-clause-running c =
    let b = c.args.self.now in
    rw c.load.ensures (runs b.desc c.args.regs c.args.kept.held c.args.kept.read c.args.kept.written b.quantum b.journal b.segments b.processes b.lines c.requires.aligned c.requires.held c.requires.read c.requires.written)
