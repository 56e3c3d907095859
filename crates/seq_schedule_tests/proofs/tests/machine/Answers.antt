use Rattle.std.proofs.Common.{◌≡◌, ℕ, zero, suc, ◌/◌, ◌%◌, ◌^◌, ◌<◌, ◌≤◌, true, false, [], ◌∷◌, arith, refl, sym, ◌∙◌, ap}
use Rattle.std.specs.Prelude.{if◌then◌else◌, nat_lt, count_by, count_ones}
use Rattle.std.proofs.Math.Nat.{div-eq_of_lt}
use Rattle.std.proofs.Math.Pow.{pow_mono}
use Rattle.std.proofs.lemmas.Bool.{le-ltb}
use Rattle.std.proofs.lemmas.List.Elements.{All-cons, All-nil}
use lib.Count.{ones}
use Rattle.seq_words.specs.Masks.{has_bit}
use Rattle.seq_words.specs.declared.description.MachineDesc.{MachineDesc}
use Rattle.seq_words.specs.declared.description.ProcessDesc.{ProcessDesc}
use Rattle.seq_words.specs.Description.{IsSize, IsSegment, IsProcess, IsDescription, line_count}
use Rattle.seq_schedule_tests.proofs.tests.machine.Goals as goal

-- a mask below 2 ^ n has no bit from n on
no_bit : (mask n l : ℕ) → mask < 2 ^ n → n ≤ l → has_bit mask l ≡ false
no_bit mask n l small above =
    let high : 2 ^ n ≤ 2 ^ l = pow_mono above in
    let none : mask / 2 ^ l ≡ 0 = div-eq_of_lt (omega arith) in
    rw none refl

-- the mask 0 has no bit
none_granted : (s : ℕ) → has_bit 0 s ≡ true → s < 0
none_granted s has =
    let e : has_bit 0 s ≡ false = no_bit 0 0 s (omega arith) (omega arith) in
    absurd (let c : ⊥ = cc in c)

abbrev plain : ProcessDesc
plain = record { size = 32; entry = 0; image = []; lines = 3; grants = 0 }

two_ones : count_ones 3 ≡ 2
unfolding ones
two_ones = refl

-- lines 0 and 1 have one owner, and the others none
line_owners : (l : ℕ) → count_by (λ (r : ProcessDesc). has_bit r.lines l) (plain ∷ []) ≡ (if nat_lt l 2 then 1 else 0)
line_owners zero = refl
line_owners (suc zero) = refl
line_owners (suc (suc l)) =
    let second : has_bit 3 (suc (suc l)) ≡ false = no_bit 3 2 (suc (suc l)) (omega arith) (omega arith) in
    let past : nat_lt (suc (suc l)) 2 ≡ false = le-ltb (suc (suc l)) 2 (omega arith) in
    rw (second, past) refl

size : (most n : ℕ) → 32 ≤ n → n ≤ most → n % 32 ≡ 0 → IsSize most n
size most n low high whole = record { between = record { low_at = low; high_at = high }; whole = whole }

plain_process : IsProcess 0 plain
plain_process = record {
  size = size 65536 32 (omega arith) (omega arith) refl;
  image = omega arith;
  aligned = refl;
  inside = omega arith;
  few = omega (arith, two_ones);
  granted = none_granted;
}

abbrev made : MachineDesc
made = record {
  processors = 2;
  memories = 3;
  ios = 1;
  cache = 16;
  quantum = 1000;
  journal = 64;
  segments = [];
  processes = plain ∷ [];
}

two_lines : line_count made ≡ 2
two_lines = rw two_ones refl

described : IsDescription made
described = record {
  processors = record { low_at = omega arith; high_at = omega arith };
  memories = record { low_at = omega arith; high_at = omega arith };
  ios = record { low_at = omega arith; high_at = omega arith };
  cache = record { low_at = omega arith; high_at = omega arith };
  quantum = record { low_at = omega arith; high_at = omega arith };
  journal = size 65536 64 (omega arith) (omega arith) refl;
  segments = omega arith;
  each_segment = All-nil IsSegment;
  processes = record { low_at = omega arith; high_at = omega arith };
  each_process = All-cons (IsProcess 0) plain [] plain_process (All-nil (IsProcess 0));
  few_lines = rw two_lines (omega arith);
  lines = λ l. line_owners l ∙ ap (λ n. if nat_lt l n then 1 else 0) (sym two_lines);
}

pub returns : goal.returns
returns c = rw (c.new-2.ensures, c.from_vec.ensures ∙ c.in-Ok.ensures.items, c.new.ensures) described
