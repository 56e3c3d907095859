-- The offset of a jump, from the fields of its word.
use Rattle.std.proofs.Common.{◌≡◌, ℕ, ◌+◌, ◌*◌, ◌/◌, ◌%◌, ◌<◌, ◌^◌, arith}
use Rattle.seq_isa.specs.Table.{bits, funct3_of, rs1_of, rs2_of, funct7_of}

pub jump_bits_of : (w n : ℕ) → n < 2097152 → n % 2 ≡ 0 → funct3_of w ≡ n / 4096 % 8 → rs1_of w ≡ n / 32768 % 32 → rs2_of w ≡ 2 * (n / 2 % 16) + n / 2048 % 2 → funct7_of w ≡ n / 32 % 64 + 64 * (n / 1048576) → 2 * bits w 30 21 + 2 ^ 11 * bits w 20 20 + 2 ^ 12 * bits w 19 12 + 2 ^ 20 * bits w 31 31 ≡ n
jump_bits_of w n small even funct3 rs1 rs2 funct7 =
    let low : bits w 30 21 ≡ n / 2 % 16 + 16 * (n / 32 % 64) = omega arith in
    let middle : bits w 20 20 ≡ n / 2048 % 2 = omega arith in
    let high : bits w 19 12 ≡ n / 4096 % 256 = omega arith in
    let top : bits w 31 31 ≡ n / 1048576 = omega arith in
    omega arith
