-- Worked rows of the listing and of the meaning, on numerals.
use Rattle.std.proofs.Common.{◌≡◌, Some, None, pos, negsuc, refl}
use Rattle.seq_isa.specs.Table.{StandsFor}
use Rattle.seq_isa.specs.Decoded.{decode_of, branch_of, store_of, immediate_of, multiply_of, register_of}
use Rattle.seq_isa.specs.Meaning.{quotient, remainder, quotient_unsigned, upper, signed}
use Rattle.std.specs.Prelude.{◌*ℤ◌}
use Rattle.seq_isa.specs.declared.instr.Instr.TheVariants.{Addi, Mul, Beq, Jal, Sw}

-- addi x1, x0, 5
addi_word : decode_of 0x00500093 ≡ Some (Addi 1 0 (pos 5))
unfolding decode_of immediate_of
addi_word = refl

-- mul x5, x6, x7
mul_word : decode_of 0x027302b3 ≡ Some (Mul 5 6 7)
unfolding decode_of register_of multiply_of
mul_word = refl

-- beq x1, x2, 8
beq_word : decode_of 0x00208463 ≡ Some (Beq 1 2 (pos 8))
unfolding decode_of branch_of
beq_word = refl

-- jal x0, -4
jal_word : decode_of 0xffdff06f ≡ Some (Jal 0 (negsuc 3))
unfolding decode_of
jal_word = refl

-- sw x5, 0(x9)
sw_word : decode_of 0x0054a023 ≡ Some (Sw 9 5 (pos 0))
unfolding decode_of store_of
sw_word = refl

-- the word of all ones is no instruction
ones_word : decode_of 0xffffffff ≡ None
unfolding decode_of
ones_word = refl

-- the same rows, by the listing
mul_row : StandsFor 0x027302b3 (Mul 5 6 7)
mul_row = record { opcode_is = refl; funct3_is = refl; funct7_is = refl; rd_is = refl; rs1_is = refl; rs2_is = refl }

jal_row : StandsFor 0xffdff06f (Jal 0 (negsuc 3))
jal_row = record { opcode_is = refl; rd_is = refl; offset_is = refl }

-- DIV of the least number by -1 is the least number again, with remainder 0
div_overflow : quotient 0x80000000 0xffffffff ≡ 0x80000000
unfolding quotient
div_overflow = refl

rem_overflow : remainder 0x80000000 0xffffffff ≡ 0
unfolding remainder
rem_overflow = refl

-- division by zero: all bits are set, and the remainder is the dividend
divu_by_zero : quotient_unsigned 7 0 ≡ 0xffffffff
unfolding quotient_unsigned
divu_by_zero = refl

rem_by_zero : remainder 7 0 ≡ 7
unfolding remainder
rem_by_zero = refl

-- -7 divided by 2 is -3, with remainder -1
div_towards_zero : quotient 0xfffffff9 2 ≡ 0xfffffffd
unfolding quotient
div_towards_zero = refl

rem_sign : remainder 0xfffffff9 2 ≡ 0xffffffff
unfolding remainder
rem_sign = refl

-- MULH of the least number with itself, and MULHSU of all ones with all ones
mulh_least : upper (signed 0x80000000 *ℤ signed 0x80000000) ≡ 0x40000000
mulh_least = refl

mulhsu_ones : upper (signed 0xffffffff *ℤ pos 0xffffffff) ≡ 0xffffffff
mulhsu_ones = refl
