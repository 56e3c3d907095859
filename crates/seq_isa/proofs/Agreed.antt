-- The listing and the function agree.
use Rattle.std.proofs.Common.{◌≡◌, ℕ, Bool, true, false, Option, Some, None, IfSome, IsNone, if◌then◌else◌, ◌==◌, ◌||◌, ◌↔◌, refl, sym, ◌∙◌, subst}
use Rattle.std.proofs.lemmas.Bool.{eqb-true}
use Rattle.seq_isa.specs.Table.{StandsFor, IsR, IsI, IsS, IsB, opcode_of, rd_of, funct3_of, rs1_of, rs2_of, funct7_of, i_immediate, s_immediate, b_immediate}
use Rattle.seq_isa.specs.Decoded.{decode_of, branch_of, load_of, store_of, immediate_of, shift_of, base_of, alternate_of, multiply_of, register_of, system_of}
use Rattle.seq_isa.specs.declared.instr.Instr.{Instr}
use Rattle.seq_isa.specs.declared.instr.Instr.TheVariants.{Lui, Auipc, Jal, Jalr, Beq, Bne, Blt, Bge, Bltu, Bgeu, Lb, Lh, Lw, Lbu, Lhu, Sb, Sh, Sw, Addi, Slti, Sltiu, Xori, Ori, Andi, Slli, Srli, Srai, Add, Sub, Sll, Slt, Sltu, Xor, Srl, Sra, Or, And, Mul, Mulh, Mulhsu, Mulhu, Div, Divu, Rem, Remu, Fence, Ecall, Ebreak}

-- the function finds the instruction that a word stands for
pub decode_of_StandsFor : (w : ℕ) (i : Instr) → StandsFor w i → decode_of w ≡ Some i
unfolding decode_of branch_of load_of store_of immediate_of shift_of base_of alternate_of multiply_of register_of system_of
decode_of_StandsFor w (Lui rd imm) h = simp (h.opcode_is, h.rd_is, h.imm_is)
decode_of_StandsFor w (Auipc rd imm) h = simp (h.opcode_is, h.rd_is, h.imm_is)
decode_of_StandsFor w (Jal rd offset) h = simp (h.opcode_is, h.rd_is, h.offset_is)
decode_of_StandsFor w (Jalr rd rs1 imm) h = simp (h.opcode_is, h.funct3_is, h.rd_is, h.rs1_is, h.imm_is)
decode_of_StandsFor w (Beq rs1 rs2 offset) h = simp (h.opcode_is, h.funct3_is, h.rs1_is, h.rs2_is, h.offset_is)
decode_of_StandsFor w (Bne rs1 rs2 offset) h = simp (h.opcode_is, h.funct3_is, h.rs1_is, h.rs2_is, h.offset_is)
decode_of_StandsFor w (Blt rs1 rs2 offset) h = simp (h.opcode_is, h.funct3_is, h.rs1_is, h.rs2_is, h.offset_is)
decode_of_StandsFor w (Bge rs1 rs2 offset) h = simp (h.opcode_is, h.funct3_is, h.rs1_is, h.rs2_is, h.offset_is)
decode_of_StandsFor w (Bltu rs1 rs2 offset) h = simp (h.opcode_is, h.funct3_is, h.rs1_is, h.rs2_is, h.offset_is)
decode_of_StandsFor w (Bgeu rs1 rs2 offset) h = simp (h.opcode_is, h.funct3_is, h.rs1_is, h.rs2_is, h.offset_is)
decode_of_StandsFor w (Lb rd rs1 imm) h = simp (h.opcode_is, h.funct3_is, h.rd_is, h.rs1_is, h.imm_is)
decode_of_StandsFor w (Lh rd rs1 imm) h = simp (h.opcode_is, h.funct3_is, h.rd_is, h.rs1_is, h.imm_is)
decode_of_StandsFor w (Lw rd rs1 imm) h = simp (h.opcode_is, h.funct3_is, h.rd_is, h.rs1_is, h.imm_is)
decode_of_StandsFor w (Lbu rd rs1 imm) h = simp (h.opcode_is, h.funct3_is, h.rd_is, h.rs1_is, h.imm_is)
decode_of_StandsFor w (Lhu rd rs1 imm) h = simp (h.opcode_is, h.funct3_is, h.rd_is, h.rs1_is, h.imm_is)
decode_of_StandsFor w (Sb rs1 rs2 imm) h = simp (h.opcode_is, h.funct3_is, h.rs1_is, h.rs2_is, h.imm_is)
decode_of_StandsFor w (Sh rs1 rs2 imm) h = simp (h.opcode_is, h.funct3_is, h.rs1_is, h.rs2_is, h.imm_is)
decode_of_StandsFor w (Sw rs1 rs2 imm) h = simp (h.opcode_is, h.funct3_is, h.rs1_is, h.rs2_is, h.imm_is)
decode_of_StandsFor w (Addi rd rs1 imm) h = simp (h.opcode_is, h.funct3_is, h.rd_is, h.rs1_is, h.imm_is)
decode_of_StandsFor w (Slti rd rs1 imm) h = simp (h.opcode_is, h.funct3_is, h.rd_is, h.rs1_is, h.imm_is)
decode_of_StandsFor w (Sltiu rd rs1 imm) h = simp (h.opcode_is, h.funct3_is, h.rd_is, h.rs1_is, h.imm_is)
decode_of_StandsFor w (Xori rd rs1 imm) h = simp (h.opcode_is, h.funct3_is, h.rd_is, h.rs1_is, h.imm_is)
decode_of_StandsFor w (Ori rd rs1 imm) h = simp (h.opcode_is, h.funct3_is, h.rd_is, h.rs1_is, h.imm_is)
decode_of_StandsFor w (Andi rd rs1 imm) h = simp (h.opcode_is, h.funct3_is, h.rd_is, h.rs1_is, h.imm_is)
decode_of_StandsFor w (Slli rd rs1 amount) h = simp (h.opcode_is, h.funct3_is, h.funct7_is, h.rd_is, h.rs1_is, h.rs2_is)
decode_of_StandsFor w (Srli rd rs1 amount) h = simp (h.opcode_is, h.funct3_is, h.funct7_is, h.rd_is, h.rs1_is, h.rs2_is)
decode_of_StandsFor w (Srai rd rs1 amount) h = simp (h.opcode_is, h.funct3_is, h.funct7_is, h.rd_is, h.rs1_is, h.rs2_is)
decode_of_StandsFor w (Add rd rs1 rs2) h = simp (h.opcode_is, h.funct3_is, h.funct7_is, h.rd_is, h.rs1_is, h.rs2_is)
decode_of_StandsFor w (Sub rd rs1 rs2) h = simp (h.opcode_is, h.funct3_is, h.funct7_is, h.rd_is, h.rs1_is, h.rs2_is)
decode_of_StandsFor w (Sll rd rs1 rs2) h = simp (h.opcode_is, h.funct3_is, h.funct7_is, h.rd_is, h.rs1_is, h.rs2_is)
decode_of_StandsFor w (Slt rd rs1 rs2) h = simp (h.opcode_is, h.funct3_is, h.funct7_is, h.rd_is, h.rs1_is, h.rs2_is)
decode_of_StandsFor w (Sltu rd rs1 rs2) h = simp (h.opcode_is, h.funct3_is, h.funct7_is, h.rd_is, h.rs1_is, h.rs2_is)
decode_of_StandsFor w (Xor rd rs1 rs2) h = simp (h.opcode_is, h.funct3_is, h.funct7_is, h.rd_is, h.rs1_is, h.rs2_is)
decode_of_StandsFor w (Srl rd rs1 rs2) h = simp (h.opcode_is, h.funct3_is, h.funct7_is, h.rd_is, h.rs1_is, h.rs2_is)
decode_of_StandsFor w (Sra rd rs1 rs2) h = simp (h.opcode_is, h.funct3_is, h.funct7_is, h.rd_is, h.rs1_is, h.rs2_is)
decode_of_StandsFor w (Or rd rs1 rs2) h = simp (h.opcode_is, h.funct3_is, h.funct7_is, h.rd_is, h.rs1_is, h.rs2_is)
decode_of_StandsFor w (And rd rs1 rs2) h = simp (h.opcode_is, h.funct3_is, h.funct7_is, h.rd_is, h.rs1_is, h.rs2_is)
decode_of_StandsFor w (Mul rd rs1 rs2) h = simp (h.opcode_is, h.funct3_is, h.funct7_is, h.rd_is, h.rs1_is, h.rs2_is)
decode_of_StandsFor w (Mulh rd rs1 rs2) h = simp (h.opcode_is, h.funct3_is, h.funct7_is, h.rd_is, h.rs1_is, h.rs2_is)
decode_of_StandsFor w (Mulhsu rd rs1 rs2) h = simp (h.opcode_is, h.funct3_is, h.funct7_is, h.rd_is, h.rs1_is, h.rs2_is)
decode_of_StandsFor w (Mulhu rd rs1 rs2) h = simp (h.opcode_is, h.funct3_is, h.funct7_is, h.rd_is, h.rs1_is, h.rs2_is)
decode_of_StandsFor w (Div rd rs1 rs2) h = simp (h.opcode_is, h.funct3_is, h.funct7_is, h.rd_is, h.rs1_is, h.rs2_is)
decode_of_StandsFor w (Divu rd rs1 rs2) h = simp (h.opcode_is, h.funct3_is, h.funct7_is, h.rd_is, h.rs1_is, h.rs2_is)
decode_of_StandsFor w (Rem rd rs1 rs2) h = simp (h.opcode_is, h.funct3_is, h.funct7_is, h.rd_is, h.rs1_is, h.rs2_is)
decode_of_StandsFor w (Remu rd rs1 rs2) h = simp (h.opcode_is, h.funct3_is, h.funct7_is, h.rd_is, h.rs1_is, h.rs2_is)
decode_of_StandsFor w (Fence word) h = simp (h.opcode_is, h.funct3_is, h.word_is)
decode_of_StandsFor w Ecall h = simp h
decode_of_StandsFor w Ebreak h = simp h

-- an answer that the word stands for, or none
record Found (w : ℕ) (o : Option Instr) : Type 0 where
  some : IfSome o (StandsFor w)

-- what both branches of a choice are, the choice is
choice : (w : ℕ) (t : Bool) (x y : Option Instr) → (t ≡ true → Found w x) → (t ≡ false → Found w y) → Found w (if t then x else y)
choice w true x y first second = first refl
choice w false x y first second = second refl

row : (w : ℕ) (i : Instr) → StandsFor w i → Found w (Some i)
row w i h = record { some = h }

none : (w : ℕ) → Found w None
none w = record { some = tt }

-- a row of each format, from the tests on the word
r_row : (w op f3 f7 : ℕ) → opcode_of w ≡ op → (funct3_of w == f3) ≡ true → (funct7_of w == f7) ≡ true → IsR w op f3 f7 (rd_of w) (rs1_of w) (rs2_of w)
r_row w op f3 f7 e t u = record { opcode_is = e; funct3_is = eqb-true _ _ t; funct7_is = eqb-true _ _ u; rd_is = refl; rs1_is = refl; rs2_is = refl }

i_row : (w op f3 : ℕ) → opcode_of w ≡ op → (funct3_of w == f3) ≡ true → IsI w op f3 (rd_of w) (rs1_of w) (i_immediate w)
i_row w op f3 e t = record { opcode_is = e; funct3_is = eqb-true _ _ t; rd_is = refl; rs1_is = refl; imm_is = refl }

s_row : (w op f3 : ℕ) → opcode_of w ≡ op → (funct3_of w == f3) ≡ true → IsS w op f3 (rs1_of w) (rs2_of w) (s_immediate w)
s_row w op f3 e t = record { opcode_is = e; funct3_is = eqb-true _ _ t; rs1_is = refl; rs2_is = refl; imm_is = refl }

b_row : (w op f3 : ℕ) → opcode_of w ≡ op → (funct3_of w == f3) ≡ true → IsB w op f3 (rs1_of w) (rs2_of w) (b_immediate w)
b_row w op f3 e t = record { opcode_is = e; funct3_is = eqb-true _ _ t; rs1_is = refl; rs2_is = refl; offset_is = refl }

branch_found : (w : ℕ) → opcode_of w ≡ 0b1100011 → Found w (branch_of (funct3_of w) (rs1_of w) (rs2_of w) (b_immediate w))
unfolding branch_of
branch_found w e =
    choice w _ _ _ (λ t. row w _ (b_row w _ 0b000 e t)) (λ _.
    choice w _ _ _ (λ t. row w _ (b_row w _ 0b001 e t)) (λ _.
    choice w _ _ _ (λ t. row w _ (b_row w _ 0b100 e t)) (λ _.
    choice w _ _ _ (λ t. row w _ (b_row w _ 0b101 e t)) (λ _.
    choice w _ _ _ (λ t. row w _ (b_row w _ 0b110 e t)) (λ _.
    choice w _ _ _ (λ t. row w _ (b_row w _ 0b111 e t)) (λ _.
    none w))))))

load_found : (w : ℕ) → opcode_of w ≡ 0b0000011 → Found w (load_of (funct3_of w) (rd_of w) (rs1_of w) (i_immediate w))
unfolding load_of
load_found w e =
    choice w _ _ _ (λ t. row w _ (i_row w _ 0b000 e t)) (λ _.
    choice w _ _ _ (λ t. row w _ (i_row w _ 0b001 e t)) (λ _.
    choice w _ _ _ (λ t. row w _ (i_row w _ 0b010 e t)) (λ _.
    choice w _ _ _ (λ t. row w _ (i_row w _ 0b100 e t)) (λ _.
    choice w _ _ _ (λ t. row w _ (i_row w _ 0b101 e t)) (λ _.
    none w)))))

store_found : (w : ℕ) → opcode_of w ≡ 0b0100011 → Found w (store_of (funct3_of w) (rs1_of w) (rs2_of w) (s_immediate w))
unfolding store_of
store_found w e =
    choice w _ _ _ (λ t. row w _ (s_row w _ 0b000 e t)) (λ _.
    choice w _ _ _ (λ t. row w _ (s_row w _ 0b001 e t)) (λ _.
    choice w _ _ _ (λ t. row w _ (s_row w _ 0b010 e t)) (λ _.
    none w)))

immediate_found : (w : ℕ) → opcode_of w ≡ 0b0010011 → Found w (immediate_of (funct3_of w) (rd_of w) (rs1_of w) (i_immediate w))
unfolding immediate_of
immediate_found w e =
    choice w _ _ _ (λ t. row w _ (i_row w _ 0b000 e t)) (λ _.
    choice w _ _ _ (λ t. row w _ (i_row w _ 0b010 e t)) (λ _.
    choice w _ _ _ (λ t. row w _ (i_row w _ 0b011 e t)) (λ _.
    choice w _ _ _ (λ t. row w _ (i_row w _ 0b100 e t)) (λ _.
    choice w _ _ _ (λ t. row w _ (i_row w _ 0b110 e t)) (λ _.
    choice w _ _ _ (λ t. row w _ (i_row w _ 0b111 e t)) (λ _.
    none w))))))

base_found : (w : ℕ) → opcode_of w ≡ 0b0110011 → (funct7_of w == 0b0000000) ≡ true → Found w (base_of (funct3_of w) (rd_of w) (rs1_of w) (rs2_of w))
unfolding base_of
base_found w e u =
    choice w _ _ _ (λ t. row w _ (r_row w _ 0b000 _ e t u)) (λ _.
    choice w _ _ _ (λ t. row w _ (r_row w _ 0b001 _ e t u)) (λ _.
    choice w _ _ _ (λ t. row w _ (r_row w _ 0b010 _ e t u)) (λ _.
    choice w _ _ _ (λ t. row w _ (r_row w _ 0b011 _ e t u)) (λ _.
    choice w _ _ _ (λ t. row w _ (r_row w _ 0b100 _ e t u)) (λ _.
    choice w _ _ _ (λ t. row w _ (r_row w _ 0b101 _ e t u)) (λ _.
    choice w _ _ _ (λ t. row w _ (r_row w _ 0b110 _ e t u)) (λ _.
    choice w _ _ _ (λ t. row w _ (r_row w _ 0b111 _ e t u)) (λ _.
    none w))))))))

alternate_found : (w : ℕ) → opcode_of w ≡ 0b0110011 → (funct7_of w == 0b0100000) ≡ true → Found w (alternate_of (funct3_of w) (rd_of w) (rs1_of w) (rs2_of w))
unfolding alternate_of
alternate_found w e u =
    choice w _ _ _ (λ t. row w _ (r_row w _ 0b000 _ e t u)) (λ _.
    choice w _ _ _ (λ t. row w _ (r_row w _ 0b101 _ e t u)) (λ _.
    none w))

multiply_found : (w : ℕ) → opcode_of w ≡ 0b0110011 → (funct7_of w == 0b0000001) ≡ true → Found w (multiply_of (funct3_of w) (rd_of w) (rs1_of w) (rs2_of w))
unfolding multiply_of
multiply_found w e u =
    choice w _ _ _ (λ t. row w _ (r_row w _ 0b000 _ e t u)) (λ _.
    choice w _ _ _ (λ t. row w _ (r_row w _ 0b001 _ e t u)) (λ _.
    choice w _ _ _ (λ t. row w _ (r_row w _ 0b010 _ e t u)) (λ _.
    choice w _ _ _ (λ t. row w _ (r_row w _ 0b011 _ e t u)) (λ _.
    choice w _ _ _ (λ t. row w _ (r_row w _ 0b100 _ e t u)) (λ _.
    choice w _ _ _ (λ t. row w _ (r_row w _ 0b101 _ e t u)) (λ _.
    choice w _ _ _ (λ t. row w _ (r_row w _ 0b110 _ e t u)) (λ _.
    choice w _ _ _ (λ t. row w _ (r_row w _ 0b111 _ e t u)) (λ _.
    none w))))))))

shift_found : (w : ℕ) → opcode_of w ≡ 0b0010011 → Found w (shift_of (funct3_of w) (funct7_of w) (rd_of w) (rs1_of w) (rs2_of w))
unfolding shift_of
shift_found w e =
    choice w (funct7_of w == 0b0000000) _ _
    (λ u.
    choice w _ _ _ (λ t. row w _ (r_row w _ 0b001 0b0000000 e t u)) (λ _.
    choice w _ _ _ (λ t. row w _ (r_row w _ 0b101 0b0000000 e t u)) (λ _.
    none w)))
    (λ _. choice w (funct7_of w == 0b0100000) _ _
    (λ u.
    choice w _ _ _ (λ t. row w _ (r_row w _ 0b101 0b0100000 e t u)) (λ _.
    none w))
    (λ _. none w))

register_found : (w : ℕ) → opcode_of w ≡ 0b0110011 → Found w (register_of (funct3_of w) (funct7_of w) (rd_of w) (rs1_of w) (rs2_of w))
unfolding register_of
register_found w e =
    choice w _ _ _ (λ u. base_found w e u) (λ _.
    choice w _ _ _ (λ u. alternate_found w e u) (λ _.
    choice w _ _ _ (λ u. multiply_found w e u) (λ _.
    none w)))

system_found : (w : ℕ) → Found w (system_of w)
unfolding system_of
system_found w =
    choice w (w == 0x00000073) _ _ (λ t. row w Ecall (eqb-true _ _ t)) (λ _.
    choice w (w == 0x00100073) _ _ (λ t. row w Ebreak (eqb-true _ _ t)) (λ _.
    none w))

-- a test on the opcode
has_opcode : (w op : ℕ) → (opcode_of w == op) ≡ true → opcode_of w ≡ op
has_opcode w op t = eqb-true _ _ t

-- what the function finds, the word stands for
decode_of_found : (w : ℕ) → Found w (decode_of w)
unfolding decode_of
decode_of_found w =
    choice w (opcode_of w == 0b0110111) _ _ (λ t. row w (Lui _ _) (record { opcode_is = has_opcode w _ t; rd_is = refl; imm_is = refl })) (λ _.
    choice w (opcode_of w == 0b0010111) _ _ (λ t. row w (Auipc _ _) (record { opcode_is = has_opcode w _ t; rd_is = refl; imm_is = refl })) (λ _.
    choice w (opcode_of w == 0b1101111) _ _ (λ t. row w (Jal _ _) (record { opcode_is = has_opcode w _ t; rd_is = refl; offset_is = refl })) (λ _.
    choice w (opcode_of w == 0b1100111) _ _ (λ t. choice w (funct3_of w == 0b000) _ _ (λ u. row w (Jalr _ _ _) (i_row w _ 0b000 (has_opcode w _ t) u)) (λ _. none w)) (λ _.
    choice w (opcode_of w == 0b1100011) _ _ (λ t. branch_found w (has_opcode w _ t)) (λ _.
    choice w (opcode_of w == 0b0000011) _ _ (λ t. load_found w (has_opcode w _ t)) (λ _.
    choice w (opcode_of w == 0b0100011) _ _ (λ t. store_found w (has_opcode w _ t)) (λ _.
    choice w (opcode_of w == 0b0010011) _ _ (λ t. choice w ((funct3_of w == 0b001) || (funct3_of w == 0b101)) _ _ (λ _. shift_found w (has_opcode w _ t)) (λ _. immediate_found w (has_opcode w _ t))) (λ _.
    choice w (opcode_of w == 0b0110011) _ _ (λ t. register_found w (has_opcode w _ t)) (λ _.
    choice w (opcode_of w == 0b0001111) _ _ (λ t. choice w (funct3_of w == 0b000) _ _ (λ u. row w (Fence w) (record { opcode_is = has_opcode w _ t; funct3_is = eqb-true _ _ u; word_is = refl })) (λ _. none w)) (λ _.
    choice w (opcode_of w == 0b1110011) _ _ (λ t. system_found w) (λ _.
    none w)))))))))))

StandsFor_at : (w : ℕ) (i : Instr) (o : Option Instr) → IfSome o (StandsFor w) → o ≡ Some i → StandsFor w i
StandsFor_at w i o h e = let P : Option Instr → Type 0 = λ v. IfSome v (StandsFor w) in subst P e h

-- the listing is the function
pub listing_is_function : (w : ℕ) (i : Instr) → StandsFor w i ↔ (decode_of w ≡ Some i)
listing_is_function w i = (decode_of_StandsFor w i, StandsFor_at w i (decode_of w) (decode_of_found w).some)

none≢some : (i : Instr) → ◌≡◌ {A = Option Instr} None (Some i) → ⊥
none≢some i e = cc

none_at : (w : ℕ) (o : Option Instr) → IfSome o (StandsFor w) → ((i : Instr) → StandsFor w i → o ≡ Some i) → IsNone o ↔ ((i : Instr) → StandsFor w i → ⊥)
none_at w (Some i) found all = (λ e. cc, λ absent. absurd (absent i found))
none_at w None found all = (λ _ i h. none≢some i (all i h), λ _. refl)

-- an answer that is the function's is the word's instruction
pub found_from_decode_of : (w : ℕ) (o : Option Instr) → o ≡ decode_of w → IfSome o (StandsFor w)
found_from_decode_of w o e = let P : Option Instr → Type 0 = λ v. IfSome v (StandsFor w) in subst P (sym e) (decode_of_found w).some

-- and is none exactly where the word stands for no instruction
pub none_from_decode_of : (w : ℕ) (o : Option Instr) → o ≡ decode_of w → IsNone o ↔ ((i : Instr) → StandsFor w i → ⊥)
none_from_decode_of w o e = none_at w o (found_from_decode_of w o e) (λ i h. e ∙ decode_of_StandsFor w i h)

same_some : (i j : Instr) → ◌≡◌ {A = Option Instr} (Some i) (Some j) → i ≡ j
same_some i j e = cc

-- a word stands for at most one instruction
pub one_instruction : (w : ℕ) (i j : Instr) → StandsFor w i → StandsFor w j → i ≡ j
one_instruction w i j h k = same_some i j (sym (decode_of_StandsFor w i h) ∙ decode_of_StandsFor w j k)
