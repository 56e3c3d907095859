-- The laws of the table.
use Rattle.std.proofs.Common.{◌≡◌, ℕ, ◌<◌, ◌≤◌, Bool, true, false, cond, ◌==◌, nat_lt, codes, List, [], ◌∷◌, get_or, Option, Some, None, inl, inr, refl, sym, ap, subst, ◌∙◌, arith}
use Rattle.std.specs.List.{find, list_all, range_with_len}
use Rattle.std.specs.Str.{bytes_eq}
use Rattle.std.proofs.lemmas.Bool.{or_cases, and_parts, cases_order, eqb-true, ltb-true}
use Rattle.std.proofs.lemmas.Slice.Eq.{bytes_eq-Decides}
use Rattle.std.proofs.lemmas.List.Sums.{AllPass-from_list_all}
use Rattle.std.proofs.lemmas.List.FromFn.{get_or-range_with_len, length-range_with_len}
use Rattle.seq_isa.specs.declared.instr.Instr.{Instr}
use Rattle.seq_isa.specs.declared.instr.Instr.TheVariants.{Lui, Auipc, Jal, Jalr, Beq, Bne, Blt, Bge, Bltu, Bgeu, Lb, Lh, Lw, Lbu, Lhu, Sb, Sh, Sw, Addi, Slti, Sltiu, Xori, Ori, Andi, Slli, Srli, Srai, Add, Sub, Sll, Slt, Sltu, Xor, Srl, Sra, Or, And, Mul, Mulh, Mulhsu, Mulhu, Div, Divu, Rem, Remu, Fence, Ecall, Ebreak}
use Rattle.seq_mnemonics.specs.declared.names.RegisterName.TheVariants.{Add as AddName, Sub as SubName, Sll as SllName, Slt as SltName, Sltu as SltuName, Xor as XorName, Srl as SrlName, Sra as SraName, Or as OrName, And as AndName, Mul as MulName, Mulh as MulhName, Mulhsu as MulhsuName, Mulhu as MulhuName, Div as DivName, Divu as DivuName, Rem as RemName, Remu as RemuName}
use Rattle.seq_mnemonics.specs.declared.names.ImmediateName.TheVariants.{Addi as AddiName, Slti as SltiName, Sltiu as SltiuName, Xori as XoriName, Ori as OriName, Andi as AndiName}
use Rattle.seq_mnemonics.specs.declared.names.ShiftName.TheVariants.{Slli as SlliName, Srli as SrliName, Srai as SraiName}
use Rattle.seq_mnemonics.specs.declared.names.IndirectName.TheVariants.{Lb as LbName, Lh as LhName, Lw as LwName, Lbu as LbuName, Lhu as LhuName, Jalr as JalrName}
use Rattle.seq_mnemonics.specs.declared.names.StoreName.TheVariants.{Sb as SbName, Sh as ShName, Sw as SwName}
use Rattle.seq_mnemonics.specs.declared.names.BranchName.TheVariants.{Beq as BeqName, Bne as BneName, Blt as BltName, Bge as BgeName, Bltu as BltuName, Bgeu as BgeuName}
use Rattle.seq_mnemonics.specs.declared.names.UpperName.TheVariants.{Lui as LuiName, Auipc as AuipcName}
use Rattle.seq_mnemonics.specs.declared.names.PlainName.TheVariants.{Fence as FenceName, Ecall as EcallName, Ebreak as EbreakName}
use Rattle.seq_mnemonics.specs.declared.names.Mnemonic.{Mnemonic}
use Rattle.seq_mnemonics.specs.declared.names.Mnemonic.TheVariants.{Registers as RegistersForm, Immediate as ImmediateForm, Shift as ShiftForm, Indirect as IndirectForm, Store as StoreForm, Branch as BranchForm, Jump as JumpForm, Upper as UpperForm, Plain as PlainForm}
use Rattle.seq_mnemonics.specs.declared.statement.Statement.{Statement}
use Rattle.seq_mnemonics.specs.declared.statement.Statement.TheVariants.{Registers, Immediate, Shift, Indirect, Store, Branch, Jump, Upper, Plain}
use Rattle.seq_mnemonics.specs.declared.table.TheConstants.{MNEMONICS}
use Rattle.seq_mnemonics.specs.Names.{text_of, mnemonic_of}
use Rattle.seq_mnemonics.specs.Statements.{instruction_of, statement_of}
use Rattle.seq_mnemonics.specs.Registers.{x_name, other_name, has_name, register_of}
use Rattle.seq_mnemonics.specs.Laws.{NamesAreExact, StatementsAreExact, RegistersAreExact, PrintedRegistersAreRead}

-- what is found passes the test
found : {X : Type 0} (p : X → Bool) (xs : List X) (x : X) → find p xs ≡ Some x → p x ≡ true
found p [] x e = absurd cc
found p (y ∷ ys) x e = at (p y) refl e (found p ys x)
  where
    at : (t : Bool) → p y ≡ t → cond t (Some y) (find p ys) ≡ Some x → (find p ys ≡ Some x → p x ≡ true) → p x ≡ true
    at true h e rest = let same : y ≡ x = cc in subst (λ z. p z ≡ true) same h
    at false h e rest = rest e

-- and is one of the list
found_among : {X : Type 0} (p q : X → Bool) (xs : List X) (x : X) → list_all q xs ≡ true → find p xs ≡ Some x → q x ≡ true
found_among p q [] x all e = absurd cc
found_among p q (y ∷ ys) x all e =
    let parts : (q y ≡ true) × (list_all q ys ≡ true) = and_parts _ _ all in
    at (p y) e parts.0 (found_among p q ys x parts.1)
  where
    at : (t : Bool) → cond t (Some y) (find p ys) ≡ Some x → q y ≡ true → (find p ys ≡ Some x → q x ≡ true) → q x ≡ true
    at true e first rest = let same : y ≡ x = cc in subst (λ z. q z ≡ true) same first
    at false e first rest = rest e

same_text : (xs ys : List ℕ) → bytes_eq xs ys ≡ true → xs ≡ ys
same_text xs ys e = (bytes_eq-Decides xs ys).0 e

-- ---- names

name_again : (m : Mnemonic) → mnemonic_of (text_of m) ≡ Some m
unfolding mnemonic_of
name_again (RegistersForm AddName) = refl
name_again (RegistersForm SubName) = refl
name_again (RegistersForm SllName) = refl
name_again (RegistersForm SltName) = refl
name_again (RegistersForm SltuName) = refl
name_again (RegistersForm XorName) = refl
name_again (RegistersForm SrlName) = refl
name_again (RegistersForm SraName) = refl
name_again (RegistersForm OrName) = refl
name_again (RegistersForm AndName) = refl
name_again (RegistersForm MulName) = refl
name_again (RegistersForm MulhName) = refl
name_again (RegistersForm MulhsuName) = refl
name_again (RegistersForm MulhuName) = refl
name_again (RegistersForm DivName) = refl
name_again (RegistersForm DivuName) = refl
name_again (RegistersForm RemName) = refl
name_again (RegistersForm RemuName) = refl
name_again (ImmediateForm AddiName) = refl
name_again (ImmediateForm SltiName) = refl
name_again (ImmediateForm SltiuName) = refl
name_again (ImmediateForm XoriName) = refl
name_again (ImmediateForm OriName) = refl
name_again (ImmediateForm AndiName) = refl
name_again (ShiftForm SlliName) = refl
name_again (ShiftForm SrliName) = refl
name_again (ShiftForm SraiName) = refl
name_again (IndirectForm LbName) = refl
name_again (IndirectForm LhName) = refl
name_again (IndirectForm LwName) = refl
name_again (IndirectForm LbuName) = refl
name_again (IndirectForm LhuName) = refl
name_again (IndirectForm JalrName) = refl
name_again (StoreForm SbName) = refl
name_again (StoreForm ShName) = refl
name_again (StoreForm SwName) = refl
name_again (BranchForm BeqName) = refl
name_again (BranchForm BneName) = refl
name_again (BranchForm BltName) = refl
name_again (BranchForm BgeName) = refl
name_again (BranchForm BltuName) = refl
name_again (BranchForm BgeuName) = refl
name_again (UpperForm LuiName) = refl
name_again (UpperForm AuipcName) = refl
name_again (PlainForm FenceName) = refl
name_again (PlainForm EcallName) = refl
name_again (PlainForm EbreakName) = refl
name_again JumpForm = refl

name_found : (word : List ℕ) (m : Mnemonic) → mnemonic_of word ≡ Some m → text_of m ≡ word
unfolding mnemonic_of
name_found word m e = same_text _ _ (found (λ x. bytes_eq (text_of x) word) MNEMONICS m e)

pub names_are_exact : NamesAreExact
names_are_exact word m = (name_found word m, λ e. ap mnemonic_of (sym e) ∙ name_again m)

-- ---- statements

statement_again : (s : Statement) → statement_of (instruction_of s) ≡ Some s
statement_again (Registers AddName rd rs1 rs2) = refl
statement_again (Registers SubName rd rs1 rs2) = refl
statement_again (Registers SllName rd rs1 rs2) = refl
statement_again (Registers SltName rd rs1 rs2) = refl
statement_again (Registers SltuName rd rs1 rs2) = refl
statement_again (Registers XorName rd rs1 rs2) = refl
statement_again (Registers SrlName rd rs1 rs2) = refl
statement_again (Registers SraName rd rs1 rs2) = refl
statement_again (Registers OrName rd rs1 rs2) = refl
statement_again (Registers AndName rd rs1 rs2) = refl
statement_again (Registers MulName rd rs1 rs2) = refl
statement_again (Registers MulhName rd rs1 rs2) = refl
statement_again (Registers MulhsuName rd rs1 rs2) = refl
statement_again (Registers MulhuName rd rs1 rs2) = refl
statement_again (Registers DivName rd rs1 rs2) = refl
statement_again (Registers DivuName rd rs1 rs2) = refl
statement_again (Registers RemName rd rs1 rs2) = refl
statement_again (Registers RemuName rd rs1 rs2) = refl
statement_again (Immediate AddiName rd rs1 imm) = refl
statement_again (Immediate SltiName rd rs1 imm) = refl
statement_again (Immediate SltiuName rd rs1 imm) = refl
statement_again (Immediate XoriName rd rs1 imm) = refl
statement_again (Immediate OriName rd rs1 imm) = refl
statement_again (Immediate AndiName rd rs1 imm) = refl
statement_again (Shift SlliName rd rs1 amount) = refl
statement_again (Shift SrliName rd rs1 amount) = refl
statement_again (Shift SraiName rd rs1 amount) = refl
statement_again (Indirect LbName rd rs1 imm) = refl
statement_again (Indirect LhName rd rs1 imm) = refl
statement_again (Indirect LwName rd rs1 imm) = refl
statement_again (Indirect LbuName rd rs1 imm) = refl
statement_again (Indirect LhuName rd rs1 imm) = refl
statement_again (Indirect JalrName rd rs1 imm) = refl
statement_again (Store SbName rs1 rs2 imm) = refl
statement_again (Store ShName rs1 rs2 imm) = refl
statement_again (Store SwName rs1 rs2 imm) = refl
statement_again (Branch BeqName rs1 rs2 offset) = refl
statement_again (Branch BneName rs1 rs2 offset) = refl
statement_again (Branch BltName rs1 rs2 offset) = refl
statement_again (Branch BgeName rs1 rs2 offset) = refl
statement_again (Branch BltuName rs1 rs2 offset) = refl
statement_again (Branch BgeuName rs1 rs2 offset) = refl
statement_again (Upper LuiName rd imm) = refl
statement_again (Upper AuipcName rd imm) = refl
statement_again (Jump rd offset) = refl
statement_again (Plain FenceName) = refl
statement_again (Plain EcallName) = refl
statement_again (Plain EbreakName) = refl

-- what a choice gives, if it gives something
fence_statement : (word : ℕ) (t : Bool) (s : Statement) → (word == 0x0ff0000f) ≡ t → cond t (Some (Plain FenceName)) None ≡ Some s → instruction_of s ≡ Fence word
fence_statement word true s h e =
    let same : Plain FenceName ≡ s = cc in
    let there : word ≡ 0x0ff0000f = eqb-true _ _ h in
    ap instruction_of (sym same) ∙ ap Fence (sym there)
fence_statement word false s h e = absurd cc

stands : (i : Instr) (s : Statement) → (t : Statement) → Some t ≡ Some s → instruction_of t ≡ i → instruction_of s ≡ i
stands i s t e h = let same : t ≡ s = cc in subst (λ u. instruction_of u ≡ i) same h

statement_stands : (i : Instr) (s : Statement) → statement_of i ≡ Some s → instruction_of s ≡ i
statement_stands (Add rd rs1 rs2) s e = stands _ s _ e refl
statement_stands (Sub rd rs1 rs2) s e = stands _ s _ e refl
statement_stands (Sll rd rs1 rs2) s e = stands _ s _ e refl
statement_stands (Slt rd rs1 rs2) s e = stands _ s _ e refl
statement_stands (Sltu rd rs1 rs2) s e = stands _ s _ e refl
statement_stands (Xor rd rs1 rs2) s e = stands _ s _ e refl
statement_stands (Srl rd rs1 rs2) s e = stands _ s _ e refl
statement_stands (Sra rd rs1 rs2) s e = stands _ s _ e refl
statement_stands (Or rd rs1 rs2) s e = stands _ s _ e refl
statement_stands (And rd rs1 rs2) s e = stands _ s _ e refl
statement_stands (Mul rd rs1 rs2) s e = stands _ s _ e refl
statement_stands (Mulh rd rs1 rs2) s e = stands _ s _ e refl
statement_stands (Mulhsu rd rs1 rs2) s e = stands _ s _ e refl
statement_stands (Mulhu rd rs1 rs2) s e = stands _ s _ e refl
statement_stands (Div rd rs1 rs2) s e = stands _ s _ e refl
statement_stands (Divu rd rs1 rs2) s e = stands _ s _ e refl
statement_stands (Rem rd rs1 rs2) s e = stands _ s _ e refl
statement_stands (Remu rd rs1 rs2) s e = stands _ s _ e refl
statement_stands (Addi rd rs1 imm) s e = stands _ s _ e refl
statement_stands (Slti rd rs1 imm) s e = stands _ s _ e refl
statement_stands (Sltiu rd rs1 imm) s e = stands _ s _ e refl
statement_stands (Xori rd rs1 imm) s e = stands _ s _ e refl
statement_stands (Ori rd rs1 imm) s e = stands _ s _ e refl
statement_stands (Andi rd rs1 imm) s e = stands _ s _ e refl
statement_stands (Slli rd rs1 amount) s e = stands _ s _ e refl
statement_stands (Srli rd rs1 amount) s e = stands _ s _ e refl
statement_stands (Srai rd rs1 amount) s e = stands _ s _ e refl
statement_stands (Lb rd rs1 imm) s e = stands _ s _ e refl
statement_stands (Lh rd rs1 imm) s e = stands _ s _ e refl
statement_stands (Lw rd rs1 imm) s e = stands _ s _ e refl
statement_stands (Lbu rd rs1 imm) s e = stands _ s _ e refl
statement_stands (Lhu rd rs1 imm) s e = stands _ s _ e refl
statement_stands (Jalr rd rs1 imm) s e = stands _ s _ e refl
statement_stands (Sb rs1 rs2 imm) s e = stands _ s _ e refl
statement_stands (Sh rs1 rs2 imm) s e = stands _ s _ e refl
statement_stands (Sw rs1 rs2 imm) s e = stands _ s _ e refl
statement_stands (Beq rs1 rs2 offset) s e = stands _ s _ e refl
statement_stands (Bne rs1 rs2 offset) s e = stands _ s _ e refl
statement_stands (Blt rs1 rs2 offset) s e = stands _ s _ e refl
statement_stands (Bge rs1 rs2 offset) s e = stands _ s _ e refl
statement_stands (Bltu rs1 rs2 offset) s e = stands _ s _ e refl
statement_stands (Bgeu rs1 rs2 offset) s e = stands _ s _ e refl
statement_stands (Lui rd imm) s e = stands _ s _ e refl
statement_stands (Auipc rd imm) s e = stands _ s _ e refl
statement_stands (Jal rd offset) s e = stands _ s _ e refl
statement_stands (Fence word) s e = fence_statement word _ s refl e
statement_stands Ecall s e = stands _ s _ e refl
statement_stands Ebreak s e = stands _ s _ e refl

pub statements_are_exact : StatementsAreExact
statements_are_exact i s = (statement_stands i s, λ e. ap statement_of (sym e) ∙ statement_again s)

-- ---- registers

-- what a test finds of the numbers below 32 holds of each
pub below_32 : (p : ℕ → Bool) → list_all p (range_with_len 0 32) ≡ true → (n : ℕ) → n < 32 → p n ≡ true
below_32 p e n lt =
    let at = AllPass-from_list_all p (range_with_len 0 32) e n 0 (subst (λ k. n < k) (sym (length-range_with_len 0 32)) lt) in
    let same : get_or (range_with_len 0 32) n 0 ≡ n = omega (arith, get_or-range_with_len 0 32 n 0 lt) in
    subst (λ k. p k ≡ true) same at

abbrev is_some_of : ℕ → Option ℕ → Bool
is_some_of n (Some m) = m == n
is_some_of n None = false

from_some_of : (n : ℕ) (o : Option ℕ) → is_some_of n o ≡ true → o ≡ Some n
from_some_of n (Some m) e = ap Some (eqb-true _ _ e)
from_some_of n None e = absurd cc

printed_is_read : list_all (λ n. is_some_of n (register_of (x_name n))) (range_with_len 0 32) ≡ true
unfolding register_of
printed_is_read = refl

other_is_read : list_all (λ n. is_some_of n (register_of (other_name n))) (range_with_len 0 32) ≡ true
unfolding register_of
other_is_read = refl

fp_is_read : register_of (codes "fp") ≡ Some 8
unfolding register_of
fp_is_read = refl

pub printed_registers : PrintedRegistersAreRead
printed_registers n lt = from_some_of n _ (below_32 (λ k. is_some_of k (register_of (x_name k))) printed_is_read n lt)

other_registers : (n : ℕ) → n < 32 → register_of (other_name n) ≡ Some n
other_registers n lt = from_some_of n _ (below_32 (λ k. is_some_of k (register_of (other_name k))) other_is_read n lt)

named : (word : List ℕ) (n : ℕ) → n < 32 → has_name n word ≡ true → register_of word ≡ Some n
named word n lt e = elim (or_cases _ _ e) [
  | inl first ↦ elim (or_cases _ _ first) [
    | inl printed ↦ ap register_of (same_text word (x_name n) printed) ∙ printed_registers n lt
    | inr other ↦ ap register_of (same_text word (other_name n) other) ∙ other_registers n lt
  ]
  | inr third ↦ let p = and_parts _ _ third in ap register_of (same_text word (codes "fp") p.1) ∙ fp_is_read ∙ ap Some (sym (eqb-true n 8 p.0))
]

register_found : (word : List ℕ) (n : ℕ) → register_of word ≡ Some n → (n < 32) × (has_name n word ≡ true)
unfolding register_of
register_found word n e =
    (ltb-true _ _ (found_among (λ k. has_name k word) (λ k. nat_lt k 32) (range_with_len 0 32) n refl e), found (λ k. has_name k word) (range_with_len 0 32) n e)

pub registers_are_exact : RegistersAreExact
registers_are_exact word n = (register_found word n, λ h. named word n h.0 h.1)

-- of the numbers below 32 the one that is left
pub is_last : (n : ℕ) → n < 32 → (n ≡ 0 → ⊥) → (n ≡ 1 → ⊥) → (n ≡ 2 → ⊥) → (n ≡ 3 → ⊥) → (n ≡ 4 → ⊥) → (n ≡ 5 → ⊥) → (n ≡ 6 → ⊥) → (n ≡ 7 → ⊥) → (n ≡ 8 → ⊥) → (n ≡ 9 → ⊥) → (n ≡ 10 → ⊥) → (n ≡ 11 → ⊥) → (n ≡ 12 → ⊥) → (n ≡ 13 → ⊥) → (n ≡ 14 → ⊥) → (n ≡ 15 → ⊥) → (n ≡ 16 → ⊥) → (n ≡ 17 → ⊥) → (n ≡ 18 → ⊥) → (n ≡ 19 → ⊥) → (n ≡ 20 → ⊥) → (n ≡ 21 → ⊥) → (n ≡ 22 → ⊥) → (n ≡ 23 → ⊥) → (n ≡ 24 → ⊥) → (n ≡ 25 → ⊥) → (n ≡ 26 → ⊥) → (n ≡ 27 → ⊥) → (n ≡ 28 → ⊥) → (n ≡ 29 → ⊥) → (n ≡ 30 → ⊥) → n ≡ 31
is_last n lt h0 h1 h2 h3 h4 h5 h6 h7 h8 h9 h10 h11 h12 h13 h14 h15 h16 h17 h18 h19 h20 h21 h22 h23 h24 h25 h26 h27 h28 h29 h30 =
    let l0 : 0 < n = next n 0 (omega arith) h0 in
    let l1 : 1 < n = next n 1 l0 h1 in
    let l2 : 2 < n = next n 2 l1 h2 in
    let l3 : 3 < n = next n 3 l2 h3 in
    let l4 : 4 < n = next n 4 l3 h4 in
    let l5 : 5 < n = next n 5 l4 h5 in
    let l6 : 6 < n = next n 6 l5 h6 in
    let l7 : 7 < n = next n 7 l6 h7 in
    let l8 : 8 < n = next n 8 l7 h8 in
    let l9 : 9 < n = next n 9 l8 h9 in
    let l10 : 10 < n = next n 10 l9 h10 in
    let l11 : 11 < n = next n 11 l10 h11 in
    let l12 : 12 < n = next n 12 l11 h12 in
    let l13 : 13 < n = next n 13 l12 h13 in
    let l14 : 14 < n = next n 14 l13 h14 in
    let l15 : 15 < n = next n 15 l14 h15 in
    let l16 : 16 < n = next n 16 l15 h16 in
    let l17 : 17 < n = next n 17 l16 h17 in
    let l18 : 18 < n = next n 18 l17 h18 in
    let l19 : 19 < n = next n 19 l18 h19 in
    let l20 : 20 < n = next n 20 l19 h20 in
    let l21 : 21 < n = next n 21 l20 h21 in
    let l22 : 22 < n = next n 22 l21 h22 in
    let l23 : 23 < n = next n 23 l22 h23 in
    let l24 : 24 < n = next n 24 l23 h24 in
    let l25 : 25 < n = next n 25 l24 h25 in
    let l26 : 26 < n = next n 26 l25 h26 in
    let l27 : 27 < n = next n 27 l26 h27 in
    let l28 : 28 < n = next n 28 l27 h28 in
    let l29 : 29 < n = next n 29 l28 h29 in
    let l30 : 30 < n = next n 30 l29 h30 in
    omega (arith, lt, l30)
  where
    next : (n k : ℕ) → k ≤ n → (n ≡ k → ⊥) → k < n
    next n k le ne = elim (cases_order n k) [ inl e ↦ absurd (ne e) | inr other ↦ elim other [ inl lt ↦ omega arith | inr lt ↦ lt ] ]
