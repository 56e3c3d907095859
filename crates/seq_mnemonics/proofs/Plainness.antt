-- The printed texts hold none of the bytes that separate.
use Rattle.std.proofs.Common.{◌≡◌, ℕ, zero, suc, ◌+◌, ◌/◌, ◌%◌, ◌^◌, ◌<◌, Bool, true, false, cond, ◌&&◌, ◌||◌, ◌==◌, nat_le, List, [], ◌∷◌, decimal, inl, inr, refl, arith}
use Rattle.std.specs.List.{list_all}
use Rattle.std.specs.Fmt.{digits, digits_onto, digit_glyph}
use Rattle.std.proofs.lemmas.Bool.{and_parts, and_from, le-leb, lt-ltb, le-ltb, cases_lt}
use Rattle.std.proofs.lemmas.Fmt.{decimal_is_IsNumeral}
use Rattle.seq_text.specs.Numbers.{is_digit}
use Rattle.seq_mnemonics.specs.declared.names.RegisterName.TheVariants.{Add as AddName, Sub as SubName, Sll as SllName, Slt as SltName, Sltu as SltuName, Xor as XorName, Srl as SrlName, Sra as SraName, Or as OrName, And as AndName, Mul as MulName, Mulh as MulhName, Mulhsu as MulhsuName, Mulhu as MulhuName, Div as DivName, Divu as DivuName, Rem as RemName, Remu as RemuName}
use Rattle.seq_mnemonics.specs.declared.names.ImmediateName.TheVariants.{Addi as AddiName, Slti as SltiName, Sltiu as SltiuName, Xori as XoriName, Ori as OriName, Andi as AndiName}
use Rattle.seq_mnemonics.specs.declared.names.ShiftName.TheVariants.{Slli as SlliName, Srli as SrliName, Srai as SraiName}
use Rattle.seq_mnemonics.specs.declared.names.IndirectName.TheVariants.{Lb as LbName, Lh as LhName, Lw as LwName, Lbu as LbuName, Lhu as LhuName, Jalr as JalrName}
use Rattle.seq_mnemonics.specs.declared.names.StoreName.TheVariants.{Sb as SbName, Sh as ShName, Sw as SwName}
use Rattle.seq_mnemonics.specs.declared.names.BranchName.TheVariants.{Beq as BeqName, Bne as BneName, Blt as BltName, Bge as BgeName, Bltu as BltuName, Bgeu as BgeuName}
use Rattle.seq_mnemonics.specs.declared.names.UpperName.TheVariants.{Lui as LuiName, Auipc as AuipcName}
use Rattle.seq_mnemonics.specs.declared.names.PlainName.TheVariants.{Fence as FenceName, Ecall as EcallName, Ebreak as EbreakName}
use Rattle.seq_mnemonics.specs.declared.names.Mnemonic.{Mnemonic}
use Rattle.seq_mnemonics.specs.declared.names.Mnemonic.TheVariants.{Registers as RegistersForm, Immediate as ImmediateForm, Shift as ShiftForm, Indirect as IndirectForm, Store as StoreForm, Branch as BranchForm, Jump as JumpForm, Upper as UpperForm, Plain as PlainForm}
use Rattle.seq_mnemonics.specs.Names.{text_of}
use Rattle.seq_mnemonics.specs.Registers.{x_name}
use Rattle.seq_mnemonics.specs.Laws.{is_plain, PrintedTextsArePlain}
use Rattle.seq_mnemonics.proofs.Tables.{below_32}
use Rattle.seq_mnemonics.proofs.Numerals.{decimal_digits}

name_plain : (m : Mnemonic) → list_all is_plain (text_of m) ≡ true
name_plain (RegistersForm AddName) = refl
name_plain (RegistersForm SubName) = refl
name_plain (RegistersForm SllName) = refl
name_plain (RegistersForm SltName) = refl
name_plain (RegistersForm SltuName) = refl
name_plain (RegistersForm XorName) = refl
name_plain (RegistersForm SrlName) = refl
name_plain (RegistersForm SraName) = refl
name_plain (RegistersForm OrName) = refl
name_plain (RegistersForm AndName) = refl
name_plain (RegistersForm MulName) = refl
name_plain (RegistersForm MulhName) = refl
name_plain (RegistersForm MulhsuName) = refl
name_plain (RegistersForm MulhuName) = refl
name_plain (RegistersForm DivName) = refl
name_plain (RegistersForm DivuName) = refl
name_plain (RegistersForm RemName) = refl
name_plain (RegistersForm RemuName) = refl
name_plain (ImmediateForm AddiName) = refl
name_plain (ImmediateForm SltiName) = refl
name_plain (ImmediateForm SltiuName) = refl
name_plain (ImmediateForm XoriName) = refl
name_plain (ImmediateForm OriName) = refl
name_plain (ImmediateForm AndiName) = refl
name_plain (ShiftForm SlliName) = refl
name_plain (ShiftForm SrliName) = refl
name_plain (ShiftForm SraiName) = refl
name_plain (IndirectForm LbName) = refl
name_plain (IndirectForm LhName) = refl
name_plain (IndirectForm LwName) = refl
name_plain (IndirectForm LbuName) = refl
name_plain (IndirectForm LhuName) = refl
name_plain (IndirectForm JalrName) = refl
name_plain (StoreForm SbName) = refl
name_plain (StoreForm ShName) = refl
name_plain (StoreForm SwName) = refl
name_plain (BranchForm BeqName) = refl
name_plain (BranchForm BneName) = refl
name_plain (BranchForm BltName) = refl
name_plain (BranchForm BgeName) = refl
name_plain (BranchForm BltuName) = refl
name_plain (BranchForm BgeuName) = refl
name_plain (UpperForm LuiName) = refl
name_plain (UpperForm AuipcName) = refl
name_plain (PlainForm FenceName) = refl
name_plain (PlainForm EcallName) = refl
name_plain (PlainForm EbreakName) = refl
name_plain JumpForm = refl

register_plain : (n : ℕ) → n < 32 → list_all is_plain (x_name n) ≡ true
register_plain n lt = below_32 (λ k. list_all is_plain (x_name k)) refl n lt

digits_plain : (ds : List ℕ) → list_all is_digit ds ≡ true → list_all is_plain ds ≡ true
digits_plain [] h = refl
digits_plain (c ∷ cs) h =
    let parts : (is_digit c ≡ true) × (list_all is_digit cs ≡ true) = and_parts _ _ h in
    rw (parts.0, digits_plain cs parts.1) refl

glyph_plain : (d : ℕ) → d < 16 → is_plain (digit_glyph false d) ≡ true
glyph_plain d h = elim (cases_lt d 10) [
  | inl lt ↦
      let small = lt-ltb d 10 lt in
      let low : nat_le 48 (48 + d) ≡ true = le-leb _ _ (omega arith) in
      let high : nat_le (48 + d) 57 ≡ true = le-leb _ _ (omega arith) in
      rw (small, low, high) refl
  | inr le ↦
      let large = le-ltb d 10 le in
      let low : nat_le 97 (87 + d) ≡ true = le-leb _ _ (omega arith) in
      let high : nat_le (87 + d) 122 ≡ true = le-leb _ _ (omega arith) in
      rw (large, low, high) (either (nat_le 48 (87 + d) && nat_le (87 + d) 57))
]
  where
    either : (t : Bool) → (t || true || (87 + d == 45)) ≡ true
    either true = refl
    either false = refl

onto_plain : (k n : ℕ) (acc : List ℕ) → list_all is_plain acc ≡ true → list_all is_plain (digits_onto k 16 false n acc) ≡ true
onto_plain zero n acc h = h
onto_plain (suc k) n acc h =
    let more : list_all is_plain (digit_glyph false (n % 16) ∷ acc) ≡ true = and_from _ _ (glyph_plain (n % 16) (omega arith)) h in
    choice (n / 16 == 0) more (onto_plain k (n / 16) (digit_glyph false (n % 16) ∷ acc) more)
  where
    choice : (t : Bool) → list_all is_plain (digit_glyph false (n % 16) ∷ acc) ≡ true → list_all is_plain (digits_onto k 16 false (n / 16) (digit_glyph false (n % 16) ∷ acc)) ≡ true → list_all is_plain (cond t (digit_glyph false (n % 16) ∷ acc) (digits_onto k 16 false (n / 16) (digit_glyph false (n % 16) ∷ acc))) ≡ true
    choice true p q = p
    choice false p q = q

hexadecimal_plain : (n : ℕ) → list_all is_plain (digits 16 false n) ≡ true
unfolding digits
hexadecimal_plain n = onto_plain 64 n [] refl

natural_plain : (n : ℕ) → n < 2 ^ 64 → list_all is_plain (decimal n) ≡ true
natural_plain n h = digits_plain (decimal n) (decimal_digits (decimal n) (decimal_is_IsNumeral n h).0.1)

pub printed_texts : PrintedTextsArePlain
printed_texts = record {
  names = name_plain;
  registers = register_plain;
  naturals = natural_plain;
  negatives = λ n h. natural_plain (suc n) h;
  hexadecimals = λ n h. hexadecimal_plain n;
}
