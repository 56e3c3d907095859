-- A printed statement is read as that statement.
use Rattle.std.proofs.Common.{◌≡◌, ℕ, suc, ◌+◌, ◌-◌, ◌<◌, ◌≤◌, ◌^◌, Bool, true, false, ◌&&◌, ltb, eqb, List, [], ◌∷◌, ◌++◌, length, get_or, codes, decimal, Some, refl, sym, ap, subst, ◌∙◌, append_assoc, arith}
use Rattle.std.specs.Prelude.{ℤ, pos, negsuc, neg_ℤ, nat_abs, nat_le}
use Rattle.std.specs.Fmt.{digits, signed_decimal}
use Rattle.std.specs.List.{list_all, position_or_len, before_first}
use Rattle.std.specs.Option.{option_map, option_and_then}
use Rattle.std.proofs.Math.Nat.{min-eq_left}
use Rattle.std.proofs.lemmas.Bool.{and_parts, ltb-true, lt-ltb, lt-leb, leb-true, eq-eqb, ne_eqb, or_left}
use Rattle.std.proofs.lemmas.Fmt.{decimal_is_IsNumeral}
use Rattle.std.proofs.lemmas.Int.{ints}
use Rattle.std.proofs.lemmas.List.{length-append, length_push, take_at, get_or_at}
use Rattle.seq_text.specs.Numbers.{is_digit}
use Rattle.seq_isa.specs.InRange.{IsImmediate, IsOffset}
use Rattle.seq_mnemonics.specs.declared.names.ImmediateName.TheVariants.{Addi}
use Rattle.seq_mnemonics.specs.declared.statement.Statement.{Statement}
use Rattle.seq_mnemonics.specs.declared.statement.Statement.TheVariants.{Registers, Immediate, Shift, Indirect, Store, Branch, Jump, Upper, Plain}
use Rattle.seq_mnemonics.specs.Laws.{is_plain}
use Rattle.seq_mnemonics.specs.Numbers.{operand_of}
use Rattle.seq_mnemonics.specs.Ranges.{OperandsFit}
use Rattle.seq_mnemonics.specs.Registers.{x_name, register_of}
use Rattle.seq_mnemonics.specs.Statements.{name_of}
use Rattle.seq_mnemonics.proofs.Numerals.{decimal_digits}
use Rattle.seq_mnemonics.proofs.Plainness.{printed_texts}
use Rattle.seq_mnemonics.proofs.Tables.{printed_registers, below_32}
use Rattle.seq_source.specs.declared.items.Item.TheVariants as items
use Rattle.seq_source.specs.declared.items.Said.TheVariants.{Says}
use Rattle.seq_source.specs.Forms.{with_two, with_three}
use Rattle.seq_source.specs.Instructions.{registers_said, immediate_said, shift_said, displacement_of, closed, base_of, indirect_said, store_said, branch_said, jump_said, upper_said, instruction_said}
use Rattle.seq_source.specs.Names.{is_label_byte, is_label}
use Rattle.seq_source.specs.Numbers.{kept_of, number_written}
use Rattle.seq_source.proofs.Ranges.{immediate_is, branch_is, jump_is, below_is}
use Rattle.seq_list.specs.Lines.{address, operands_of, behind_comma}
use Rattle.seq_list.specs.Laws.{ReadAs}
use Rattle.seq_list.proofs.ReadBack.{operands_are_read}
use Rattle.seq_roundtrip.proofs.Parts.{is_operand_byte, other_byte, NonePass, none_pass, wider, all_joined, first_at, before_at, after_at}
use Rattle.seq_roundtrip.proofs.Operands.{IsOperand, AreOperands, operands_again}

-- ---- numbers

kept_small : (z : ℤ) → nat_abs z ≤ 2 ^ 40 → kept_of z ≡ z
kept_small (pos n) h = ap (λ m. pos m) (min-eq_left h)
kept_small (negsuc n) h = ap (λ m. neg_ℤ (pos m)) (min-eq_left h)

immediate_small : (z : ℤ) → IsImmediate z → nat_abs z ≤ 2 ^ 40
immediate_small (pos n) h = let a = h.high in grind (arith, ints)
immediate_small (negsuc n) h = let a = h.low in grind (arith, ints)

branch_small : (z : ℤ) → IsOffset 4096 z → nat_abs z ≤ 2 ^ 40
branch_small (pos n) h = let a = h.high in grind (arith, ints)
branch_small (negsuc n) h = let a = h.low in grind (arith, ints)

jump_small : (z : ℤ) → IsOffset 1048576 z → nat_abs z ≤ 2 ^ 40
jump_small (pos n) h = let a = h.high in grind (arith, ints)
jump_small (negsuc n) h = let a = h.low in grind (arith, ints)

number_is : (text : List ℕ) (z : ℤ) → operand_of text ≡ Some z → nat_abs z ≤ 2 ^ 40 → number_written text ≡ Some z
unfolding number_written
number_is text z e small = ap (option_map kept_of) e ∙ ap (λ y. Some y) (kept_small z small)

immediate_read : (z : ℤ) → IsImmediate z → operand_of (signed_decimal z) ≡ Some z
immediate_read z h =
    let read : ReadAs (operands_of (Immediate Addi 0 0 z)) (Immediate Addi 0 0 z) = operands_are_read (Immediate Addi 0 0 z) (omega arith, omega arith, h) in
    read.2

-- ---- what is no label

above : (c n : ℕ) → c ≤ 57 → 57 < n → nat_le n c ≡ false
above c n h lt = lt-leb n c (omega arith)

low_first : (c : ℕ) (cs : List ℕ) → c ≤ 57 → is_label (c ∷ cs) ≡ false
unfolding is_label
low_first c cs h =
    let a = above c 65 h (omega arith) in
    let b = above c 97 h (omega arith) in
    let d : eqb c 95 ≡ false = ne_eqb c 95 (λ e. absurd (omega (arith, h, e))) in
    rw (a, b, d) (never (ltb 0 (length (c ∷ cs))) (is_digit c && list_all is_label_byte cs))
  where
    never : (t u : Bool) → (t && false && u) ≡ false
    never true u = refl
    never false u = refl

digits_no_label : (ds : List ℕ) → list_all is_digit ds ≡ true → is_label ds ≡ false
unfolding is_label
digits_no_label [] h = refl
digits_no_label (c ∷ cs) h = low_first c cs (leb-true _ _ (and_parts _ _ (and_parts (is_digit c) (list_all is_digit cs) h).0).1)

signed_no_label : (z : ℤ) → nat_abs z ≤ 2 ^ 40 → is_label (signed_decimal z) ≡ false
signed_no_label (pos n) h = digits_no_label (decimal n) (decimal_digits (decimal n) (decimal_is_IsNumeral n (omega (arith, h))).0.1)
signed_no_label (negsuc n) h = low_first 45 (decimal (suc n)) (omega arith)

-- ---- printed operands

pub plain_operand : (text : List ℕ) → list_all is_plain text ≡ true → 0 < length text → IsOperand text
plain_operand text h some = record { bytes = wider is_plain is_operand_byte text (λ b k. or_left _ _ (or_left _ _ k)) h; some = some }

pub register_operand : (n : ℕ) → n < 32 → IsOperand (x_name n)
register_operand n lt = plain_operand (x_name n) (printed_texts.registers n lt) (some_from (below_32 (λ k. ltb 0 (length (x_name k))) refl n lt))
  where
    some_from : ltb 0 (length (x_name n)) ≡ true → 0 < length (x_name n)
    some_from e = ltb-true _ _ e

decimal_operand : (n : ℕ) → n < 2 ^ 64 → IsOperand (decimal n)
decimal_operand n h = plain_operand (decimal n) (printed_texts.naturals n h) (decimal_is_IsNumeral n h).0.0

pub signed_operand : (z : ℤ) → nat_abs z ≤ 2 ^ 40 → IsOperand (signed_decimal z)
signed_operand (pos n) h = decimal_operand n (omega (arith, h))
signed_operand (negsuc n) h = plain_operand (45 ∷ decimal (suc n)) (printed_texts.negatives n (omega (arith, h))) (omega arith)

-- ---- addresses

-- the parts of a printed address
address_parts : (rs1 : ℕ) (imm : ℤ) → address rs1 imm ≡ signed_decimal imm ++ 40 ∷ (x_name rs1 ++ 41 ∷ [])
address_parts rs1 imm = ap (λ xs. xs ++ 41 ∷ []) (append_assoc (signed_decimal imm) (40 ∷ []) (x_name rs1)) ∙ append_assoc (signed_decimal imm) (40 ∷ x_name rs1) (41 ∷ [])

address_operand : (rs1 : ℕ) (imm : ℤ) → rs1 < 32 → IsImmediate imm → IsOperand (address rs1 imm)
address_operand rs1 imm lt h =
    let number = signed_operand imm (immediate_small imm h) in
    let register = register_operand rs1 lt in
    subst IsOperand (sym (address_parts rs1 imm)) (record {
      bytes = all_joined is_operand_byte (signed_decimal imm) (40 ∷ (x_name rs1 ++ 41 ∷ [])) number.bytes (all_joined is_operand_byte (x_name rs1) (41 ∷ []) register.bytes refl);
      some = omega (arith, length-append (signed_decimal imm) (40 ∷ (x_name rs1 ++ 41 ∷ [])), number.some);
    })

no_parenthesis : (z : ℤ) → nat_abs z ≤ 2 ^ 40 → NonePass (λ b. eqb b 40) (signed_decimal z)
no_parenthesis (pos n) h = none_pass is_plain (λ b. eqb b 40) (decimal n) (other_byte is_plain 40 refl) (printed_texts.naturals n (omega (arith, h)))
no_parenthesis (negsuc n) h = none_pass is_plain (λ b. eqb b 40) (45 ∷ decimal (suc n)) (other_byte is_plain 40 refl) (printed_texts.negatives n (omega (arith, h)))

displacement_is : (rs1 : ℕ) (imm : ℤ) → IsImmediate imm → operand_of (signed_decimal imm) ≡ Some imm → displacement_of (address rs1 imm) ≡ Some imm
unfolding displacement_of
displacement_is rs1 imm h e =
    let small = immediate_small imm h in
    ap (λ text. number_written (before_first (λ b. eqb b 40) text)) (address_parts rs1 imm)
    ∙ ap number_written (before_at (λ b. eqb b 40) (signed_decimal imm) 40 (x_name rs1 ++ 41 ∷ []) (no_parenthesis imm small) refl)
    ∙ number_is (signed_decimal imm) imm e small

closed_at : (text : List ℕ) → closed (text ++ 41 ∷ []) ≡ Some text
unfolding closed
closed_at text =
    let long : length (text ++ 41 ∷ []) ≡ length text + 1 = length_push text 41 in
    let some : ltb 0 (length (text ++ 41 ∷ [])) ≡ true = lt-ltb _ _ (omega (arith, long)) in
    let at : length text ≡ length (text ++ 41 ∷ []) - 1 = omega (arith, long) in
    let last : eqb (get_or (text ++ 41 ∷ []) (length (text ++ 41 ∷ []) - 1) 0) 41 ≡ true = eq-eqb _ _ (get_or_at text 41 [] 0 (length (text ++ 41 ∷ []) - 1) at) in
    rw (some, last) (ap (λ t. Some t) (take_at text (41 ∷ []) (length (text ++ 41 ∷ []) - 1) at))

base_is : (rs1 : ℕ) (imm : ℤ) → rs1 < 32 → IsImmediate imm → base_of (address rs1 imm) ≡ Some rs1
unfolding base_of
base_is rs1 imm lt h = ap base_of (address_parts rs1 imm) ∙ found (signed_decimal imm) (x_name rs1) (no_parenthesis imm (immediate_small imm h)) ∙ printed_registers rs1 lt
  where
    found : (number register : List ℕ) → NonePass (λ b. eqb b 40) number → base_of (number ++ 40 ∷ (register ++ 41 ∷ [])) ≡ register_of register
    found number register none =
        let at = first_at (λ b. eqb b 40) number 40 (register ++ 41 ∷ []) none refl in
        let there : ltb (position_or_len (λ b. eqb b 40) (number ++ 40 ∷ (register ++ 41 ∷ []))) (length (number ++ 40 ∷ (register ++ 41 ∷ []))) ≡ true = lt-ltb _ _ (omega (arith, at, length-append number (40 ∷ (register ++ 41 ∷ [])))) in
        rw there (ap (λ text. option_and_then register_of (closed text)) (after_at (λ b. eqb b 40) number 40 (register ++ 41 ∷ []) none refl) ∙ ap (option_and_then register_of) (closed_at register))

-- ---- statements

-- the operands of a statement are operands of a source
pub operands_fit : (s : Statement) → OperandsFit s → AreOperands (operands_of s)
operands_fit (Registers name rd rs1 rs2) h = (register_operand rd h.0, (register_operand rs1 h.1, (register_operand rs2 h.2, tt)))
operands_fit (Immediate name rd rs1 imm) h = (register_operand rd h.0, (register_operand rs1 h.1, (signed_operand imm (immediate_small imm h.2), tt)))
operands_fit (Shift name rd rs1 amount) h = (register_operand rd h.0, (register_operand rs1 h.1, (decimal_operand amount (omega (arith, h.2)), tt)))
operands_fit (Indirect name rd rs1 imm) h = (register_operand rd h.0, (address_operand rs1 imm h.1 h.2, tt))
operands_fit (Store name rs1 rs2 imm) h = (register_operand rs2 h.1, (address_operand rs1 imm h.0 h.2, tt))
operands_fit (Branch name rs1 rs2 offset) h = (register_operand rs1 h.0, (register_operand rs2 h.1, (signed_operand offset (branch_small offset h.2), tt)))
operands_fit (Jump rd offset) h = (register_operand rd h.0, (signed_operand offset (jump_small offset h.1), tt))
operands_fit (Upper name rd imm) h = (register_operand rd h.0, (plain_operand (codes "0x" ++ digits 16 false imm) (printed_texts.hexadecimals imm (omega (arith, h.1))) (omega arith), tt))
operands_fit (Plain name) h = tt

-- the operands behind a name, as a text of their own
abbrev pub tail_text : List (List ℕ) → List ℕ
tail_text [] = []
tail_text (first ∷ more) = first ++ behind_comma more

pub statement_again : (s : Statement) → OperandsFit s → instruction_said (name_of s) (tail_text (operands_of s)) ≡ Says (items.Instruction s)
unfolding instruction_said registers_said immediate_said shift_said indirect_said store_said branch_said jump_said upper_said
statement_again (Registers name rd rs1 rs2) h =
    let ops = operands_fit (Registers name rd rs1 rs2) h in
    let read : ReadAs (operands_of (Registers name rd rs1 rs2)) (Registers name rd rs1 rs2) = operands_are_read (Registers name rd rs1 rs2) h in
    ap (with_three (registers_said name)) (operands_again (x_name rd) (x_name rs1 ∷ x_name rs2 ∷ []) ops.0 ops.1) ∙ rw (read.0, read.1, read.2) refl
statement_again (Immediate name rd rs1 imm) h =
    let ops = operands_fit (Immediate name rd rs1 imm) h in
    let read : ReadAs (operands_of (Immediate name rd rs1 imm)) (Immediate name rd rs1 imm) = operands_are_read (Immediate name rd rs1 imm) h in
    let number = number_is (signed_decimal imm) imm read.2 (immediate_small imm h.2) in
    ap (with_three (immediate_said name)) (operands_again (x_name rd) (x_name rs1 ∷ signed_decimal imm ∷ []) ops.0 ops.1) ∙ rw (read.0, read.1, number, sym (immediate_is imm (Some imm) (refl, h.2))) refl
statement_again (Shift name rd rs1 amount) h =
    let ops = operands_fit (Shift name rd rs1 amount) h in
    let read : ReadAs (operands_of (Shift name rd rs1 amount)) (Shift name rd rs1 amount) = operands_are_read (Shift name rd rs1 amount) h in
    let number = number_is (decimal amount) (pos amount) read.2 (omega (arith, h.2)) in
    ap (with_three (shift_said name)) (operands_again (x_name rd) (x_name rs1 ∷ decimal amount ∷ []) ops.0 ops.1) ∙ rw (read.0, read.1, number, sym (below_is 32 (pos amount) (Some amount) (refl, h.2))) refl
statement_again (Indirect name rd rs1 imm) h =
    let ops = operands_fit (Indirect name rd rs1 imm) h in
    let read : ReadAs (operands_of (Indirect name rd rs1 imm)) (Indirect name rd rs1 imm) = operands_are_read (Indirect name rd rs1 imm) h in
    let displacement = displacement_is rs1 imm h.2 (immediate_read imm h.2) in
    ap (with_two (indirect_said name)) (operands_again (x_name rd) (address rs1 imm ∷ []) ops.0 ops.1) ∙ rw (read.0, displacement, base_is rs1 imm h.1 h.2, sym (immediate_is imm (Some imm) (refl, h.2))) refl
statement_again (Store name rs1 rs2 imm) h =
    let ops = operands_fit (Store name rs1 rs2 imm) h in
    let read : ReadAs (operands_of (Store name rs1 rs2 imm)) (Store name rs1 rs2 imm) = operands_are_read (Store name rs1 rs2 imm) h in
    let displacement = displacement_is rs1 imm h.2 (immediate_read imm h.2) in
    ap (with_two (store_said name)) (operands_again (x_name rs2) (address rs1 imm ∷ []) ops.0 ops.1) ∙ rw (read.0, displacement, base_is rs1 imm h.0 h.2, sym (immediate_is imm (Some imm) (refl, h.2))) refl
statement_again (Branch name rs1 rs2 offset) h =
    let ops = operands_fit (Branch name rs1 rs2 offset) h in
    let read : ReadAs (operands_of (Branch name rs1 rs2 offset)) (Branch name rs1 rs2 offset) = operands_are_read (Branch name rs1 rs2 offset) h in
    let small = branch_small offset h.2 in
    let number = number_is (signed_decimal offset) offset read.2 small in
    ap (with_three (branch_said name)) (operands_again (x_name rs1) (x_name rs2 ∷ signed_decimal offset ∷ []) ops.0 ops.1) ∙ rw (read.0, read.1, signed_no_label offset small, number, sym (branch_is offset (Some offset) (refl, h.2))) refl
statement_again (Jump rd offset) h =
    let ops = operands_fit (Jump rd offset) h in
    let read : ReadAs (operands_of (Jump rd offset)) (Jump rd offset) = operands_are_read (Jump rd offset) h in
    let small = jump_small offset h.1 in
    let number = number_is (signed_decimal offset) offset read.1 small in
    ap (with_two jump_said) (operands_again (x_name rd) (signed_decimal offset ∷ []) ops.0 ops.1) ∙ rw (read.0, signed_no_label offset small, number, sym (jump_is offset (Some offset) (refl, h.1))) refl
statement_again (Upper name rd imm) h =
    let ops = operands_fit (Upper name rd imm) h in
    let read : ReadAs (operands_of (Upper name rd imm)) (Upper name rd imm) = operands_are_read (Upper name rd imm) h in
    let number = number_is (codes "0x" ++ digits 16 false imm) (pos imm) read.1 (omega (arith, h.1)) in
    ap (with_two (upper_said name)) (operands_again (x_name rd) ((codes "0x" ++ digits 16 false imm) ∷ []) ops.0 ops.1) ∙ rw (read.0, number, sym (below_is (2 ^ 20) (pos imm) (Some imm) (refl, h.1))) refl
statement_again (Plain name) h = refl
