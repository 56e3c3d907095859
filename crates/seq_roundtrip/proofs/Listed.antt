-- The texts of a listing's lines: what each says, and how they are found again.
use Rattle.std.proofs.Common.{◌≡◌, ℕ, ◌^◌, ◌<◌, Bool, true, false, ◌||◌, ltb, eqb, List, [], ◌∷◌, ◌++◌, length, codes, pos, Option, Some, None, refl, sym, ap, subst, ◌∙◌, arith}
use Rattle.std.specs.List.{list_all}
use Rattle.std.proofs.lemmas.Bool.{ne_eqb, lt-ltb, or_left}
use Rattle.std.proofs.lemmas.List.{append-nil}
use Rattle.byteorder.specs.Endian.{little_bytes}
use Rattle.seq_text.specs.Words.{is_blank}
use Rattle.seq_isa.specs.Decoded.{decode_of}
use Rattle.seq_mnemonics.specs.declared.names.Mnemonic.{Mnemonic}
use Rattle.seq_mnemonics.specs.declared.statement.Statement.{Statement}
use Rattle.seq_mnemonics.specs.Laws.{is_plain}
use Rattle.seq_mnemonics.specs.Names.{text_of, mnemonic_of}
use Rattle.seq_mnemonics.specs.Statements.{name_of}
use Rattle.seq_mnemonics.proofs.Plainness.{printed_texts}
use Rattle.seq_mnemonics.proofs.Tables.{names_are_exact}
use Rattle.seq_source.specs.declared.items.Item.TheVariants.{Word, Byte}
use Rattle.seq_source.specs.declared.items.Said.TheVariants.{Says}
use Rattle.seq_source.specs.Cuts.{word_in, tail_in, word_of, tail_of}
use Rattle.seq_source.specs.declared.directives.Directive.TheVariants as directives
use Rattle.seq_source.specs.Directives.{directive_named, number_in, word_said, byte_said, directive_said}
use Rattle.seq_source.specs.Forms.{given}
use Rattle.seq_source.specs.Numbers.{number_written, wrapped}
use Rattle.seq_source.specs.Operands.{operands_in}
use Rattle.seq_source.specs.Said.{said_as, said}
use Rattle.seq_asm.specs.Lines.{said_in}
use Rattle.seq_list.specs.Lines.{hexadecimal, operands_of, behind_comma, behind_name, statement_text, statement_if, text_if, word_text}
use Rattle.seq_list.proofs.ReadBack.{words_are_said}
use Rattle.seq_roundtrip.proofs.Parts.{is_text_byte, other_byte, NonePass, none_pass, wider, all_joined, begins_joined, ends_joined, IsSolid, solid_begins, solid_ends, IsTidy, tidy_label, tidy_rest, word_before, tail_behind, word_alone, tail_none}
use Rattle.seq_roundtrip.proofs.Digits.{digits_plain, word_written, byte_written}
use Rattle.seq_roundtrip.proofs.Operands.{IsOperand, AreOperands, operands_again, joined_bytes, joined_begins, joined_ends}
use Rattle.seq_roundtrip.proofs.Statements.{plain_operand, operands_fit, tail_text, statement_again}
use Rattle.seq_roundtrip.proofs.Plain.{IsPlain, instruction_plain, word_plain, byte_plain}

-- ---- a name with operands

-- a name of a source: no blanks, at least one byte
record IsName (name : List ℕ) : Type 0 where
  pub bytes : list_all is_text_byte name ≡ true
  pub solid : IsSolid name

-- a line of a name with these operands
record IsCut (text name tail : List ℕ) : Type 0 where
  pub tidy : IsTidy text
  pub name_is : word_of text ≡ name
  pub tail_is : tail_of text ≡ tail

cut_line : (name : List ℕ) (operands : List (List ℕ)) → IsName name → AreOperands operands → IsCut (name ++ behind_name operands) name (tail_text operands)
cut_line name [] n h =
    let tidy : IsTidy name = record { bytes = n.bytes; begins = solid_begins name n.solid; ends = solid_ends name n.solid } in
    subst (λ text. IsCut text name []) (sym (append-nil name)) (record { tidy = tidy; name_is = ap word_in (tidy_rest name tidy) ∙ word_alone name n.solid; tail_is = ap tail_in (tidy_rest name tidy) ∙ tail_none name n.solid })
cut_line name (first ∷ more) n h =
    let tail : List ℕ = first ++ behind_comma more in
    let tidy : IsTidy (name ++ 32 ∷ tail) = record {
      bytes = all_joined is_text_byte name (32 ∷ tail) n.bytes (joined_bytes first more h.0 h.1);
      begins = begins_joined name (32 ∷ tail) (solid_begins name n.solid);
      ends = ends_joined name (32 ∷ tail) (ends_joined (32 ∷ []) tail (joined_ends first more h.0 h.1));
    } in
    record {
      tidy = tidy;
      name_is = ap word_in (tidy_rest (name ++ 32 ∷ tail) tidy) ∙ word_before name tail n.solid;
      tail_is = ap tail_in (tidy_rest (name ++ 32 ∷ tail) tidy) ∙ tail_behind name tail n.solid (joined_begins first more h.0);
    }

cut_says : (text name tail : List ℕ) → IsCut text name tail → said_in text ≡ said name tail
unfolding said_in
cut_says text name tail h = ap (λ word. said word (tail_of text)) h.name_is ∙ ap (said name) h.tail_is

said_by : (name tail : List ℕ) → 0 < length name → said name tail ≡ said_as (mnemonic_of name) (directive_named name) tail
unfolding said
said_by name tail some =
    let full : eqb (length name) 0 ≡ false = ne_eqb _ _ (λ e. absurd (omega (arith, some, e))) in
    rw full refl

-- ---- words that are instructions

nothing_named : mnemonic_of [] ≡ None
unfolding mnemonic_of
nothing_named = refl

mnemonic_some : (m : Mnemonic) → 0 < length (text_of m)
mnemonic_some m = some (text_of m) ((names_are_exact (text_of m) m).1 refl)
  where
    some : (text : List ℕ) → mnemonic_of text ≡ Some m → 0 < length text
    some [] e = absurd (let never : ◌≡◌ {A = Option Mnemonic} None (Some m) = sym nothing_named ∙ e in cc)
    some (x ∷ xs) e = omega arith

plain_bytes : (text : List ℕ) → list_all is_plain text ≡ true → list_all is_text_byte text ≡ true
plain_bytes text h = wider is_plain is_text_byte text (λ b k. or_left _ _ (or_left _ _ (or_left _ _ (or_left _ _ (or_left _ _ k))))) h

plain_solid : (text : List ℕ) → list_all is_plain text ≡ true → 0 < length text → IsSolid text
plain_solid text h some = record { bytes = none_pass is_plain (λ b. is_blank b) text (λ b k. both (eqb b 32) (eqb b 9) (other_byte is_plain 32 refl b k) (other_byte is_plain 9 refl b k)) h; some = some }
  where
    both : (x y : Bool) → x ≡ false → y ≡ false → (x || y) ≡ false
    both x y e f = rw (e, f) refl

mnemonic_name : (m : Mnemonic) → IsName (text_of m)
mnemonic_name m = record { bytes = plain_bytes (text_of m) (printed_texts.names m); solid = plain_solid (text_of m) (printed_texts.names m) (mnemonic_some m) }

-- ---- directives

dotted : (name : List ℕ) → list_all is_text_byte name ≡ true → NonePass (λ b. is_blank b) name → 0 < length name → IsName name
dotted name h solid some = record { bytes = h; solid = record { bytes = solid; some = some } }

hex_operand : (count n : ℕ) → IsOperand (codes "0x" ++ hexadecimal count n)
hex_operand count n = plain_operand (codes "0x" ++ hexadecimal count n) (digits_plain count n) (omega arith)

no_mnemonics : (mnemonic_of (codes ".word") ≡ None) × (mnemonic_of (codes ".byte") ≡ None)
unfolding mnemonic_of
no_mnemonics = (refl, refl)

word_directive : (tail digits : List ℕ) (w : ℕ) → w < 2 ^ 32 → operands_in tail ≡ digits ∷ [] → number_written digits ≡ Some (pos w) → directive_said directives.Word tail ≡ Says (Word w)
unfolding directive_said wrapped
word_directive tail digits w small ops number =
    let inside : ltb w 4294967296 ≡ true = lt-ltb _ _ (omega (arith, small)) in
    ap (λ parts. given (number_in parts) word_said) ops ∙ ap (λ o. given o word_said) number ∙ rw inside refl

byte_directive : (tail digits : List ℕ) (b : ℕ) → b < 256 → operands_in tail ≡ digits ∷ [] → number_written digits ≡ Some (pos b) → directive_said directives.Byte tail ≡ Says (Byte b)
unfolding directive_said wrapped
byte_directive tail digits b small ops number =
    let inside : ltb b 256 ≡ true = lt-ltb _ _ (omega (arith, small)) in
    ap (λ parts. given (number_in parts) byte_said) ops ∙ ap (λ o. given o byte_said) number ∙ rw inside refl

word_said_by : (tail : List ℕ) → said (codes ".word") tail ≡ directive_said directives.Word tail
word_said_by tail = said_by (codes ".word") tail (omega arith) ∙ ap (λ o. said_as o (directive_named (codes ".word")) tail) no_mnemonics.0

byte_said_by : (tail : List ℕ) → said (codes ".byte") tail ≡ directive_said directives.Byte tail
byte_said_by tail = said_by (codes ".byte") tail (omega arith) ∙ ap (λ o. said_as o (directive_named (codes ".byte")) tail) no_mnemonics.1

-- ---- what a word's text says

-- a text that makes these bytes, as a line of its own
pub record Tells (text piece : List ℕ) : Type 0 where
  pub tidy : IsTidy text
  pub plain : IsPlain text piece

word_tells : (w : ℕ) (o : Option Statement) → w < 2 ^ 32 → statement_if (decode_of w) ≡ o → Tells (text_if w o) (little_bytes 4 w)
word_tells w (Some s) small e =
    let says = words_are_said w s small e in
    let m : Mnemonic = name_of s in
    let cut = cut_line (text_of m) (operands_of s) (mnemonic_name m) (operands_fit s says.fits) in
    let named : mnemonic_of (text_of m) ≡ Some m = (names_are_exact (text_of m) m).1 refl in
    let read = cut_says (statement_text s) (text_of m) (tail_text (operands_of s)) cut
    ∙ said_by (text_of m) (tail_text (operands_of s)) (mnemonic_some m)
    ∙ ap (λ o. said_as o (directive_named (text_of m)) (tail_text (operands_of s))) named
    ∙ statement_again s says.fits in
    record { tidy = cut.tidy; plain = instruction_plain (statement_text s) s (little_bytes 4 w) read (tidy_label (statement_text s) cut.tidy) (w, says.only, refl) }
word_tells w None small e =
    let digits : List ℕ = codes "0x" ++ hexadecimal 8 w in
    let operand = hex_operand 8 w in
    let cut = cut_line (codes ".word") (digits ∷ []) (dotted (codes ".word") refl refl (omega arith)) (operand, tt) in
    let same : codes ".word" ++ behind_name (digits ∷ []) ≡ text_if w None = ap (λ xs. codes ".word 0x" ++ xs) (append-nil (hexadecimal 8 w)) in
    let read = cut_says (codes ".word" ++ behind_name (digits ∷ [])) (codes ".word") (tail_text (digits ∷ [])) cut
    ∙ word_said_by (tail_text (digits ∷ []))
    ∙ word_directive (tail_text (digits ∷ [])) digits w small (operands_again digits [] operand tt) (word_written w small) in
    subst (λ text. Tells text (little_bytes 4 w)) same (record { tidy = cut.tidy; plain = word_plain (codes ".word" ++ behind_name (digits ∷ [])) w read (tidy_label (codes ".word" ++ behind_name (digits ∷ [])) cut.tidy) })

pub word_text_tells : (w : ℕ) → w < 2 ^ 32 → Tells (word_text w) (little_bytes 4 w)
unfolding word_text
word_text_tells w small = word_tells w (statement_if (decode_of w)) small refl

-- the text of a byte that is left over
abbrev pub byte_text : ℕ → List ℕ
byte_text b = codes ".byte 0x" ++ hexadecimal 2 b

pub byte_text_tells : (b : ℕ) → b < 256 → Tells (byte_text b) (b ∷ [])
byte_text_tells b small =
    let digits : List ℕ = codes "0x" ++ hexadecimal 2 b in
    let operand = hex_operand 2 b in
    let cut = cut_line (codes ".byte") (digits ∷ []) (dotted (codes ".byte") refl refl (omega arith)) (operand, tt) in
    let same : codes ".byte" ++ behind_name (digits ∷ []) ≡ byte_text b = ap (λ xs. codes ".byte 0x" ++ xs) (append-nil (hexadecimal 2 b)) in
    let read = cut_says (codes ".byte" ++ behind_name (digits ∷ [])) (codes ".byte") (tail_text (digits ∷ [])) cut
    ∙ byte_said_by (tail_text (digits ∷ []))
    ∙ byte_directive (tail_text (digits ∷ [])) digits b small (operands_again digits [] operand tt) (byte_written b small) in
    subst (λ text. Tells text (b ∷ [])) same (record { tidy = cut.tidy; plain = byte_plain (codes ".byte" ++ behind_name (digits ∷ [])) b read (tidy_label (codes ".byte" ++ behind_name (digits ∷ [])) cut.tidy) })
