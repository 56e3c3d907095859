-- A source makes at most one image.
use Rattle.std.proofs.Common.{◌≡◌, ℕ, Option, Some, None, List, [], ◌∷◌, ◌++◌, reverse, sym, ap, ◌∙◌}
use Rattle.byteorder.specs.Endian.{little_bytes}
use Rattle.seq_text.specs.Lines.{lines_of}
use Rattle.seq_isa.specs.declared.instr.Instr.{Instr}
use Rattle.seq_loader.specs.declared.image.Image.{Image}
use Rattle.seq_source.specs.declared.items.Item.TheVariants.{Instruction, Branch, Jump, Word, Byte, Space, Align, Entry, Size}
use Rattle.seq_source.specs.declared.items.Said.{Said}
use Rattle.seq_source.specs.declared.items.Said.TheVariants.{Nothing, UnknownWord, BadOperands, OutOfRange, Says}
use Rattle.seq_asm.specs.Lines.{said_in, named_in, end_of, labels_of, address_in}
use Rattle.seq_asm.specs.Assembled.{IsWordOf, IsPiece, AreBytes, Makes}

word_one : (i : Instr) (p q : List ℕ) → IsWordOf i p → IsWordOf i q → p ≡ q
word_one i p q (w, a, e) (v, b, f) = e ∙ ap (λ n. little_bytes 4 n) (sym (a.only v b.small b.stands)) ∙ sym f

piece_one : (at : ℕ) (address : Option ℕ) (said : Said) (p q : List ℕ) → IsPiece at address said p → IsPiece at address said q → p ≡ q
piece_one at address (Says (Instruction s)) p q a b = word_one _ p q a b
piece_one at None (Says (Branch name rs1 rs2)) p q a b = absurd a
piece_one at (Some x) (Says (Branch name rs1 rs2)) p q a b = word_one _ p q a b
piece_one at None (Says (Jump rd)) p q a b = absurd a
piece_one at (Some x) (Says (Jump rd)) p q a b = word_one _ p q a b
piece_one at address (Says (Word n)) p q a b = a ∙ sym b
piece_one at address (Says (Byte n)) p q a b = a ∙ sym b
piece_one at address (Says (Space n)) p q a b = a ∙ sym b
piece_one at address (Says Align) p q a b = a ∙ sym b
piece_one at address (Says Entry) p q a b = a ∙ sym b
piece_one at address (Says (Size n)) p q a b = a ∙ sym b
piece_one at address Nothing p q a b = a ∙ sym b
piece_one at address UnknownWord p q a b = a ∙ sym b
piece_one at address BadOperands p q a b = a ∙ sym b
piece_one at address OutOfRange p q a b = a ∙ sym b

bytes_one : (labels : List (List ℕ × ℕ)) (before lines : List (List ℕ)) (a b : List ℕ) → AreBytes labels before lines a → AreBytes labels before lines b → a ≡ b
unfolding AreBytes
bytes_one labels before [] a b e f = e ∙ sym f
bytes_one labels before (line ∷ lines) a b (p, r, hp, hr, e) (q, s, hq, hs, f) = joined a b p q r s e f (piece_one (end_of before) (address_in labels (named_in line)) (said_in line) p q hp hq) (bytes_one labels (line ∷ before) lines r s hr hs)
  where
    joined : (a b p q r s : List ℕ) → a ≡ p ++ r → b ≡ q ++ s → p ≡ q → r ≡ s → a ≡ b
    joined a b p q r s e f g h = cc

pub one_image : (text : List ℕ) (i j : Image) → Makes text i → Makes text j → i ≡ j
one_image text i j h k = same i j (h.size ∙ sym k.size) (h.entry ∙ sym k.entry) (bytes_one (labels_of (reverse (lines_of text))) [] (lines_of text) i.bytes j.bytes h.bytes k.bytes)
  where
    parts : (s t e f : ℕ) (a b : List ℕ) → s ≡ t → e ≡ f → a ≡ b → ◌≡◌ {A = Image} (record { size = s; entry = e; bytes = a }) (record { size = t; entry = f; bytes = b })
    parts s t e f a b p q r = cc

    same : (i j : Image) → i.size ≡ j.size → i.entry ≡ j.entry → i.bytes ≡ j.bytes → i ≡ j
    same i j p q r = parts i.size j.size i.entry j.entry i.bytes j.bytes p q r
