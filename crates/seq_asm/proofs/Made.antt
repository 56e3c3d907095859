-- The second reading, line by line.
use Rattle.std.proofs.Common.{◌≡◌, ℕ, ◌+◌, ◌<◌, ◌≤◌, Option, Some, None, List, [], ◌∷◌, ◌++◌, length, reverse, refl, sym, ap, subst, ◌∙◌, append_assoc, arith}
use Rattle.std.proofs.lemmas.List.{append-nil, length-append, length-replicate}
use Rattle.seq_text.specs.Lines.{lines_of}
use Rattle.seq_source.specs.declared.items.Item.TheVariants.{Instruction, Branch, Jump, Word, Byte, Space, Align, Entry, Size}
use Rattle.seq_source.specs.declared.items.Said.{Said}
use Rattle.seq_source.specs.declared.items.Said.TheVariants.{Nothing, UnknownWord, BadOperands, OutOfRange, Says}
use Rattle.seq_asm.specs.declared.emitting.EntryAt.{EntryAt}
use Rattle.seq_asm.specs.Lines.{said_in, named_in, length_at, end_of, address_in, place_of, entry_or, entry_in}
use Rattle.seq_asm.specs.Rules.{name_rule, name_fault_from}
use Rattle.seq_asm.specs.Assembled.{IsPiece, AreBytes}
use Rattle.seq_asm.specs.Surveyed.{entry_at}
use Rattle.seq_asm.proofs.Steps.{turned, all_before, lines_of-empty, end_more, entry_more, name_fault-nil, name_fault-none, name_fault-some}

-- ---- pieces

-- a piece is as long as its line says
pub piece_length : (at : ℕ) (address : Option ℕ) (said : Said) (piece : List ℕ) → IsPiece at address said piece → length piece ≡ length_at at said
unfolding length_at
piece_length at address (Says (Instruction s)) piece (w, only, e) = ap length e
piece_length at None (Says (Branch name rs1 rs2)) piece h = absurd h
piece_length at (Some a) (Says (Branch name rs1 rs2)) piece (w, only, e) = ap length e
piece_length at None (Says (Jump rd)) piece h = absurd h
piece_length at (Some a) (Says (Jump rd)) piece (w, only, e) = ap length e
piece_length at address (Says (Word n)) piece e = ap length e
piece_length at address (Says (Byte n)) piece e = ap length e
piece_length at address (Says (Space n)) piece e = ap length e ∙ length-replicate n 0
piece_length at address (Says Align) piece e = ap length e ∙ length-replicate (length_at at (Says Align)) 0
piece_length at address (Says Entry) piece e = ap length e
piece_length at address (Says (Size n)) piece e = ap length e
piece_length at address Nothing piece e = ap length e
piece_length at address UnknownWord piece e = ap length e
piece_length at address BadOperands piece e = ap length e
piece_length at address OutOfRange piece e = ap length e

piece_here : (a b : ℕ) (o p : Option ℕ) (k l : Said) (piece : List ℕ) → a ≡ b → o ≡ p → k ≡ l → IsPiece a o k piece → IsPiece b p l piece
piece_here a b o p k l piece e f g h = subst (λ (s : Said). IsPiece b p s piece) g (subst (λ (q : Option ℕ). IsPiece b q k piece) f (subst (λ (n : ℕ). IsPiece n o k piece) e h))

rule_here : (a b : ℕ) (o p : Option ℕ) (k l : Said) → a ≡ b → o ≡ p → k ≡ l → name_rule a o k ≡ name_rule b p l
rule_here a b o p k l e f g = cc

-- ---- bytes side by side

bytes-nil : (labels : List (List ℕ × ℕ)) (before : List (List ℕ)) → AreBytes labels before [] []
unfolding AreBytes
bytes-nil labels before = refl

bytes-cons : (labels : List (List ℕ × ℕ)) (before : List (List ℕ)) (line : List ℕ) (lines : List (List ℕ)) (piece tail : List ℕ) → IsPiece (end_of before) (address_in labels (named_in line)) (said_in line) piece → AreBytes labels (line ∷ before) lines tail → AreBytes labels before (line ∷ lines) (piece ++ tail)
unfolding AreBytes
bytes-cons labels before line lines piece tail h t = (piece, tail, h, t, refl)

-- ---- the loop

pub record IsEmitting (labels : List (List ℕ × ℕ)) (text bytes : List ℕ) (entry : Option EntryAt) (place : ℕ) (rest : List ℕ) : Type 0 where
  pub before : List (List ℕ)
  pub lines : reverse before ++ lines_of rest ≡ lines_of text
  pub fault : name_fault_from labels before (lines_of rest) ≡ name_fault_from labels [] (lines_of text)
  pub here : place ≡ place_of before
  pub made : (tail : List ℕ) → AreBytes labels before (lines_of rest) tail → AreBytes labels [] (lines_of text) (bytes ++ tail)
  pub end : length bytes ≡ end_of before
  pub said : entry ≡ entry_at labels (entry_in before)
  pub room : place + length rest ≤ length text + 1

end-nil : end_of [] ≡ 0
unfolding end_of
end-nil = refl

entry-nil : entry_in [] ≡ None
unfolding entry_in
entry-nil = refl

pub emitting_starts : (labels : List (List ℕ × ℕ)) (text bytes : List ℕ) → bytes ≡ [] → IsEmitting labels text bytes None 1 text
emitting_starts labels text bytes e = record {
  before = [];
  lines = refl;
  fault = refl;
  here = refl;
  made = λ tail h. subst (λ bs. AreBytes labels [] (lines_of text) (bs ++ tail)) (sym e) h;
  end = ap length e ∙ sym end-nil;
  said = sym (ap (entry_at labels) entry-nil);
  room = omega arith;
}

-- what a line is read as, behind the lines before
pub record IsLine (labels : List (List ℕ × ℕ)) (text bytes : List ℕ) (entry : Option EntryAt) (place : ℕ) (rest line after : List ℕ) (said : Said) (address : Option ℕ) : Type 0 where
  pub emitting : IsEmitting labels text bytes entry place rest
  pub cut : lines_of rest ≡ line ∷ lines_of after
  pub shorter : length after < length rest
  pub said_is : said ≡ said_in line
  pub address_is : address ≡ address_in labels (named_in line)

pub emitting_stops : (labels : List (List ℕ × ℕ)) (text bytes : List ℕ) (entry : Option EntryAt) (place : ℕ) (rest line after : List ℕ) (said : Said) (address : Option ℕ) (at rule : ℕ) → IsLine labels text bytes entry place rest line after said address → at ≡ length bytes → name_rule at address said ≡ Some rule → name_fault_from labels [] (lines_of text) ≡ Some (place, rule)
emitting_stops labels text bytes entry place rest line after said address at rule h len some =
    let r = h.emitting in
    let same = rule_here at (end_of r.before) address (address_in labels (named_in line)) said (said_in line) (len ∙ r.end) h.address_is h.said_is in
    sym r.fault ∙ ap (name_fault_from labels r.before) h.cut ∙ name_fault-some labels r.before line (lines_of after) rule (sym same ∙ some) ∙ ap (λ (p : ℕ). Some (p, rule)) (sym r.here)

pub emitting_goes : (labels : List (List ℕ × ℕ)) (text bytes : List ℕ) (entry : Option EntryAt) (place : ℕ) (rest line after : List ℕ) (said : Said) (address : Option ℕ) (at : ℕ) (piece more : List ℕ) (next : Option EntryAt) → IsLine labels text bytes entry place rest line after said address → at ≡ length bytes → name_rule at address said ≡ None → IsPiece at address said piece → more ≡ bytes ++ piece
    → ((labels : List (List ℕ × ℕ)) (name : List ℕ) (earlier : Option (ℕ × List ℕ)) → address ≡ address_in labels name → entry ≡ entry_at labels earlier → next ≡ entry_at labels (entry_or place name said earlier)) → IsEmitting labels text more next (place + 1) after
emitting_goes labels text bytes entry place rest line after said address at piece more next h len none made grown noted =
    let r = h.emitting in
    let same = rule_here at (end_of r.before) address (address_in labels (named_in line)) said (said_in line) (len ∙ r.end) h.address_is h.said_is in
    let here = piece_here at (end_of r.before) address (address_in labels (named_in line)) said (said_in line) piece (len ∙ r.end) h.address_is h.said_is made in
    let long = piece_length (end_of r.before) (address_in labels (named_in line)) (said_in line) piece here in
    record {
      before = line ∷ r.before;
      lines = turned r.before line (lines_of after) ∙ ap (λ ls. reverse r.before ++ ls) (sym h.cut) ∙ r.lines;
      fault = sym (name_fault-none labels r.before line (lines_of after) (sym same ∙ none)) ∙ ap (name_fault_from labels r.before) (sym h.cut) ∙ r.fault;
      here = omega (arith, r.here);
      made = λ tail t.
          let whole = bytes-cons labels r.before line (lines_of after) piece tail here t in
          let there = r.made (piece ++ tail) (subst (λ ls. AreBytes labels r.before ls (piece ++ tail)) (sym h.cut) whole) in
          subst (λ bs. AreBytes labels [] (lines_of text) bs) (sym (append_assoc bytes piece tail) ∙ ap (λ bs. bs ++ tail) (sym grown)) there;
      end = ap length grown ∙ length-append bytes piece ∙ both (length bytes) (end_of r.before) (length piece) (length_at (end_of r.before) (said_in line)) r.end long ∙ sym (end_more line r.before);
      said = noted labels (named_in line) (entry_in r.before) h.address_is r.said ∙ ap (entry_at labels) (entry_here place (place_of r.before) said (said_in line) line r.before r.here h.said_is refl refl);
      room = omega (arith, r.room, h.shorter);
    }
  where
    both : (a b c d : ℕ) → a ≡ b → c ≡ d → a + c ≡ b + d
    both a b c d e f = cc

    entry_here : (a b : ℕ) (k l : Said) (line : List ℕ) (before : List (List ℕ)) → a ≡ b → k ≡ l → b ≡ place_of before → l ≡ said_in line → entry_or a (named_in line) k (entry_in before) ≡ entry_in (line ∷ before)
    entry_here a b k l line before e f g i = same a (place_of before) k (said_in line) (named_in line) (entry_in before) (e ∙ g) (f ∙ i) ∙ sym (entry_more line before)
      where
        same : (a b : ℕ) (k l : Said) (name : List ℕ) (o : Option (ℕ × List ℕ)) → a ≡ b → k ≡ l → entry_or a name k o ≡ entry_or b name l o
        same a b k l name o e f = cc

pub emitting_ends : (labels : List (List ℕ × ℕ)) (text bytes : List ℕ) (entry : Option EntryAt) (place : ℕ) (rest : List ℕ) → IsEmitting labels text bytes entry place rest → length rest ≡ 0 → name_fault_from labels [] (lines_of text) ≡ None
emitting_ends labels text bytes entry place rest r e = sym r.fault ∙ ap (name_fault_from labels r.before) (lines_of-empty rest e) ∙ name_fault-nil labels r.before

pub emitting_bytes : (labels : List (List ℕ × ℕ)) (text bytes : List ℕ) (entry : Option EntryAt) (place : ℕ) (rest : List ℕ) → IsEmitting labels text bytes entry place rest → length rest ≡ 0 → AreBytes labels [] (lines_of text) bytes
emitting_bytes labels text bytes entry place rest r e =
    subst (λ bs. AreBytes labels [] (lines_of text) bs) (append-nil bytes) (r.made [] (subst (λ ls. AreBytes labels r.before ls []) (sym (lines_of-empty rest e)) (bytes-nil labels r.before)))

pub emitting_entry : (labels : List (List ℕ × ℕ)) (text bytes : List ℕ) (entry : Option EntryAt) (place : ℕ) (rest : List ℕ) → IsEmitting labels text bytes entry place rest → length rest ≡ 0 → entry ≡ entry_at labels (entry_in (reverse (lines_of text)))
emitting_entry labels text bytes entry place rest r e =
    r.said ∙ ap (λ before. entry_at labels (entry_in before)) (all_before r.before (lines_of text) (ap (λ ls. reverse r.before ++ ls) (sym (lines_of-empty rest e)) ∙ r.lines))

pub emitting_long : (labels : List (List ℕ × ℕ)) (text bytes : List ℕ) (entry : Option EntryAt) (place : ℕ) (rest : List ℕ) → IsEmitting labels text bytes entry place rest → length rest ≡ 0 → length bytes ≡ end_of (reverse (lines_of text))
emitting_long labels text bytes entry place rest r e =
    r.end ∙ ap end_of (all_before r.before (lines_of text) (ap (λ ls. reverse r.before ++ ls) (sym (lines_of-empty rest e)) ∙ r.lines))
