-- What holds of lines from one to the next.
use Rattle.std.proofs.Common.{◌≡◌, ℕ, ◌+◌, ◌≤◌, Bool, true, false, ◌||◌, cond, Option, Some, None, List, [], ◌∷◌, ◌++◌, length, reverse, refl, sym, ap, subst, ◌∙◌, append_assoc}
use Rattle.std.specs.Option.{is_some, option_or}
use Rattle.std.proofs.lemmas.Bool.{ltb-false}
use Rattle.std.proofs.lemmas.List.{append-nil, nil_from_length, reverse-append, reverse-reverse}
use Rattle.seq_text.specs.Lines.{lines_of}
use Rattle.seq_source.specs.declared.items.Item.TheVariants.{Instruction, Branch, Jump, Word, Byte, Space, Align, Entry, Size}
use Rattle.seq_source.specs.declared.items.Said.{Said}
use Rattle.seq_source.specs.declared.items.Said.TheVariants.{Nothing, UnknownWord, BadOperands, OutOfRange, Says}
use Rattle.seq_source.specs.Cuts.{label_of}
use Rattle.seq_asm.specs.declared.rules.Past.{Past}
use Rattle.seq_asm.specs.Lines.{said_in, named_in, length_at, end_of, labelled, labels_of, address_in, place_of, entry_or, entry_in, size_or, size_in}
use Rattle.seq_asm.specs.Rules.{said_rule, stands, is_second, is_misplaced, place_rule, line_rule, fault_or, fault_from, name_rule, name_fault_from}
use Rattle.seq_asm.specs.Surveyed.{says_entry, IsPast}

-- ---- lists

-- the lines before, and those that follow
pub turned : (before : List (List ℕ)) (line : List ℕ) (lines : List (List ℕ)) → reverse (line ∷ before) ++ lines ≡ reverse before ++ (line ∷ lines)
turned before line lines = ap (λ xs. xs ++ lines) (reverse-append (line ∷ []) before) ∙ append_assoc (reverse before) (line ∷ []) lines

pub all_before : (before lines : List (List ℕ)) → reverse before ++ [] ≡ lines → before ≡ reverse lines
all_before before lines e = sym (reverse-reverse before) ∙ ap reverse (sym (append-nil (reverse before)) ∙ e)

lines_of-nil : lines_of [] ≡ []
unfolding lines_of
lines_of-nil = refl

pub lines_of-empty : (rest : List ℕ) → length rest ≡ 0 → lines_of rest ≡ []
lines_of-empty rest e = ap lines_of (nil_from_length rest e) ∙ lines_of-nil

-- ---- one line more

pub end_more : (line : List ℕ) (before : List (List ℕ)) → end_of (line ∷ before) ≡ end_of before + length_at (end_of before) (said_in line)
unfolding end_of
end_more line before = refl

pub labels_more : (line : List ℕ) (before : List (List ℕ)) → labels_of (line ∷ before) ≡ labelled (end_of before) (label_of line) ++ labels_of before
unfolding labels_of
labels_more line before = refl

pub entry_more : (line : List ℕ) (before : List (List ℕ)) → entry_in (line ∷ before) ≡ entry_or (place_of before) (named_in line) (said_in line) (entry_in before)
unfolding entry_in
entry_more line before = refl

pub size_more : (line : List ℕ) (before : List (List ℕ)) → size_in (line ∷ before) ≡ size_or (place_of before) (said_in line) (size_in before)
unfolding size_in
size_more line before = refl

-- an entry is said where it was, or where the line says it
pub entry_said : (place : ℕ) (name : List ℕ) (said : Said) (earlier : Option (ℕ × List ℕ)) → is_some (entry_or place name said earlier) ≡ (is_some earlier || says_entry said)
entry_said place name (Says Entry) None = refl
entry_said place name (Says Entry) (Some x) = refl
entry_said place name (Says (Instruction s)) None = refl
entry_said place name (Says (Instruction s)) (Some x) = refl
entry_said place name (Says (Branch a b c)) None = refl
entry_said place name (Says (Branch a b c)) (Some x) = refl
entry_said place name (Says (Jump a)) None = refl
entry_said place name (Says (Jump a)) (Some x) = refl
entry_said place name (Says (Word n)) None = refl
entry_said place name (Says (Word n)) (Some x) = refl
entry_said place name (Says (Byte n)) None = refl
entry_said place name (Says (Byte n)) (Some x) = refl
entry_said place name (Says (Space n)) None = refl
entry_said place name (Says (Space n)) (Some x) = refl
entry_said place name (Says Align) None = refl
entry_said place name (Says Align) (Some x) = refl
entry_said place name (Says (Size n)) None = refl
entry_said place name (Says (Size n)) (Some x) = refl
entry_said place name Nothing None = refl
entry_said place name Nothing (Some x) = refl
entry_said place name UnknownWord None = refl
entry_said place name UnknownWord (Some x) = refl
entry_said place name BadOperands None = refl
entry_said place name BadOperands (Some x) = refl
entry_said place name OutOfRange None = refl
entry_said place name OutOfRange (Some x) = refl

-- ---- rules

guard : (b : Bool) (x : ℕ) (r : Option ℕ) → cond b (Some x) r ≡ None → (b ≡ false) × (r ≡ None)
guard true x r e = absurd cc
guard false x r e = (refl, e)

first-none : (a b : Option ℕ) → option_or a b ≡ None → (a ≡ None) × (b ≡ None)
first-none None b e = (refl, e)
first-none (Some rule) b e = absurd cc

or-false : (a b : Bool) → (a || b) ≡ false → b ≡ false
or-false true b e = absurd cc
or-false false b e = e

-- a line that violates no rule ends within the most bytes
pub line_fits : (at : ℕ) (s t : Bool) (said : Said) → option_or (said_rule said) (place_rule at s t said) ≡ None → at + length_at at said ≤ 65536
line_fits at s t said e =
    let place = (first-none (said_rule said) (place_rule at s t said) e).1 in
    let inner = (guard (s || t) 53 (cond (is_misplaced at said) (Some 55) None) place).1 in
    let here = (guard (is_misplaced at said) 55 None inner).0 in
    ltb-false _ _ (or-false _ _ here)

same_rule : (a b : ℕ) (s t e f z w : Bool) (k l : Said) → a ≡ b → s ≡ t → e ≡ f → z ≡ w → k ≡ l → option_or (said_rule k) (place_rule a s (is_second e z k) k) ≡ option_or (said_rule l) (place_rule b t (is_second f w l) l)
same_rule a b s t e f z w k l p q r u v = cc

pub rule_same : (past : Past) (before : List (List ℕ)) (line : List ℕ) (s : Bool) (said : Said) → IsPast past before → s ≡ stands (labels_of before) (label_of line) → said ≡ said_in line → option_or (said_rule said) (place_rule past.end s (is_second past.entry (is_some past.size) said) said) ≡ line_rule before line
unfolding line_rule
rule_same past before line s said p e f = same_rule past.end (end_of before) s (stands (labels_of before) (label_of line)) past.entry (is_some (entry_in before)) (is_some past.size) (is_some (size_in before)) said (said_in line) p.end e p.entry (ap is_some p.size) f

-- what is kept of the lines, with one more
pub past_goes : (past next : Past) (before : List (List ℕ)) (line : List ℕ) (place : ℕ) (said : Said) → IsPast past before → place ≡ place_of before → said ≡ said_in line → next.end ≡ past.end + length_at past.end said → next.entry ≡ (past.entry || says_entry said) → next.size ≡ size_or place said past.size → past.end + length_at past.end said ≤ 65536 → IsPast next (line ∷ before)
past_goes past next before line place said p at is e f g fits = record {
  end = e ∙ sum past.end (end_of before) said (said_in line) p.end is ∙ sym (end_more line before);
  small = subst (λ n. n ≤ 65536) (sym e) fits;
  entry = f ∙ either past.entry (is_some (entry_in before)) said (said_in line) p.entry is ∙ sym (ap is_some (entry_more line before) ∙ entry_said (place_of before) (named_in line) (said_in line) (entry_in before));
  size = g ∙ sized place (place_of before) said (said_in line) past.size (size_in before) at is p.size ∙ sym (size_more line before);
}
  where
    sum : (a b : ℕ) (k l : Said) → a ≡ b → k ≡ l → a + length_at a k ≡ b + length_at b l
    sum a b k l e f = cc

    either : (a b : Bool) (k l : Said) → a ≡ b → k ≡ l → (a || says_entry k) ≡ (b || says_entry l)
    either a b k l e f = cc

    sized : (a b : ℕ) (k l : Said) (o p : Option (ℕ × ℕ)) → a ≡ b → k ≡ l → o ≡ p → size_or a k o ≡ size_or b l p
    sized a b k l o p e f g = cc

-- ---- the first fault, line by line

pub fault_from-nil : (before : List (List ℕ)) → fault_from before [] ≡ None
unfolding fault_from
fault_from-nil before = refl

pub fault_from-none : (before : List (List ℕ)) (line : List ℕ) (lines : List (List ℕ)) → line_rule before line ≡ None → fault_from before (line ∷ lines) ≡ fault_from (line ∷ before) lines
unfolding fault_from
fault_from-none before line lines e = ap (λ r. fault_or (place_of before) r (fault_from (line ∷ before) lines)) e

pub fault_from-some : (before : List (List ℕ)) (line : List ℕ) (lines : List (List ℕ)) (rule : ℕ) → line_rule before line ≡ Some rule → fault_from before (line ∷ lines) ≡ Some (place_of before, rule)
unfolding fault_from
fault_from-some before line lines rule e = ap (λ r. fault_or (place_of before) r (fault_from (line ∷ before) lines)) e

pub name_fault-nil : (labels : List (List ℕ × ℕ)) (before : List (List ℕ)) → name_fault_from labels before [] ≡ None
unfolding name_fault_from
name_fault-nil labels before = refl

pub name_fault-none : (labels : List (List ℕ × ℕ)) (before : List (List ℕ)) (line : List ℕ) (lines : List (List ℕ)) → name_rule (end_of before) (address_in labels (named_in line)) (said_in line) ≡ None → name_fault_from labels before (line ∷ lines) ≡ name_fault_from labels (line ∷ before) lines
unfolding name_fault_from
name_fault-none labels before line lines e = ap (λ r. fault_or (place_of before) r (name_fault_from labels (line ∷ before) lines)) e

pub name_fault-some : (labels : List (List ℕ × ℕ)) (before : List (List ℕ)) (line : List ℕ) (lines : List (List ℕ)) (rule : ℕ) → name_rule (end_of before) (address_in labels (named_in line)) (said_in line) ≡ Some rule → name_fault_from labels before (line ∷ lines) ≡ Some (place_of before, rule)
unfolding name_fault_from
name_fault-some labels before line lines rule e = ap (λ r. fault_or (place_of before) r (name_fault_from labels (line ∷ before) lines)) e
