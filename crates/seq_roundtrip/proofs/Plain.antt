-- Lines that have no label and say neither entry nor size make their bytes by themselves.
use Rattle.std.proofs.Common.{◌≡◌, ◌⊎◌, ℕ, ◌+◌, ◌%◌, ◌≤◌, Bool, false, ltb, List, [], ◌∷◌, ◌++◌, length, reverse, Option, None, inl, inr, refl, sym, ap, subst, ◌∙◌, arith}
use Rattle.std.specs.Option.{is_some, option_or}
use Rattle.std.proofs.lemmas.Bool.{le-ltb, eq-eqb}
use Rattle.std.proofs.lemmas.List.{append-nil, length-append}
use Rattle.byteorder.specs.Endian.{little_bytes}
use Rattle.seq_text.specs.Lines.{lines_of}
use Rattle.seq_mnemonics.specs.declared.statement.Statement.{Statement}
use Rattle.seq_mnemonics.specs.Statements.{instruction_of}
use Rattle.seq_source.specs.declared.items.Item.TheVariants.{Instruction, Word, Byte}
use Rattle.seq_source.specs.declared.items.Said.{Said}
use Rattle.seq_source.specs.declared.items.Said.TheVariants.{Says}
use Rattle.seq_source.specs.Cuts.{label_of}
use Rattle.seq_asm.specs.Lines.{said_in, named_in, length_at, end_of, labelled, labels_of, address_in, place_of, entry_or, entry_in, size_or, size_in}
use Rattle.seq_asm.specs.Rules.{said_rule, stands, is_second, is_misplaced, place_rule, line_rule, fault_from, size_fault, name_rule, name_fault_from, size_of, entry_of, entry_fault}
use Rattle.seq_asm.specs.Assembled.{IsWordOf, IsPiece, AreBytes}
use Rattle.seq_asm.proofs.Steps.{turned, end_more, labels_more, entry_more, size_more, fault_from-nil, fault_from-none, name_fault-nil, name_fault-none}
use Rattle.seq_roundtrip.specs.Texts.{image_with, Assembles}

-- a line that makes these bytes, wherever it stands, and no label, entry or size
pub record IsPlain (line piece : List ℕ) : Type 0 where
  pub says : Said
  pub said_is : said_in line ≡ says
  pub unlabelled : label_of line ≡ None
  pub long : (at : ℕ) → length_at at says ≡ length piece
  pub makes : (at : ℕ) (address : Option ℕ) → IsPiece at address says piece
  pub allowed : said_rule says ≡ None
  pub first : (entry size : Bool) → is_second entry size says ≡ false
  pub named : (at : ℕ) (address : Option ℕ) → name_rule at address says ≡ None
  pub no_entry : (place : ℕ) (name : List ℕ) (earlier : Option (ℕ × List ℕ)) → entry_or place name says earlier ≡ earlier
  pub no_size : (place : ℕ) (earlier : Option (ℕ × ℕ)) → size_or place says earlier ≡ earlier
  pub placed : (at : ℕ) → (at % 4 ≡ 0) ⊎ (length piece ≡ 1) → at + length piece ≤ 65536 → is_misplaced at says ≡ false

-- ---- which lines are so

ends_inside : (at n : ℕ) → at + n ≤ 65536 → ltb 65536 (at + n) ≡ false
ends_inside at n h = le-ltb _ _ h

pub instruction_plain : (line : List ℕ) (s : Statement) (piece : List ℕ) → said_in line ≡ Says (Instruction s) → label_of line ≡ None → IsWordOf (instruction_of s) piece → IsPlain line piece
unfolding length_at
instruction_plain line s piece e unlabelled (w, only, is) =
    let four : length piece ≡ 4 = ap length is in
    record {
      says = Says (Instruction s);
      said_is = e;
      unlabelled = unlabelled;
      long = λ at. sym four;
      makes = λ at address. (w, only, is);
      allowed = refl;
      first = λ entry size. refl;
      named = λ at address. refl;
      no_entry = λ place name earlier. refl;
      no_size = λ place earlier. refl;
      placed = λ at whole inside. placed at whole (omega (arith, inside, four)) four;
    }
  where
    placed : (at : ℕ) → (at % 4 ≡ 0) ⊎ (length piece ≡ 1) → at + 4 ≤ 65536 → length piece ≡ 4 → is_misplaced at (Says (Instruction s)) ≡ false
    placed at (inl whole) inside four = rw (eq-eqb _ _ whole, ends_inside at 4 inside) refl
    placed at (inr one) inside four = absurd (omega (arith, one, four))

pub word_plain : (line : List ℕ) (n : ℕ) → said_in line ≡ Says (Word n) → label_of line ≡ None → IsPlain line (little_bytes 4 n)
unfolding length_at
word_plain line n e unlabelled = record {
  says = Says (Word n);
  said_is = e;
  unlabelled = unlabelled;
  long = λ at. refl;
  makes = λ at address. refl;
  allowed = refl;
  first = λ entry size. refl;
  named = λ at address. refl;
  no_entry = λ place name earlier. refl;
  no_size = λ place earlier. refl;
  placed = λ at whole inside. ends_inside at 4 inside;
}

pub byte_plain : (line : List ℕ) (n : ℕ) → said_in line ≡ Says (Byte n) → label_of line ≡ None → IsPlain line (n ∷ [])
unfolding length_at
byte_plain line n e unlabelled = record {
  says = Says (Byte n);
  said_is = e;
  unlabelled = unlabelled;
  long = λ at. refl;
  makes = λ at address. refl;
  allowed = refl;
  first = λ entry size. refl;
  named = λ at address. refl;
  no_entry = λ place name earlier. refl;
  no_size = λ place earlier. refl;
  placed = λ at whole inside. ends_inside at 1 inside;
}

-- ---- such lines one behind the other

-- the bytes of lines from an address on: an instruction stands at a multiple of four
abbrev pub Follow : ℕ → List (List ℕ) → List ℕ → Type 0
Follow at [] bytes = bytes ≡ []
Follow at (line ∷ lines) bytes =
    (piece : List ℕ) × (rest : List ℕ) × IsPlain line piece × ((at % 4 ≡ 0) ⊎ (length piece ≡ 1)) × Follow (at + length piece) lines rest × (bytes ≡ piece ++ rest)

-- the lines before an address
record IsBefore (before : List (List ℕ)) (at : ℕ) : Type 0 where
  pub end : end_of before ≡ at
  pub labels : labels_of before ≡ []
  pub entry : entry_in before ≡ None
  pub size : size_in before ≡ None

nothing_before : IsBefore [] 0
unfolding end_of labels_of entry_in size_in
nothing_before = record { end = refl; labels = refl; entry = refl; size = refl }

one_more : (before : List (List ℕ)) (at : ℕ) (line piece : List ℕ) → IsBefore before at → IsPlain line piece → IsBefore (line ∷ before) (at + length piece)
one_more before at line piece b h = record {
  end = end_more line before ∙ sum (end_of before) at (said_in line) h.says b.end h.said_is ∙ ap (λ n. at + n) (h.long at);
  labels = labels_more line before ∙ ap (λ o. labelled (end_of before) o ++ labels_of before) h.unlabelled ∙ b.labels;
  entry = entry_more line before ∙ ap (λ s. entry_or (place_of before) (named_in line) s (entry_in before)) h.said_is ∙ h.no_entry (place_of before) (named_in line) (entry_in before) ∙ b.entry;
  size = size_more line before ∙ ap (λ s. size_or (place_of before) s (size_in before)) h.said_is ∙ h.no_size (place_of before) (size_in before) ∙ b.size;
}
  where
    sum : (a b : ℕ) (k l : Said) → a ≡ b → k ≡ l → a + length_at a k ≡ b + length_at b l
    sum a b k l e f = cc

allowed_here : (before : List (List ℕ)) (at : ℕ) (line piece : List ℕ) → IsBefore before at → IsPlain line piece → (at % 4 ≡ 0) ⊎ (length piece ≡ 1) → at + length piece ≤ 65536 → line_rule before line ≡ None
unfolding line_rule
allowed_here before at line piece b h whole inside =
    let there : is_misplaced (end_of before) h.says ≡ false = subst (λ n. is_misplaced n h.says ≡ false) (sym b.end) (h.placed at whole inside) in
    ap (λ k. option_or (said_rule k) (place_rule (end_of before) (stands (labels_of before) (label_of line)) (is_second (is_some (entry_in before)) (is_some (size_in before)) k) k)) h.said_is
    ∙ ap (λ o. option_or (said_rule h.says) (place_rule (end_of before) (stands (labels_of before) o) (is_second (is_some (entry_in before)) (is_some (size_in before)) h.says) h.says)) h.unlabelled
    ∙ none h.says (end_of before) (is_second (is_some (entry_in before)) (is_some (size_in before)) h.says) h.allowed (h.first (is_some (entry_in before)) (is_some (size_in before))) there
  where
    none : (k : Said) (n : ℕ) (second : Bool) → said_rule k ≡ None → second ≡ false → is_misplaced n k ≡ false → option_or (said_rule k) (place_rule n false second k) ≡ None
    none k n second e f g = rw (e, f, g) refl

record Outcome (before lines : List (List ℕ)) (bytes : List ℕ) (at : ℕ) : Type 0 where
  pub faults : fault_from before lines ≡ None
  pub names : name_fault_from [] before lines ≡ None
  pub bytes_are : AreBytes [] before lines bytes
  pub after : IsBefore (reverse lines ++ before) (at + length bytes)

outcome : (lines before : List (List ℕ)) (bytes : List ℕ) (at : ℕ) → Follow at lines bytes → IsBefore before at → at + length bytes ≤ 65536 → Outcome before lines bytes at
unfolding AreBytes
outcome [] before bytes at h b inside =
    let none = ap length h in
    record {
      faults = fault_from-nil before;
      names = name_fault-nil [] before;
      bytes_are = h;
      after = subst (IsBefore before) (omega (arith, none)) b;
    }
outcome (line ∷ lines) before bytes at (piece, rest, plain, whole, follow, joined) b inside =
    let long : length bytes ≡ length piece + length rest = ap length joined ∙ length-append piece rest in
    let later = outcome lines (line ∷ before) rest (at + length piece) follow (one_more before at line piece b plain) (omega (arith, long, inside)) in
    let here : IsPiece (end_of before) (address_in [] (named_in line)) (said_in line) piece = subst (λ (s : Said). IsPiece (end_of before) (address_in [] (named_in line)) s piece) (sym plain.said_is) (plain.makes (end_of before) (address_in [] (named_in line))) in
    record {
      faults = fault_from-none before line lines (allowed_here before at line piece b plain whole (omega (arith, long, inside))) ∙ later.faults;
      names = name_fault-none [] before line lines (ap (λ k. name_rule (end_of before) (address_in [] (named_in line)) k) plain.said_is ∙ plain.named (end_of before) (address_in [] (named_in line))) ∙ later.names;
      bytes_are = (piece, rest, here, later.bytes_are, joined);
      after =
          subst (λ (all : List (List ℕ)). IsBefore all (at + length bytes)) (sym (turned lines line before))
          (subst (IsBefore (reverse lines ++ (line ∷ before))) (omega (arith, long)) later.after);
    }

late : (lines : List (List ℕ)) (end : ℕ) (labels : List (List ℕ × ℕ)) (size : Option (ℕ × ℕ)) (entry : Option (ℕ × List ℕ)) → size ≡ None → labels ≡ [] → entry ≡ None → name_fault_from [] [] lines ≡ None → option_or (size_fault end size) (option_or (name_fault_from labels [] lines) (entry_fault labels (size_of end size) entry)) ≡ None
late lines end labels size entry e f g names = rw (e, f, g, names) refl

-- a source of such lines violates no rule, and makes their bytes
pub plain_assembles : (source bytes : List ℕ) → Follow 0 (lines_of source) bytes → length bytes ≤ 65536 → Assembles source (image_with bytes)
plain_assembles source bytes h inside =
    let lines : List (List ℕ) = lines_of source in
    let o = outcome lines [] bytes 0 h nothing_before (omega (arith, inside)) in
    let all : IsBefore (reverse lines) (0 + length bytes) = subst (λ (before : List (List ℕ)). IsBefore before (0 + length bytes)) (append-nil (reverse lines)) o.after in
    let end : end_of (reverse lines) ≡ length bytes = omega (arith, all.end) in
    record {
      faultless = rw o.faults (late lines (end_of (reverse lines)) (labels_of (reverse lines)) (size_in (reverse lines)) (entry_in (reverse lines)) all.size all.labels all.entry o.names);
      makes = record {
        size = size_here (length bytes) (end_of (reverse lines)) (size_in (reverse lines)) end all.size;
        entry = sym (ap (entry_of (labels_of (reverse lines))) all.entry);
        bytes = subst (λ (labels : List (List ℕ × ℕ)). AreBytes labels [] lines bytes) (sym all.labels) o.bytes_are;
      };
    }
  where
    size_here : (n end : ℕ) (size : Option (ℕ × ℕ)) → end ≡ n → size ≡ None → size_of n None ≡ size_of end size
    size_here n end size e f = sym (ap (λ m. size_of m None) e) ∙ sym (ap (size_of end) f)
