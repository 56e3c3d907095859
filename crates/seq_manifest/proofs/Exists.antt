-- A text without a fault describes a draft.
use Rattle.std.proofs.Common.{◌≡◌, ℕ, ◌+◌, ◌≤◌, Bool, true, false, Option, Some, None, List, [], ◌∷◌, ◌++◌, map, length, get_or, refl, sym, ap, ◌∙◌, append_assoc, arith}
use Rattle.std.proofs.lemmas.Bool.{and_parts, leb-true}
use Rattle.std.proofs.lemmas.List.{append-nil}
use Rattle.seq_text.specs.Lines.{lines_of}
use Rattle.seq_text.specs.Words.{words_of}
use Rattle.seq_manifest.specs.declared.draft.Draft.{Draft}
use Rattle.seq_manifest.specs.declared.parts.Parts.{Parts}
use Rattle.seq_manifest.specs.Statements.{Statement, is_passed_over, said}
use Rattle.seq_manifest.specs.Drafts.{said_by, parts_of, content, Describes}
use Rattle.seq_manifest.specs.Faults.{is_within, rule_of, line_rule, with_line, end_rule, fault_or, fault_from, first_fault}
use Rattle.seq_manifest.specs.Kept.{kept}
use Rattle.seq_manifest.specs.Taking.{with_kept, are_allowed, IsParts}
use Rattle.seq_manifest.proofs.Lines.{IsForm-said, line_rule-said, with_line-said, with_line-passed}
use Rattle.seq_manifest.proofs.Steps.{step}
use Rattle.seq_manifest.proofs.Texts.{somes, words_said, content-cons, line_said, fault_from-end, said_by-nothing, IsParts-nothing, IsEnded-from}
use Rattle.seq_manifest.proofs.Whole.{IsDraft-from}

fault_or-none : (place : ℕ) (o : Option ℕ) (later : Option (ℕ × ℕ)) → fault_or place o later ≡ None → (o ≡ None) × (later ≡ None)
fault_or-none place None later e = (refl, e)
fault_or-none place (Some rule) later e = absurd cc

fault_from-parts : (place : ℕ) (before : List Statement) (line : List ℕ) (lines : List (List ℕ)) → fault_from place before (line ∷ lines) ≡ None → (line_rule before (words_of line) ≡ None) × (fault_from (place + 1) (with_line before (words_of line)) lines ≡ None)
unfolding fault_from
fault_from-parts place before line lines e = fault_or-none place (line_rule before (words_of line)) _ e

-- the parts behind a line without a fault
record Behind (p : Parts) (words : List (List ℕ)) : Type 0 where
  pub after : Parts
  pub parts : IsParts after
  pub said : said_by after ≡ with_line (said_by p) words

behind_said : (p : Parts) (words : List (List ℕ)) (o : Option Statement) → IsParts p → is_passed_over words ≡ false → said words ≡ o → rule_of (said_by p) o ≡ None → Behind p words
behind_said p words None parts f e none = absurd cc
behind_said p words (Some s) parts f e none =
    let taken = step p s parts (IsForm-said words s e) none in
    record { after = with_kept p (kept s); parts = taken.parts; said = taken.said ∙ sym (with_line-said (said_by p) words words s refl f e) }

behind : (p : Parts) (words : List (List ℕ)) (b : Bool) → IsParts p → is_passed_over words ≡ b → line_rule (said_by p) words ≡ None → Behind p words
behind p words true parts f none = record { after = p; parts = parts; said = sym (with_line-passed (said_by p) words words refl f) }
behind p words false parts f none = behind_said p words (said words) parts f refl (sym (line_rule-said (said_by p) words words (said words) refl f refl) ∙ none)

-- the parts behind all lines
record Through (p : Parts) (lines : List (List ℕ)) : Type 0 where
  pub after : Parts
  pub parts : IsParts after
  pub said : somes (said_by p) ++ map said (content lines) ≡ somes (said_by after)
  pub ended : end_rule (said_by after) ≡ None

through : (lines : List (List ℕ)) (place : ℕ) (p : Parts) → IsParts p → fault_from place (said_by p) lines ≡ None → Through p lines
through [] place p parts e = record {
  after = p;
  parts = parts;
  said = append-nil (somes (said_by p));
  ended = (fault_or-none place (end_rule (said_by p)) None (sym (fault_from-end place (said_by p)) ∙ e)).0;
}
through (line ∷ lines) place p parts e =
    let f = fault_from-parts place (said_by p) line lines e in
    let b = behind p (words_of line) (is_passed_over (words_of line)) parts refl f.0 in
    let t = through lines (place + 1) b.after b.parts (ap (λ before. fault_from (place + 1) before lines) b.said ∙ f.1) in
    record {
      after = t.after;
      parts = t.parts;
      said = ap (λ m. somes (said_by p) ++ m) (content-cons line lines)
          ∙ sym (append_assoc (somes (said_by p)) (words_said (words_of line)) (map said (content lines)))
          ∙ ap (λ ss. ss ++ map said (content lines)) (sym (line_said (said_by p) (words_of line) f.0) ∙ ap somes (sym b.said))
          ∙ t.said;
      ended = t.ended;
    }

-- ---- the draft of parts
pub draft_of : Parts → Draft
draft_of p = record {
  desc = record {
    processors = get_or p.numbers 1 0;
    memories = get_or p.numbers 2 0;
    ios = get_or p.numbers 3 0;
    cache = get_or p.numbers 4 0;
    quantum = get_or p.numbers 5 0;
    journal = get_or p.numbers 6 0;
    segments = p.segments;
    processes = p.processes;
  };
  images = p.images;
  firsts = p.firsts;
}

seven_numbers : (ns : List ℕ) → length ns ≡ 7 → are_allowed ns ≡ true → 1 ∷ get_or ns 1 0 ∷ get_or ns 2 0 ∷ get_or ns 3 0 ∷ get_or ns 4 0 ∷ get_or ns 5 0 ∷ get_or ns 6 0 ∷ [] ≡ ns
seven_numbers [] e ok = absurd (omega arith)
seven_numbers (a ∷ []) e ok = absurd (omega arith)
seven_numbers (a ∷ b ∷ []) e ok = absurd (omega arith)
seven_numbers (a ∷ b ∷ c ∷ []) e ok = absurd (omega arith)
seven_numbers (a ∷ b ∷ c ∷ d ∷ []) e ok = absurd (omega arith)
seven_numbers (a ∷ b ∷ c ∷ d ∷ f ∷ []) e ok = absurd (omega arith)
seven_numbers (a ∷ b ∷ c ∷ d ∷ f ∷ g ∷ []) e ok = absurd (omega arith)
seven_numbers (a ∷ b ∷ c ∷ d ∷ f ∷ g ∷ h ∷ []) e ok =
    let version = and_parts (is_within 1 1 1 a) _ ok in
    let ends = and_parts _ _ (and_parts _ _ version.0).0 in
    let low : 1 ≤ a = leb-true _ _ ends.0 in
    let high : a ≤ 1 = leb-true _ _ ends.1 in
    let one : 1 ≡ a = omega arith in
    ap (λ x. x ∷ b ∷ c ∷ d ∷ f ∷ g ∷ h ∷ []) one
seven_numbers (a ∷ b ∷ c ∷ d ∷ f ∷ g ∷ h ∷ i ∷ rest) e ok = absurd (omega arith)

parts_of-draft_of : (p : Parts) → length p.numbers ≡ 7 → are_allowed p.numbers ≡ true → parts_of (draft_of p) ≡ p
unfolding draft_of
parts_of-draft_of p e ok = ap (λ ns. record p { numbers = ns }) (seven_numbers p.numbers e ok)

pub exists : (text : List ℕ) → first_fault text ≡ None → (d : Draft) × Describes text d
exists text e =
    let start : Parts = record { numbers = []; segments = []; firsts = []; processes = []; images = [] } in
    let t = through (lines_of text) 1 start IsParts-nothing (ap (λ before. fault_from 1 before (lines_of text)) said_by-nothing ∙ e) in
    let ended = IsEnded-from t.after t.parts t.ended in
    let same = parts_of-draft_of t.after ended.seven t.parts.allowed in (
      draft_of t.after,
      record {
        lines = ap (λ before. somes before ++ map said (content (lines_of text))) (sym said_by-nothing) ∙ t.said ∙ ap (λ p. somes (said_by p)) (sym same);
        draft = IsDraft-from t.after (draft_of t.after) t.parts t.ended same;
      },
    )
