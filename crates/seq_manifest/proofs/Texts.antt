-- A text, line by line.
use Rattle.std.proofs.Common.{◌≡◌, ℕ, ◌+◌, ◌<◌, ◌≤◌, Bool, true, false, not, cond, Option, Some, None, List, [], ◌∷◌, ◌++◌, map, length, refl, sym, ap, subst, ◌∙◌, append_assoc, arith}
use Rattle.std.specs.List.{list_any}
use Rattle.std.proofs.lemmas.Bool.{not-false, ltb-true}
use Rattle.std.proofs.lemmas.List.{map-append, append-nil, nil_from_length}
use Rattle.seq_text.specs.Lines.{lines_of}
use Rattle.seq_text.specs.Words.{words_of}
use Rattle.seq_manifest.specs.declared.parts.Parts.{Parts}
use Rattle.seq_manifest.specs.Statements.{Statement, is_passed_over, said}
use Rattle.seq_manifest.specs.Drafts.{said_by, content}
use Rattle.seq_manifest.specs.Faults.{is_process, rule_of, line_rule, with_said, with_line, has_gap, end_rule, fault_or, fault_from, first_fault}
use Rattle.seq_manifest.specs.Taking.{IsParts}
use Rattle.seq_manifest.proofs.Saying.{some_process-said_by}
use Rattle.seq_manifest.proofs.Steps.{guard}

pub lines_of-nil : lines_of [] ≡ []
unfolding lines_of
lines_of-nil = refl

abbrev pub somes : List Statement → List (Option Statement)
somes ss = map (λ s. Some s) ss

-- what the lines of a text say, if they aren't passed over
abbrev pub words_said : List (List ℕ) → List (Option Statement)
words_said words = cond (not (is_passed_over words)) (said words ∷ []) []

pub content-cons : (line : List ℕ) (lines : List (List ℕ)) → map said (content (line ∷ lines)) ≡ words_said (words_of line) ++ map said (content lines)
content-cons line lines = either (not (is_passed_over (words_of line))) (words_of line) (content lines)
  where
    either : (b : Bool) (ws : List (List ℕ)) (rest : List (List (List ℕ))) → map said (cond b (ws ∷ rest) rest) ≡ cond b (said ws ∷ []) [] ++ map said rest
    either true ws rest = refl
    either false ws rest = refl

-- a line that violates no rule adds what it says
rule_none : (before : List Statement) (o : Option Statement) → rule_of before o ≡ None → somes (with_said before o) ≡ somes before ++ o ∷ []
rule_none before None e = absurd cc
rule_none before (Some s) e = map-append (λ s. Some s) before (s ∷ [])

pub line_said : (before : List Statement) (words : List (List ℕ)) → line_rule before words ≡ None → somes (with_line before words) ≡ somes before ++ words_said words
line_said before words e = either (is_passed_over words) e
  where
    either : (b : Bool) → cond b None (rule_of before (said words)) ≡ None → somes (cond b before (with_said before (said words))) ≡ somes before ++ cond (not b) (said words ∷ []) []
    either true e = sym (append-nil _)
    either false e = rule_none before (said words) e

-- ---- the first fault, line by line
pub fault_from-none : (place : ℕ) (before : List Statement) (line : List ℕ) (lines : List (List ℕ)) → line_rule before (words_of line) ≡ None → fault_from place before (line ∷ lines) ≡ fault_from (place + 1) (with_line before (words_of line)) lines
unfolding fault_from
fault_from-none place before line lines e = ap (λ r. fault_or place r (fault_from (place + 1) (with_line before (words_of line)) lines)) e

pub fault_from-some : (place : ℕ) (before : List Statement) (line : List ℕ) (lines : List (List ℕ)) (rule : ℕ) → line_rule before (words_of line) ≡ Some rule → fault_from place before (line ∷ lines) ≡ Some (place, rule)
unfolding fault_from
fault_from-some place before line lines rule e = ap (λ r. fault_or place r (fault_from (place + 1) (with_line before (words_of line)) lines)) e

pub fault_from-end : (place : ℕ) (before : List Statement) → fault_from place before [] ≡ fault_or place (end_rule before) None
unfolding fault_from
fault_from-end place before = refl

-- ---- the reader's loop
pub record IsReading (text : List ℕ) (p : Parts) (place : ℕ) (rest : List ℕ) : Type 0 where
  pub parts : IsParts p
  pub fault : fault_from place (said_by p) (lines_of rest) ≡ first_fault text
  pub said : map said (content (lines_of text)) ≡ somes (said_by p) ++ map said (content (lines_of rest))
  pub room : place + length rest ≤ length text + 1

nothing : Parts
nothing = record { numbers = []; segments = []; firsts = []; processes = []; images = [] }

pub said_by-nothing : said_by (record { numbers = []; segments = []; firsts = []; processes = []; images = [] }) ≡ []
unfolding said_by
said_by-nothing = refl

pub IsParts-nothing : IsParts (record { numbers = []; segments = []; firsts = []; processes = []; images = [] })
IsParts-nothing = record {
  numbers = omega arith;
  allowed = refl;
  first = λ some. absurd (omega arith);
  segments = omega arith;
  each_segment = tt;
  firsts = refl;
  each_first = tt;
  processes = omega arith;
  each_process = tt;
  images = refl;
  each_image = tt;
  apart = λ l. omega arith;
}

pub reading_starts : (text : List ℕ) (p : Parts) → p ≡ record { numbers = []; segments = []; firsts = []; processes = []; images = [] } → IsReading text p 1 text
reading_starts text p e = subst (λ p. IsReading text p 1 text) (sym e) (record {
  parts = IsParts-nothing;
  fault = ap (λ before. fault_from 1 before (lines_of text)) said_by-nothing;
  said = ap (λ before. somes before ++ map said (content (lines_of text))) (sym said_by-nothing);
  room = omega arith;
})

pub reading_goes : (text line rest after : List ℕ) (p q : Parts) (place : ℕ) → IsReading text p place rest → lines_of rest ≡ line ∷ lines_of after → length after < length rest → line_rule (said_by p) (words_of line) ≡ None → said_by q ≡ with_line (said_by p) (words_of line) → IsParts q → IsReading text q (place + 1) after
reading_goes text line rest after p q place r cut shorter none said_q parts = record {
  parts = parts;
  fault = ap (λ before. fault_from (place + 1) before (lines_of after)) said_q ∙ sym (fault_from-none place (said_by p) line (lines_of after) none) ∙ ap (fault_from place (said_by p)) (sym cut) ∙ r.fault;
  said = r.said ∙ ap (λ ls. somes (said_by p) ++ map said (content ls)) cut ∙ ap (λ m. somes (said_by p) ++ m) (content-cons line (lines_of after))
      ∙ sym (append_assoc (somes (said_by p)) (words_said (words_of line)) (map said (content (lines_of after))))
      ∙ ap (λ ss. ss ++ map said (content (lines_of after))) (sym (line_said (said_by p) (words_of line) none) ∙ ap somes (sym said_q));
  room = omega (arith, r.room, shorter);
}

pub reading_stops : (text line rest after : List ℕ) (p : Parts) (place rule : ℕ) → IsReading text p place rest → lines_of rest ≡ line ∷ lines_of after → line_rule (said_by p) (words_of line) ≡ Some rule → first_fault text ≡ Some (place, rule)
reading_stops text line rest after p place rule r cut some = sym r.fault ∙ ap (fault_from place (said_by p)) cut ∙ fault_from-some place (said_by p) line (lines_of after) rule some

pub reading_ends : (text rest : List ℕ) (p : Parts) (place : ℕ) → IsReading text p place rest → length rest ≡ 0 → first_fault text ≡ fault_or place (end_rule (said_by p)) None
reading_ends text rest p place r e = sym r.fault ∙ ap (fault_from place (said_by p)) (ap lines_of (nil_from_length rest e) ∙ lines_of-nil) ∙ fault_from-end place (said_by p)

pub reading_says : (text rest : List ℕ) (p : Parts) (place : ℕ) → IsReading text p place rest → length rest ≡ 0 → map said (content (lines_of text)) ≡ somes (said_by p)
reading_says text rest p place r e = r.said ∙ ap (λ ls. somes (said_by p) ++ map said (content ls)) (ap lines_of (nil_from_length rest e) ∙ lines_of-nil) ∙ append-nil _

-- behind the last line without a fault all seven first lines were read
pub record IsEnded (p : Parts) : Type 0 where
  pub some : 0 < length p.processes
  pub seven : length p.numbers ≡ 7
  pub no_gap : has_gap (said_by p) ≡ false

pub IsEnded-from : (p : Parts) → IsParts p → end_rule (said_by p) ≡ None → IsEnded p
IsEnded-from p parts e =
    let a = guard (not (list_any is_process (said_by p))) 11 _ e in
    let b = guard (has_gap (said_by p)) 15 _ a.1 in
    let some : 0 < length p.processes = ltb-true _ _ (some_process-said_by p parts ∙ not-false _ a.0) in
    record { some = some; seven = parts.first (omega arith); no_gap = b.0 }

pub stopped_at_end : (text rest : List ℕ) (p : Parts) (place rule : ℕ) → IsReading text p place rest → length rest ≡ 0 → Some rule ≡ end_rule (said_by p) → first_fault text ≡ Some (place, rule)
stopped_at_end text rest p place rule r e some = reading_ends text rest p place r e ∙ ap (λ o. fault_or place o None) (sym some)

pub ended : (text rest : List ℕ) (p : Parts) (place : ℕ) → IsReading text p place rest → length rest ≡ 0 → None ≡ end_rule (said_by p) → first_fault text ≡ None
ended text rest p place r e none = reading_ends text rest p place r e ∙ ap (λ o. fault_or place o None) (sym none)
