-- The first reading, line by line.
use Rattle.std.proofs.Common.{◌≡◌, ℕ, ◌+◌, ◌<◌, ◌≤◌, Bool, ◌||◌, Some, None, List, [], ◌∷◌, ◌++◌, length, reverse, refl, sym, ap, subst, ◌∙◌, Bor, arith}
use Rattle.std.specs.BTreeMap.{BTreeMap, is_at}
use Rattle.std.specs.Cmp.Lexicographic.{slice_cmp}
use Rattle.std.specs.Map.{lookup}
use Rattle.std.specs.Ordering.{nat_cmp}
use Rattle.std.specs.Option.{is_some, option_or}
use Rattle.seq_text.specs.Lines.{lines_of}
use Rattle.seq_source.specs.declared.items.Said.{Said}
use Rattle.seq_source.specs.Cuts.{label_of}
use Rattle.seq_asm.specs.declared.rules.Past.{Past}
use Rattle.seq_asm.specs.Lines.{said_in, length_at, end_of, labelled, labels_of, place_of, size_or}
use Rattle.seq_asm.specs.Rules.{said_rule, stands, is_second, place_rule, fault_from}
use Rattle.seq_asm.specs.Surveyed.{HasLabels, says_entry, IsPast}
use Rattle.seq_asm.proofs.Steps.{turned, all_before, lines_of-empty, labels_more, line_fits, rule_same, past_goes, fault_from-nil, fault_from-none, fault_from-some}

pub record IsSurveying (text : List ℕ) (m : BTreeMap (Bor (List ℕ)) ℕ) (past : Past) (place : ℕ) (rest : List ℕ) : Type 0 where
  pub before : List (List ℕ)
  pub lines : reverse before ++ lines_of rest ≡ lines_of text
  pub fault : fault_from before (lines_of rest) ≡ fault_from [] (lines_of text)
  pub here : place ≡ place_of before
  pub labels : HasLabels m (labels_of before)
  pub kept : IsPast past before
  pub room : place + length rest ≤ length text + 1

labels-nil : labels_of [] ≡ []
unfolding labels_of
labels-nil = refl

pub no_labels : (m : BTreeMap (Bor (List ℕ)) ℕ) → m.entries ≡ [] → HasLabels m []
no_labels m e = λ name. ap (lookup (is_at (λ k. slice_cmp nat_cmp name k.now))) e

pub survey_starts : (text : List ℕ) (m : BTreeMap (Bor (List ℕ)) ℕ) (past : Past) → HasLabels m [] → IsPast past [] → IsSurveying text m past 1 text
survey_starts text m past h p = record {
  before = [];
  lines = refl;
  fault = refl;
  here = refl;
  labels = subst (HasLabels m) (sym labels-nil) h;
  kept = p;
  room = omega arith;
}

-- what a line is read as, behind the lines before
pub record IsRead (text : List ℕ) (m : BTreeMap (Bor (List ℕ)) ℕ) (past : Past) (place : ℕ) (rest line after : List ℕ) (said : Said) (s : Bool) : Type 0 where
  pub reading : IsSurveying text m past place rest
  pub cut : lines_of rest ≡ line ∷ lines_of after
  pub shorter : length after < length rest
  pub said_is : said ≡ said_in line
  pub stands_is : (known : List (List ℕ × ℕ)) → HasLabels m known → s ≡ stands known (label_of line)

pub survey_stops : (text : List ℕ) (m : BTreeMap (Bor (List ℕ)) ℕ) (past : Past) (place : ℕ) (rest line after : List ℕ) (said : Said) (s : Bool) (rule : ℕ) → IsRead text m past place rest line after said s → option_or (said_rule said) (place_rule past.end s (is_second past.entry (is_some past.size) said) said) ≡ Some rule → fault_from [] (lines_of text) ≡ Some (place, rule)
survey_stops text m past place rest line after said s rule h some =
    let r = h.reading in
    let same = rule_same past r.before line s said r.kept (h.stands_is (labels_of r.before) r.labels) h.said_is in
    sym r.fault ∙ ap (fault_from r.before) h.cut ∙ fault_from-some r.before line (lines_of after) rule (sym same ∙ some) ∙ ap (λ (p : ℕ). Some (p, rule)) (sym r.here)

pub survey_goes : (text : List ℕ) (m n : BTreeMap (Bor (List ℕ)) ℕ) (past next : Past) (place : ℕ) (rest line after : List ℕ) (said : Said) (s : Bool) → IsRead text m past place rest line after said s → option_or (said_rule said) (place_rule past.end s (is_second past.entry (is_some past.size) said) said) ≡ None → ((known : List (List ℕ × ℕ)) → HasLabels m known → HasLabels n (labelled past.end (label_of line) ++ known)) → next.end ≡ past.end + length_at past.end said → next.entry ≡ (past.entry || says_entry said) → next.size ≡ size_or place said past.size → IsSurveying text n next (place + 1) after
survey_goes text m n past next place rest line after said s h none noted e f g =
    let r = h.reading in
    let same = rule_same past r.before line s said r.kept (h.stands_is (labels_of r.before) r.labels) h.said_is in
    record {
      before = line ∷ r.before;
      lines = turned r.before line (lines_of after) ∙ ap (λ ls. reverse r.before ++ ls) (sym h.cut) ∙ r.lines;
      fault = sym (fault_from-none r.before line (lines_of after) (sym same ∙ none)) ∙ ap (fault_from r.before) (sym h.cut) ∙ r.fault;
      here = omega (arith, r.here);
      labels = subst (HasLabels n) (labelled_here past.end (end_of r.before) line r.before r.kept.end refl) (noted (labels_of r.before) r.labels);
      kept = past_goes past next r.before line place said r.kept r.here h.said_is e f g (line_fits past.end s (is_second past.entry (is_some past.size) said) said none);
      room = omega (arith, r.room, h.shorter);
    }
  where
    labelled_here : (a b : ℕ) (line : List ℕ) (before : List (List ℕ)) → a ≡ b → b ≡ end_of before → labelled a (label_of line) ++ labels_of before ≡ labels_of (line ∷ before)
    labelled_here a b line before e f = ap (λ n. labelled n (label_of line) ++ labels_of before) (e ∙ f) ∙ sym (labels_more line before)

pub survey_ends : (text : List ℕ) (m : BTreeMap (Bor (List ℕ)) ℕ) (past : Past) (place : ℕ) (rest : List ℕ) → IsSurveying text m past place rest → length rest ≡ 0 → fault_from [] (lines_of text) ≡ None
survey_ends text m past place rest r e = sym r.fault ∙ ap (fault_from r.before) (lines_of-empty rest e) ∙ fault_from-nil r.before

all_lines : (text : List ℕ) (m : BTreeMap (Bor (List ℕ)) ℕ) (past : Past) (place : ℕ) (rest : List ℕ) → (r : IsSurveying text m past place rest) → length rest ≡ 0 → r.before ≡ reverse (lines_of text)
all_lines text m past place rest r e = all_before r.before (lines_of text) (ap (λ ls. reverse r.before ++ ls) (sym (lines_of-empty rest e)) ∙ r.lines)

pub survey_labels : (text : List ℕ) (m : BTreeMap (Bor (List ℕ)) ℕ) (past : Past) (place : ℕ) (rest : List ℕ) → IsSurveying text m past place rest → length rest ≡ 0 → HasLabels m (labels_of (reverse (lines_of text)))
survey_labels text m past place rest r e = subst (λ before. HasLabels m (labels_of before)) (all_lines text m past place rest r e) r.labels

pub survey_past : (text : List ℕ) (m : BTreeMap (Bor (List ℕ)) ℕ) (past : Past) (place : ℕ) (rest : List ℕ) → IsSurveying text m past place rest → length rest ≡ 0 → IsPast past (reverse (lines_of text))
survey_past text m past place rest r e = subst (IsPast past) (all_lines text m past place rest r e) r.kept
