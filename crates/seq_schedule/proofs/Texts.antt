-- A text, line by line.
use Rattle.std.proofs.Common.{◌≡◌, ◌≢◌, ℕ, ◌+◌, ◌<◌, ◌≤◌, Some, None, List, [], ◌∷◌, ◌++◌, length, refl, sym, ap, subst, ◌∙◌, append_assoc, arith}
use Rattle.std.proofs.lemmas.List.{append-nil, nil_from_length}
use Rattle.seq_words.specs.declared.description.MachineDesc.{MachineDesc}
use Rattle.seq_words.specs.Description.{IsDescription}
use Rattle.seq_text.specs.Lines.{lines_of}
use Rattle.seq_text.specs.Words.{words_of}
use Rattle.seq_schedule.specs.declared.script.Script.{Script}
use Rattle.seq_schedule.specs.declared.script.Item.{Item}
use Rattle.seq_schedule.specs.declared.forms.Gate.{Gate}
use Rattle.seq_schedule.specs.declared.lines.Said.{Said}
use Rattle.seq_schedule.specs.declared.lines.Said.TheVariants.{Passed, Unbuilt, NoForm, Malformed, Says}
use Rattle.seq_schedule.specs.declared.tally.Tally.{Tally}
use Rattle.seq_schedule.specs.Said.{said}
use Rattle.seq_schedule.specs.Rules.{past, first_of, rule_of, place_rule, line_rule, with_said, fault_or, fault_from, first_fault, item_at, items_from, items_of}
use Rattle.seq_schedule.specs.Tallying.{no_tally, told, after_said}
use Rattle.seq_schedule.proofs.Ranges.{first-none, present}
use Rattle.seq_schedule.proofs.Tallies.{IsTally, start, step, rule_same}

-- a script that violates no rule on its line
pub says_none : (d : MachineDesc) (t : Tally) (place : ℕ) (s : Script) → line_rule d (told t) place (Says s) ≡ None → rule_of d (told t) s ≡ None
unfolding line_rule
says_none d t place s e = (first-none (rule_of d (told t) s) (place_rule place) e).0

line_same : (d : MachineDesc) (before : List Script) (t : Tally) (place : ℕ) (here : Said) → IsDescription d → IsTally d before t → line_rule d (told t) place here ≡ line_rule d (past d before) place here
unfolding line_rule
line_same d before t place Passed D i = refl
line_same d before t place Unbuilt D i = refl
line_same d before t place NoForm D i = refl
line_same d before t place Malformed D i = refl
line_same d before t place (Says s) D i = ap (λ r. first_of r (place_rule place)) (rule_same d before t s D i)

tally_goes : (d : MachineDesc) (before : List Script) (t : Tally) (place : ℕ) (here : Said) → IsDescription d → IsTally d before t → line_rule d (told t) place here ≡ None → IsTally d (with_said before here) (after_said d t here)
tally_goes d before t place Passed D i e = i
tally_goes d before t place Unbuilt D i e = i
tally_goes d before t place NoForm D i e = i
tally_goes d before t place Malformed D i e = i
tally_goes d before t place (Says s) D i e = step d before t s D i (present d (told t) s (says_none d t place s e))

-- ---- the first fault and the items, line by line

fault_from-nil : (gate : Gate) (d : MachineDesc) (place : ℕ) (before : List Script) → fault_from gate d place before [] ≡ None
unfolding fault_from
fault_from-nil gate d place before = refl

fault_from-none : (gate : Gate) (d : MachineDesc) (place : ℕ) (before : List Script) (line : List ℕ) (lines : List (List ℕ)) → line_rule d (past d before) place (said gate (words_of line)) ≡ None → fault_from gate d place before (line ∷ lines) ≡ fault_from gate d (place + 1) (with_said before (said gate (words_of line))) lines
unfolding fault_from
fault_from-none gate d place before line lines e = ap (λ r. fault_or place r (fault_from gate d (place + 1) (with_said before (said gate (words_of line))) lines)) e

fault_from-some : (gate : Gate) (d : MachineDesc) (place : ℕ) (before : List Script) (line : List ℕ) (lines : List (List ℕ)) (rule : ℕ) → line_rule d (past d before) place (said gate (words_of line)) ≡ Some rule → fault_from gate d place before (line ∷ lines) ≡ Some (place, rule)
unfolding fault_from
fault_from-some gate d place before line lines rule e = ap (λ r. fault_or place r (fault_from gate d (place + 1) (with_said before (said gate (words_of line))) lines)) e

items_from-nil : (gate : Gate) (place : ℕ) → items_from gate place [] ≡ []
unfolding items_from
items_from-nil gate place = refl

items_from-cons : (gate : Gate) (place : ℕ) (line : List ℕ) (lines : List (List ℕ)) → items_from gate place (line ∷ lines) ≡ item_at place (said gate (words_of line)) ++ items_from gate (place + 1) lines
unfolding items_from
items_from-cons gate place line lines = refl

lines_of-nil : lines_of [] ≡ []
unfolding lines_of
lines_of-nil = refl

-- ---- the reader's loop

pub record IsReading (gate : Gate) (d : MachineDesc) (text : List ℕ) (t : Tally) (made : List Item) (place : ℕ) (rest : List ℕ) : Type 0 where
  pub before : List Script
  pub tally : IsTally d before t
  pub fault : fault_from gate d place before (lines_of rest) ≡ first_fault gate d text
  pub items : made ++ items_from gate place (lines_of rest) ≡ items_of gate text
  pub room : place + length rest ≤ length text + 1

pub reading_starts : (gate : Gate) (d : MachineDesc) (text : List ℕ) (t : Tally) (items : List Item) → t ≡ no_tally → items ≡ [] → IsReading gate d text t items 1 text
reading_starts gate d text t items e f = record {
  before = [];
  tally = subst (λ t. IsTally d [] t) (sym e) (start d);
  fault = refl;
  items = ap (λ is. is ++ items_from gate 1 (lines_of text)) f;
  room = omega arith;
}

pub reading_goes : (gate : Gate) (d : MachineDesc) (text line rest after : List ℕ) (t u : Tally) (items more : List Item) (place : ℕ) → IsDescription d → IsReading gate d text t items place rest → lines_of rest ≡ line ∷ lines_of after → length after < length rest
    → line_rule d (told t) place (said gate (words_of line)) ≡ None → u ≡ after_said d t (said gate (words_of line)) → more ≡ items ++ item_at place (said gate (words_of line)) → IsReading gate d text u more (place + 1) after
reading_goes gate d text line rest after t u items more place D r cut shorter none e f =
    let here : Said = said gate (words_of line) in
    let same = line_same d r.before t place here D r.tally in
    record {
      before = with_said r.before here;
      tally = subst (λ u. IsTally d (with_said r.before here) u) (sym e) (tally_goes d r.before t place here D r.tally none);
      fault = sym (fault_from-none gate d place r.before line (lines_of after) (sym same ∙ none)) ∙ ap (fault_from gate d place r.before) (sym cut) ∙ r.fault;
      items = ap (λ is. is ++ items_from gate (place + 1) (lines_of after)) f
          ∙ append_assoc items (item_at place here) (items_from gate (place + 1) (lines_of after))
          ∙ ap (λ is. items ++ is) (sym (items_from-cons gate place line (lines_of after)) ∙ ap (items_from gate place) (sym cut))
          ∙ r.items;
      room = omega (arith, r.room, shorter);
    }

pub reading_stops : (gate : Gate) (d : MachineDesc) (text line rest after : List ℕ) (t : Tally) (items : List Item) (place rule : ℕ) → IsDescription d → IsReading gate d text t items place rest → lines_of rest ≡ line ∷ lines_of after → line_rule d (told t) place (said gate (words_of line)) ≡ Some rule → first_fault gate d text ≡ Some (place, rule)
reading_stops gate d text line rest after t items place rule D r cut some =
    let same = line_same d r.before t place (said gate (words_of line)) D r.tally in
    sym r.fault ∙ ap (fault_from gate d place r.before) cut ∙ fault_from-some gate d place r.before line (lines_of after) rule (sym same ∙ some)

pub reading_ends : (gate : Gate) (d : MachineDesc) (text rest : List ℕ) (t : Tally) (items : List Item) (place : ℕ) → IsReading gate d text t items place rest → length rest ≡ 0 → first_fault gate d text ≡ None
reading_ends gate d text rest t items place r e = sym r.fault ∙ ap (fault_from gate d place r.before) (ap lines_of (nil_from_length rest e) ∙ lines_of-nil) ∙ fault_from-nil gate d place r.before

pub reading_items : (gate : Gate) (d : MachineDesc) (text rest : List ℕ) (t : Tally) (items : List Item) (place : ℕ) → IsReading gate d text t items place rest → length rest ≡ 0 → items ≡ items_of gate text
reading_items gate d text rest t items place r e = sym (append-nil items) ∙ ap (λ is. items ++ is) (sym (ap (items_from gate place) (ap lines_of (nil_from_length rest e) ∙ lines_of-nil) ∙ items_from-nil gate place)) ∙ r.items

-- where nothing stands in a row, nothing stands in its middle
none_behind : (xs ys zs : List Item) → xs ++ (ys ++ zs) ≡ [] → ys ≡ []
none_behind [] [] zs e = refl
none_behind [] (y ∷ ys) zs e = cc
none_behind (x ∷ xs) ys zs e = cc

-- an item of a line is one of the text
pub reading_takes : (gate : Gate) (d : MachineDesc) (text line rest after : List ℕ) (t : Tally) (items : List Item) (place : ℕ) → IsReading gate d text t items place rest → lines_of rest ≡ line ∷ lines_of after → item_at place (said gate (words_of line)) ≢ [] → items_of gate text ≢ []
reading_takes gate d text line rest after t items place r cut some none =
    some (none_behind items (item_at place (said gate (words_of line))) (items_from gate (place + 1) (lines_of after))
    (ap (λ is. items ++ is) (sym (items_from-cons gate place line (lines_of after)) ∙ ap (items_from gate place) (sym cut)) ∙ r.items ∙ none))
