-- What a faultless text names is in the description.
use Rattle.std.proofs.Common.{◌≡◌, ℕ, ◌+◌, false, Option, Some, None, List, [], ◌∷◌, refl}
use Rattle.std.specs.List.{All}
use Rattle.std.proofs.lemmas.List.Elements.{All-nil, All-cons, All-append}
use Rattle.seq_words.specs.declared.description.MachineDesc.{MachineDesc}
use Rattle.seq_text.specs.Words.{words_of}
use Rattle.seq_schedule.specs.declared.script.Script.{Script}
use Rattle.seq_schedule.specs.declared.script.Item.{Item}
use Rattle.seq_schedule.specs.declared.forms.Gate.{Gate}
use Rattle.seq_schedule.specs.declared.lines.Said.{Said}
use Rattle.seq_schedule.specs.declared.lines.Said.TheVariants.{Passed, Unbuilt, NoForm, Malformed, Says}
use Rattle.seq_schedule.specs.Said.{said}
use Rattle.seq_schedule.specs.Rules.{Past, past, is_absent, rule_of, place_rule, line_rule, with_said, fault_or, fault_from, item_at, items_from}
use Rattle.seq_schedule.proofs.Ranges.{first-none, present}

abbrev IsThere : MachineDesc → Item → Type 0
IsThere d i = is_absent d i.script ≡ false

line_there : (d : MachineDesc) (p : Past) (place : ℕ) (here : Said) → line_rule d p place here ≡ None → All (IsThere d) (item_at place here)
unfolding line_rule
line_there d p place Passed e = All-nil (IsThere d)
line_there d p place Unbuilt e = absurd cc
line_there d p place NoForm e = absurd cc
line_there d p place Malformed e = absurd cc
line_there d p place (Says s) e = All-cons (IsThere d) (record { line = place; script = s }) [] (present d p s (first-none (rule_of d p s) (place_rule place) e).0) (All-nil (IsThere d))

pub no_fault : (place : ℕ) (rule : Option ℕ) (later : Option (ℕ × ℕ)) → fault_or place rule later ≡ None → (rule ≡ None) × (later ≡ None)
no_fault place None later e = (refl, e)
no_fault place (Some r) later e = absurd cc

pub there_from : (gate : Gate) (d : MachineDesc) (place : ℕ) (before : List Script) (lines : List (List ℕ)) → fault_from gate d place before lines ≡ None → All (IsThere d) (items_from gate place lines)
unfolding fault_from items_from
there_from gate d place before [] e = All-nil (IsThere d)
there_from gate d place before (line ∷ lines) e =
    let here : Said = said gate (words_of line) in
    let none = no_fault place (line_rule d (past d before) place here) (fault_from gate d (place + 1) (with_said before here) lines) e in
    All-append (IsThere d) (item_at place here) (items_from gate (place + 1) lines) (line_there d (past d before) place here none.0) (there_from gate d (place + 1) (with_said before here) lines none.1)
