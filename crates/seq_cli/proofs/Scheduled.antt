-- What a schedule that was read is.
use Rattle.std.proofs.Common.{◌≡◌, ◌⊎◌, inl, inr, ℕ, ◌+◌, ◌≤◌, None, Some, Option, List, [], length, Result, Ok, Err, IfOk, OnOk, arith, refl, sym, subst}
use Rattle.seq_words.specs.declared.description.MachineDesc.{MachineDesc}
use Rattle.seq_words.specs.declared.events.ReadError.{ReadError}
use Rattle.seq_words.specs.declared.events.ReadError.TheVariants as read
use Rattle.seq_text.specs.Lines.{lines_of}
use Rattle.seq_schedule.specs.declared.forms.Gate.TheVariants.{Built}
use Rattle.seq_schedule.specs.declared.script.Item.{Item}
use Rattle.seq_schedule.specs.Limits.{most_lines}
use Rattle.seq_schedule.specs.Rules.{first_fault, items_of, items_from}
use Rattle.seq_schedule.specs.Faultless.{AreFaultless}
use Rattle.seq_schedule.proofs.Faultless.{follow_from, built_from, few_from}

-- a text that was read violates no rule of the grammar
whole : (items : List Item) (f : Option (ℕ × ℕ)) → ((place rule : ℕ) → f ≡ Some (place, rule) → (Ok items ≡ Err (read.Refused place rule)) ⊎ (Ok items ≡ Err read.NoMemory)) → f ≡ None
whole items None faulty = refl
whole items (Some fault) faulty = elim (faulty fault.0 fault.1 refl) [
  | inl e ↦ absurd cc
  | inr e ↦ absurd cc
]

-- how a text with this first fault is answered, where it has one
abbrev Answers : Result (List Item) ReadError → Option (ℕ × ℕ) → Type 0
Answers r f = (place rule : ℕ) → f ≡ Some (place, rule) → (r ≡ Err (read.Refused place rule)) ⊎ (r ≡ Err read.NoMemory)

pub read_whole : (r : Result (List Item) ReadError) (f : Option (ℕ × ℕ)) → Answers r f → OnOk r (f ≡ None)
read_whole (Ok items) f faulty = whole items f faulty
read_whole (Err e) f faulty = tt

-- its items are faultless
faultless : (d : MachineDesc) (text : List ℕ) → first_fault Built d text ≡ None → AreFaultless d (items_of Built text)
faultless d text none =
    let few : length (items_from Built 1 (lines_of text)) + 1 ≤ most_lines + 1 = few_from Built d 1 [] (lines_of text) (omega arith) none in
    record { follow = follow_from Built d 1 [] (lines_of text) none; built = built_from 1 (lines_of text); few = omega arith }

pub read_faultless : (d : MachineDesc) (text : List ℕ) (r : Result (List Item) ReadError) → IfOk r (λ items. items ≡ items_of Built text) → Answers r (first_fault Built d text) → IfOk r (AreFaultless d)
read_faultless d text (Ok items) is faulty = subst (λ (items : List Item). AreFaultless d items) (sym is) (faultless d text (whole items (first_fault Built d text) faulty))
read_faultless d text (Err e) is faulty = tt
