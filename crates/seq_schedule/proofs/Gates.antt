-- What is taken behind the gate is taken without it.
use Rattle.std.proofs.Common.{◌≡◌, ℕ, ◌+◌, Bool, true, false, cond, eqb, Option, Some, None, List, [], ◌∷◌, ◌++◌, refl, sym, ap, subst, ◌∙◌}
use Rattle.std.specs.Prelude.{slice_index}
use Rattle.seq_words.specs.declared.description.MachineDesc.{MachineDesc}
use Rattle.seq_text.specs.Words.{words_of}
use Rattle.seq_schedule.specs.declared.script.Script.{Script}
use Rattle.seq_schedule.specs.declared.script.Item.{Item}
use Rattle.seq_schedule.specs.declared.forms.Form.{Form}
use Rattle.seq_schedule.specs.declared.forms.Gate.TheVariants.{Built, Open}
use Rattle.seq_schedule.specs.declared.lines.Said.{Said}
use Rattle.seq_schedule.specs.declared.lines.Said.TheVariants.{Passed, Unbuilt}
use Rattle.seq_schedule.specs.Forms.{form_named, is_built}
use Rattle.seq_schedule.specs.Said.{form_said, taken_said, said}
use Rattle.seq_schedule.specs.Rules.{Past, past, line_rule, with_said, fault_or, fault_from, item_at, items_from}
use Rattle.seq_schedule.proofs.There.{no_fault}

-- what is taken is what is said
formed : (b : Bool) (x : Said) → (cond b x Unbuilt ≡ Unbuilt → ⊥) → cond b x Unbuilt ≡ x
formed true x h = refl
formed false x h = absurd (h refl)

-- ---- a line

taken : (form : Option Form) (words : List (List ℕ)) → (taken_said Built form words ≡ Unbuilt → ⊥) → taken_said Built form words ≡ taken_said Open form words
taken None words h = refl
taken (Some form) words h = formed (is_built form) (form_said form words) h

spoken : (b : Bool) (form : Option Form) (words : List (List ℕ)) → (cond b Passed (taken_said Built form words) ≡ Unbuilt → ⊥) → cond b Passed (taken_said Built form words) ≡ cond b Passed (taken_said Open form words)
spoken true form words h = refl
spoken false form words h = taken form words h

said-open : (words : List (List ℕ)) → (said Built words ≡ Unbuilt → ⊥) → said Built words ≡ said Open words
unfolding said
said-open [] h = refl
said-open (key ∷ words) h = spoken (eqb (slice_index key 0) 35) (form_named key) words h

-- a line that violates no rule says something that is built
is_let_through : (d : MachineDesc) (p : Past) (place : ℕ) (here : Said) → line_rule d p place here ≡ None → here ≡ Unbuilt → ⊥
unfolding line_rule
is_let_through d p place here e u =
    let zero : Some 0 ≡ None = sym (ap (line_rule d p place) u) ∙ e in
    cc

joined : (place : ℕ) (rule : Option ℕ) (later : Option (ℕ × ℕ)) → rule ≡ None → later ≡ None → fault_or place rule later ≡ None
joined place None later e f = f
joined place (Some r) later e f = absurd cc

both : (a b c e : List Item) → a ≡ b → c ≡ e → a ++ c ≡ b ++ e
both a b c e f g = cc

pub opened : (d : MachineDesc) (place : ℕ) (before : List Script) (lines : List (List ℕ)) → fault_from Built d place before lines ≡ None → (fault_from Open d place before lines ≡ None) × (items_from Built place lines ≡ items_from Open place lines)
unfolding fault_from items_from
opened d place before [] e = (refl, refl)
opened d place before (line ∷ lines) e =
    let here : Said = said Built (words_of line) in
    let none = no_fault place (line_rule d (past d before) place here) (fault_from Built d (place + 1) (with_said before here) lines) e in
    let same : here ≡ said Open (words_of line) = said-open (words_of line) (is_let_through d (past d before) place here none.0) in
    let rest = opened d (place + 1) (with_said before here) lines none.1 in
    let fault : fault_or place (line_rule d (past d before) place here) (fault_from Open d (place + 1) (with_said before here) lines) ≡ None = joined place _ _ none.0 rest.0 in (
      subst (λ (s : Said). fault_or place (line_rule d (past d before) place s) (fault_from Open d (place + 1) (with_said before s) lines) ≡ None) same fault,
      both (item_at place here) (item_at place (said Open (words_of line))) (items_from Built (place + 1) lines) (items_from Open (place + 1) lines) (ap (item_at place) same) rest.1,
    )
