-- A list of events by its first event and the rest.
use Rattle.std.proofs.Common.{◌≡◌, ℕ, ◌+◌, ◌<◌, ◌≤◌, Bool, List, ◌∷◌, length, get_or, drop, None, refl, sym, ◌∙◌, ap, subst}
use Rattle.std.proofs.lemmas.List.{drop_more, drop_all}
use Rattle.seq_words.specs.declared.description.MachineDesc.{MachineDesc}
use Rattle.seq_words.specs.declared.events.Event.{Event}
use Rattle.seq_shelf.specs.Told.{LineView}
use Rattle.seq_turns.specs.Machines.{Machine}
use Rattle.seq_turns.specs.Allowed.{Allowed}
use Rattle.seq_turns.specs.Events.{happens, check, run}
use Rattle.seq_machine.specs.declared.hardware.Hardware.{Hardware}
use Rattle.seq_machine.specs.Plain.{Outside, machine_of, outside_of, IsOutside}
use Rattle.seq_machine.specs.Starting.{no_outside}
use Rattle.seq_machine.specs.Built.{IsBuilt}
use Rattle.seq_machine.specs.Making.{MayMake, MayMakeAll}
use Rattle.seq_machine.proofs.Unchanged.{allowed_anywhere}

-- these events of the hardware now, with an outside that the lines show, lead where those led with the outside before
pub record LeadsTo (d : MachineDesc) (left all : List Event) (old now : Hardware) (lines : List LineView) (marks : List Bool) (o : Outside) : Type 0 where
  pub outside : Outside
  pub shown : IsOutside lines marks outside
  pub same : run d left (machine_of now outside) ≡ run d all (machine_of old o)

pub leads_here : (d : MachineDesc) (all : List Event) (h : Hardware) (lines : List LineView) (marks : List Bool) (o : Outside) → IsOutside lines marks o → LeadsTo d all all h h lines marks o
leads_here d all h lines marks o shown = record { outside = o; shown = shown; same = refl }

-- the event that hardware makes, as Hardware::event tells it
abbrev pub Makes : (old new : Hardware) (e : Event) (lines : List LineView) (marks : List Bool) → Type 0
Makes old new e lines marks = (o : Outside) → IsOutside lines marks o → machine_of new (outside_of (happens old.desc (machine_of old o) e)) ≡ happens old.desc (machine_of old o) e

abbrev pub IsUnchecked : (old : Hardware) (e : Event) (lines : List LineView) (marks : List Bool) → Type 0
IsUnchecked old e lines marks = (o : Outside) → IsOutside lines marks o → check old.desc (machine_of old o) e ≡ None

abbrev pub Shows : (old : Hardware) (e : Event) (lines : List LineView) (marks : List Bool) (new_lines : List LineView) (new_marks : List Bool) → Type 0
Shows old e lines marks new_lines new_marks = (o : Outside) → IsOutside lines marks o → IsOutside new_lines new_marks (outside_of (happens old.desc (machine_of old o) e))

-- ---- the event at index i
module _ (es : List Event) (i : ℕ) (e : Event) (inside : i < length es) where
  step : drop i es ≡ get_or es i e ∷ drop (i + 1) es
  step = drop_more es i e inside

  module _ (old : Hardware) (o : Outside) (may : MayMake old.desc (drop i es) (machine_of old o)) where
    both : MayMake old.desc (get_or es i e ∷ drop (i + 1) es) (machine_of old o)
    both = subst (λ (l : List Event). MayMake old.desc l (machine_of old o)) step may

    pub next_built : IsBuilt (get_or es i e)
    next_built = both.0

    pub next_allowed : Allowed old.desc (machine_of old no_outside) (get_or es i e)
    next_allowed = allowed_anywhere old.desc old o no_outside (get_or es i e) both.0 both.1

    pub next_left : check old.desc (machine_of old o) (get_or es i e) ≡ None → MayMake old.desc (drop (i + 1) es) (happens old.desc (machine_of old o) (get_or es i e))
    next_left = both.2

  module _ (old new : Hardware) (lines new_lines : List LineView) (marks new_marks : List Bool) where
    pub next_may : new.desc ≡ old.desc → IsUnchecked old (get_or es i e) lines marks → Makes old new (get_or es i e) lines marks → Shows old (get_or es i e) lines marks new_lines new_marks → MayMakeAll (drop i es) old lines marks → MayMakeAll (drop (i + 1) es) new new_lines new_marks
    next_may desc unchecked makes shows may =
        let o = outside_of (happens old.desc (machine_of old may.outside) (get_or es i e)) in
        let rest : MayMake old.desc (drop (i + 1) es) (machine_of new o) = subst (λ (m : Machine). MayMake old.desc (drop (i + 1) es) m) (sym (makes may.outside may.shown)) (next_left old may.outside may.allowed (unchecked may.outside may.shown)) in
        record { outside = o; shown = shows may.outside may.shown; allowed = subst (λ (d : MachineDesc). MayMake d (drop (i + 1) es) (machine_of new o)) (sym desc) rest }

    pub next_leads : (start : Hardware) (o : Outside) → old.desc ≡ start.desc → Makes old new (get_or es i e) lines marks → Shows old (get_or es i e) lines marks new_lines new_marks
        → LeadsTo start.desc (drop i es) es start old lines marks o → LeadsTo start.desc (drop (i + 1) es) es start new new_lines new_marks o
    next_leads start o desc makes shows leads =
        let at = happens old.desc (machine_of old leads.outside) (get_or es i e) in
        let at_is : at ≡ happens start.desc (machine_of old leads.outside) (get_or es i e) = ap (λ (d : MachineDesc). happens d (machine_of old leads.outside) (get_or es i e)) desc in
        let more : run start.desc (drop i es) (machine_of old leads.outside) ≡ run start.desc (drop (i + 1) es) (happens start.desc (machine_of old leads.outside) (get_or es i e)) = ap (λ (l : List Event). run start.desc l (machine_of old leads.outside)) step in
        record {
          outside = outside_of at;
          shown = shows leads.outside leads.shown;
          same = ap (λ (m : Machine). run start.desc (drop (i + 1) es) m) (makes leads.outside leads.shown ∙ at_is) ∙ sym more ∙ leads.same;
        }

-- ---- the end
module _ (start now : Hardware) (es : List Event) (i : ℕ) (past : length es ≤ i) (lines : List LineView) (marks : List Bool) (o : Outside) (leads : LeadsTo start.desc (drop i es) es start now lines marks o) where
  all : machine_of now leads.outside ≡ run start.desc es (machine_of start o)
  all = sym (ap (λ (l : List Event). run start.desc l (machine_of now leads.outside)) (drop_all i es past)) ∙ leads.same

  pub led : machine_of now (outside_of (run start.desc es (machine_of start o))) ≡ run start.desc es (machine_of start o)
  led = ap (λ (m : Machine). machine_of now (outside_of m)) (sym all) ∙ all

  pub led_shown : IsOutside lines marks (outside_of (run start.desc es (machine_of start o)))
  led_shown = subst (λ (m : Machine). IsOutside lines marks (outside_of m)) all leads.shown
