-- Steps of a flat run, one by one.
use Rattle.std.proofs.Common.{◌≡◌, ℕ, suc, ◌+◌, ◌<◌, ◌≤◌, Some, None, List, [], ◌∷◌, drop, get_or, length, Result, Ok, Err, refl, sym, subst, ap, ◌∙◌}
use Rattle.std.specs.Prelude.{IsErrAnd, IfErr}
use Rattle.std.proofs.lemmas.List.{drop_more, drop_all}
use Rattle.std.specs.Option.{option_and_then}
use Rattle.seq_words.specs.declared.description.MachineDesc.{MachineDesc}
use Rattle.seq_words.specs.declared.events.Entry.{Entry}
use Rattle.seq_flat.specs.declared.inputs.LineInput.{LineInput}
use Rattle.seq_flat.specs.declared.state.FlatState.{FlatState}
use Rattle.seq_flat.specs.declared.state.Rights.{Rights}
use Rattle.seq_flat.specs.declared.state.Waits.{Waits}
use Rattle.seq_flat.specs.declared.state.StepError.{StepError}
use Rattle.seq_flat.specs.declared.state.StepError.TheVariants.{Waits as Waiting}
use Rattle.seq_flat.specs.State.{rights_of}
use Rattle.seq_flat.specs.Step.{step_or_wait, ok_of, Refuses}
use Rattle.seq_flat.specs.Run.{steps, run_from}

-- a step that is made, and one that waits
pub one_step : (d : MachineDesc) (inputs : List LineInput) (p n m : ℕ) (rights : List Rights) (f g : FlatState) → m ≡ suc n → rights_of d ≡ rights → step_or_wait rights inputs f p ≡ Ok g → steps d inputs p m f ≡ steps d inputs p n g
unfolding steps
one_step d inputs p n m rights f g e r is =
    ap (λ k. steps d inputs p k f) e ∙ ap (λ o. option_and_then (λ g. steps d inputs p n g) (ok_of o)) (ap (λ rs. step_or_wait rs inputs f p) r ∙ is)

pub no_step : (d : MachineDesc) (inputs : List LineInput) (p n m : ℕ) (rights : List Rights) (f : FlatState) (w : Waits) → m ≡ suc n → rights_of d ≡ rights → step_or_wait rights inputs f p ≡ Err w → steps d inputs p m f ≡ None
unfolding steps
no_step d inputs p n m rights f w e r is =
    ap (λ k. steps d inputs p k f) e ∙ ap (λ o. option_and_then (λ g. steps d inputs p n g) (ok_of o)) (ap (λ rs. step_or_wait rs inputs f p) r ∙ is)

-- no step, and no entry
pub no_steps : (d : MachineDesc) (inputs : List LineInput) (p : ℕ) (f : FlatState) → steps d inputs p 0 f ≡ Some f
unfolding steps
no_steps d inputs p f = refl

pub no_entry : (d : MachineDesc) (inputs : List LineInput) (f : FlatState) → run_from d inputs f [] ≡ Some f
unfolding run_from
no_entry d inputs f = refl

-- an entry whose steps are made, and one whose steps aren't
pub one_entry : (d : MachineDesc) (inputs : List LineInput) (f g : FlatState) (e : Entry) (history rest : List Entry) → history ≡ e ∷ rest → steps d inputs e.pid.0 e.count f ≡ Some g → run_from d inputs f history ≡ run_from d inputs g rest
unfolding run_from
one_entry d inputs f g e history rest split is =
    ap (λ h. run_from d inputs f h) split ∙ ap (λ o. option_and_then (λ g. run_from d inputs g rest) o) is

pub stopped_entry : (d : MachineDesc) (inputs : List LineInput) (f : FlatState) (e : Entry) (history rest : List Entry) → history ≡ e ∷ rest → steps d inputs e.pid.0 e.count f ≡ None → run_from d inputs f history ≡ None
unfolding run_from
stopped_entry d inputs f e history rest split is =
    ap (λ h. run_from d inputs f h) split ∙ ap (λ o. option_and_then (λ g. run_from d inputs g rest) o) is

-- ---- in the loops

-- an error that is handed on
pub handed_on : {A : Type 0} (r : Result A StepError) (error : StepError) (w : Waits) → IsErrAnd r (λ e. e ≡ error) → r ≡ Err (Waiting w) → error ≡ Waiting w
handed_on (Ok x) error w is e = absurd is
handed_on (Err found) error w is e = sym is ∙ (let same : found ≡ Waiting w = cc in same)

pub handed : {A : Type 0} (r : Result A StepError) (error : StepError) (P : StepError → Type 0) → IsErrAnd r (λ e. e ≡ error) → P error → IfErr r P
handed (Ok x) error P is p = tt
handed (Err found) error P is p = subst P (sym is) p

-- a step that waits, amid so many
pub waits_none : (d : MachineDesc) (inputs : List LineInput) (p n m : ℕ) (rights : List Rights) (f : FlatState) (error : StepError) (w : Waits) → m ≡ suc n → rights_of d ≡ rights → error ≡ Waiting w → Refuses (step_or_wait rights inputs f p) error → steps d inputs p m f ≡ None
waits_none d inputs p n m rights f error w e r is refuses =
    no_step d inputs p n m rights f w e r (subst (λ x. Refuses (step_or_wait rights inputs f p) x) is refuses)

-- no step is left
pub none_left : (d : MachineDesc) (inputs : List LineInput) (p n : ℕ) (f : FlatState) → n ≡ 0 → steps d inputs p n f ≡ Some f
none_left d inputs p n f e = ap (λ k. steps d inputs p k f) e ∙ no_steps d inputs p f

-- the entry at a place of a history
pub entry_at : (d : MachineDesc) (inputs : List LineInput) (f g : FlatState) (history : List Entry) (i : ℕ) (none : Entry) → i < length history → steps d inputs (get_or history i none).pid.0 (get_or history i none).count f ≡ Some g → run_from d inputs f (drop i history) ≡ run_from d inputs g (drop (i + 1) history)
entry_at d inputs f g history i none lt is = one_entry d inputs f g (get_or history i none) (drop i history) (drop (i + 1) history) (drop_more history i none lt) is

pub stopped_at : (d : MachineDesc) (inputs : List LineInput) (f : FlatState) (history : List Entry) (i : ℕ) (none : Entry) → i < length history → steps d inputs (get_or history i none).pid.0 (get_or history i none).count f ≡ None → run_from d inputs f (drop i history) ≡ None
stopped_at d inputs f history i none lt is = stopped_entry d inputs f (get_or history i none) (drop i history) (drop (i + 1) history) (drop_more history i none lt) is

-- no entry is left
pub all_told : (d : MachineDesc) (inputs : List LineInput) (f : FlatState) (history : List Entry) (i : ℕ) → length history ≤ i → run_from d inputs f (drop i history) ≡ Some f
all_told d inputs f history i le = ap (λ (h : List Entry). run_from d inputs f h) (drop_all i history le) ∙ no_entry d inputs f
