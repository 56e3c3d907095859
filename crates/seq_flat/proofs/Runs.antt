-- A run goes on by a step.
use Rattle.std.proofs.Common.{◌≡◌, ℕ, Option, Some, None, List, [], ◌∷◌, ◌++◌, Result, Ok, Err, refl, ◌∙◌, ap}
use Rattle.std.specs.Option.{option_and_then}
use Rattle.seq_words.specs.declared.description.MachineDesc.{MachineDesc}
use Rattle.seq_words.specs.declared.events.Entry.{Entry}
use Rattle.seq_flat.specs.declared.inputs.LineInput.{LineInput}
use Rattle.seq_flat.specs.declared.state.FlatState.{FlatState}
use Rattle.seq_flat.specs.State.{rights_of}
use Rattle.seq_flat.specs.Step.{step_or_wait, ok_of, step}
use Rattle.seq_flat.specs.Run.{steps, run_from}
use Rattle.seq_flat.specs.declared.state.Waits.{Waits}
use Rattle.seq_flat.specs.Laws.{RunsGoOn}

-- one step of process p
abbrev pub one_step : ℕ → Entry
one_step p = record { pid = record { 0 = p }; count = 1 }

through : {A B : Type 0} (f g : A → Option B) (o : Option A) (t u : B) → ((x : A) → f x ≡ Some t → g x ≡ Some u) → option_and_then f o ≡ Some t → option_and_then g o ≡ Some u
through f g None t u next e = absurd cc
through f g (Some x) t u next e = next x e

steps_one : (d : MachineDesc) (inputs : List LineInput) (p : ℕ) (f g : FlatState) → step d inputs f p ≡ Some g → steps d inputs p 1 f ≡ Some g
unfolding steps
steps_one d inputs p f g stepped = rw stepped refl

-- the run along a longer history
pub run_from_more : (d : MachineDesc) (inputs : List LineInput) (p : ℕ) (h : List Entry) (f g k : FlatState) → run_from d inputs f h ≡ Some g → step_or_wait (rights_of d) inputs g p ≡ Ok k → run_from d inputs f (h ++ one_step p ∷ []) ≡ Some k
unfolding run_from
run_from_more d inputs p [] f g k ran stepped =
    let same : f ≡ g = cc in
    let stepped' : step d inputs f p ≡ Some k = ap (λ x. ok_of (step_or_wait (rights_of d) inputs x p)) same ∙ ap ok_of stepped in
    rw (steps_one d inputs p f k stepped') refl
run_from_more d inputs p (e ∷ es) f g k ran stepped =
    through (λ x. run_from d inputs x es) (λ x. run_from d inputs x (es ++ one_step p ∷ [])) (steps d inputs e.pid.0 e.count f) g k
    (λ x r. run_from_more d inputs p es x g k r stepped) ran

-- no step yet
pub run_from_nothing : (d : MachineDesc) (inputs : List LineInput) (f : FlatState) → run_from d inputs f [] ≡ Some f
unfolding run_from
run_from_nothing d inputs f = refl

-- a step that leads to a state is made
pub stepped_ok : (r : Result FlatState Waits) (f : FlatState) → ok_of r ≡ Some f → r ≡ Ok f
stepped_ok (Ok g) f e = cc
stepped_ok (Err w) f e = absurd cc

joined : {A B C : Type 0} (f : A → Option B) (g : B → Option C) (o : Option A) → option_and_then (λ x. option_and_then g (f x)) o ≡ option_and_then g (option_and_then f o)
joined f g None = refl
joined f g (Some x) = refl

changed : {A B : Type 0} (f g : A → Option B) (o : Option A) → ((x : A) → f x ≡ g x) → option_and_then f o ≡ option_and_then g o
changed f g None same = refl
changed f g (Some x) same = same x

pub runs_go_on : RunsGoOn
unfolding run_from
runs_go_on d inputs [] second f = refl
runs_go_on d inputs (e ∷ first) second f =
    changed (λ g. run_from d inputs g (first ++ second)) (λ g. option_and_then (λ k. run_from d inputs k second) (run_from d inputs g first)) (steps d inputs e.pid.0 e.count f) (λ g. runs_go_on d inputs first second g)
    ∙ joined (λ g. run_from d inputs g first) (λ k. run_from d inputs k second) (steps d inputs e.pid.0 e.count f)
