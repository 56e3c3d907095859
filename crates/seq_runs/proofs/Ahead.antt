-- Many steps in a row.
use Rattle.std.proofs.Common.{◌≡◌, ℕ, zero, suc, ◌+◌, ◌≤◌, Bool, List, [], ◌∷◌, Option, Some, None, Ok, arith, refl, sym, ◌∙◌, ap, subst}
use Rattle.std.specs.Option.{option_and_then}
use Rattle.seq_words.specs.declared.description.MachineDesc.{MachineDesc}
use Rattle.seq_flat.specs.declared.inputs.LineInput.{LineInput}
use Rattle.seq_flat.specs.declared.state.FlatState.{FlatState}
use Rattle.seq_flat.specs.State.{rights_of}
use Rattle.seq_flat.specs.Step.{step_or_wait, ok_of, step}
use Rattle.seq_flat.specs.Run.{steps, run_from}
use Rattle.seq_flat.proofs.Runs.{stepped_ok}
use Rattle.seq_flat.proofs.MoreInputs.{input_keeps_steps}
use Rattle.seq_flat.proofs.Outputs.{runs_add_output}
use Rattle.seq_runs.specs.Areas.{HoldsWithin}
use Rattle.seq_runs.specs.Local.{TakesSameStep, IsLocal}
use Rattle.seq_runs.specs.Ahead.{IsAhead, TakesSameSteps, AreLocal, ManyStepsAreLocal, AllSegmentsAreEnough, StartsAhead, GoesAhead, AreaGrows, InputKeepsAhead, ManyStepsAddOutput}
use Rattle.seq_runs.proofs.Local.{stay_self, stay_on, steps_are_local}

-- a run along one entry
pub run_of_steps : (d : MachineDesc) (inputs : List LineInput) (p n : ℕ) (f g : FlatState) → steps d inputs p n f ≡ Some g → run_from d inputs f (record { pid = record { 0 = p }; count = n } ∷ []) ≡ Some g
unfolding run_from
run_of_steps d inputs p n f g leads = rw leads refl

-- the first of these steps, and the rest
pub record First (d : MachineDesc) (inputs : List LineInput) (p n : ℕ) (f g : FlatState) : Type 0 where
  pub state : FlatState
  pub step : step_or_wait (rights_of d) inputs f p ≡ Ok state
  pub rest : steps d inputs p n state ≡ Some g

pub opened : {A B : Type 0} (next : A → Option B) (o : Option A) (t : B) → option_and_then next o ≡ Some t → (x : A) × (o ≡ Some x) × (next x ≡ Some t)
opened next None t e = absurd cc
opened next (Some x) t e = (x, refl, e)

pub first_of_steps : (d : MachineDesc) (inputs : List LineInput) (p n : ℕ) (f g : FlatState) → steps d inputs p (suc n) f ≡ Some g → First d inputs p n f g
unfolding steps
first_of_steps d inputs p n f g leads =
    let o = opened (λ h. steps d inputs p n h) (step d inputs f p) g leads in
    record { state = o.0; step = stepped_ok (step_or_wait (rights_of d) inputs f p) o.0 o.1; rest = o.2 }

pub step_before : (d : MachineDesc) (inputs : List LineInput) (p n : ℕ) (f h : FlatState) (o : Option FlatState) → step_or_wait (rights_of d) inputs f p ≡ Ok h → steps d inputs p n h ≡ o → steps d inputs p (suc n) f ≡ o
unfolding steps
step_before d inputs p n f h o stepped rest =
    let made : step d inputs f p ≡ Some h = ap ok_of stepped in
    rw made rest

pub no_steps : (d : MachineDesc) (inputs : List LineInput) (p : ℕ) (f g : FlatState) → steps d inputs p 0 f ≡ Some g → f ≡ g
unfolding steps
no_steps d inputs p f g e = cc

pub none_yet : (d : MachineDesc) (inputs : List LineInput) (p : ℕ) (f : FlatState) → steps d inputs p 0 f ≡ Some f
unfolding steps
none_yet d inputs p f = refl

pub starts_ahead : StartsAhead
starts_ahead d inputs area p f within = record {
  leads = none_yet d inputs p f;
  within = λ k h few e.
      let none : k ≡ 0 = omega arith in
      subst (HoldsWithin area p) (no_steps d inputs p f h (subst (λ n. steps d inputs p n f ≡ Some h) none e)) within;
}

-- what holds of the first state and of those after the first step
pub step_ahead : (d : MachineDesc) (inputs : List LineInput) (area : ℕ → Bool) (p n : ℕ) (f h g : FlatState) → HoldsWithin area p f → step_or_wait (rights_of d) inputs f p ≡ Ok h → IsAhead d inputs area p n h g → IsAhead d inputs area p (suc n) f g
step_ahead d inputs area p n f h g within stepped rest = record {
  leads = step_before d inputs p n f h (Some g) stepped rest.leads;
  within = λ k x few e. go k x few e;
}
  where
    go : (k : ℕ) (x : FlatState) → k ≤ suc n → steps d inputs p k f ≡ Some x → HoldsWithin area p x
    go zero x few e = subst (HoldsWithin area p) (no_steps d inputs p f x e) within
    go (suc k) x few e = rest.within k x (omega arith) (sym (step_before d inputs p k f h (steps d inputs p k h) stepped refl) ∙ e)

-- the first step of those that are ahead, and the rest
pub record FirstAhead (d : MachineDesc) (inputs : List LineInput) (area : ℕ → Bool) (p n : ℕ) (f g : FlatState) : Type 0 where
  pub state : FlatState
  pub before : HoldsWithin area p f
  pub step : step_or_wait (rights_of d) inputs f p ≡ Ok state
  pub after : HoldsWithin area p state
  pub rest : IsAhead d inputs area p n state g

pub first_ahead : (d : MachineDesc) (inputs : List LineInput) (area : ℕ → Bool) (p n : ℕ) (f g : FlatState) → IsAhead d inputs area p (suc n) f g → FirstAhead d inputs area p n f g
first_ahead d inputs area p n f g ahead =
    let first : First d inputs p n f g = first_of_steps d inputs p n f g ahead.leads in
    let inside : (k : ℕ) (h : FlatState) → k ≤ n → steps d inputs p k first.state ≡ Some h → HoldsWithin area p h = λ k h few e. ahead.within (suc k) h (omega arith) (step_before d inputs p k f first.state (Some h) first.step e) in
    record {
      state = first.state;
      before = ahead.within 0 f (omega arith) (none_yet d inputs p f);
      step = first.step;
      after = inside 0 first.state (omega arith) (none_yet d inputs p first.state);
      rest = record { leads = first.rest; within = inside };
    }

pub all_segments_are_enough : AllSegmentsAreEnough
all_segments_are_enough d inputs p n f g leads = record { leads = leads; within = λ k h few e. record { segment = λ s held. refl } }

pub many_steps_are_local : ManyStepsAreLocal
many_steps_are_local d inputs area p zero f g ahead =
    let same : f ≡ g = no_steps d inputs p f g ahead.leads in
    subst (AreLocal d inputs area p 0 f) same (record {
      others = stay_self (rights_of d) area p f;
      anywhere = λ h agree within. record { state = h; ahead = starts_ahead d inputs area p h within; agree = agree; others = stay_self (rights_of d) area p h };
    })
many_steps_are_local d inputs area p (suc n) f g ahead =
    let first : FirstAhead d inputs area p n f g = first_ahead d inputs area p n f g ahead in
    let one : IsLocal (rights_of d) inputs area p f first.state = steps_are_local (rights_of d) inputs area p f first.state first.before first.after first.step in
    let rest : AreLocal d inputs area p n first.state g = many_steps_are_local d inputs area p n first.state g first.rest in
    record {
      others = stay_on (rights_of d) area p f first.state g one.others rest.others;
      anywhere = λ h agree within.
          let there : TakesSameStep (rights_of d) inputs area p first.state h = one.anywhere h agree within in
          let on : TakesSameSteps d inputs area p n g there.state = rest.anywhere there.state there.agree there.within in
          record {
            state = on.state;
            ahead = step_ahead d inputs area p n h there.state on.state within there.step on.ahead;
            agree = on.agree;
            others = stay_on (rights_of d) area p h there.state on.state there.others on.others;
          };
    }

pub goes_ahead : GoesAhead
goes_ahead d inputs area p zero f g h ahead stepped within =
    let same : f ≡ g = no_steps d inputs p f g ahead.leads in
    let here : step_or_wait (rights_of d) inputs f p ≡ Ok h = ap (λ x. step_or_wait (rights_of d) inputs x p) same ∙ stepped in
    step_ahead d inputs area p 0 f h h (ahead.within 0 f (omega arith) (none_yet d inputs p f)) here (starts_ahead d inputs area p h within)
goes_ahead d inputs area p (suc n) f g h ahead stepped within =
    let first : FirstAhead d inputs area p n f g = first_ahead d inputs area p n f g ahead in
    let e : suc n + 1 ≡ suc (n + 1) = omega arith in
    rw e (step_ahead d inputs area p (n + 1) f first.state h first.before first.step (goes_ahead d inputs area p n first.state g h first.rest stepped within))

pub area_grows : AreaGrows
area_grows d inputs area wider p n f g more ahead = record {
  leads = ahead.leads;
  within = λ k h few e. record { segment = λ s held. more s ((ahead.within k h few e).segment s held) };
}

pub input_keeps_ahead : InputKeepsAhead
input_keeps_ahead d before now area p zero f g more ahead =
    let same : f ≡ g = no_steps d before p f g ahead.leads in
    subst (IsAhead d now area p 0 f) same (starts_ahead d now area p f (ahead.within 0 f (omega arith) (none_yet d before p f)))
input_keeps_ahead d before now area p (suc n) f g more ahead =
    let first : FirstAhead d before area p n f g = first_ahead d before area p n f g ahead in
    step_ahead d now area p n f first.state g first.before (input_keeps_steps (rights_of d) before now f first.state p more first.step) (input_keeps_ahead d before now area p n first.state g more first.rest)

pub many_steps_add_output : ManyStepsAddOutput
many_steps_add_output d inputs p n f g leads = runs_add_output d inputs (record { pid = record { 0 = p }; count = n } ∷ []) f g (run_of_steps d inputs p n f g leads)
