-- What was put out stays, along a step and along a run.
use Rattle.std.proofs.Common.{◌≡◌, ℕ, zero, suc, Option, Some, None, List, [], ◌∷◌, length, take, refl, ◌∙◌, ap, subst}
use Rattle.std.specs.Option.{option_and_then}
use Rattle.std.proofs.Math.Seq.{take-append_seam}
use Rattle.seq_words.specs.declared.description.MachineDesc.{MachineDesc}
use Rattle.seq_words.specs.declared.events.Entry.{Entry}
use Rattle.seq_flat.specs.declared.inputs.LineInput.{LineInput}
use Rattle.seq_flat.specs.declared.state.FlatState.{FlatState}
use Rattle.seq_flat.specs.State.{rights_of}
use Rattle.seq_flat.specs.Step.{step}
use Rattle.seq_flat.specs.Run.{steps, run_from, output}
use Rattle.seq_flat.specs.Laws.{KeepsOutput, StepsAddOutput, RunsAddOutput}
use Rattle.seq_flat.proofs.Grows.{Grown, grown_more, self_grows, step_grows}
use Rattle.seq_flat.proofs.Runs.{stepped_ok}

keeps : (f g : FlatState) → Grown f g → KeepsOutput f g
keeps f g grown = record { line = λ l. ap (take (length (output f l))) (grown.line l).1 ∙ take-append_seam (output f l) (grown.line l).0 }

pub steps_add_output : StepsAddOutput
steps_add_output rights inputs f g p stepped = keeps f g (step_grows rights inputs f g p stepped)

-- a fold that leads somewhere leads there from where its first part leads
past : {A B : Type 0} (P : Type 0) (f : A → Option B) (o : Option A) (t : B) → ((x : A) → o ≡ Some x → f x ≡ Some t → P) → option_and_then f o ≡ Some t → P
past P f None t next e = absurd cc
past P f (Some x) t next e = next x refl e

steps_grow : (d : MachineDesc) (inputs : List LineInput) (p n : ℕ) (f g : FlatState) → steps d inputs p n f ≡ Some g → Grown f g
unfolding steps
steps_grow d inputs p zero f g e =
    let same : f ≡ g = cc in
    subst (Grown f) same (self_grows f)
steps_grow d inputs p (suc n) f g e =
    past (Grown f g) (λ x. steps d inputs p n x) (step d inputs f p) g
    (λ x is rest. grown_more f x g (step_grows (rights_of d) inputs f x p (stepped_ok _ x is)) (steps_grow d inputs p n x g rest)) e

run_grows : (d : MachineDesc) (inputs : List LineInput) (h : List Entry) (f g : FlatState) → run_from d inputs f h ≡ Some g → Grown f g
unfolding run_from
run_grows d inputs [] f g e =
    let same : f ≡ g = cc in
    subst (Grown f) same (self_grows f)
run_grows d inputs (x ∷ h) f g e =
    past (Grown f g) (λ k. run_from d inputs k h) (steps d inputs x.pid.0 x.count f) g
    (λ k is rest. grown_more f k g (steps_grow d inputs x.pid.0 x.count f k is) (run_grows d inputs h k g rest)) e

pub runs_add_output : RunsAddOutput
runs_add_output d inputs history f g ran = keeps f g (run_grows d inputs history f g ran)
