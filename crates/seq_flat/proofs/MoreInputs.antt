-- More input changes no step that could be made, and no run that is defined.
use Rattle.std.proofs.Common.{◌≡◌, ℕ, zero, suc, Bool, true, false, Option, Some, None, List, [], ◌∷◌, ◌++◌, length, drop, Result, Ok, Err, refl, sym, ◌∙◌, ap, subst, slice_get}
use Rattle.std.specs.Prelude.{not, ◌&&◌, ◌==◌, if◌then◌else◌, nat_lt}
use Rattle.std.specs.Option.{option_and_then}
use Rattle.std.proofs.lemmas.List.{take-append-drop}
use Rattle.seq_words.specs.Masks.{has_bit}
use Rattle.seq_words.specs.declared.description.MachineDesc.{MachineDesc}
use Rattle.seq_words.specs.declared.events.Entry.{Entry}
use Rattle.seq_isa.specs.Meaning.{Outcome, moves, call, trap, register}
use Rattle.seq_flat.specs.declared.inputs.LineInput.{LineInput}
use Rattle.seq_flat.specs.declared.state.FlatState.{FlatState}
use Rattle.seq_flat.specs.declared.state.Rights.{Rights}
use Rattle.seq_flat.specs.declared.state.Waits.{Waits}
use Rattle.seq_flat.specs.declared.state.Waits.TheVariants.{Input}
use Rattle.seq_flat.specs.State.{process_at, line_at, input_at, rights_at, rights_of, start}
use Rattle.seq_flat.specs.Calls.{minus, argument, answered, read_next, read, kernel_call}
use Rattle.seq_flat.specs.Step.{outcome, performed, is_live, step_or_wait, ok_of, step}
use Rattle.seq_flat.specs.Run.{steps, run_from}
use Rattle.seq_flat.specs.Laws.{HasMore, MoreInput, InputKeepsSteps, InputKeepsRuns}
use Rattle.seq_flat.proofs.Runs.{stepped_ok}

-- what was there comes first
get_appended : (xs more : List ℕ) (i x : ℕ) → slice_get xs i ≡ Some x → slice_get (xs ++ more) i ≡ Some x
get_appended [] more i x e = absurd cc
get_appended (y ∷ xs) more zero x e = e
get_appended (y ∷ xs) more (suc i) x e = get_appended xs more i x e

get_more : (before now : LineInput) (i x : ℕ) → HasMore before now → slice_get before.bytes i ≡ Some x → slice_get now.bytes i ≡ Some x
get_more before now i x more e =
    let whole : now.bytes ≡ before.bytes ++ drop (length before.bytes) now.bytes =
    sym (take-append-drop (length before.bytes) now.bytes) ∙ ap (λ xs. xs ++ drop (length before.bytes) now.bytes) more.begins in
    ap (λ xs. slice_get xs i) whole ∙ get_appended before.bytes (drop (length before.bytes) now.bytes) i x e

-- where the first step leads to a state, the second leads to the same
Same : Result FlatState Waits → Result FlatState Waits → Type 0
Same (Ok g) now = now ≡ Ok g
Same (Err w) now = Unit {0}

unchanged : (r : Result FlatState Waits) → Same r r
unfolding Same
unchanged (Ok g) = refl
unchanged (Err w) = tt

either : (b : Bool) (x y x' y' : Result FlatState Waits) → Same x x' → Same y y' → Same (if b then x else y) (if b then x' else y')
either true x y x' y' p q = p
either false x y x' y' p q = q

end_same : (f : FlatState) (p l : ℕ) (before now : LineInput) (closed : Bool) → before.closed ≡ closed → (closed ≡ true → now ≡ before) → slice_get before.bytes (line_at f l).read ≡ None
    → Same (if closed then Ok (answered f p (minus 1)) else Err (Input (record { 0 = l }))) (read_next f p l now (slice_get now.bytes (line_at f l).read))
unfolding Same
end_same f p l before now true is same none =
    ap (λ (x : LineInput). read_next f p l x (slice_get x.bytes (line_at f l).read)) (same refl) ∙ rw (none, is) refl
end_same f p l before now false is same none = tt

next_same : (f : FlatState) (p l : ℕ) (before now : LineInput) → HasMore before now → (o : Option ℕ) → slice_get before.bytes (line_at f l).read ≡ o
    → Same (read_next f p l before o) (read_next f p l now (slice_get now.bytes (line_at f l).read))
unfolding Same
next_same f p l before now more (Some byte) is = rw (get_more before now (line_at f l).read byte more is) refl
next_same f p l before now more None is = end_same f p l before now before.closed refl more.closed is

read_same : (rights : Rights) (before now : List LineInput) (f : FlatState) (p l : ℕ) → MoreInput before now → Same (read rights before f p l) (read rights now f p l)
unfolding read
read_same rights before now f p l more =
    either (not (has_bit rights.lines l)) _ _ _ _ (unchanged _) (next_same f p l (input_at before l) (input_at now l) (more.line l) _ refl)

call_same : (rights : Rights) (before now : List LineInput) (f : FlatState) (p number : ℕ) → MoreInput before now → Same (kernel_call rights before f p number) (kernel_call rights now f p number)
unfolding kernel_call
call_same rights before now f p number more =
    either (number == 0) _ _ _ _ (unchanged _)
    (either (number == 1) _ _ _ _ (unchanged _)
    (either (number == 2) _ _ _ _ (unchanged _)
    (either (number == 3) _ _ _ _ (read_same rights before now f p (argument f p 10) more) (unchanged _))))

performed_same : (rights : Rights) (before now : List LineInput) (f : FlatState) (p : ℕ) (o : Outcome) → MoreInput before now → Same (performed rights before f p o) (performed rights now f p o)
performed_same rights before now f p (moves wrote store next) more = unchanged _
performed_same rights before now f p call more = call_same rights before now f p (register (process_at f p).regs 17) more
performed_same rights before now f p (trap cause) more = unchanged _

step_same : (rights : List Rights) (before now : List LineInput) (f : FlatState) (p : ℕ) → MoreInput before now → Same (step_or_wait rights before f p) (step_or_wait rights now f p)
unfolding step_or_wait
step_same rights before now f p more =
    either (nat_lt p (length f.processes) && is_live (process_at f p).end) _ _ _ _ (performed_same (rights_at rights p) before now f p (outcome f p) more) (unchanged _)

pub input_keeps_steps : InputKeepsSteps
unfolding Same
input_keeps_steps rights before now f g p more stepped = subst (λ r. Same r (step_or_wait rights now f p)) stepped (step_same rights before now f p more)

-- a fold goes on where its first part leads to the same
both : {A B : Type 0} (f g : A → Option B) (o p : Option A) (t : B) → ((x : A) → o ≡ Some x → p ≡ Some x) → ((x : A) → f x ≡ Some t → g x ≡ Some t) → option_and_then f o ≡ Some t → option_and_then g p ≡ Some t
both f g None p t same next e = absurd cc
both f g (Some x) p t same next e = rw (same x refl) (next x e)

steps_same : (d : MachineDesc) (before now : List LineInput) (p n : ℕ) (f g : FlatState) → MoreInput before now → steps d before p n f ≡ Some g → steps d now p n f ≡ Some g
unfolding steps
steps_same d before now p zero f g more e = e
steps_same d before now p (suc n) f g more e =
    both (λ x. steps d before p n x) (λ x. steps d now p n x) (step d before f p) (step d now f p) g
    (λ x is. ap ok_of (input_keeps_steps (rights_of d) before now f x p more (stepped_ok _ x is)))
    (λ x is. steps_same d before now p n x g more is) e

run_same : (d : MachineDesc) (before now : List LineInput) (f g : FlatState) (h : List Entry) → MoreInput before now → run_from d before f h ≡ Some g → run_from d now f h ≡ Some g
unfolding run_from
run_same d before now f g [] more e = e
run_same d before now f g (x ∷ h) more e =
    both (λ k. run_from d before k h) (λ k. run_from d now k h) (steps d before x.pid.0 x.count f) (steps d now x.pid.0 x.count f) g
    (λ k is. steps_same d before now x.pid.0 x.count f k more is)
    (λ k is. run_same d before now k g h more is) e

pub input_keeps_runs : InputKeepsRuns
input_keeps_runs d before now history f more ran = run_same d before now (start d) f history more ran
