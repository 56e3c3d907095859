-- Changes over blocks: their bytes, and blocks that are alike under them.
use Rattle.std.proofs.Common.{◌≡◌, ◌⊎◌, ℕ, zero, suc, ◌+◌, ◌<◌, ◌≤◌, Bool, true, All, Ok, List, [], length, Option, Some, None, unwrap_or, inl, inr, arith, refl, sym, ◌∙◌, ap, subst}
use Rattle.std.specs.Option.{option_and_then}
use Rattle.std.proofs.lemmas.List.Elements.{All-weaker}
use Rattle.seq_words.specs.Masks.{has_bit}
use Rattle.seq_words.specs.declared.block.Block.{Block}
use Rattle.seq_words.specs.declared.description.MachineDesc.{MachineDesc}
use Rattle.seq_flat.specs.declared.inputs.LineInput.{LineInput}
use Rattle.seq_flat.specs.declared.state.FlatState.{FlatState}
use Rattle.seq_flat.specs.State.{rights_of}
use Rattle.seq_flat.specs.Step.{step_or_wait, ok_of, step}
use Rattle.seq_flat.specs.Run.{steps}
use Rattle.seq_flat.specs.Laws.{MoreInput}
use Rattle.seq_flat.proofs.MoreInputs.{input_keeps_steps}
use Rattle.seq_flat.proofs.Runs.{stepped_ok}
use Rattle.seq_cache.specs.declared.change.Change.{Change}
use Rattle.seq_cache.specs.Changes.{changed}
use Rattle.seq_kernel.specs.Views.{Blocks}
use Rattle.seq_kernel.specs.Kept.{IsOwn}
use Rattle.seq_image.specs.Areas.{AreAlike, in_area}
use Rattle.seq_image.specs.Flushing.{with_units, IsInside}
use Rattle.seq_image.proofs.Areas.{process_in_area, segment_in_area}
use Rattle.seq_image.specs.Depends.{AreWhole}

abbrev IsFull : Block → Type 0
IsFull b = length b.bytes ≡ 32

full_either : (o : Option Block) (a b : Block) → IsFull (unwrap_or o a) → IsFull b → IsFull (unwrap_or o b)
full_either (Some x) a b layered under = layered
full_either None a b layered under = under

-- changes whose blocks have their bytes over some blocks have them over others
pub whole_over : (us : List Change) (o o' : Blocks) → AreWhole (with_units us o) → AreWhole o' → AreWhole (with_units us o')
whole_over us o o' layered under = record { block = λ e n. full_either (changed us e n) (o e n) (o' e n) (layered.block e n) (under.block e n) }

-- blocks that are alike are so under the same changes
pub alike_under : (mask : ℕ → Bool) (us : List Change) (o o' : Blocks) → AreAlike mask o o' → AreAlike mask (with_units us o) (with_units us o')
alike_under mask us o o' alike = record { each = λ e n inside. ap (unwrap_or (changed us e n)) (alike.each e n inside) }

-- no changes lie over nothing
pub nothing_over : (o : Blocks) (e n : ℕ) → with_units [] o e n ≡ o e n
unfolding changed
nothing_over o e n = refl

-- what follows a step, if it is made
through : {A B : Type 0} (f g : A → Option B) (o : Option A) (t u : B) → ((x : A) → f x ≡ Some t → g x ≡ Some u) → option_and_then f o ≡ Some t → option_and_then g o ≡ Some u
through f g None t u next e = absurd cc
through f g (Some x) t u next e = next x e

last_step : (d : MachineDesc) (inputs : List LineInput) (p : ℕ) (x g h : FlatState) → x ≡ g → step_or_wait (rights_of d) inputs g p ≡ Ok h → steps d inputs p 1 x ≡ Some h
unfolding steps
last_step d inputs p x g h same stepped =
    let made : step d inputs x p ≡ Some h = ap (λ y. ok_of (step_or_wait (rights_of d) inputs y p)) same ∙ ap ok_of stepped in
    rw made refl

-- one step more
more_steps : (d : MachineDesc) (inputs : List LineInput) (p n : ℕ) (f g h : FlatState) → steps d inputs p n f ≡ Some g → step_or_wait (rights_of d) inputs g p ≡ Ok h → steps d inputs p (suc n) f ≡ Some h
unfolding steps
more_steps d inputs p zero f g h taken stepped = let same : f ≡ g = cc in last_step d inputs p f g h same stepped
more_steps d inputs p (suc n) f g h taken stepped =
    through (λ x. steps d inputs p n x) (λ x. steps d inputs p (suc n) x) (step d inputs f p) g h (λ x rest. more_steps d inputs p n x g h rest stepped) taken

pub one_more_step : (d : MachineDesc) (inputs : List LineInput) (p n : ℕ) (f g h : FlatState) → steps d inputs p n f ≡ Some g → step_or_wait (rights_of d) inputs g p ≡ Ok h → steps d inputs p (n + 1) f ≡ Some h
one_more_step d inputs p n f g h taken stepped = let next : suc n ≡ n + 1 = omega arith in subst (λ k. steps d inputs p k f ≡ Some h) next (more_steps d inputs p n f g h taken stepped)

pub no_steps : (d : MachineDesc) (inputs : List LineInput) (p : ℕ) (f : FlatState) → steps d inputs p 0 f ≡ Some f
unfolding steps
no_steps d inputs p f = refl

-- with more input the same steps are made
made_first : {A B : Type 0} (f g : A → Option B) (o q : Option A) (t : B) → ((x : A) → o ≡ Some x → q ≡ Some x) → ((x : A) → f x ≡ Some t → g x ≡ Some t) → option_and_then f o ≡ Some t → option_and_then g q ≡ Some t
made_first f g None q t same next e = absurd cc
made_first f g (Some x) q t same next e = rw (same x refl) (next x e)

pub steps_with_more : (d : MachineDesc) (before now : List LineInput) (p n : ℕ) (f g : FlatState) → MoreInput before now → steps d before p n f ≡ Some g → steps d now p n f ≡ Some g
unfolding steps
steps_with_more d before now p zero f g more taken = taken
steps_with_more d before now p (suc n) f g more taken =
    made_first (λ x. steps d before p n x) (λ x. steps d now p n x) (step d before f p) (step d now f p) g
    (λ x made. ap ok_of (input_keeps_steps (rights_of d) before now f x p more (stepped_ok (step_or_wait (rights_of d) before f p) x made)))
    (λ x rest. steps_with_more d before now p n x g more rest) taken

-- a process's own changes are inside its area
own_inside : (d : MachineDesc) (q held : ℕ) (segments : ℕ → Bool) → q < length d.processes → ((t : ℕ) → has_bit held t ≡ true → (t < length d.segments) × (segments t ≡ true)) → (u : Change) → IsOwn d q held u → IsInside d q segments u
own_inside d q held segments there among u is = record { place = is.place; area = area is.owned; beside = beside is.owned }
  where
    area : ((u.extent.0 ≡ q) × (8 ≤ u.place)) ⊎ ((t : ℕ) × (has_bit held t ≡ true) × (u.extent.0 ≡ length d.processes + t)) → in_area d q segments u.extent.0 ≡ true
    area (inl (same, past)) = subst (λ e. in_area d q segments e ≡ true) (sym same) (process_in_area d q segments)
    area (inr (t, on, extent)) =
        let has = among t on in
        subst (λ e. in_area d q segments e ≡ true) (sym extent) (segment_in_area d q segments t there has.0 has.1)

    beside : ((u.extent.0 ≡ q) × (8 ≤ u.place)) ⊎ ((t : ℕ) × (has_bit held t ≡ true) × (u.extent.0 ≡ length d.processes + t)) → u.extent.0 ≡ q → 8 ≤ u.place
    beside (inl (same, past)) e = past
    beside (inr (t, on, extent)) e = absurd (omega arith)

pub all_inside : (d : MachineDesc) (q held : ℕ) (segments : ℕ → Bool) (us : List Change) → q < length d.processes → ((t : ℕ) → has_bit held t ≡ true → (t < length d.segments) × (segments t ≡ true)) → All (IsOwn d q held) us → All (IsInside d q segments) us
all_inside d q held segments us there among own = All-weaker (IsOwn d q held) (IsInside d q segments) (own_inside d q held segments there among) us own
