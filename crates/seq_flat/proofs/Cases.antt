-- A step, by what the process does.
use Rattle.std.proofs.Common.{◌≡◌, ℕ, ◌<◌, ◌≤◌, true, false, Option, List, length, Ok, Err, refl, sym, ◌∙◌, ap, subst}
use Rattle.std.proofs.lemmas.Bool.{lt-ltb, le-ltb}
use Rattle.seq_isa.specs.Meaning.{Outcome, moves, call, trap}
use Rattle.seq_rv32.specs.declared.effects.Effect.{Effect}
use Rattle.seq_rv32.specs.declared.effects.Effect.TheVariants as effect
use Rattle.seq_flat.specs.declared.inputs.LineInput.{LineInput}
use Rattle.seq_flat.specs.declared.state.End.TheVariants.{Trapped}
use Rattle.seq_flat.specs.declared.state.FlatState.{FlatState}
use Rattle.seq_flat.specs.declared.state.Rights.{Rights}
use Rattle.seq_flat.specs.declared.state.Waits.TheVariants.{Ended}
use Rattle.seq_flat.specs.State.{process_at, rights_at}
use Rattle.seq_flat.specs.Calls.{argument, ended, kernel_call}
use Rattle.seq_flat.specs.Step.{moved, outcome, performed, is_live, step_or_wait}
use Rattle.seq_flat.specs.Effects.{plain_effect}

-- a live process performs the outcome of its instruction
steps_live : (rights : List Rights) (inputs : List LineInput) (f : FlatState) (p : ℕ) → p < length f.processes → is_live (process_at f p).end ≡ true → step_or_wait rights inputs f p ≡ performed (rights_at rights p) inputs f p (outcome f p)
unfolding step_or_wait
steps_live rights inputs f p there live = rw (lt-ltb p (length f.processes) there, live) refl

-- one that has ended, or isn't there, waits for ever
pub steps_ended : (rights : List Rights) (inputs : List LineInput) (f : FlatState) (p : ℕ) → p < length f.processes → is_live (process_at f p).end ≡ false → step_or_wait rights inputs f p ≡ Err Ended
unfolding step_or_wait
steps_ended rights inputs f p there ended = rw (lt-ltb p (length f.processes) there, ended) refl

pub steps_past : (rights : List Rights) (inputs : List LineInput) (f : FlatState) (p : ℕ) → length f.processes ≤ p → step_or_wait rights inputs f p ≡ Err Ended
unfolding step_or_wait
steps_past rights inputs f p past = rw (le-ltb p (length f.processes) past) refl

-- what a step is, where the core's effect is e
Stepped : List Rights → List LineInput → FlatState → ℕ → Effect → Type 0
Stepped rights inputs f p (effect.Next wrote store next) = step_or_wait rights inputs f p ≡ Ok (moved f p wrote store next)
Stepped rights inputs f p effect.Call = step_or_wait rights inputs f p ≡ kernel_call (rights_at rights p) inputs f p (argument f p 17)
Stepped rights inputs f p (effect.Trap cause) = step_or_wait rights inputs f p ≡ Ok (ended f p (Trapped cause (process_at f p).regs.pc))
Stepped rights inputs f p effect.Full = ⊥

performs : (rights : List Rights) (inputs : List LineInput) (f : FlatState) (p : ℕ) (o : Outcome) → step_or_wait rights inputs f p ≡ performed (rights_at rights p) inputs f p o → Stepped rights inputs f p (plain_effect o)
unfolding Stepped
performs rights inputs f p (moves wrote store next) h = h
performs rights inputs f p call h = h
performs rights inputs f p (trap cause) h = h

stepped : (rights : List Rights) (inputs : List LineInput) (f : FlatState) (p : ℕ) (e : Effect) → p < length f.processes → is_live (process_at f p).end ≡ true → e ≡ plain_effect (outcome f p) → Stepped rights inputs f p e
stepped rights inputs f p e there live is = subst (λ x. Stepped rights inputs f p x) (sym is) (performs rights inputs f p (outcome f p) (steps_live rights inputs f p there live))

pub steps_moves : (rights : List Rights) (inputs : List LineInput) (f : FlatState) (p : ℕ) (wrote : Option (ℕ × ℕ)) (store : Option (ℕ × ℕ × ℕ)) (next : ℕ) → p < length f.processes → is_live (process_at f p).end ≡ true → effect.Next wrote store next ≡ plain_effect (outcome f p) → step_or_wait rights inputs f p ≡ Ok (moved f p wrote store next)
unfolding Stepped
steps_moves rights inputs f p wrote store next there live is = stepped rights inputs f p (effect.Next wrote store next) there live is

pub steps_calls : (rights : List Rights) (inputs : List LineInput) (f : FlatState) (p : ℕ) → p < length f.processes → is_live (process_at f p).end ≡ true → effect.Call ≡ plain_effect (outcome f p) → step_or_wait rights inputs f p ≡ kernel_call (rights_at rights p) inputs f p (argument f p 17)
unfolding Stepped
steps_calls rights inputs f p there live is = stepped rights inputs f p effect.Call there live is

-- the same, at rights and a state that equal these
pub steps_calls_at : (rights : List Rights) (inputs : List LineInput) (f g : FlatState) (p : ℕ) (r : Rights) → p < length f.processes → is_live (process_at f p).end ≡ true → effect.Call ≡ plain_effect (outcome f p) → g ≡ f → r ≡ rights_at rights p → step_or_wait rights inputs f p ≡ kernel_call r inputs g p (argument g p 17)
steps_calls_at rights inputs f g p r there live is same given =
    steps_calls rights inputs f p there live is
    ∙ ap (λ h. kernel_call (rights_at rights p) inputs h p (argument h p 17)) (sym same)
    ∙ ap (λ q. kernel_call q inputs g p (argument g p 17)) (sym given)

pub steps_traps : (rights : List Rights) (inputs : List LineInput) (f : FlatState) (p cause : ℕ) → p < length f.processes → is_live (process_at f p).end ≡ true → effect.Trap cause ≡ plain_effect (outcome f p) → step_or_wait rights inputs f p ≡ Ok (ended f p (Trapped cause (process_at f p).regs.pc))
unfolding Stepped
steps_traps rights inputs f p cause there live is = stepped rights inputs f p (effect.Trap cause) there live is

-- no effect of a flat memory is full
pub never_full : (f : FlatState) (p : ℕ) → effect.Full ≡ plain_effect (outcome f p) → ⊥
never_full f p is = go (outcome f p) is
  where
    go : (o : Outcome) → effect.Full ≡ plain_effect o → ⊥
    go (moves wrote store next) e = cc
    go call e = cc
    go (trap cause) e = cc

pub steps_traps_at : (rights : List Rights) (inputs : List LineInput) (f g h : FlatState) (p cause pc : ℕ) → p < length f.processes → is_live (process_at f p).end ≡ true → effect.Trap cause ≡ plain_effect (outcome f p) → g ≡ f → pc ≡ (process_at f p).regs.pc → h ≡ ended g p (Trapped cause pc) → step_or_wait rights inputs f p ≡ Ok h
steps_traps_at rights inputs f g h p cause pc there live is same at made =
    steps_traps rights inputs f p cause there live is
    ∙ ap (λ (k : ℕ). Ok (ended f p (Trapped cause k))) (sym at)
    ∙ ap (λ x. Ok (ended x p (Trapped cause pc))) (sym same)
    ∙ ap Ok (sym made)
