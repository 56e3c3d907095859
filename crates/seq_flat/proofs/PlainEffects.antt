-- The effect of an instruction on the lists of the flat state.
use Rattle.std.proofs.Common.{◌≡◌, ℕ, Option, Some, None, List, get_or, set, refl, sym, ◌∙◌, ap}
use Rattle.std.proofs.lemmas.List.{set-get_or}
use Rattle.seq_isa.specs.Meaning.{Outcome, moves, call, trap, Bytes, number_at}
use Rattle.seq_rv32.specs.declared.effects.Effect.{Effect}
use Rattle.seq_rv32.specs.declared.effects.Effect.TheVariants as effect
use Rattle.seq_rv32.specs.Effects.{effect_of, unless_full}
use Rattle.seq_flat.specs.declared.state.ProcessState.{ProcessState}
use Rattle.seq_flat.specs.declared.state.SegmentState.{SegmentState}
use Rattle.seq_flat.specs.declared.state.FlatState.{FlatState}
use Rattle.seq_flat.specs.State.{no_process}
use Rattle.seq_flat.specs.Memory.{admitted}
use Rattle.seq_flat.specs.Step.{moved}
use Rattle.seq_flat.specs.Effects.{plain_effect, process_after, segments_after_effect, state_after_effect}

fits : (o : Option ℕ) (e : Effect) → unless_full (admitted o) e ≡ e
fits (Some n) e = refl
fits None e = refl

pub is_plain : (m : Bytes) (o : Outcome) → effect_of (λ at width. admitted (number_at m at width)) o ≡ plain_effect o
is_plain m (moves wrote None next) = refl
is_plain m (moves wrote (Some s) next) = fits (number_at m s.0 s.1) (effect.Next wrote (Some s) next)
is_plain m call = refl
is_plain m (trap cause) = refl

unchanged : (f : FlatState) (p : ℕ) (before after : ProcessState) (segments : List SegmentState) → get_or f.processes p no_process ≡ before → after ≡ before → segments ≡ f.segments
    → ◌≡◌ {A = FlatState} (record { processes = set f.processes p after; segments = segments; lines = f.lines }) f
unchanged f p before after segments same is changed =
    let put_back : set f.processes p after ≡ f.processes = ap (set f.processes p) (is ∙ sym same) ∙ set-get_or f.processes p no_process in
    rw (put_back, changed) refl

-- the parts of the state after an effect, put together
pub put_together : (f : FlatState) (p : ℕ) (before after : ProcessState) (segments : List SegmentState) (e : Effect) → get_or f.processes p no_process ≡ before → after ≡ process_after before e → segments ≡ segments_after_effect f.segments e
    → ◌≡◌ {A = FlatState} (record { processes = set f.processes p after; segments = segments; lines = f.lines }) (state_after_effect f p e)
unfolding moved
put_together f p before after segments (effect.Next wrote store next) same is changed = rw (is, changed, ← same) refl
put_together f p before after segments effect.Call same is changed = unchanged f p before after segments same is changed
put_together f p before after segments (effect.Trap cause) same is changed = unchanged f p before after segments same is changed
put_together f p before after segments effect.Full same is changed = unchanged f p before after segments same is changed
