-- Why a turn comes to its outcome, and that it keeps the halves.
use Rattle.std.proofs.Common.{◌≡◌, ◌≢◌, ◌⊎◌, ◌↔◌, ℕ, ◌+◌, ◌^◌, inl, inr, refl, sym, ◌∙◌, ap}
use Rattle.seq_words.specs.declared.description.MachineDesc.{MachineDesc}
use Rattle.seq_words.specs.declared.names.Seg.{Seg}
use Rattle.seq_isa.specs.Meaning.{Bytes}
use Rattle.seq_flat.specs.declared.state.End.TheVariants.{Trapped}
use Rattle.seq_rv32.specs.declared.effects.Effect.{Effect}
use Rattle.seq_rv32.specs.declared.effects.Effect.TheVariants as effect
use Rattle.seq_rv32.specs.Effects.{applied}
use Rattle.seq_pair.specs.Turns.{turn_of, pair_after}
use Rattle.seq_pair.specs.declared.halves.Turn.{Turn}
use Rattle.seq_pair.specs.declared.halves.Turn.TheVariants as turn
use Rattle.seq_layout.specs.Copies.{Copies}
use Rattle.seq_process.specs.declared.running.Running.{Running}
use Rattle.seq_cache.specs.Changes.{Changes}
use Rattle.seq_kernel.specs.declared.outcomes.Outcome.TheVariants.{Claim, NeedsFlush, Waits, Diverged}
use Rattle.seq_kernel.specs.declared.outcomes.Cause.{Cause}
use Rattle.seq_kernel.specs.declared.outcomes.Cause.TheVariants as cause
use Rattle.seq_kernel.specs.declared.outcomes.Reason.{Reason}
use Rattle.seq_kernel.specs.Views.{admission}
use Rattle.seq_kernel.specs.Turns.{Turned, counted, ended}
use Rattle.seq_kernel.specs.Calls.{call_of}
use Rattle.seq_kernel.specs.Steps.{after_effect, after_turn, pair_turn, step_of}
use Rattle.seq_kernel.specs.Kept.{IsUnchanged}
use Rattle.seq_kernel.specs.Refinement.{takes_step}
use Rattle.seq_kernel.specs.Causes.{LacksRoom, CallsKernel, HasItsCause, TurnsHaveTheirCause}
use Rattle.seq_kernel.specs.Halves.{KeepsHalves, TurnsKeepHalves}
use Rattle.seq_kernel.specs.Depends.{ClaimsDependOnWhatIsSeen}
use Rattle.seq_kernel.proofs.Causes.{claims_exactly, waits_exactly, flushes_exactly, stays_exactly, call_keeps_halves}
use Rattle.seq_kernel.proofs.Halves.{keeps_halves, answered_keeps}

module _ (d : MachineDesc) (p : Copies) (r : Running) (c : Changes) where
  -- a turn that is no call: what it comes to, if it is no step, is want of room
  module _ (x : Turn) (is : pair_turn d p r c ≡ x) (other : x ≢ turn.Agreed effect.Call) (after : Turned) where
    no_call : {X : Type 0} → CallsKernel d p r c → X
    no_call call = absurd (other (sym is ∙ call))

    plain_cause : ((t : Seg) → after.outcome ≢ Claim t) → ((why : Reason) → after.outcome ≢ Waits why)
        → ((after.outcome ≡ NeedsFlush cause.Room) ↔ (x ≡ turn.Agreed effect.Full))
        → ((after.outcome ≡ NeedsFlush cause.Trap) ↔ ((code : ℕ) × (x ≡ turn.Agreed (effect.Trap code))))
        → ((why : Cause) → why ≢ cause.Room → why ≢ cause.Trap → after.outcome ≢ NeedsFlush why)
        → ((takes_step after.outcome → ⊥) → IsUnchanged r c after) → HasItsCause d p r c after
    plain_cause claims waits room trap flushes unchanged = record {
      claims = λ t. (λ e. absurd (claims t e), λ why. no_call why.0);
      waits = λ w. (λ e. absurd (waits w e), λ why. no_call why.0);
      room = (λ e. inl (is ∙ room.0 e), λ why. from_room why);
      trap = (λ e. (let found = trap.0 e in (found.0, is ∙ found.1)), λ why. trap.1 (why.0, sym is ∙ why.1));
      flushes = λ w not_room not_trap. (λ e. absurd (flushes w not_room not_trap e), λ why. no_call why.0);
      unchanged = unchanged;
    }
      where
        from_room : ((pair_turn d p r c ≡ turn.Agreed effect.Full) ⊎ (CallsKernel d p r c × LacksRoom d p r c)) → after.outcome ≡ NeedsFlush cause.Room
        from_room (inl full) = room.1 (sym is ∙ full)
        from_room (inr both) = no_call both.0

  call_cause : CallsKernel d p r c → HasItsCause d p r c (call_of d p r c)
  call_cause is = record {
    claims = λ t. (λ e. (is, (claims_exactly d p r c (call_of d p r c).outcome refl t).0 e), λ why. (claims_exactly d p r c (call_of d p r c).outcome refl t).1 why.1);
    waits = λ w. (λ e. (is, (waits_exactly d p r c (call_of d p r c).outcome refl w).0 e), λ why. (waits_exactly d p r c (call_of d p r c).outcome refl w).1 why.1);
    room = (λ e. inr (is, (flushes_exactly d p r c (call_of d p r c).outcome refl cause.Room).0 e), λ why. from_room why);
    trap = (λ e. absurd ((flushes_exactly d p r c (call_of d p r c).outcome refl cause.Trap).0 e), λ why. absurd (trapped why.0 (sym is ∙ why.1)));
    flushes = λ w _ _. (λ e. (is, (flushes_exactly d p r c (call_of d p r c).outcome refl w).0 e), λ why. (flushes_exactly d p r c (call_of d p r c).outcome refl w).1 why.1);
    unchanged = stays_exactly d p r c (call_of d p r c).outcome refl;
  }
    where
      from_room : ((pair_turn d p r c ≡ turn.Agreed effect.Full) ⊎ (CallsKernel d p r c × LacksRoom d p r c)) → (call_of d p r c).outcome ≡ NeedsFlush cause.Room
      from_room (inl full) = absurd (let e = sym is ∙ full in let x : ⊥ = cc in x)
      from_room (inr both) = (flushes_exactly d p r c (call_of d p r c).outcome refl cause.Room).1 both.1

      trapped : (code : ℕ) → turn.Agreed effect.Call ≡ turn.Agreed (effect.Trap code) → ⊥
      trapped code e = cc

  effect_cause : (e : Effect) → pair_turn d p r c ≡ turn.Agreed e → HasItsCause d p r c (after_effect d p r c e)
  effect_cause (effect.Next wrote store next) is =
      plain_cause (turn.Agreed (effect.Next wrote store next)) is (λ e. cc) (after_effect d p r c (effect.Next wrote store next)) (λ t e. cc) (λ w e. cc)
      (λ e. absurd (cc), λ e. absurd (cc)) (λ e. absurd (cc), λ (code, e). absurd (cc)) (λ w _ _ e. cc) (λ none. absurd (none tt))
  effect_cause effect.Call is = call_cause is
  effect_cause (effect.Trap code) is =
      plain_cause (turn.Agreed (effect.Trap code)) is (λ e. cc) (after_effect d p r c (effect.Trap code)) (λ t e. cc) (λ w e. cc)
      (λ e. absurd (cc), λ e. absurd (cc)) (λ _. (code, refl), λ _. refl) (λ w _ not_trap e. not_trap (cc)) (λ none. absurd (none tt))
  effect_cause effect.Full is =
      plain_cause (turn.Agreed effect.Full) is (λ e. cc) (after_effect d p r c effect.Full) (λ t e. cc) (λ w e. cc)
      (λ _. refl, λ _. refl) (λ e. absurd (cc), λ (code, e). absurd (cc)) (λ w not_room _ e. not_room (cc)) (λ none. record { running = refl; cache = refl })

  turned_cause : (x : Turn) → pair_turn d p r c ≡ x → HasItsCause d p r c (after_turn d p r c x)
  turned_cause (turn.Agreed e) is = effect_cause e is
  turned_cause turn.Diverged is =
      plain_cause turn.Diverged is (λ e. cc) (after_turn d p r c turn.Diverged) (λ t e. cc) (λ w e. cc)
      (λ e. absurd (cc), λ e. absurd (cc)) (λ e. absurd (cc), λ (code, e). absurd (cc)) (λ w _ _ e. cc) (λ none. record { running = refl; cache = refl })

  step_cause : HasItsCause d p r c (step_of d p r c)
  unfolding step_of
  step_cause = turned_cause (pair_turn d p r c) refl

  -- the halves
  effect_keeps : (e : Effect) → KeepsHalves r (after_effect d p r c e).running
  effect_keeps (effect.Next wrote store next) = keeps_halves r (counted (record r { pair = pair_after r.pair (turn.Agreed (effect.Next wrote store next)) })) refl (λ same. ap (λ h. applied h (effect.Next wrote store next)) same)
  effect_keeps effect.Call = call_keeps_halves d p r c
  effect_keeps (effect.Trap code) = keeps_halves r (ended r (Trapped code r.pair.a.pc)) refl (λ same. same)
  effect_keeps effect.Full = keeps_halves r r refl (λ same. same)

  turned_keeps : (x : Turn) → KeepsHalves r (after_turn d p r c x).running
  turned_keeps (turn.Agreed e) = effect_keeps e
  turned_keeps turn.Diverged = keeps_halves r r refl (λ same. same)

  step_keeps_halves : KeepsHalves r (step_of d p r c).running
  unfolding step_of
  step_keeps_halves = turned_keeps (pair_turn d p r c)

pub turns_have_their_cause : TurnsHaveTheirCause
turns_have_their_cause d p r c = step_cause d p r c

pub turns_keep_halves : TurnsKeepHalves
turns_keep_halves d p r c = (step_keeps_halves d p r c, λ t. answered_keeps r (record r { held = r.held + 2 ^ t }) 0 refl)

-- a claim is a call of both halves, and of the process alone
pub claims_depend_on_what_is_seen : ClaimsDependOnWhatIsSeen
claims_depend_on_what_is_seen d p p' r c t same claims =
    let why = ((turns_have_their_cause d p r c).claims t).0 claims in
    let turned : pair_turn d p r c ≡ pair_turn d p' r c = ap (λ (bytes : Bytes). turn_of (admission d r.pid.0 r.held c) bytes r.pair) same in
    ((turns_have_their_cause d p' r c).claims t).1 (sym turned ∙ why.0, why.1)
