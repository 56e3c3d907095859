-- What every turn keeps.
use Rattle.std.proofs.Common.{◌≡◌, ℕ, ◌%◌, Option, Some, None, refl, sym, ◌∙◌, ap}
use Rattle.seq_words.specs.Description.{IsDescription}
use Rattle.seq_words.specs.declared.description.MachineDesc.{MachineDesc}
use Rattle.seq_words.specs.declared.half.Half.{Half}
use Rattle.seq_words.specs.declared.half.Half.TheVariants.{A, B}
use Rattle.seq_words.specs.declared.regs.Regs.{Regs}
use Rattle.seq_isa.specs.Meaning.{Bytes, outcome_at}
use Rattle.seq_flat.specs.declared.state.End.TheVariants.{Trapped}
use Rattle.seq_rv32.specs.declared.port.Admit.{Admit}
use Rattle.seq_rv32.specs.declared.effects.Effect.{Effect}
use Rattle.seq_rv32.specs.declared.effects.Effect.TheVariants as effect
use Rattle.seq_rv32.specs.Effects.{applied}
use Rattle.seq_rv32.proofs.NextPc.{moves_on_aligned, applied_aligned}
use Rattle.seq_pair.specs.declared.halves.Turn.{Turn}
use Rattle.seq_pair.specs.declared.halves.Turn.TheVariants as turn
use Rattle.seq_pair.specs.Turns.{IsAligned, effect_at, pair_after}
use Rattle.seq_pair.specs.declared.halves.Pair.{Pair}
use Rattle.seq_layout.specs.Copies.{Copies}
use Rattle.seq_process.specs.declared.running.Running.{Running}
use Rattle.seq_cache.specs.Changes.{Changes}
use Rattle.seq_kernel.specs.declared.outcomes.Outcome.TheVariants.{NeedsFlush, Diverged}
use Rattle.seq_kernel.specs.declared.outcomes.Cause.TheVariants as cause
use Rattle.seq_kernel.specs.Views.{read_by, seen, admission}
use Rattle.seq_kernel.specs.Turns.{counted}
use Rattle.seq_kernel.specs.Steps.{after_effect, after_turn, pair_turn, step_of}
use Rattle.seq_kernel.specs.Bounds.{IsWithin, IsRunning, AreReadable}
use Rattle.seq_kernel.specs.Kept.{IsZero, ZerosOf, HasZeros, StepsKeepBounds, StepsKeepCache}
use Rattle.seq_kernel.proofs.KeptRunning.{went_within}
use Rattle.seq_rv32.proofs.Outcomes.{outcome_keeps_zero}
use Rattle.seq_kernel.proofs.KeptCache.{never_full, store_cached, store_own}
use Rattle.seq_kernel.proofs.KeptCalls.{Keeps, stays_keeps, ended_keeps, call_keeps}
use Rattle.seq_kernel.proofs.RefineStepsPair.{Agrees, agrees, agreed_moves}

-- pc of a half after its effect
half_aligned : (admission : ℕ → ℕ → Admit) (bytes : Bytes) (a : Regs) (e : Effect) → effect_at admission bytes a ≡ e → a.pc % 4 ≡ 0 → (applied a e).pc % 4 ≡ 0
half_aligned admission bytes a e is aligned = applied_aligned a e (moves_on_aligned admission a bytes e (sym is) aligned) aligned

halves_aligned : (admission : ℕ → ℕ → Admit) (bytes : Bytes) (h : Option Half) (a b : Regs) (e : Effect) → effect_at admission bytes a ≡ e → effect_at admission bytes b ≡ e → IsAligned h a b → IsAligned h (applied a e) (applied b e)
halves_aligned admission bytes None a b e first second is = (half_aligned admission bytes a e first is.0, half_aligned admission bytes b e second is.1)
halves_aligned admission bytes (Some A) a b e first second is = half_aligned admission bytes b e second is
halves_aligned admission bytes (Some B) a b e first second is = half_aligned admission bytes a e first is

-- x0 of each half after its effect
zeros_moved : (admission : ℕ → ℕ → Admit) (bytes : Bytes) (pair : Pair) (wrote : Option (ℕ × ℕ)) (store : Option (ℕ × ℕ × ℕ)) (next : ℕ) → Agrees admission bytes pair (effect.Next wrote store next) →
    HasZeros pair → HasZeros (pair_after pair (turn.Agreed (effect.Next wrote store next)))
zeros_moved admission bytes pair wrote store next agreed = go pair.struck
  where
    first : IsZero pair.a → IsZero (applied pair.a (effect.Next wrote store next))
    first zero = outcome_keeps_zero pair.a bytes wrote store next
        (agreed_moves admission bytes (record pair { struck = None }) wrote store next (record { pc = agreed.pc; first = agreed.first; second = agreed.second })) ∙ zero

    second : IsZero pair.b → IsZero (applied pair.b (effect.Next wrote store next))
    second zero = outcome_keeps_zero pair.b bytes wrote store next
        (agreed_moves admission bytes (record pair { struck = Some A }) wrote store next (record { pc = agreed.pc; first = agreed.first; second = agreed.second })) ∙ zero

    go : (h : Option Half) → ZerosOf h pair.a pair.b → ZerosOf h (applied pair.a (effect.Next wrote store next)) (applied pair.b (effect.Next wrote store next))
    go None zeros = (first zeros.0, second zeros.1)
    go (Some A) zeros = second zeros
    go (Some B) zeros = first zeros

module _ (d : MachineDesc) (p : Copies) (r : Running) (c : Changes) (described : IsDescription d) (readable : AreReadable d p) (running : IsRunning d r) where
  -- an instruction
  moved_keeps : (wrote : Option (ℕ × ℕ)) (store : Option (ℕ × ℕ × ℕ)) (next : ℕ) → pair_turn d p r c ≡ turn.Agreed (effect.Next wrote store next) → Keeps d r c (after_effect d p r c (effect.Next wrote store next))
  moved_keeps wrote store next turned =
      let e : Effect = effect.Next wrote store next in
      let admits : ℕ → ℕ → Admit = admission d r.pid.0 r.held c in
      let bytes : Bytes = seen d r.pid.0 r.held (read_by d p c) in
      let agreed : Agrees admits bytes r.pair e = agrees admits bytes r.pair e turned in
      let after : IsWithin d (counted (record r { pair = pair_after r.pair (turn.Agreed e) })) = went_within d r (pair_after r.pair (turn.Agreed e)) running (halves_aligned admits bytes r.pair.struck r.pair.a r.pair.b e agreed.first agreed.second running.within.aligned) in
      record {
        bounds = record {
          unchanged = λ none. absurd (none tt);
          within = after;
          zeros = zeros_moved admits bytes r.pair wrote store next agreed;
          process = refl;
          commits = refl;
        };
        cached = record {
          cache = store_cached d r c described running p store (λ s is. never_full admits (outcome_at r.pair.a bytes) wrote s next (agreed.first ∙ ap (λ x. effect.Next wrote x next) is));
          held_before = λ own. store_own d r c described running p store own;
          own = λ _. λ own. store_own d r c described running p store own;
        };
      }

  effect_keeps : (e : Effect) → pair_turn d p r c ≡ turn.Agreed e → Keeps d r c (after_effect d p r c e)
  effect_keeps (effect.Next wrote store next) turned = moved_keeps wrote store next turned
  effect_keeps effect.Call turned = call_keeps d p r c described readable running
  effect_keeps (effect.Trap code) turned = ended_keeps d r c (NeedsFlush cause.Trap) (Trapped code r.pair.a.pc) running tt (λ none. none)
  effect_keeps effect.Full turned = stays_keeps d r c (NeedsFlush cause.Room) running (λ none. none)

  turn_keeps : (t : Turn) → pair_turn d p r c ≡ t → Keeps d r c (after_turn d p r c t)
  turn_keeps (turn.Agreed e) turned = effect_keeps e turned
  turn_keeps turn.Diverged turned = stays_keeps d r c Diverged running (λ none. none)

  step_keeps : Keeps d r c (step_of d p r c)
  unfolding step_of
  step_keeps = turn_keeps (pair_turn d p r c) refl

-- A turn keeps the bounds under which the next one may be taken.
pub steps_keep_bounds : StepsKeepBounds
steps_keep_bounds d p r c described readable running = (step_keeps d p r c described readable running).bounds

-- A turn keeps the cache within its bounds.
pub steps_keep_cache : StepsKeepCache
steps_keep_cache d p r c described readable running = (step_keeps d p r c described readable running).cached
