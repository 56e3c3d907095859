-- The next pc of an effect is that of its outcome, which is a multiple of four.
use Rattle.std.proofs.Common.{◌≡◌, ℕ, ◌%◌, Option, Some, None, sym, subst}
use Rattle.seq_words.specs.declared.regs.Regs.{Regs}
use Rattle.seq_isa.specs.Meaning.{Bytes, Outcome, moves, call, trap, outcome_at}
use Rattle.seq_isa.specs.Laws.{IsAligned}
use Rattle.seq_isa.proofs.Alignment.{outcome_aligned}
use Rattle.seq_rv32.specs.declared.port.Admit.{Admit}
use Rattle.seq_rv32.specs.declared.port.Admit.TheVariants.{Fits, Outside, Full}
use Rattle.seq_rv32.specs.declared.effects.Effect.{Effect}
use Rattle.seq_rv32.specs.declared.effects.Effect.TheVariants as effect
use Rattle.seq_rv32.specs.Effects.{effect_of, unless_full, MovesAligned, applied}

kept : (a : Admit) (wrote : Option (ℕ × ℕ)) (s : ℕ × ℕ × ℕ) (next : ℕ) → next % 4 ≡ 0 → MovesAligned (unless_full a (effect.Next wrote (Some s) next))
kept Fits wrote s next h = record { next = h }
kept Outside wrote s next h = record { next = h }
kept Full wrote s next h = record { next = tt }

effect_aligned : (admission : ℕ → ℕ → Admit) (o : Outcome) → IsAligned o → MovesAligned (effect_of admission o)
effect_aligned admission (moves wrote None next) h = record { next = h.next }
effect_aligned admission (moves wrote (Some s) next) h = kept (admission s.0 s.1) wrote s next h.next
effect_aligned admission call h = record { next = tt }
effect_aligned admission (trap cause) h = record { next = tt }

-- the effect of an instruction at an aligned pc moves on to an aligned one
pub moves_on_aligned : (admission : ℕ → ℕ → Admit) (r : Regs) (bytes : Bytes) (e : Effect) → e ≡ effect_of admission (outcome_at r bytes) → r.pc % 4 ≡ 0 → MovesAligned e
moves_on_aligned admission r bytes e is h = subst MovesAligned (sym is) (effect_aligned admission (outcome_at r bytes) (outcome_aligned r bytes h))

-- so pc stays aligned
pub applied_aligned : (r : Regs) (e : Effect) → MovesAligned e → r.pc % 4 ≡ 0 → (applied r e).pc % 4 ≡ 0
applied_aligned r (effect.Next (Some w) store next) h k = h.next
applied_aligned r (effect.Next None store next) h k = h.next
applied_aligned r effect.Call h k = k
applied_aligned r (effect.Trap cause) h k = k
applied_aligned r effect.Full h k = k
