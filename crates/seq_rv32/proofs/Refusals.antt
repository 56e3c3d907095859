-- Where an effect is Full.
use Rattle.std.proofs.Common.{◌≡◌, ℕ, Option, Some, None, ◌↔◌, refl, sym, ◌∙◌}
use Rattle.seq_isa.specs.Meaning.{Outcome, moves, call, trap}
use Rattle.seq_rv32.specs.declared.port.Admit.{Admit}
use Rattle.seq_rv32.specs.declared.port.Admit.TheVariants.{Fits, Outside, Full}
use Rattle.seq_rv32.specs.declared.effects.Effect.{Effect}
use Rattle.seq_rv32.specs.declared.effects.Effect.TheVariants as effect
use Rattle.seq_rv32.specs.Effects.{effect_of, unless_full, StoresWhereFull}

refused : (a : Admit) (wrote : Option (ℕ × ℕ)) (s : ℕ × ℕ × ℕ) (next : ℕ) → (unless_full a (effect.Next wrote (Some s) next) ≡ effect.Full) ↔ (a ≡ Full)
refused Fits wrote s next = (λ e. cc, λ e. cc)
refused Outside wrote s next = (λ e. cc, λ e. cc)
refused Full wrote s next = (λ _. refl, λ _. refl)

full_of : (admission : ℕ → ℕ → Admit) (o : Outcome) → (effect_of admission o ≡ effect.Full) ↔ StoresWhereFull admission o
full_of admission (moves wrote None next) = (λ e. cc, λ f. absurd f)
full_of admission (moves wrote (Some s) next) = refused (admission s.0 s.1) wrote s next
full_of admission call = (λ e. cc, λ f. absurd f)
full_of admission (trap cause) = (λ e. cc, λ f. absurd f)

-- an effect is Full exactly where its outcome stores where the port is full
pub full_exactly : (admission : ℕ → ℕ → Admit) (o : Outcome) (e : Effect) → e ≡ effect_of admission o → (e ≡ effect.Full) ↔ StoresWhereFull admission o
full_exactly admission o e is =
    let f = full_of admission o in
    (λ h. f.0 (sym is ∙ h), λ h. is ∙ f.1 h)
