-- A turn of a pair: both halves make the effect on which they agree.
use Rattle.std.specs.Prelude.{◌≡◌, ◌≢◌, ◌⊎◌, ℕ, ◌%◌, Bool, true, false, if◌then◌else◌, ◌==◌, ◌&&◌, Option, Some, None}
use Rattle.seq_words.specs.declared.half.Half.{Half}
use Rattle.seq_words.specs.declared.half.Half.TheVariants.{A, B}
use Rattle.seq_words.specs.declared.regs.Regs.{Regs}
use Rattle.seq_isa.specs.Meaning.{Bytes, outcome_at}
use Rattle.seq_rv32.specs.declared.port.Admit.{Admit}
use Rattle.seq_rv32.specs.declared.effects.Effect.{Effect}
use Rattle.seq_rv32.specs.declared.effects.Effect.TheVariants as effect
use Rattle.seq_rv32.specs.Effects.{effect_of, applied, bytes_after, state_after}
use Rattle.seq_pair.specs.declared.halves.Pair.{Pair}
use Rattle.seq_pair.specs.declared.halves.Turn.{Turn}
use Rattle.seq_pair.specs.declared.halves.Turn.TheVariants.{Agreed, Diverged}

abbrev pub same_written : Option (ℕ × ℕ) → Option (ℕ × ℕ) → Bool
same_written (Some v) (Some w) = v.0 == w.0 && v.1 == w.1
same_written None None = true
same_written (Some v) None = false
same_written None (Some w) = false

abbrev pub same_stored : Option (ℕ × ℕ × ℕ) → Option (ℕ × ℕ × ℕ) → Bool
same_stored (Some s) (Some t) = (s.0 == t.0 && s.1 == t.1) && s.2 == t.2
same_stored None None = true
same_stored (Some s) None = false
same_stored None (Some t) = false

-- whether two effects are one
abbrev pub same_effect : Effect → Effect → Bool
same_effect (effect.Next w s n) (effect.Next v t m) = (same_written w v && same_stored s t) && n == m
same_effect effect.Call effect.Call = true
same_effect (effect.Trap c) (effect.Trap d) = c == d
same_effect effect.Full effect.Full = true
same_effect _ _ = false

-- the effect of the instruction at pc, with these registers at a port
abbrev pub effect_at : (ℕ → ℕ → Admit) → Bytes → Regs → Effect
effect_at admission bytes r = effect_of admission (outcome_at r bytes)

-- the pc of each half that isn't struck is a multiple of four
abbrev pub IsAligned : Option Half → Regs → Regs → Type 0
IsAligned None a b = (a.pc % 4 ≡ 0) × (b.pc % 4 ≡ 0)
IsAligned (Some A) a b = b.pc % 4 ≡ 0
IsAligned (Some B) a b = a.pc % 4 ≡ 0

-- the halves differ in their pcs or in their effects
abbrev pub Differ : (ℕ → ℕ → Admit) → Bytes → Pair → Type 0
Differ admission bytes p = (p.a.pc ≢ p.b.pc) ⊎ (effect_at admission bytes p.a ≢ effect_at admission bytes p.b)

-- the half that isn't struck
abbrev pub unstruck_of : Option Half → Regs → Regs → Regs
unstruck_of None a b = a
unstruck_of (Some A) a b = b
unstruck_of (Some B) a b = a

abbrev pub unstruck : Pair → Regs
unstruck p = unstruck_of p.struck p.a p.b

abbrev pub turn_of : (ℕ → ℕ → Admit) → Bytes → Pair → Turn
turn_of admission bytes p =
    let first = effect_at admission bytes p.a in
    if p.a.pc == p.b.pc && same_effect first (effect_at admission bytes p.b) then Agreed first else Diverged

-- both halves, the bytes of the port and the port itself after a turn
abbrev pub pair_after : Pair → Turn → Pair
pair_after p (Agreed e) = record p { a = applied p.a e; b = applied p.b e }
pair_after p Diverged = p

abbrev pub port_bytes_after : Bytes → Turn → Bytes
port_bytes_after bytes (Agreed e) = bytes_after bytes e
port_bytes_after bytes Diverged = bytes

abbrev pub port_after : {S : Type 0} → (S → ℕ → ℕ → ℕ → S) → S → Turn → S
port_after after s (Agreed e) = state_after after s e
port_after after s Diverged = s
