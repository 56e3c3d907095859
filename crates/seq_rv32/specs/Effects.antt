-- The effect of an instruction at a port, by its outcome and by whether the port takes its store.
use Rattle.std.specs.Prelude.{◌≡◌, ℕ, ◌*◌, ◌%◌, ◌^◌, ◌<◌, ◌≤◌, Option, Some, None, IfSome}
use Rattle.seq_words.specs.declared.regs.Regs.{Regs}
use Rattle.seq_isa.specs.Meaning.{Bytes, stored, registers_after, extended, same}
use Rattle.seq_isa.specs.Meaning.{Outcome, moves, call, trap}
use Rattle.seq_rv32.specs.Widths.{IsWidth}
use Rattle.seq_rv32.specs.declared.port.Admit.{Admit}
use Rattle.seq_rv32.specs.declared.port.Admit.TheVariants.{Fits, Outside, Full}
use Rattle.seq_rv32.specs.declared.effects.Effect.{Effect}
use Rattle.seq_rv32.specs.declared.effects.Effect.TheVariants as effect
use Rattle.seq_rv32.specs.declared.effects.Extension.{Extension}
use Rattle.seq_rv32.specs.declared.effects.Extension.TheVariants.{Zero, Byte, Half}

-- what a load makes of the number that it reads
abbrev pub extend_of : Extension → ℕ → ℕ
extend_of Zero = same
extend_of Byte = extended 128
extend_of Half = extended 32768

-- an effect, unless the port is full
abbrev pub unless_full : Admit → Effect → Effect
unless_full Fits e = e
unless_full Outside e = e
unless_full Full e = effect.Full

-- the effect of an outcome: it is the outcome, but for a store where the port is full
abbrev pub effect_of : (ℕ → ℕ → Admit) → Outcome → Effect
effect_of admission (moves wrote None next) = effect.Next wrote None next
effect_of admission (moves wrote (Some s) next) = unless_full (admission s.0 s.1) (effect.Next wrote (Some s) next)
effect_of admission call = effect.Call
effect_of admission (trap cause) = effect.Trap cause

-- the outcome stores where the port is full
abbrev pub StoresWhereFull : (ℕ → ℕ → Admit) → Outcome → Type 0
StoresWhereFull admission (moves wrote None next) = ⊥
StoresWhereFull admission (moves wrote (Some s) next) = admission s.0 s.1 ≡ Full
StoresWhereFull admission call = ⊥
StoresWhereFull admission (trap cause) = ⊥

abbrev pub names_register : Effect → Type 0
names_register (effect.Next wrote store next) = IfSome wrote (λ w. (1 ≤ w.0) × (w.0 < 32))
names_register effect.Call = Unit {0}
names_register (effect.Trap cause) = Unit {0}
names_register effect.Full = Unit {0}

-- the register that an effect writes, if any, is from x1 to x31
pub record NamesRegister (effect : Effect) : Type 0 where
  pub register : names_register effect

abbrev pub moves_aligned : Effect → Type 0
moves_aligned (effect.Next wrote store next) = next % 4 ≡ 0
moves_aligned effect.Call = Unit {0}
moves_aligned (effect.Trap cause) = Unit {0}
moves_aligned effect.Full = Unit {0}

-- the next pc of an effect, if it has one, is a multiple of four
pub record MovesAligned (effect : Effect) : Type 0 where
  pub next : moves_aligned effect

-- the store of an effect: address, width and value
abbrev pub store_of : Effect → Option (ℕ × ℕ × ℕ)
store_of (effect.Next wrote store next) = store
store_of effect.Call = None
store_of (effect.Trap cause) = None
store_of effect.Full = None

-- a store that may be made: of an aligned width that the port takes, with no bits above the width
pub record MayStore (admission : ℕ → ℕ → Admit) (s : ℕ × ℕ × ℕ) : Type 0 where
  pub width : IsWidth s.1
  pub aligned : s.0 % s.1 ≡ 0
  pub fits : admission s.0 s.1 ≡ Fits
  pub low : s.2 < 2 ^ (8 * s.1)

-- the store of an effect, if any, may be made
pub record StoreFits (admission : ℕ → ℕ → Admit) (effect : Effect) : Type 0 where
  pub store : (s : ℕ × ℕ × ℕ) → store_of effect ≡ Some s → MayStore admission s

-- an effect that changes neither registers nor memory
abbrev pub ChangesNothing : Effect → Type 0
ChangesNothing (effect.Next wrote store next) = ⊥
ChangesNothing effect.Call = Unit {0}
ChangesNothing (effect.Trap cause) = Unit {0}
ChangesNothing effect.Full = Unit {0}

-- the registers after an effect
abbrev pub applied : Regs → Effect → Regs
applied r (effect.Next wrote store next) = registers_after r wrote next
applied r effect.Call = r
applied r (effect.Trap cause) = r
applied r effect.Full = r

-- a memory after a store, if there is one
abbrev pub with_store : Bytes → Option (ℕ × ℕ × ℕ) → Bytes
with_store bytes (Some s) = stored bytes s.0 s.1 s.2
with_store bytes None = bytes

-- the memory after an effect
abbrev pub bytes_after : Bytes → Effect → Bytes
bytes_after bytes (effect.Next wrote store next) = with_store bytes store
bytes_after bytes effect.Call = bytes
bytes_after bytes (effect.Trap cause) = bytes
bytes_after bytes effect.Full = bytes

-- a port after a store, if there is one
abbrev pub with_store_state : {S : Type 0} → (S → ℕ → ℕ → ℕ → S) → S → Option (ℕ × ℕ × ℕ) → S
with_store_state after s (Some store) = after s store.0 store.1 store.2
with_store_state after s None = s

-- a port after an effect
abbrev pub state_after : {S : Type 0} → (S → ℕ → ℕ → ℕ → S) → S → Effect → S
state_after after s (effect.Next wrote store next) = with_store_state after s store
state_after after s effect.Call = s
state_after after s (effect.Trap cause) = s
state_after after s effect.Full = s
