-- The widths of an access, and what a port answers to a store.
use Rattle.std.specs.Prelude.{◌≡◌, ℕ, ◌⊎◌, Bool, true, false}
use Rattle.seq_rv32.specs.declared.port.Admit.{Admit}
use Rattle.seq_rv32.specs.declared.port.Admit.TheVariants.{Fits, Outside, Full}

-- a byte, a half word or a word, in bytes
abbrev pub IsWidth : ℕ → Type 0
IsWidth w = (w ≡ 1) ⊎ ((w ≡ 2) ⊎ (w ≡ 4))

-- the answer that a byte is outside
abbrev pub is_outside : Admit → Bool
is_outside Fits = false
is_outside Outside = true
is_outside Full = false
