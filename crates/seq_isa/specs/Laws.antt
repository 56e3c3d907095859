-- Laws of the listing and of the meaning.
use Rattle.std.specs.Prelude.{◌≡◌, ℕ, ◌%◌, ◌<◌, ◌^◌, ◌↔◌, Some}
use Rattle.seq_isa.specs.Table.{StandsFor}
use Rattle.seq_isa.specs.Decoded.{decode_of}
use Rattle.seq_isa.specs.InRange.{InRange}
use Rattle.seq_isa.specs.Meaning.{Bytes, Outcome, moves, call, trap, outcome_at}
use Rattle.seq_words.specs.declared.regs.Regs.{Regs}
use Rattle.seq_isa.specs.declared.instr.Instr.{Instr}

-- a word stands for at most one instruction
abbrev pub OneInstruction : Type 0
OneInstruction = (w : ℕ) (i j : Instr) → StandsFor w i → StandsFor w j → i ≡ j

-- this word of 32 bits, and no other, stands for the instruction
pub record IsOnlyWord (w : ℕ) (i : Instr) : Type 0 where
  pub small : w < 2 ^ 32
  pub stands : StandsFor w i
  pub only : (v : ℕ) → v < 2 ^ 32 → StandsFor v i → v ≡ w

-- an instruction in range has exactly one word
abbrev pub ExactlyOneWord : Type 0
ExactlyOneWord = (i : Instr) → InRange i → (w : ℕ) × IsOnlyWord w i

-- the listing and the function are one
abbrev pub DecodesListing : Type 0
DecodesListing = (w : ℕ) (i : Instr) → StandsFor w i ↔ (decode_of w ≡ Some i)

abbrev pub moves_aligned : Outcome → Type 0
moves_aligned (moves wrote store next) = next % 4 ≡ 0
moves_aligned call = Unit {0}
moves_aligned (trap cause) = Unit {0}

-- the next pc of an outcome, if it has one, is a multiple of four
pub record IsAligned (o : Outcome) : Type 0 where
  pub next : moves_aligned o

-- from a pc that is a multiple of four each instruction moves on to one
abbrev pub StaysAligned : Type 0
StaysAligned = (r : Regs) (bytes : Bytes) → r.pc % 4 ≡ 0 → IsAligned (outcome_at r bytes)
