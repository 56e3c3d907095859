-- The halves of a pair, and a strike.
use Rattle.std.specs.Prelude.{ℕ, ◌==◌, if◌then◌else◌, bit_xor, slice_index, slice_set, Some}
use Rattle.seq_words.specs.declared.half.Half.{Half}
use Rattle.seq_words.specs.declared.half.Half.TheVariants.{A, B}
use Rattle.seq_words.specs.declared.regs.Regs.{Regs}
use Rattle.seq_pair.specs.declared.halves.Pair.{Pair}

abbrev pub other_half : Half → Half
other_half A = B
other_half B = A

-- registers with the bits of one of them inverted where the mask has a one: x1 to x31 by their numbers, and pc by 32
abbrev pub inverted : Regs → ℕ → ℕ → Regs
inverted r reg mask = if reg == 32 then record r { pc = bit_xor r.pc mask } else record r { x = slice_set r.x reg (bit_xor (slice_index r.x reg) mask) }

-- a pair whose half was struck
abbrev pub struck : Pair → Half → ℕ → ℕ → Pair
struck p A reg mask = record p { a = inverted p.a reg mask; struck = Some A }
struck p B reg mask = record p { b = inverted p.b reg mask; struck = Some B }
