-- What holds of the outcome of every instruction: which stores it can make, and how large its numbers are.
use Rattle.std.specs.Prelude.{◌≡◌, ◌≢◌, ℕ, ◌%◌, ◌^◌, ◌<◌, Option, Some, None, slice_index}
use Rattle.seq_words.specs.declared.regs.Regs.{Regs}
use Rattle.seq_isa.specs.Meaning.{Bytes, Outcome, moves, call, trap, number_at, outcome_at}
use Rattle.seq_rv32.specs.Widths.{IsWidth}

-- a store of an aligned width, at a place where the memory has a number
pub record IsPut (bytes : Bytes) (s : ℕ × ℕ × ℕ) : Type 0 where
  pub width : IsWidth s.1
  pub aligned : s.0 % s.1 ≡ 0
  pub before : ℕ
  pub there : number_at bytes s.0 s.1 ≡ Some before

-- every register, and pc, is a number of 32 bits
pub record AreWords (r : Regs) : Type 0 where
  pub register : (i : ℕ) → slice_index r.x i < 2 ^ 32
  pub pc : r.pc < 2 ^ 32

-- every byte of the memory is one
pub record HasBytes (bytes : Bytes) : Type 0 where
  pub byte : (a b : ℕ) → bytes a ≡ Some b → b < 256

-- what is written is a number of 32 bits, and not to x0
abbrev pub is_word : Option (ℕ × ℕ) → Type 0
is_word (Some w) = (w.0 ≢ 0) × (w.1 < 2 ^ 32)
is_word None = Unit {0}

-- a store, if there is one, is put where the memory has a number
abbrev pub is_put : Bytes → Option (ℕ × ℕ × ℕ) → Type 0
is_put bytes (Some s) = IsPut bytes s
is_put bytes None = Unit {0}

abbrev pub store_is_put : Bytes → Outcome → Type 0
store_is_put bytes (moves wrote store next) = is_put bytes store
store_is_put bytes call = Unit {0}
store_is_put bytes (trap cause) = Unit {0}

-- the numbers of an outcome: there are eight causes of a trap
abbrev pub has_words : Outcome → Type 0
has_words (moves wrote store next) = is_word wrote × (next < 2 ^ 32)
has_words call = Unit {0}
has_words (trap cause) = cause < 8

-- the register that is written, if there is one, isn't x0
abbrev pub isnt_x0 : Option (ℕ × ℕ) → Type 0
isnt_x0 (Some w) = w.0 ≢ 0
isnt_x0 None = Unit {0}

-- no outcome writes x0, and there are eight causes of a trap
abbrev pub is_plain : Outcome → Type 0
is_plain (moves wrote store next) = isnt_x0 wrote
is_plain call = Unit {0}
is_plain (trap cause) = cause < 8

pub record IsPlain (o : Outcome) : Type 0 where
  pub plain : is_plain o

pub record StoreIsPut (bytes : Bytes) (o : Outcome) : Type 0 where
  pub store : store_is_put bytes o

pub record HasWords (o : Outcome) : Type 0 where
  pub words : has_words o

-- no instruction writes x0, and none traps with another cause than the eight
abbrev pub OutcomesArePlain : Type 0
OutcomesArePlain = (r : Regs) (bytes : Bytes) → IsPlain (outcome_at r bytes)

-- every store is put where the memory has a number
abbrev pub StoresArePut : Type 0
StoresArePut = (r : Regs) (bytes : Bytes) → StoreIsPut bytes (outcome_at r bytes)

-- numbers of 32 bits lead to numbers of 32 bits
abbrev pub WordsStayWords : Type 0
WordsStayWords = (r : Regs) (bytes : Bytes) → AreWords r → HasBytes bytes → HasWords (outcome_at r bytes)
