-- What is said of copies in service, and that it survives what happens elsewhere.
use Rattle.std.specs.Prelude.{◌≡◌, ◌≢◌, ℕ, Bool, true, false}
use Rattle.seq_words.specs.declared.block.Block.{Block}
use Rattle.seq_memory.specs.States.{is_in_service}
use Rattle.seq_memory.specs.declared.element.State.{State}
use Rattle.seq_layout.specs.declared.units.WordAt.{WordAt}
use Rattle.seq_layout.specs.Shapes.{Shape}
use Rattle.seq_layout.specs.Copies.{Copies, serves, with_block, with_word, with_state, failed}

-- a copy of a word holds this value, if it is in service
abbrev pub Holds : Shape → Copies → WordAt → Bool → ℕ → Type 0
Holds s p at shadow value = serves s p at.extent.0 shadow ≡ true → p.word at.extent.0 at.word shadow ≡ value

-- the primary holds one value and the shadow another, each if it is in service
pub record HoldBoth (s : Shape) (p : Copies) (at : WordAt) (v w : ℕ) : Type 0 where
  pub primary : Holds s p at false v
  pub shadow : Holds s p at true w

-- a copy of block n of extent e holds this, if it is in service
abbrev pub HoldsBlock : Shape → Copies → ℕ → ℕ → Bool → Block → Type 0
HoldsBlock s p e n shadow block = serves s p e shadow ≡ true → p.block e n shadow ≡ block

-- part n' of extent e' isn't part n of extent e
pub record IsOther (e n e' n' : ℕ) : Type 0 where
  pub other : e ≡ e' → n ≢ n'

-- What is said of the memories survives writes to these blocks and to these words, and to each copy that isn't in service, the
-- failure of a memory, and each change of a memory's state that puts nothing in service.
pub record Survives (s : Shape) (blocks words : ℕ → ℕ → Type 0) (Said : Copies → Type 0) : Type 0 where
  pub block : (p : Copies) (e n : ℕ) (c : Bool) (b : Block) → blocks e n → Said p → Said (with_block p e n c b)
  pub word : (p : Copies) (e n : ℕ) (c : Bool) (w : ℕ) → words e n → Said p → Said (with_word p e n c w)
  pub block_away : (p : Copies) (e n : ℕ) (c : Bool) (b : Block) → serves s p e c ≡ false → Said p → Said (with_block p e n c b)
  pub word_away : (p : Copies) (e n : ℕ) (c : Bool) (w : ℕ) → serves s p e c ≡ false → Said p → Said (with_word p e n c w)
  pub failure : (p : Copies) (k : ℕ) → Said p → Said (failed s p k)
  pub state : (p : Copies) (k : ℕ) (after : State) → is_in_service after ≡ false → Said p → Said (with_state p k after)

-- any block, or any word
abbrev pub Any : ℕ → ℕ → Type 0
Any e n = Unit {0}

-- What a copy in service of a word holds survives each write to another word and to any block.
abbrev pub HeldWordsSurvive : Type 0
HeldWordsSurvive = (s : Shape) (at : WordAt) (shadow : Bool) (value : ℕ) → Survives s Any (IsOther at.extent.0 at.word) (λ p. Holds s p at shadow value)

-- What a copy in service of a block holds survives each write to another block and to any word.
abbrev pub HeldBlocksSurvive : Type 0
HeldBlocksSurvive = (s : Shape) (e n : ℕ) (shadow : Bool) (b : Block) → Survives s (IsOther e n) Any (λ p. HoldsBlock s p e n shadow b)
