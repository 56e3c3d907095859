-- The 256 bytes of a context: sixty-four numbers of four bytes each, the lowest byte first, in eight blocks.
use Rattle.std.specs.Prelude.{◌≡◌, ℕ, zero, suc, ◌+◌, ◌*◌, ◌/◌, ◌%◌, ◌^◌, ◌<◌, ◌≤◌, List, ◌∷◌, ◌++◌, ◌⊎◌, map, replicate, length, slice_index, slice_index_or, slice_set}
use Rattle.std.specs.List.{range_with_len}
use Rattle.seq_words.specs.Blocks.{zero_block, word_at}
use Rattle.seq_words.specs.declared.block.Block.{Block}
use Rattle.seq_layout.specs.declared.context.Context.{Context}

-- number i of the bytes of a context
abbrev pub number_at : List Block → ℕ → ℕ
number_at blocks i = word_at (slice_index_or blocks (i / 8) zero_block).bytes (4 * (i % 8))

-- byte j of the four bytes of a number, the lowest first
abbrev pub byte_of : ℕ → ℕ → ℕ
byte_of n zero = n % 256
byte_of n (suc zero) = n / 256 % 256
byte_of n (suc (suc zero)) = n / 65536 % 256
byte_of n (suc (suc (suc j))) = n / 16777216

-- the block of eight numbers of a list from a place on
unfoldable pub block_from : List ℕ → ℕ → Block
block_from numbers from = record { bytes = map (λ k. byte_of (slice_index numbers (from + k / 4)) (k % 4)) (range_with_len 0 32) }

-- the eight blocks of sixty-four numbers
unfoldable pub blocks_of : List ℕ → List Block
blocks_of numbers = map (λ k. block_from numbers (8 * k)) (range_with_len 0 8)

-- The numbers of a context in their order: x0 to x31, pc, the end with its code or cause and its pc, the held segments,
-- zero, the number of commits, and of four lines the read position and the bytes written. Zeros follow.
abbrev pub numbers_of : Context → List ℕ
numbers_of c =
    c.regs.x ++
    c.regs.pc ∷ c.end ∷ c.value ∷ c.end_pc ∷ c.held ∷ 0 ∷ c.commits % 2 ^ 32 ∷ c.commits / 2 ^ 32 ∷
    slice_index c.reads 0 ∷ slice_index c.writes 0 ∷ slice_index c.reads 1 ∷ slice_index c.writes 1 ∷
    slice_index c.reads 2 ∷ slice_index c.writes 2 ∷ slice_index c.reads 3 ∷ slice_index c.writes 3 ∷
    replicate 16 0

-- the blocks of a context
unfoldable pub context_blocks : Context → List Block
context_blocks c = blocks_of (numbers_of c)

-- the blocks hold this context
pub record HoldContext (blocks : List Block) (c : Context) : Type 0 where
  pub number : (i : ℕ) → i < 64 → number_at blocks i ≡ slice_index (numbers_of c) i

-- A context is inside the format. The end is 0 for a live process, 1 for one that exited, 2 for one that trapped.
pub record IsContext (c : Context) : Type 0 where
  pub zero : slice_index c.regs.x 0 ≡ 0
  pub aligned : c.regs.pc % 4 ≡ 0
  pub end : c.end ≤ 2
  pub live : c.end ≡ 0 → c.value ≡ 0
  pub trapped : c.end < 2 → c.end_pc ≡ 0

-- Numbers are inside the format: what each of them may be.
pub record AreContextNumbers (number : ℕ → ℕ) : Type 0 where
  pub zero : number 0 ≡ 0
  pub aligned : number 32 % 4 ≡ 0
  pub end : number 33 ≤ 2
  pub live : number 33 ≡ 0 → number 34 ≡ 0
  pub trapped : number 33 < 2 → number 35 ≡ 0
  pub held : number 36 < 2 ^ 16
  pub unused : number 37 ≡ 0
  pub zeros : (i : ℕ) → 48 ≤ i → i < 64 → number i ≡ 0

-- Blocks are inside the format: their numbers are.
abbrev pub IsContextBlocks : List Block → Type 0
IsContextBlocks blocks = AreContextNumbers (number_at blocks)

-- the context in eight blocks
abbrev pub context_in : List Block → Context
context_in b = record {
  regs = record { x = map (number_at b) (range_with_len 0 32); pc = number_at b 32 };
  end = number_at b 33;
  value = number_at b 34;
  end_pc = number_at b 35;
  held = number_at b 36;
  commits = number_at b 38 + 2 ^ 32 * number_at b 39;
  reads = map (λ i. number_at b (40 + 2 * i)) (range_with_len 0 4);
  writes = map (λ i. number_at b (41 + 2 * i)) (range_with_len 0 4);
}

-- the lists of a context are as long as its arrays
pub record HasLengths (c : Context) : Type 0 where
  pub registers : length c.regs.x ≡ 32
  pub reads : length c.reads ≡ 4
  pub writes : length c.writes ≡ 4

-- The numbers of a context are its parts, each at its place.
pub record AreParts (number : ℕ → ℕ) (c : Context) : Type 0 where
  pub register : (k : ℕ) → k < 32 → number k ≡ slice_index c.regs.x k
  pub pc : number 32 ≡ c.regs.pc
  pub end : number 33 ≡ c.end
  pub value : number 34 ≡ c.value
  pub end_pc : number 35 ≡ c.end_pc
  pub held : number 36 ≡ c.held
  pub commits : number 38 + 2 ^ 32 * number 39 ≡ c.commits
  pub read : (k : ℕ) → k < 4 → number (40 + 2 * k) ≡ slice_index c.reads k
  pub written : (k : ℕ) → k < 4 → number (41 + 2 * k) ≡ slice_index c.writes k

-- Each of eight blocks is that of one list or that of another.
pub record AreMixed (a b mixed : List Block) : Type 0 where
  pub each : (k : ℕ) → k < 8 → (slice_index_or mixed k zero_block ≡ slice_index_or a k zero_block) ⊎ (slice_index_or mixed k zero_block ≡ slice_index_or b k zero_block)

-- The laws of contexts.
-- The blocks of a context hold that context and no other, each part at its number.
abbrev pub ContextsAreRead : Type 0
ContextsAreRead = (c : Context) → HasLengths c → context_in (context_blocks c) ≡ c

abbrev pub BlocksHoldOneContext : Type 0
BlocksHoldOneContext = (a b : Context) → HasLengths a → HasLengths b → context_blocks a ≡ context_blocks b → a ≡ b

abbrev pub PartsAreNumbered : Type 0
PartsAreNumbered = (c : Context) → HasLengths c → AreParts (number_at (context_blocks c)) c

-- The blocks of a context inside the format are inside it; each of them has its 32 bytes.
abbrev pub ContextsStayInside : Type 0
ContextsStayInside = (c : Context) → HasLengths c → c.held < 2 ^ 16 → IsContext c → IsContextBlocks (context_blocks c)

abbrev pub ContextBlocksAreWhole : Type 0
ContextBlocksAreWhole = (c : Context) (k : ℕ) → k < 8 → length (slice_index_or (context_blocks c) k zero_block).bytes ≡ 32

-- The format is kept block by block: blocks of two contexts that are mixed are inside it, as those are after one is replaced.
abbrev pub MixedStayInside : Type 0
MixedStayInside = (a b mixed : List Block) → AreMixed a b mixed → IsContextBlocks a → IsContextBlocks b → IsContextBlocks mixed

abbrev pub ReplacedStayInside : Type 0
ReplacedStayInside = (a b : List Block) (k : ℕ) → length a ≡ 8 → IsContextBlocks a → IsContextBlocks b → IsContextBlocks (slice_set a k (slice_index_or b k zero_block))
