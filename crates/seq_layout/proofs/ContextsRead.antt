-- Contexts are read from their blocks by number, and their blocks may be mixed.
use Rattle.std.proofs.Common.{◌≡◌, ◌≢◌, ◌⊎◌, ℕ, zero, suc, ◌+◌, ◌*◌, ◌%◌, ◌/◌, ◌^◌, ◌<◌, ◌≤◌, List, [], ◌∷◌, length, get_or, set, map, replicate, arith, refl, ap, sym, ◌∙◌, inl, inr, get_or-set_same, get_or-set_other}
use Rattle.std.specs.List.{range_with_len}
use Rattle.std.proofs.lemmas.Bool.{cases_eq, cases_lt}
use Rattle.std.proofs.lemmas.List.{get_or-append-add, get_or_append_left}
use Rattle.std.proofs.lemmas.List.FromFn.{fill_by_all, get_or-map-range_with_len, length-map-range_with_len}
use Rattle.seq_words.specs.Blocks.{zero_block, word_at}
use Rattle.seq_words.specs.declared.block.Block.{Block}
use Rattle.seq_layout.specs.Contexts.{byte_of, number_at, block_from, blocks_of, numbers_of, context_blocks, context_in, HasLengths, AreParts, AreMixed, AreContextNumbers, IsContextBlocks, ContextsAreRead, BlocksHoldOneContext, PartsAreNumbered, ContextsStayInside, ContextBlocksAreWhole, MixedStayInside, ReplacedStayInside}
use Rattle.seq_layout.specs.declared.context.Context.{Context}
use Rattle.seq_layout.proofs.ContextBytes.{numbers_held}
use Rattle.seq_layout.proofs.Contexts.{inside, below_four}

-- the numbers of a context after its registers
abbrev behind : Context → List ℕ
behind c =
    c.regs.pc ∷ c.end ∷ c.value ∷ c.end_pc ∷ c.held ∷ 0 ∷ c.commits % 2 ^ 32 ∷ c.commits / 2 ^ 32 ∷
    get_or c.reads 0 0 ∷ get_or c.writes 0 0 ∷ get_or c.reads 1 0 ∷ get_or c.writes 1 0 ∷
    get_or c.reads 2 0 ∷ get_or c.writes 2 0 ∷ get_or c.reads 3 0 ∷ get_or c.writes 3 0 ∷
    replicate 16 0

module _ (c : Context) (whole : HasLengths c) where
  held : (i : ℕ) → i < 64 → number_at (context_blocks c) i ≡ get_or (numbers_of c) i 0
  unfolding context_blocks
  held i within = numbers_held (numbers_of c) i within

  register : (k : ℕ) → k < 32 → number_at (context_blocks c) k ≡ get_or c.regs.x k 0
  register k within = held k (omega (arith, within)) ∙ get_or_append_left c.regs.x (behind c) 0 k (omega (arith, within, whole.registers))

  field : (k : ℕ) → k < 32 → number_at (context_blocks c) (32 + k) ≡ get_or (behind c) k 0
  field k within = held (32 + k) (omega (arith, within)) ∙ ap (λ n. get_or (numbers_of c) (n + k) 0) (sym whole.registers) ∙ get_or-append-add c.regs.x (behind c) k 0

  pub parts : AreParts (number_at (context_blocks c)) c
  parts = record {
    register = register;
    pc = field 0 (omega arith);
    end = field 1 (omega arith);
    value = field 2 (omega arith);
    end_pc = field 3 (omega arith);
    held = field 4 (omega arith);
    commits = omega (arith, field 6 (omega arith), field 7 (omega arith));
    read = below_four (λ k. number_at (context_blocks c) (40 + 2 * k) ≡ get_or c.reads k 0) (field 8 (omega arith)) (field 10 (omega arith)) (field 12 (omega arith)) (field 14 (omega arith));
    written = below_four (λ k. number_at (context_blocks c) (41 + 2 * k) ≡ get_or c.writes k 0) (field 9 (omega arith)) (field 11 (omega arith)) (field 13 (omega arith)) (field 15 (omega arith));
  }

  pub read : context_in (context_blocks c) ≡ c
  read i = record {
    regs = record { x = sym (fill_by_all (number_at (context_blocks c)) c.regs.x 32 0 whole.registers (λ k within. sym (parts.register k within))) i; pc = parts.pc i };
    end = parts.end i;
    value = parts.value i;
    end_pc = parts.end_pc i;
    held = parts.held i;
    commits = parts.commits i;
    reads = sym (fill_by_all (λ k. number_at (context_blocks c) (40 + 2 * k)) c.reads 4 0 whole.reads (λ k within. sym (parts.read k within))) i;
    writes = sym (fill_by_all (λ k. number_at (context_blocks c) (41 + 2 * k)) c.writes 4 0 whole.writes (λ k within. sym (parts.written k within))) i;
  }

pub contexts_are_read : ContextsAreRead
contexts_are_read c whole = read c whole

pub parts_are_numbered : PartsAreNumbered
parts_are_numbered c whole = parts c whole

pub blocks_hold_one_context : BlocksHoldOneContext
blocks_hold_one_context a b whole_a whole_b same = sym (read a whole_a) ∙ ap context_in same ∙ read b whole_b

pub contexts_stay_inside : ContextsStayInside
unfolding context_blocks
contexts_stay_inside c whole held is = inside c whole.registers held is

-- each block of numbers has its 32 bytes
pub blocks_are_whole : (numbers : List ℕ) (k : ℕ) → k < 8 → length (get_or (blocks_of numbers) k zero_block).bytes ≡ 32
unfolding blocks_of block_from
blocks_are_whole numbers k within =
    ap (λ (b : Block). length b.bytes) (get_or-map-range_with_len (λ k. block_from numbers (8 * k)) 0 8 k k zero_block within (omega arith))
    ∙ length-map-range_with_len (λ j. byte_of (get_or numbers (8 * k + j / 4) 0) (j % 4)) 0 32

pub context_blocks_are_whole : ContextBlocksAreWhole
unfolding context_blocks
context_blocks_are_whole c k within = blocks_are_whole (numbers_of c) k within

-- numbers are those of the block in which they stand
pub numbers_of_block : (xs ys : List Block) (k i : ℕ) → get_or xs k zero_block ≡ get_or ys k zero_block → i / 8 ≡ k → number_at xs i ≡ number_at ys i
numbers_of_block xs ys k i same place =
    ap (λ j. word_at (get_or xs j zero_block).bytes (4 * (i % 8))) place
    ∙ ap (λ (b : Block). word_at b.bytes (4 * (i % 8))) same
    ∙ ap (λ j. word_at (get_or ys j zero_block).bytes (4 * (i % 8))) (sym place)

-- what the format says of the fifth block
record InFifth (number : ℕ → ℕ) : Type 0 where
  aligned : number 32 % 4 ≡ 0
  end : number 33 ≤ 2
  live : number 33 ≡ 0 → number 34 ≡ 0
  trapped : number 33 < 2 → number 35 ≡ 0
  held : number 36 < 2 ^ 16
  unused : number 37 ≡ 0

module _ (x mixed : List Block) (is : IsContextBlocks x) where
  same_number : (k i : ℕ) → get_or mixed k zero_block ≡ get_or x k zero_block → i / 8 ≡ k → number_at mixed i ≡ number_at x i
  same_number k i same place = numbers_of_block mixed x k i same place

  fifth_inside : get_or mixed 4 zero_block ≡ get_or x 4 zero_block → InFifth (number_at mixed)
  fifth_inside same =
      let at : (i : ℕ) → i / 8 ≡ 4 → number_at mixed i ≡ number_at x i = λ i place. same_number 4 i same place in
      record {
        aligned = ap (λ n. n % 4) (at 32 (omega arith)) ∙ is.aligned;
        end = omega (arith, at 33 (omega arith), is.end);
        live = λ e. at 34 (omega arith) ∙ is.live (sym (at 33 (omega arith)) ∙ e);
        trapped = λ e. at 35 (omega arith) ∙ is.trapped (omega (arith, at 33 (omega arith), e));
        held = omega (arith, at 36 (omega arith), is.held);
        unused = at 37 (omega arith) ∙ is.unused;
      }

  zero_inside : (i : ℕ) → get_or mixed (i / 8) zero_block ≡ get_or x (i / 8) zero_block → 48 ≤ i → i < 64 → number_at mixed i ≡ 0
  zero_inside i same low high = same_number (i / 8) i same refl ∙ is.zeros i low high

pub mixed_stay_inside : MixedStayInside
mixed_stay_inside a b mixed of is_a is_b =
    let fifth : InFifth (number_at mixed) = elim (of.each 4 (omega arith)) [ inl from_a ↦ fifth_inside a mixed is_a from_a | inr from_b ↦ fifth_inside b mixed is_b from_b ] in
    record {
      zero = elim (of.each 0 (omega arith)) [
        | inl from_a ↦ numbers_of_block mixed a 0 0 from_a (omega arith) ∙ is_a.zero
        | inr from_b ↦ numbers_of_block mixed b 0 0 from_b (omega arith) ∙ is_b.zero
      ];
      aligned = fifth.aligned;
      end = fifth.end;
      live = fifth.live;
      trapped = fifth.trapped;
      held = fifth.held;
      unused = fifth.unused;
      zeros = λ i low high. elim (of.each (i / 8) (omega (arith, high))) [
        | inl from_a ↦ zero_inside a mixed is_a i from_a low high
        | inr from_b ↦ zero_inside b mixed is_b i from_b low high
      ];
    }

pub replaced_stay_inside : ReplacedStayInside
replaced_stay_inside a b k eight is_a is_b = mixed_stay_inside a b (set a k (get_or b k zero_block)) (record { each = each }) is_a is_b
  where
    each : (j : ℕ) → j < 8 → (get_or (set a k (get_or b k zero_block)) j zero_block ≡ get_or a j zero_block) ⊎ (get_or (set a k (get_or b k zero_block)) j zero_block ≡ get_or b j zero_block)
    each j within = go (cases_eq j k)
      where
        go : (j ≡ k) ⊎ (j ≡ k → ⊥) → (get_or (set a k (get_or b k zero_block)) j zero_block ≡ get_or a j zero_block) ⊎ (get_or (set a k (get_or b k zero_block)) j zero_block ≡ get_or b j zero_block)
        go (inl here) =
            let inside_k : k < length a = omega (arith, within, eight, here) in
            inr (ap (λ i. get_or (set a k (get_or b k zero_block)) i zero_block) here ∙ get_or-set_same a k (get_or b k zero_block) zero_block inside_k ∙ ap (λ i. get_or b i zero_block) (sym here))
        go (inr other) = inl (get_or-set_other a k j (get_or b k zero_block) zero_block other)
