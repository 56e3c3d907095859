-- A context inside the format has blocks inside it, and no two contexts have the same.
use Rattle.std.proofs.Common.{◌≡◌, ℕ, zero, suc, ◌+◌, ◌-◌, ◌%◌, ◌/◌, ◌^◌, ◌<◌, ◌≤◌, List, [], ◌∷◌, ◌++◌, length, get_or, replicate, arith, ap, sym, ◌∙◌}
use Rattle.std.proofs.lemmas.Grind.{same_number_lists}
use Rattle.std.proofs.lemmas.List.{get_or-append-add, get_or_append_left, get_or-replicate}
use Rattle.seq_layout.specs.declared.context.Context.{Context}
use Rattle.seq_layout.specs.Contexts.{number_at, blocks_of, numbers_of, context_blocks, IsContext, AreContextNumbers, IsContextBlocks}
use Rattle.seq_layout.proofs.ContextBytes.{numbers_held}

-- the numbers after the registers, up to the zeros
abbrev head_of : Context → List ℕ
head_of c =
    c.regs.pc ∷ c.end ∷ c.value ∷ c.end_pc ∷ c.held ∷ 0 ∷ c.commits % 2 ^ 32 ∷ c.commits / 2 ^ 32 ∷
    get_or c.reads 0 0 ∷ get_or c.writes 0 0 ∷ get_or c.reads 1 0 ∷ get_or c.writes 1 0 ∷
    get_or c.reads 2 0 ∷ get_or c.writes 2 0 ∷ get_or c.reads 3 0 ∷ get_or c.writes 3 0 ∷ []

register : (c : Context) (k : ℕ) → length c.regs.x ≡ 32 → k < 32 → get_or (numbers_of c) k 0 ≡ get_or c.regs.x k 0
register c k full within = get_or_append_left c.regs.x (head_of c ++ replicate 16 0) 0 k (omega (arith, full))

rest : (c : Context) (k : ℕ) → length c.regs.x ≡ 32 → get_or (numbers_of c) (32 + k) 0 ≡ get_or (head_of c ++ replicate 16 0) k 0
rest c k full = ap (λ n. get_or (numbers_of c) (n + k) 0) (sym full) ∙ get_or-append-add c.regs.x (head_of c ++ replicate 16 0) k 0

zeros : (c : Context) (i : ℕ) → length c.regs.x ≡ 32 → 48 ≤ i → i < 64 → get_or (numbers_of c) i 0 ≡ 0
zeros c i full low high =
    let j : i ≡ 32 + (16 + (i - 48)) = omega arith in
    ap (λ k. get_or (numbers_of c) k 0) j ∙ rest c (16 + (i - 48)) full ∙ get_or-append-add (head_of c) (replicate 16 0) (i - 48) 0 ∙ get_or-replicate 16 (i - 48) 0 0 (omega arith)

inside_numbers : (c : Context) → length c.regs.x ≡ 32 → c.held < 2 ^ 16 → IsContext c → AreContextNumbers (λ i. get_or (numbers_of c) i 0)
inside_numbers c full held is = record {
  zero = register c 0 full (omega arith) ∙ is.zero;
  aligned = ap (λ n. n % 4) (rest c 0 full) ∙ is.aligned;
  end = omega (arith, rest c 1 full, is.end);
  live = λ e. rest c 2 full ∙ is.live (sym (rest c 1 full) ∙ e);
  trapped = λ e. rest c 3 full ∙ is.trapped (omega (arith, rest c 1 full, e));
  held = omega (arith, rest c 4 full);
  unused = rest c 5 full;
  zeros = λ i low high. zeros c i full low high;
}

-- the same of numbers that are the same
same_numbers : (m n : ℕ → ℕ) → ((i : ℕ) → i < 64 → m i ≡ n i) → AreContextNumbers m → AreContextNumbers n
same_numbers m n same is =
    let at : (i : ℕ) → i < 64 → n i ≡ m i = λ i within. sym (same i within) in
    record {
      zero = at 0 (omega arith) ∙ is.zero;
      aligned = ap (λ k. k % 4) (at 32 (omega arith)) ∙ is.aligned;
      end = omega (arith, at 33 (omega arith), is.end);
      live = λ e. at 34 (omega arith) ∙ is.live (same 33 (omega arith) ∙ e);
      trapped = λ e. at 35 (omega arith) ∙ is.trapped (omega (arith, at 33 (omega arith), e));
      held = omega (arith, at 36 (omega arith), is.held);
      unused = at 37 (omega arith) ∙ is.unused;
      zeros = λ i low high. at i high ∙ is.zeros i low high;
    }

-- the blocks of a context inside the format are inside it
pub inside : (c : Context) → length c.regs.x ≡ 32 → c.held < 2 ^ 16 → IsContext c → IsContextBlocks (blocks_of (numbers_of c))
inside c full held is = same_numbers _ _ (λ i within. sym (numbers_held (numbers_of c) i within)) (inside_numbers c full held is)

pub below_four : (P : ℕ → Type 0) → P 0 → P 1 → P 2 → P 3 → (k : ℕ) → k < 4 → P k
below_four P a b c d zero within = a
below_four P a b c d (suc zero) within = b
below_four P a b c d (suc (suc zero)) within = c
below_four P a b c d (suc (suc (suc zero))) within = d
below_four P a b c d (suc (suc (suc (suc k)))) within = absurd (omega arith)

four : (xs ys : List ℕ) → length xs ≡ 4 → length ys ≡ 4 → get_or xs 0 0 ≡ get_or ys 0 0 → get_or xs 1 0 ≡ get_or ys 1 0 → get_or xs 2 0 ≡ get_or ys 2 0 → get_or xs 3 0 ≡ get_or ys 3 0 → xs ≡ ys
four xs ys m n a b c d = same_number_lists xs ys (m ∙ sym n) (λ k within. below_four (λ k. get_or xs k 0 ≡ get_or ys k 0) a b c d k (omega (arith, m)))

made : List ℕ → ℕ → ℕ → ℕ → ℕ → ℕ → ℕ → List ℕ → List ℕ → Context
made x pc end value end_pc held commits reads writes =
    record { regs = record { x = x; pc = pc }; end = end; value = value; end_pc = end_pc; held = held; commits = commits; reads = reads; writes = writes }

-- two contexts in the same blocks are one
pub one : (a b : Context) → length a.regs.x ≡ 32 → length b.regs.x ≡ 32 → length a.reads ≡ 4 → length b.reads ≡ 4 → length a.writes ≡ 4 → length b.writes ≡ 4 → context_blocks a ≡ context_blocks b → a ≡ b
unfolding context_blocks made
one a b m n m_reads n_reads m_writes n_writes e =
    let same : (i : ℕ) → i < 64 → get_or (numbers_of a) i 0 ≡ get_or (numbers_of b) i 0 = λ i within. sym (numbers_held (numbers_of a) i within) ∙ ap (λ blocks. number_at blocks i) e ∙ numbers_held (numbers_of b) i within in
    let field : (k : ℕ) → k < 32 → get_or (head_of a ++ replicate 16 0) k 0 ≡ get_or (head_of b ++ replicate 16 0) k 0 = λ k within. sym (rest a k m) ∙ same (32 + k) (omega arith) ∙ rest b k n in
    let x : a.regs.x ≡ b.regs.x = same_number_lists a.regs.x b.regs.x (m ∙ sym n) (λ k within. sym (register a k m (omega (arith, m))) ∙ same k (omega (arith, m)) ∙ register b k n (omega (arith, m))) in
    let pc : a.regs.pc ≡ b.regs.pc = field 0 (omega arith) in
    let end : a.end ≡ b.end = field 1 (omega arith) in
    let value : a.value ≡ b.value = field 2 (omega arith) in
    let end_pc : a.end_pc ≡ b.end_pc = field 3 (omega arith) in
    let held : a.held ≡ b.held = field 4 (omega arith) in
    let low : a.commits % 2 ^ 32 ≡ b.commits % 2 ^ 32 = field 6 (omega arith) in
    let high : a.commits / 2 ^ 32 ≡ b.commits / 2 ^ 32 = field 7 (omega arith) in
    let commits : a.commits ≡ b.commits = omega arith in
    let reads : a.reads ≡ b.reads = four a.reads b.reads m_reads n_reads (field 8 (omega arith)) (field 10 (omega arith)) (field 12 (omega arith)) (field 14 (omega arith)) in
    let writes : a.writes ≡ b.writes = four a.writes b.writes m_writes n_writes (field 9 (omega arith)) (field 11 (omega arith)) (field 13 (omega arith)) (field 15 (omega arith)) in
    let fields : made a.regs.x a.regs.pc a.end a.value a.end_pc a.held a.commits a.reads a.writes ≡ made b.regs.x b.regs.pc b.end b.value b.end_pc b.held b.commits b.reads b.writes = cc in
    fields
