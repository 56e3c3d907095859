-- A change that fits keeps words and blocks within their bounds.
use Rattle.std.proofs.Common.{◌≡◌, ◌≢◌, ℕ, zero, suc, ◌+◌, ◌-◌, ◌*◌, ◌/◌, ◌%◌, ◌^◌, ◌<◌, ◌≤◌, Bool, true, false, not, ◌&&◌, ◌==◌, if◌then◌else◌, Option, Some, None, length, refl, ap, sym, ◌∙◌, subst, arith, inl, inr}
use Rattle.std.specs.Prelude.{slice_index, replicate, unwrap_or, ◌⊎◌}
use Rattle.std.proofs.lemmas.Bool.{cond_both, and_parts, eqb-true, cases_lt, true≢false}
use Rattle.std.proofs.lemmas.List.{length-replicate, get_or-replicate, get_or_past}
use Rattle.seq_words.specs.Masks.{has_bit}
use Rattle.seq_words.specs.Blocks.{zero_block, word_at}
use Rattle.seq_words.specs.declared.block.Block.{Block}
use Rattle.seq_words.specs.declared.description.MachineDesc.{MachineDesc}
use Rattle.seq_layout.specs.Places.{memory_of}
use Rattle.seq_layout.specs.Shapes.{shape_of, segment_extent, line_extent}
use Rattle.seq_layout.specs.Copies.{Copies, same_copy}
use Rattle.seq_layout.specs.declared.units.Unit.{Unit as Part}
use Rattle.seq_layout.specs.declared.units.Unit.TheVariants.{Block as Of_block, Word as Of_word}
use Rattle.seq_status.specs.declared.status.Status.{Status}
use Rattle.seq_status.specs.declared.status.Status.TheVariants.{Idle, Run, Pass1, Pass2, Back, Forward}
use Rattle.seq_status.specs.Words.{word_of, status_of, NamesProcessor}
use Rattle.seq_status.proofs.WordLaws.{statuses_are_read_back, statuses_have_the_format}
use Rattle.seq_ruling.specs.Ruling.{status_in, NamesOneOf}
use Rattle.seq_turns.specs.Functions.{update_copy}
use Rattle.seq_turns.specs.Machines.{Change, blocks_after, words_after, copies_after}
use Rattle.seq_io.specs.Changes.Change.{Unchanged, To_block, To_word}
use Rattle.seq_turns.specs.Recoveries.{copy_on, unit_taken}
use Rattle.seq_turns.specs.Events.{lost_copies}
use Rattle.seq_stands.specs.FitBlocks.{ContextNumbersFit, numbers_with, ContextBlockFits, IsWholeBlock, BlocksFit}
use Rattle.seq_stands.specs.Fit.{StatusFits, WordsFit}
use Rattle.seq_stands.proofs.FitBlocks.{no_bit}

-- a word, as word n of an extent
pub record WordFits (d : MachineDesc) (e n w : ℕ) : Type 0 where
  pub status : e < length d.processes → n ≡ 0 → StatusFits d w
  pub lock : (t : ℕ) → t < length d.segments → segment_extent (shape_of d) t ≡ e → n ≡ 0 → w ≤ length d.processes
  pub count : (l : ℕ) → line_extent (shape_of d) l ≡ e → n ≡ 0 → w ≤ d.journal
  pub closed : (l : ℕ) → line_extent (shape_of d) l ≡ e → n ≡ 1 → w ≤ 1

-- a block, as block n of an extent
pub record BlockFits (d : MachineDesc) (e n : ℕ) (b : Block) : Type 0 where
  pub whole : IsWholeBlock b
  pub context : e < length d.processes → n < 8 → ContextBlockFits d n b

abbrev pub ChangeFits : MachineDesc → Change → Type 0
ChangeFits d Unchanged = Unit {0}
ChangeFits d (To_block e n c b) = BlockFits d e n b
ChangeFits d (To_word e n c w) = WordFits d e n w

-- a word of a process, of a segment, of a line
pub status_change : (d : MachineDesc) (q w : ℕ) → q < length d.processes → StatusFits d w → WordFits d q 0 w
status_change d q w there is = record {
  status = λ _ _. is;
  lock = λ t l e n. absurd (let c : ⊥ = omega (arith, e, there) in c);
  count = λ l e n. absurd (let c : ⊥ = omega (arith, e, there) in c);
  closed = λ l e n. absurd (let c : ⊥ = omega (arith, n) in c);
}

pub lock_change : (d : MachineDesc) (t w : ℕ) → t < length d.segments → w ≤ length d.processes → WordFits d (segment_extent (shape_of d) t) 0 w
lock_change d t w there is = record {
  status = λ l n. absurd (let c : ⊥ = omega (arith, l) in c);
  lock = λ _ _ _ _. is;
  count = λ l e n. absurd (let c : ⊥ = omega (arith, e, there) in c);
  closed = λ l e n. absurd (let c : ⊥ = omega (arith, n) in c);
}

pub line_change : (d : MachineDesc) (l n w : ℕ) → (n ≡ 0 → w ≤ d.journal) → (n ≡ 1 → w ≤ 1) → WordFits d (line_extent (shape_of d) l) n w
line_change d l n w count closed = record {
  status = λ x e. absurd (let c : ⊥ = omega (arith, x) in c);
  lock = λ t there e z. absurd (let c : ⊥ = omega (arith, e, there) in c);
  count = λ _ _ z. count z;
  closed = λ _ _ z. closed z;
}

-- a status that names a processor which is there
names_few : (n : ℕ) (s : Status) → n ≤ 256 → NamesOneOf n s → NamesProcessor s
names_few n Idle few is = tt
names_few n (Run h) few is = omega (arith, few, is)
names_few n (Pass1 h) few is = omega (arith, few, is)
names_few n (Pass2 h) few is = omega (arith, few, is)
names_few n (Back h) few is = omega (arith, few, is)
names_few n (Forward h) few is = omega (arith, few, is)

status_read : (s : Status) → NamesProcessor s → status_in (word_of s) ≡ s
status_read s is = ap (λ o. unwrap_or o Idle) (statuses_are_read_back s is)

pub status_fits : (d : MachineDesc) (s : Status) → d.processors ≤ 256 → NamesOneOf d.processors s → StatusFits d (word_of s)
status_fits d s few is =
    let small = names_few d.processors s few is in
    record { format = statuses_have_the_format s small; named = subst (NamesOneOf d.processors) (sym (status_read s small)) is }

-- zeros
zero_byte : (i : ℕ) → slice_index zero_block.bytes i ≡ 0
unfolding zero_block
zero_byte i = elim (cases_lt i 32) [
  | inl below ↦ get_or-replicate 32 i 0 0 below
  | inr past ↦ get_or_past (replicate 32 0) i 0 (let c : length (replicate {A = ℕ} 32 0) ≤ i = omega (arith, past, length-replicate {A = ℕ} 32 0) in c)
]

pub zero_word : (at : ℕ) → word_at zero_block.bytes at ≡ 0
zero_word at = omega (arith, zero_byte at, zero_byte (at + 1), zero_byte (at + 2), zero_byte (at + 3))

pub zero_whole : IsWholeBlock zero_block
unfolding zero_block
zero_whole = length-replicate {A = ℕ} 32 0

-- numbers that are all 0 fit
none_fit : (d : MachineDesc) (number : ℕ → ℕ) → ((i : ℕ) → number i ≡ 0) → ContextNumbersFit d number
none_fit d number none = record {
  inside = record {
    zero = none 0;
    aligned = ap (λ x. x % 4) (none 32);
    end = omega (arith, none 33);
    live = λ _. none 34;
    trapped = λ _. none 35;
    held = omega (arith, none 36);
    unused = none 37;
    zeros = λ i low high. none i;
  };
  held = λ t b. absurd (true≢false (sym b ∙ ap (λ x. has_bit x t) (none 36) ∙ no_bit t));
  cause = λ e. omega (arith, none 34);
  reads = λ k below. omega (arith, none (40 + 2 * k));
  writes = λ k below. omega (arith, none (41 + 2 * k));
}

pub zero_fits : (d : MachineDesc) (k : ℕ) → ContextBlockFits d k zero_block
zero_fits d k = none_fit d (numbers_with k zero_block) (λ i. cond_both (i / 8 == k) (word_at zero_block.bytes (4 * (i % 8))) 0 (λ x. x ≡ 0) (λ _. zero_word (4 * (i % 8))) (λ _. refl))

-- One word, or one block, is changed. What is so of each of them, and of the new one, is so of each after that.
pub copy_cases : {A : Type 0} (P : ℕ → ℕ → A → Type 0) (f : ℕ → ℕ → Bool → A) (e n : ℕ) (c : Bool) (x : A) (e' n' : ℕ) (c' : Bool) → (e' ≡ e → n' ≡ n → P e' n' x) → P e' n' (f e' n' c') → P e' n' (update_copy f e n c x e' n' c')
unfolding update_copy
copy_cases P f e n c x e' n' c' new old = cond_both ((e' == e && n' == n) && same_copy c' c) x (f e' n' c') (P e' n')
    (λ t. let h = and_parts (e' == e) (n' == n) (and_parts (e' == e && n' == n) (same_copy c' c) t).0 in new (eqb-true e' e h.0) (eqb-true n' n h.1)) (λ _. old)

module _ (d : MachineDesc) (p : Copies) (words : WordsFit d p) (blocks : BlocksFit d p) where
  pub words_kept : (change : Change) → ChangeFits d change → WordsFit d (copies_after change p)
  words_kept Unchanged is = record { status = words.status; locks = words.locks; counts = words.counts; closed = words.closed }
  words_kept (To_block e n c b) is = record { status = words.status; locks = words.locks; counts = words.counts; closed = words.closed }
  words_kept (To_word e n c w) is = record {
    status = λ q c' l. copy_cases (λ _ _. StatusFits d) p.word e n c w q 0 c' (λ here zero. is.status (subst (λ x. x < length d.processes) here l) (sym zero)) (words.status q c' l);
    locks = λ t c' l. copy_cases (λ _ _ x. x ≤ length d.processes) p.word e n c w (segment_extent (shape_of d) t) 0 c' (λ here zero. is.lock t l here (sym zero)) (words.locks t c' l);
    counts = λ l c'. copy_cases (λ _ _ x. x ≤ d.journal) p.word e n c w (line_extent (shape_of d) l) 0 c' (λ here zero. is.count l here (sym zero)) (words.counts l c');
    closed = λ l c'. copy_cases (λ _ _ x. x ≤ 1) p.word e n c w (line_extent (shape_of d) l) 1 c' (λ here zero. is.closed l here (sym zero)) (words.closed l c');
  }

  pub blocks_kept : (change : Change) → ChangeFits d change → BlocksFit d (copies_after change p)
  blocks_kept Unchanged is = record { whole = blocks.whole; contexts = blocks.contexts }
  blocks_kept (To_word e n c w) is = record { whole = blocks.whole; contexts = blocks.contexts }
  blocks_kept (To_block e n c b) is = record {
    whole = λ e' n' c'. copy_cases (λ _ _. IsWholeBlock) p.block e n c b e' n' c' (λ _ _. is.whole) (blocks.whole e' n' c');
    contexts = λ q k c' there below. copy_cases (λ _ k'. ContextBlockFits d k') p.block e n c b q k c'
        (λ here at. subst (λ k'. ContextBlockFits d k' b) (sym at) (is.context (subst (λ x. x < length d.processes) here there) (subst (λ x. x < 8) at below))) (blocks.contexts q k c' there below);
  }

  -- what stands at one copy fits at the other
  pub word_copied : (e n : ℕ) (c : Bool) → WordFits d e n (p.word e n c)
  word_copied e n c = record {
    status = λ l z. subst (λ x. StatusFits d (p.word e x c)) (sym z) (words.status e c l);
    lock = λ t l at z. subst (λ x. p.word e x c ≤ length d.processes) (sym z) (subst (λ x. p.word x 0 c ≤ length d.processes) at (words.locks t c l));
    count = λ l at z. subst (λ x. p.word e x c ≤ d.journal) (sym z) (subst (λ x. p.word x 0 c ≤ d.journal) at (words.counts l c));
    closed = λ l at z. subst (λ x. p.word e x c ≤ 1) (sym z) (subst (λ x. p.word x 1 c ≤ 1) at (words.closed l c));
  }

  pub block_copied : (e n : ℕ) (c : Bool) → BlockFits d e n (p.block e n c)
  block_copied e n c = record { whole = blocks.whole e n c; context = λ l k. blocks.contexts e n c l k }

  pub unit_fits : (i : ℕ) (u : Option Part) → ChangeFits d (unit_taken d p i u)
  unit_fits i None = tt
  unit_fits i (Some (Of_block e n)) = block_copied e.0 n (not (copy_on d i e.0))
  unit_fits i (Some (Of_word w)) = word_copied w.extent.0 w.word (not (copy_on d i w.extent.0))

  -- a memory that fails leaves zeros
  pub words_lost : (i : ℕ) → d.processors ≤ 256 → WordsFit d (lost_copies d i p)
  words_lost i few = record {
    status = λ q c l. cond_both (memory_of d.memories q c == i) 0 (p.word q 0 c) (StatusFits d) (λ _. status_fits d Idle few tt) (λ _. words.status q c l);
    locks = λ t c l. cond_both (memory_of d.memories (segment_extent (shape_of d) t) c == i) 0 (p.word (segment_extent (shape_of d) t) 0 c) (λ x. x ≤ length d.processes) (λ _. omega arith) (λ _. words.locks t c l);
    counts = λ l c. cond_both (memory_of d.memories (line_extent (shape_of d) l) c == i) 0 (p.word (line_extent (shape_of d) l) 0 c) (λ x. x ≤ d.journal) (λ _. omega arith) (λ _. words.counts l c);
    closed = λ l c. cond_both (memory_of d.memories (line_extent (shape_of d) l) c == i) 0 (p.word (line_extent (shape_of d) l) 1 c) (λ x. x ≤ 1) (λ _. omega arith) (λ _. words.closed l c);
  }

  pub blocks_lost : (i : ℕ) → BlocksFit d (lost_copies d i p)
  blocks_lost i = record {
    whole = λ e n c. cond_both (memory_of d.memories e c == i) zero_block (p.block e n c) IsWholeBlock (λ _. zero_whole) (λ _. blocks.whole e n c);
    contexts = λ q k c there below. cond_both (memory_of d.memories q c == i) zero_block (p.block q k c) (ContextBlockFits d k) (λ _. zero_fits d k) (λ _. blocks.contexts q k c there below);
  }
