-- What is read of the extents under each change: from the copy that is the first one then.
use Rattle.std.proofs.Common.{◌≡◌, ◌≢◌, ℕ, ◌≤◌, Bool, true, false, not, refl, sym, ap, ◌∙◌, inl, inr}
use Rattle.std.proofs.lemmas.Bool.{cases_Bool, cases_eq, false≢true, eq-eqb, or_parts}
use Rattle.seq_words.specs.declared.block.Block.{Block}
use Rattle.seq_memory.specs.States.{is_in_service}
use Rattle.seq_memory.specs.declared.element.State.{State}
use Rattle.seq_layout.specs.Places.{memory_of, keeps, IsSamePart}
use Rattle.seq_layout.specs.Shapes.{Shape}
use Rattle.seq_layout.specs.Copies.{Copies, serves, first_copy, with_block, with_word, with_state, block_written, word_written, failed, ChangesBlock, ChangesWord}
use Rattle.seq_layout.specs.Firsts.{IsReadAsBefore, IsReadFrom, ReadsBlock, ReadsWord, ReadsState, ReadsFailure, BlockIsReadAlone, WordIsReadAlone, StateIsReadBy, FailureIsReadBy, WrittenElsewhere}
use Rattle.seq_layout.proofs.Apart.{copies_apart}
use Rattle.seq_layout.proofs.CopiesLaws.{block_changes_alone, word_changes_alone, state_changes_alone, memory_fails_alone}
use Rattle.seq_layout.proofs.CopiesWritten.{after_block, after_word}

-- a copy serves by the state of its memory
pub serves_by_state : (s : Shape) (p q : Copies) (e : ℕ) (c : Bool) → q.state (memory_of s.memories e c) ≡ p.state (memory_of s.memories e c) → serves s q e c ≡ serves s p e c
serves_by_state s p q e c same = ap is_in_service same

-- where all states are as before, each copy serves as before
pub serves_still : (s : Shape) (p q : Copies) (e : ℕ) (c : Bool) → q.state ≡ p.state → serves s q e c ≡ serves s p e c
serves_still s p q e c same = ap (λ states. is_in_service (states (memory_of s.memories e c))) same

-- an extent that is read from the copy from which it was, and that holds what it held
pub read_as_before :
    (s : Shape) (p q : Copies) (e : ℕ) → first_copy s q e ≡ first_copy s p e → serves s q e (first_copy s p e) ≡ serves s p e (first_copy s p e) →
    ((n : ℕ) → q.block e n (first_copy s p e) ≡ p.block e n (first_copy s p e)) → ((n : ℕ) → q.word e n (first_copy s p e) ≡ p.word e n (first_copy s p e)) → IsReadAsBefore s p q e
read_as_before s p q e first served blocks words = record {
  served = ap (serves s q e) first ∙ served;
  block = λ n. ap (q.block e n) first ∙ blocks n;
  word = λ n. ap (q.word e n) first ∙ words n;
}

pub read_itself : (s : Shape) (p : Copies) (e : ℕ) → IsReadAsBefore s p p e
read_itself s p e = record { served = refl; block = λ n. refl; word = λ n. refl }

-- an extent is read from this copy, where it is the first one and holds what it held
pub read_from : (s : Shape) (p q : Copies) (e : ℕ) (c : Bool) → first_copy s q e ≡ c → ((n : ℕ) → q.block e n c ≡ p.block e n c) → ((n : ℕ) → q.word e n c ≡ p.word e n c) → IsReadFrom s p q e c
read_from s p q e c first blocks words = record {
  first = first;
  block = λ n. ap (q.block e n) first ∙ blocks n;
  word = λ n. ap (q.word e n) first ∙ words n;
}

-- A copy of a block, or of a word, is changed.
module _ (s : Shape) (p q : Copies) (e n : ℕ) (c : Bool) where
  module _ (b : Block) (h : ChangesBlock p q e n c b) where
    block_elsewhere : (e' n' : ℕ) → ¬ (IsSamePart e n c e' n' (first_copy s p e')) → q.block e' n' (first_copy s p e') ≡ p.block e' n' (first_copy s p e')
    block_elsewhere e' n' other = h.elsewhere e' n' (first_copy s p e') other

    block_read_as_before : (e' : ℕ) → ((n' : ℕ) → ¬ (IsSamePart e n c e' n' (first_copy s p e'))) → IsReadAsBefore s p q e'
    block_read_as_before e' other =
        read_as_before s p q e' (ap not (serves_still s p q e' false h.states)) (serves_still s p q e' (first_copy s p e') h.states)
        (λ n'. block_elsewhere e' n' (other n')) (λ n'. ap (λ words. words e' n' (first_copy s p e')) h.words)

    pub reads_block : ReadsBlock s p q e n c b
    reads_block = record {
      here = λ first. ap (q.block e n) (ap not (serves_still s p q e false h.states) ∙ sym first) ∙ h.here;
      other_copy = λ second. block_read_as_before e (λ n' same. second same.copy);
      other_block = λ n' other. ap (q.block e n') (ap not (serves_still s p q e false h.states)) ∙ block_elsewhere e n' (λ same. other (sym same.part));
      words = λ n'. ap (q.word e n') (ap not (serves_still s p q e false h.states)) ∙ ap (λ words. words e n' (first_copy s p e)) h.words;
      other_extent = λ e' other. block_read_as_before e' (λ n' same. other (sym same.extent));
    }

  module _ (w : ℕ) (h : ChangesWord p q e n c w) where
    word_elsewhere : (e' n' : ℕ) → ¬ (IsSamePart e n c e' n' (first_copy s p e')) → q.word e' n' (first_copy s p e') ≡ p.word e' n' (first_copy s p e')
    word_elsewhere e' n' other = h.elsewhere e' n' (first_copy s p e') other

    word_read_as_before : (e' : ℕ) → ((n' : ℕ) → ¬ (IsSamePart e n c e' n' (first_copy s p e'))) → IsReadAsBefore s p q e'
    word_read_as_before e' other =
        read_as_before s p q e' (ap not (serves_still s p q e' false h.states)) (serves_still s p q e' (first_copy s p e') h.states)
        (λ n'. ap (λ blocks. blocks e' n' (first_copy s p e')) h.blocks) (λ n'. word_elsewhere e' n' (other n'))

    pub reads_word : ReadsWord s p q e n c w
    reads_word = record {
      here = λ first. ap (q.word e n) (ap not (serves_still s p q e false h.states) ∙ sym first) ∙ h.here;
      other_copy = λ second. word_read_as_before e (λ n' same. second same.copy);
      other_word = λ n' other. ap (q.word e n') (ap not (serves_still s p q e false h.states)) ∙ word_elsewhere e n' (λ same. other (sym same.part));
      blocks = λ n'. ap (q.block e n') (ap not (serves_still s p q e false h.states)) ∙ ap (λ blocks. blocks e n' (first_copy s p e)) h.blocks;
      other_extent = λ e' other. word_read_as_before e' (λ n' same. other (sym same.extent));
    }

pub block_is_read_alone : BlockIsReadAlone
block_is_read_alone s p e n c b = reads_block s p (with_block p e n c b) e n c b (block_changes_alone p e n c b)

pub word_is_read_alone : WordIsReadAlone
word_is_read_alone s p e n c w = reads_word s p (with_word p e n c w) e n c w (word_changes_alone p e n c w)

pub written_elsewhere : WrittenElsewhere
written_elsewhere s p e n c e' other = (
  λ b. after_block (λ q. IsReadAsBefore s p q e') s p e n c b ((block_is_read_alone s p e n c b).other_extent e' other) (read_itself s p e'),
  λ w. after_word (λ q. IsReadAsBefore s p q e') s p e n c w ((word_is_read_alone s p e n c w).other_extent e' other) (read_itself s p e'),
)

-- an extent of which a memory keeps no copy
pub not_kept : (m k e : ℕ) (c : Bool) → keeps m k e ≡ false → memory_of m e c ≢ k
not_kept m k e false none here = false≢true (sym (or_parts _ _ none).0 ∙ eq-eqb _ _ here)
not_kept m k e true none here = false≢true (sym (or_parts _ _ none).1 ∙ eq-eqb _ _ here)

-- The state of a memory is changed.
module _ (s : Shape) (p : Copies) (k : ℕ) (now : State) where
  abbrev q : Copies
  q = with_state p k now

  -- the copies on the memory serve by the new state, and all others as before
  pub state_serves_here : (e : ℕ) (c : Bool) → memory_of s.memories e c ≡ k → serves s (with_state p k now) e c ≡ is_in_service now
  state_serves_here e c here = ap (λ i. is_in_service (q.state i)) here ∙ ap is_in_service (state_changes_alone p k now).here

  pub state_serves_there : (e : ℕ) (c : Bool) → memory_of s.memories e c ≢ k → serves s (with_state p k now) e c ≡ serves s p e c
  state_serves_there e c there = ap is_in_service ((state_changes_alone p k now).elsewhere (memory_of s.memories e c) there)

  -- where the memory serves as before, so does every copy
  pub state_serves_still : is_in_service now ≡ is_in_service (p.state k) → (e : ℕ) (c : Bool) → serves s (with_state p k now) e c ≡ serves s p e c
  state_serves_still same e c = elim (cases_eq (memory_of s.memories e c) k) [
    | inl here ↦ state_serves_here e c here ∙ same ∙ ap (λ i. is_in_service (p.state i)) (sym here)
    | inr there ↦ state_serves_there e c there
  ]

  block_still : (e n : ℕ) (c : Bool) → (with_state p k now).block e n c ≡ p.block e n c
  block_still e n c = ap (λ blocks. blocks e n c) (state_changes_alone p k now).blocks

  word_still : (e n : ℕ) (c : Bool) → (with_state p k now).word e n c ≡ p.word e n c
  word_still e n c = ap (λ words. words e n c) (state_changes_alone p k now).words

  from : (e : ℕ) (c : Bool) → first_copy s (with_state p k now) e ≡ c → IsReadFrom s p (with_state p k now) e c
  from e c first = read_from s p q e c first (λ n. block_still e n c) (λ n. word_still e n c)

  still : (e : ℕ) → ((c : Bool) → serves s (with_state p k now) e c ≡ serves s p e c) → IsReadAsBefore s p (with_state p k now) e
  still e serve = read_as_before s p q e (ap not (serve false)) (serve (first_copy s p e)) (λ n. block_still e n (first_copy s p e)) (λ n. word_still e n (first_copy s p e))

  reads_state : ReadsState s p (with_state p k now) k now
  reads_state = record {
    primary_in = λ e here serving. from e false (ap not (state_serves_here e false here ∙ serving));
    primary_out = λ e here out. from e true (ap not (state_serves_here e false here ∙ out));
    other_primary = λ e there. from e (first_copy s p e) (ap not (state_serves_there e false there));
    elsewhere = λ e none. still e (λ c. state_serves_there e c (not_kept s.memories k e c none));
    same_service = λ same e. still e (state_serves_still same e);
  }

pub state_is_read_by : StateIsReadBy
state_is_read_by s p k now = reads_state s p k now

-- A memory fails.
module _ (s : Shape) (p : Copies) (k : ℕ) where
  -- no copy on it serves, and all others serve as before
  pub lost_serves : (e : ℕ) (c : Bool) → memory_of s.memories e c ≡ k → serves s (failed s p k) e c ≡ false
  lost_serves e c here = ap (λ i. is_in_service ((failed s p k).state i)) here ∙ ap is_in_service (memory_fails_alone s p k).down

  pub kept_serves : (e : ℕ) (c : Bool) → memory_of s.memories e c ≢ k → serves s (failed s p k) e c ≡ serves s p e c
  kept_serves e c there = ap is_in_service ((memory_fails_alone s p k).states (memory_of s.memories e c) there)

  kept_as_before : (e : ℕ) → memory_of s.memories e false ≢ k → memory_of s.memories e (first_copy s p e) ≢ k → IsReadAsBefore s p (failed s p k) e
  kept_as_before e primary first =
      read_as_before s p (failed s p k) e (ap not (kept_serves e false primary)) (kept_serves e (first_copy s p e) first)
      (λ n. (memory_fails_alone s p k).blocks e n (first_copy s p e) first) (λ n. (memory_fails_alone s p k).words e n (first_copy s p e) first)

  shadow_apart : 2 ≤ s.memories → (e : ℕ) → memory_of s.memories e false ≡ k → memory_of s.memories e true ≢ k
  shadow_apart two e primary shadow = copies_apart s.memories e two (primary ∙ sym shadow)

  reads_failure : 2 ≤ s.memories → ReadsFailure s p (failed s p k) k
  reads_failure two = record {
    primary_lost = λ e here. read_from s p (failed s p k) e true (ap not (lost_serves e false here))
        (λ n. (memory_fails_alone s p k).blocks e n true (shadow_apart two e here)) (λ n. (memory_fails_alone s p k).words e n true (shadow_apart two e here));
    served = λ e here. kept_serves e true (shadow_apart two e here);
    primary_serves = λ e there serving. kept_as_before e there (λ here. there (ap (λ c. memory_of s.memories e (not c)) (sym serving) ∙ here));
    elsewhere = λ e none. kept_as_before e (not_kept s.memories k e false none) (not_kept s.memories k e (first_copy s p e) none);
  }

pub failure_is_read_by : FailureIsReadBy
failure_is_read_by s p k two = reads_failure s p k two
