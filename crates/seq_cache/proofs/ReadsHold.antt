-- What is read through a cache follows what is read from first copies.
use Rattle.std.proofs.Common.{◌≡◌, ℕ, Bool, true, false, not, List, unwrap_or, ap, ◌∙◌}
use Rattle.seq_words.specs.declared.block.Block.{Block}
use Rattle.seq_layout.specs.Shapes.{Shape}
use Rattle.seq_layout.specs.Copies.{Copies, first_copy, first_block, with_state, block_written, word_written, failed}
use Rattle.seq_layout.proofs.CopiesWritten.{word_states, word_blocks}
use Rattle.seq_layout.proofs.FirstCopies.{serves_still, state_is_read_by, failure_is_read_by, written_elsewhere}
use Rattle.seq_cache.specs.declared.change.Change.{Change}
use Rattle.seq_cache.specs.Changes.{changed}
use Rattle.seq_cache.specs.Overlay.{overlay}
use Rattle.seq_cache.specs.Reads.{ChangesAreReadFirst, ReadsFollowFirstCopies, ReadsStayAtEachChange}

pub changes_are_read_first : ChangesAreReadFirst
unfolding overlay
changes_are_read_first s p cs e n = (
  λ b is. ap (λ found. unwrap_or found (first_block s p e n)) is,
  λ none. ap (λ found. unwrap_or found (first_block s p e n)) none,
)

-- the same changes over the same block
pub overlay_over : (s : Shape) (q : Copies) (cs : List Change) (e n : ℕ) (b : Block) → first_block s q e n ≡ b → overlay s q cs e n ≡ unwrap_or (changed cs e n) b
unfolding overlay
overlay_over s q cs e n b same = ap (unwrap_or (changed cs e n)) same

overlay_still : (s : Shape) (p q : Copies) (cs : List Change) (e n : ℕ) → first_block s q e n ≡ first_block s p e n → overlay s q cs e n ≡ overlay s p cs e n
unfolding overlay
overlay_still s p q cs e n same = ap (unwrap_or (changed cs e n)) same

pub reads_follow_first_copies : ReadsFollowFirstCopies
reads_follow_first_copies s p q cs e n = (
  λ as_before. overlay_still s p q cs e n (as_before.block n),
  λ c from. overlay_over s q cs e n (p.block e n c) (from.block n),
)

-- a word is no block
first_after_word : (s : Shape) (p : Copies) (e n : ℕ) (c : Bool) (w e' n' : ℕ) → first_block s (word_written s p e n c w) e' n' ≡ first_block s p e' n'
first_after_word s p e n c w e' n' =
    ap ((word_written s p e n c w).block e' n') (ap not (serves_still s p (word_written s p e n c w) e' false (word_states s p e n c w)))
    ∙ ap (λ blocks. blocks e' n' (first_copy s p e')) (word_blocks s p e n c w)

pub reads_stay_at_each_change : ReadsStayAtEachChange
reads_stay_at_each_change s p cs = record {
  block = λ e n c b e' n' other. overlay_still s p (block_written s p e n c b) cs e' n' (((written_elsewhere s p e n c e' other).0 b).block n');
  word = λ e n c w e' n'. overlay_still s p (word_written s p e n c w) cs e' n' (first_after_word s p e n c w e' n');
  state = λ k now e n same. overlay_still s p (with_state p k now) cs e n (((state_is_read_by s p k now).same_service same e).block n);
  primary = λ k e n two there serving. overlay_still s p (failed s p k) cs e n (((failure_is_read_by s p k two).primary_serves e there serving).block n);
  shadow = λ k e n two here. overlay_over s (failed s p k) cs e n (p.block e n true) (((failure_is_read_by s p k two).primary_lost e here).block n);
}
