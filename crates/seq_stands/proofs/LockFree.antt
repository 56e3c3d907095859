-- A process that may be claimed is one whose claim isn't refused at once.
use Rattle.std.proofs.Common.{◌≡◌, ◌⊎◌, inl, inr, true, false, sym, ◌∙◌, refl}
use Rattle.std.proofs.lemmas.Bool.{cond-true, cond-false, cases_Bool, eq-eqb, and_parts}
use Rattle.seq_layout.specs.Shapes.{shape_of}
use Rattle.seq_layout.specs.Copies.{serves}
use Rattle.seq_locks.specs.Turns.{is_taken}
use Rattle.seq_turns.specs.Reading.{status_word}
use Rattle.seq_stands.specs.Words.{words_of, view_of, IsFree}
use Rattle.seq_stands.proofs.Readings.{idle_is_free}
use Rattle.seq_stands.specs.LockClaims.{FreeIsUntaken}

pub free_is_untaken : FreeIsUntaken
free_is_untaken d m q st inside t = go (cases_Bool (serves (shape_of d) m.copies q false))
  where
    free : IsFree (view_of d m.copies q)
    free = idle_is_free d m.copies (words_of d m) q refl (st.words.served q) (and_parts _ _ t).0 (st.words.ruled q inside)

    go : (serves (shape_of d) m.copies q false ≡ true) ⊎ (serves (shape_of d) m.copies q false ≡ false) → is_taken (shape_of d) m.copies (status_word q) false ≡ false
    go (inl up) = cond-true _ _ _ up ∙ cond-true _ _ _ (eq-eqb (m.copies.word q 0 false) 0 (sym (cond-true _ _ _ up) ∙ sym (cond-true _ _ _ up) ∙ free.free))
    go (inr away) = cond-false _ _ _ away
