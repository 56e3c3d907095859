-- The marks of changed blocks have hints, and keep them.
use Rattle.std.proofs.Common.{◌≡◌, ◌≢◌, ℕ, ◌+◌, ◌*◌, ◌%◌, ◌<◌, ◌⊎◌, true, false, ◌&&◌, List, [], length, get_or, set, Option, Some, None, is_some, inl, inr, refl, sym, ◌∙◌, subst, arith}
use Rattle.std.specs.Prelude.{◌==◌, insert}
use Rattle.std.proofs.lemmas.Bool.{cases_Bool, cases_eq, false≢true}
use Rattle.std.proofs.lemmas.Grind.{get_or-set_at}
use Rattle.std.proofs.lemmas.List.{get_or-set_other}
use Rattle.std.proofs.lemmas.Nat.{mod_below}
use Rattle.seq_words.specs.declared.block.Block.{Block}
use Rattle.seq_cache.specs.declared.change.Change.{Change}
use Rattle.seq_cache.specs.Changes.{change, changed, put}
use Rattle.seq_cache.specs.Marks.{mark_of, AreMarked}
use Rattle.seq_cache.specs.Standing.{StandsAt, IsGapFor}
use Rattle.seq_cache.proofs.Order.{same_block}
use Rattle.seq_cache.proofs.Puts.{changed-put}

pub mark_within : (e n : ℕ) → mark_of e n < 1024
mark_within e n = mod_below (97 * (e % 1024) + n % 1024) 1024 (omega arith)

-- a block whose mark has no hint isn't changed
pub unmarked : (cs : List Change) (hints : List ℕ) (e n : ℕ) → AreMarked cs hints → get_or hints (mark_of e n) 0 ≡ 0 → changed cs e n ≡ None
unmarked cs hints e n are out = go (changed cs e n) refl
  where
    go : (found : Option Block) → changed cs e n ≡ found → changed cs e n ≡ None
    go None is = is
    go (Some b) is = absurd (are.marked e n (rw is refl) out)

-- no block is changed
pub none_marked : (hints : List ℕ) → AreMarked [] hints
unfolding changed
none_marked hints = record { marked = λ e n some. absurd (false≢true some) }

-- what is changed after a put was changed before, unless it is the block
others : (cs : List Change) (e n : ℕ) (b : Block) (e' n' : ℕ) → (e' == e && n' == n) ≡ false → is_some (changed (put e n b cs) e' n') ≡ true → is_some (changed cs e' n') ≡ true
others cs e n b e' n' other some = rw (changed-put cs e n b e' n', other) at some

-- a block is changed, and its mark has a hint
pub put_marked : (cs : List Change) (hints : List ℕ) (e n : ℕ) (b : Block) (at : ℕ) → length hints ≡ 1024 → AreMarked cs hints → AreMarked (put e n b cs) (set hints (mark_of e n) (at + 1))
put_marked cs hints e n b at all are = record { marked = λ e' n' some. go e' n' (cases_eq (mark_of e' n') (mark_of e n)) some }
  where
    inside : mark_of e n < length hints
    inside = omega (arith, all, mark_within e n)

    other : (e' n' : ℕ) → mark_of e' n' ≢ mark_of e n → (e' == e && n' == n) ≡ false
    other e' n' differ = elim (cases_Bool (e' == e && n' == n)) [
      | inl same ↦ let is = same_block e' n' e n same in absurd (differ (rw (is.0, is.1) refl))
      | inr unlike ↦ unlike
    ]

    go : (e' n' : ℕ) → (mark_of e' n' ≡ mark_of e n) ⊎ (mark_of e' n' ≢ mark_of e n) → is_some (changed (put e n b cs) e' n') ≡ true → get_or (set hints (mark_of e n) (at + 1)) (mark_of e' n') 0 ≢ 0
    go e' n' (inl same) some = λ zero_is. let here = get_or-set_at hints (mark_of e n) (mark_of e' n') (at + 1) 0 same inside in absurd (omega (arith, here, zero_is))
    go e' n' (inr differ) some = λ zero_is. are.marked e' n' (others cs e n b e' n' (other e' n' differ) some) (sym (get_or-set_other hints (mark_of e n) (mark_of e' n') (at + 1) 0 differ) ∙ zero_is)

pub inserted_marked : (cs : List Change) (hints : List ℕ) (e n i : ℕ) (b : Block) (at : ℕ) → length hints ≡ 1024 → IsGapFor cs e n i → AreMarked cs hints → AreMarked (insert cs i (change e n b)) (set hints (mark_of e n) (at + 1))
inserted_marked cs hints e n i b at all gap are = subst (λ l. AreMarked l (set hints (mark_of e n) (at + 1))) (gap.put b) (put_marked cs hints e n b at all are)

pub replaced_marked : (cs : List Change) (hints : List ℕ) (e n i : ℕ) (b : Block) (at : ℕ) → length hints ≡ 1024 → StandsAt cs e n i → AreMarked cs hints → AreMarked (set cs i (change e n b)) (set hints (mark_of e n) (at + 1))
replaced_marked cs hints e n i b at all stands are = subst (λ l. AreMarked l (set hints (mark_of e n) (at + 1))) (stands.put b) (put_marked cs hints e n b at all are)
