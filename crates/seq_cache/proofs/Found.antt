-- What a search finds in an ascending list, and what a change does at that place.
use Rattle.std.proofs.Common.{◌≡◌, ℕ, zero, suc, ◌<◌, ◌≤◌, true, List, [], ◌∷◌, length, get_or, set, length-set, Some, None, Result, Ok, Err, is_ok, is_some, IfOk, IfErr, inl, inr, refl, sym, ap, ◌∙◌, subst, arith}
use Rattle.std.specs.List.{AllWithin, HoldsAt, insert}
use Rattle.std.specs.List.Sorted.{IsSearchInRange, IsBinarySearchResult, IsNonDecreasingBy}
use Rattle.std.specs.Ordering.{nat_cmp, ordering_then, ordering_index}
use Rattle.std.specs.declared.cmp.Ordering.{Ordering}
use Rattle.std.specs.declared.cmp.Ordering.TheVariants.{Less, Equal, Greater}
use Rattle.std.proofs.lemmas.List.Edits.{length-insert}
use Rattle.std.proofs.lemmas.List.{get_or_default}
use Rattle.std.proofs.lemmas.Bool.{cases_order}
use Rattle.std.proofs.lemmas.Bool.Decides.{nat_tests}
use Rattle.seq_words.specs.Blocks.{zero_block}
use Rattle.seq_words.specs.declared.block.Block.{Block}
use Rattle.seq_cache.specs.declared.change.Change.{Change}
use Rattle.seq_cache.specs.Changes.{is_before, IsAscending, IsCache, change, changed, put}
use Rattle.seq_cache.specs.Standing as standing
use Rattle.seq_cache.proofs.Order.{rest_ascending, before_differs, differs_before, not_after}
use Rattle.seq_cache.proofs.Puts.{changed_before, put_ascending}

-- how a block compares with another
abbrev pub compared : ℕ → ℕ → ℕ → ℕ → Ordering
compared e n e' n' = ordering_then (nat_cmp e e') (nat_cmp n n')

compared_rise : (e n e' n' e'' n'' : ℕ) → is_before e n e' n' ≡ true → ordering_index (compared e n e'' n'') ≤ ordering_index (compared e' n' e'' n'')
compared_rise e n e' n' e'' n'' before = grind (arith, nat_tests)

compared_less : (e n e' n' : ℕ) → compared e n e' n' ≡ Less → is_before e n e' n' ≡ true
compared_less e n e' n' less = grind (arith, nat_tests)

compared_greater : (e n e' n' : ℕ) → compared e n e' n' ≡ Greater → is_before e' n' e n ≡ true
compared_greater e n e' n' greater = grind (arith, nat_tests)

compared_equal : (e n e' n' : ℕ) → compared e n e' n' ≡ Equal → (e ≡ e') × (n ≡ n')
compared_equal e n e' n' equal = (grind (arith, nat_tests), grind (arith, nat_tests))

-- place i has the change of block n of extent e
record StandsAt (cs : List Change) (e n i : ℕ) : Type 0 where
  pub inside : i < length cs
  pub extent : HoldsAt (λ c. c.extent.0 ≡ e) cs i
  pub place : HoldsAt (λ c. c.place ≡ n) cs i

-- all changes below place i come before block n of extent e, and all others after it
record IsGapFor (cs : List Change) (e n i : ℕ) : Type 0 where
  pub inside : i ≤ length cs
  pub below : AllWithin (λ c. is_before c.extent.0 c.place e n ≡ true) cs 0 i
  pub above : AllWithin (λ c. is_before e n c.extent.0 c.place ≡ true) cs i (length cs)

-- the rest of a list has the change one place lower
stands_in_rest : (c : Change) (cs : List Change) (e n i : ℕ) → StandsAt (c ∷ cs) e n (suc i) → StandsAt cs e n i
stands_in_rest c cs e n i at = record { inside = omega (arith, at.inside); extent = at.extent; place = at.place }

gap_in_rest : (c : Change) (cs : List Change) (e n i : ℕ) → IsGapFor (c ∷ cs) e n (suc i) → IsGapFor cs e n i
gap_in_rest c cs e n i gap = record {
  inside = omega (arith, gap.inside);
  below = λ k d low high. gap.below (suc k) d (omega arith) (omega arith);
  above = λ k d low high. gap.above (suc k) d (omega arith) (omega arith);
}

-- the first change comes before the one that stands further on
first_is_lower : (c : Change) (cs : List Change) (e n i : ℕ) → IsAscending (c ∷ cs) → StandsAt (c ∷ cs) e n (suc i) → is_before c.extent.0 c.place e n ≡ true
first_is_lower c cs e n i up at =
    let before = up.pairs 0 (suc i) c (omega arith) at.inside in
    subst (λ m. is_before c.extent.0 c.place m n ≡ true) (at.extent c) (subst (λ m. is_before c.extent.0 c.place (get_or cs i c).extent.0 m ≡ true) (at.place c) before)

-- a block is changed to what stands at its place
changed_at : (cs : List Change) (e n i : ℕ) (d : Change) → IsAscending cs → StandsAt cs e n i → changed cs e n ≡ Some (get_or cs i d).block
unfolding changed
changed_at [] e n i d up at = absurd (omega (arith, at.inside))
changed_at (c ∷ cs) e n zero d up at = grind (arith, nat_tests, at.extent d, at.place d)
changed_at (c ∷ cs) e n (suc i) d up at =
    rw (differs_before c.extent.0 c.place e n (first_is_lower c cs e n i up at)) (changed_at cs e n i d (rest_ascending c cs up) (stands_in_rest c cs e n i at))

-- a new change stands there
put_at : (cs : List Change) (e n i : ℕ) (b : Block) → IsAscending cs → StandsAt cs e n i → put e n b cs ≡ set cs i (change e n b)
unfolding put
put_at [] e n i b up at = absurd (omega (arith, at.inside))
put_at (c ∷ cs) e n zero b up at = grind (arith, nat_tests, at.extent c, at.place c)
put_at (c ∷ cs) e n (suc i) b up at =
    let lower = first_is_lower c cs e n i up at in
    rw (not_after c.extent.0 c.place e n lower, differs_before c.extent.0 c.place e n lower) (ap (λ l. c ∷ l) (put_at cs e n i b (rest_ascending c cs up) (stands_in_rest c cs e n i at)))

-- a block for which there is a gap is not changed
changed_in_gap : (cs : List Change) (e n i : ℕ) → IsGapFor cs e n i → changed cs e n ≡ None
unfolding changed
changed_in_gap [] e n i gap = refl
changed_in_gap (c ∷ cs) e n zero gap =
    rw (before_differs e n c.extent.0 c.place (gap.above 0 c (omega arith) (omega arith)))
    (changed_before cs e n (λ k d inside. gap.above (suc k) d (omega arith) (omega arith)))
changed_in_gap (c ∷ cs) e n (suc i) gap =
    rw (differs_before c.extent.0 c.place e n (gap.below 0 c (omega arith) (omega arith))) (changed_in_gap cs e n i (gap_in_rest c cs e n i gap))

-- its change goes into the gap
put_in_gap : (cs : List Change) (e n i : ℕ) (b : Block) → IsGapFor cs e n i → put e n b cs ≡ insert cs i (change e n b)
unfolding put
put_in_gap [] e n zero b gap = refl
put_in_gap [] e n (suc i) b gap = absurd (omega (arith, gap.inside))
put_in_gap (c ∷ cs) e n zero b gap = rw (gap.above 0 c (omega arith) (omega arith)) refl
put_in_gap (c ∷ cs) e n (suc i) b gap =
    let lower = gap.below 0 c (omega arith) (omega arith) in
    rw (not_after c.extent.0 c.place e n lower, differs_before c.extent.0 c.place e n lower) (ap (λ l. c ∷ l) (put_in_gap cs e n i b (gap_in_rest c cs e n i gap)))

module _ (cs : List Change) (up : IsAscending cs) (e n : ℕ) where
  -- comparisons with a block rise along the list, as a search by halving asks
  comparisons_rise : IsNonDecreasingBy (λ c. ordering_index (compared c.extent.0 c.place e n)) cs
  comparisons_rise i j d le inside = elim (cases_order i j) [
    | inl same ↦ let here : i ≡ j = same in rw here (omega arith)
    | inr (inl lt) ↦ compared_rise _ _ _ _ e n (up.pairs i j d lt inside)
    | inr (inr gt) ↦ absurd (omega arith)
  ]

  -- it ends at the change of the block, or where that would stand
  pub searched : (r : Result ℕ ℕ) → IsSearchInRange r (length cs) → IsBinarySearchResult (λ c. compared c.extent.0 c.place e n) cs r → record { variant : is_ok r ≡ is_some (changed cs e n); found : IfOk r (standing.StandsAt cs e n); absent : IfErr r (standing.IsGapFor cs e n) }
  searched (Ok at) inside equal =
      let stands : StandsAt cs e n at = record {
        inside = inside;
        extent = λ d. (compared_equal _ _ e n (equal d)).0;
        place = λ d. (compared_equal _ _ e n (equal d)).1;
      } in
      record {
        variant = rw (changed_at cs e n at (change e n zero_block) up stands) refl;
        found = record {
          inside = inside;
          extent = stands.extent;
          place = stands.place;
          block = λ none. changed_at cs e n at none up stands;
          put = λ b. put_at cs e n at b up stands;
        };
        absent = tt;
      }
  searched (Err at) inside parted =
      let gap : IsGapFor cs e n at = record {
        inside = inside;
        below = λ k d low high. compared_less _ _ e n ((parted comparisons_rise).0 k d low high);
        above = λ k d low high. compared_greater _ _ e n ((parted comparisons_rise).1 k d low high);
      } in
      record {
        variant = rw (changed_in_gap cs e n at gap) refl;
        found = tt;
        absent = record {
          inside = inside;
          block = changed_in_gap cs e n at gap;
          put = λ b. put_in_gap cs e n at b gap;
        };
      }

-- a change that is of a block stands there
pub stands : (cs : List Change) (e n i : ℕ) (c : Change) → IsAscending cs → i < length cs → get_or cs i c ≡ c → c.extent.0 ≡ e → c.place ≡ n → standing.StandsAt cs e n i
stands cs e n i c up inside there extent place =
    let here : (d : Change) → get_or cs i d ≡ c = λ d. get_or_default cs i d c inside ∙ there in
    let at : StandsAt cs e n i = record {
      inside = inside;
      extent = λ d. ap (λ (x : Change). x.extent.0) (here d) ∙ extent;
      place = λ d. ap (λ (x : Change). x.place) (here d) ∙ place;
    } in
    record {
      inside = inside;
      extent = at.extent;
      place = at.place;
      block = λ none. changed_at cs e n i none up at;
      put = λ b. put_at cs e n i b up at;
    }

-- and the block is changed
pub standing_is_changed : (cs : List Change) (e n i : ℕ) → standing.StandsAt cs e n i → is_some (changed cs e n) ≡ true
standing_is_changed cs e n i at = rw (at.block (change e n zero_block)) refl

-- a change that stands there is of the block still when it is changed further
pub changed_further : (cs : List Change) (e n i : ℕ) (c : Change) (b : Block) → standing.StandsAt cs e n i → get_or cs i c ≡ c → ◌≡◌ {A = Change} (record c { block = b }) (change e n b)
changed_further cs e n i c b at there =
    let extent : c.extent.0 ≡ e = ap (λ (x : Change). x.extent.0) (sym there) ∙ at.extent c in
    let place : c.place ≡ n = ap (λ (x : Change). x.place) (sym there) ∙ at.place c in
    let same : change c.extent.0 c.place b ≡ change e n b = cc in
    same

-- what is true of every cache stays true where a change replaces that of its block
pub replaced_fits : (capacity : ℕ) (cs : List Change) (e n i : ℕ) (b : Block) → IsCache (record { capacity = capacity; changes = cs }) → standing.StandsAt cs e n i → IsCache (record { capacity = capacity; changes = set cs i (change e n b) })
replaced_fits capacity cs e n i b is at = record {
  ascending = subst IsAscending (at.put b) (put_ascending cs e n b is.ascending);
  fits = omega (arith, length-set cs i (change e n b), is.fits);
  small = is.small;
}

-- and where that of a further block goes in, and there is room for it
pub inserted_fits : (capacity : ℕ) (cs : List Change) (e n i : ℕ) (b : Block) → IsCache (record { capacity = capacity; changes = cs }) → standing.IsGapFor cs e n i → length cs < capacity → IsCache (record { capacity = capacity; changes = insert cs i (change e n b) })
inserted_fits capacity cs e n i b is gap room = record {
  ascending = subst IsAscending (gap.put b) (put_ascending cs e n b is.ascending);
  fits = omega (arith, length-insert cs i (change e n b) gap.inside);
  small = is.small;
}
