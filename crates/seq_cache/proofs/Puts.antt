-- What a change does to a list of changes.
use Rattle.std.proofs.Common.{◌≡◌, ℕ, zero, suc, ◌+◌, ◌<◌, Bool, true, false, ◌&&◌, ◌==◌, if◌then◌else◌, All, List, [], ◌∷◌, ◌++◌, length, get_or, Some, None, is_some, Contains, inl, inr, refl, subst, arith}
use Rattle.std.proofs.lemmas.Bool.Decides.{nat_tests}
use Rattle.std.proofs.lemmas.Bool.{cases_Bool, cond_both}
use Rattle.std.proofs.lemmas.List.Elements.{All-nil, All-cons, All-head, All-tail}
use Rattle.seq_words.specs.declared.block.Block.{Block}
use Rattle.seq_cache.specs.declared.change.Change.{Change}
use Rattle.seq_cache.specs.Changes.{is_before, IsAscending, change, changed, put}
use Rattle.seq_cache.proofs.Order.{AllAfter, before_cases, before_differs, differs_before, same_block, after_first, rest_ascending, cons_ascending, after_cons, after_same}

-- what holds both ways of a choice
either_way : (P : List Change → Type 0) (test : Bool) (x y : List Change) → P x → P y → P (if test then x else y)
either_way P true x y p q = p
either_way P false x y p q = q

-- a change is seen at its block, and no other block is seen otherwise
pub changed-put : (cs : List Change) (e n : ℕ) (b : Block) (e' n' : ℕ) → changed (put e n b cs) e' n' ≡ (if e' == e && n' == n then Some b else changed cs e' n')
unfolding changed put
changed-put [] e n b e' n' = grind (arith, nat_tests)
changed-put (c ∷ cs) e n b e' n' = grind (arith, nat_tests, changed-put cs e n b e' n')

-- the first change of a list, and the rest
pub changed-cons : (c : Change) (cs : List Change) (e n : ℕ) → changed (c ∷ cs) e n ≡ (if c.extent.0 == e && c.place == n then Some c.block else changed cs e n)
unfolding changed
changed-cons c cs e n = refl

-- of two lists, one after the other, the first is asked first
pub changed-append : (cs ds : List Change) (e n : ℕ) → changed (cs ++ ds) e n ≡ (if is_some (changed cs e n) then changed cs e n else changed ds e n)
unfolding changed
changed-append [] ds e n = refl
changed-append (c ∷ cs) ds e n = grind (arith, nat_tests, changed-append cs ds e n)

-- what is true of the new change and of each other stays true of each
pub All-put : (P : Change → Type 0) (cs : List Change) (e n : ℕ) (b : Block) → P (change e n b) → All P cs → All P (put e n b cs)
unfolding put
All-put P [] e n b new all = All-cons P (change e n b) [] new all
All-put P (c ∷ cs) e n b new all =
    let rest : All P cs = All-tail P c cs all in
    either_way (All P) (is_before e n c.extent.0 c.place) (change e n b ∷ c ∷ cs) _
    (All-cons P (change e n b) (c ∷ cs) new all)
    (either_way (All P) (c.extent.0 == e && c.place == n) (change e n b ∷ cs) (c ∷ put e n b cs)
    (All-cons P (change e n b) cs new rest)
    (All-cons P c (put e n b cs) (All-head P c cs all) (All-put P cs e n b new rest)))

-- the order stays
pub put_ascending : (cs : List Change) (e n : ℕ) (b : Block) → IsAscending cs → IsAscending (put e n b cs)
unfolding put
put_ascending [] e n b up = cons_ascending (change e n b) [] (All-nil (λ d. is_before e n d.extent.0 d.place ≡ true)) up
put_ascending (c ∷ cs) e n b up =
    let after = after_first c cs up in
    let rest = rest_ascending c cs up in
    cond_both (is_before e n c.extent.0 c.place) (change e n b ∷ c ∷ cs) _ IsAscending
    (λ before. cons_ascending (change e n b) (c ∷ cs) (after_cons e n c cs before after) up)
    (λ not_before.
    cond_both (c.extent.0 == e && c.place == n) (change e n b ∷ cs) (c ∷ put e n b cs) IsAscending
    (λ same. cons_ascending (change e n b) cs (after_same e n c cs same after) rest)
    (λ other. cons_ascending c (put e n b cs) (All-put (λ d. is_before c.extent.0 c.place d.extent.0 d.place ≡ true) cs e n b (before_cases e n c.extent.0 c.place not_before other) after) (put_ascending cs e n b rest)))

-- a block that comes before all changes has none
pub changed_before : (cs : List Change) (e n : ℕ) → AllAfter e n cs → changed cs e n ≡ None
unfolding changed
changed_before [] e n after = refl
changed_before (c ∷ cs) e n after =
    let P : Change → Type 0 = λ d. is_before e n d.extent.0 d.place ≡ true in
    let other = before_differs e n c.extent.0 c.place (All-head P c cs after) in
    rw other (changed_before cs e n (All-tail P c cs after))

-- there is one change more exactly where the block wasn't changed before
pub length-put : (cs : List Change) (e n : ℕ) (b : Block) → IsAscending cs → length (put e n b cs) ≡ (if is_some (changed cs e n) then length cs else length cs + 1)
unfolding changed put
length-put [] e n b up = refl
length-put (c ∷ cs) e n b up =
    cond_both (is_before e n c.extent.0 c.place) (change e n b ∷ c ∷ cs) _ (λ new. length new ≡ (if is_some (changed (c ∷ cs) e n) then suc (length cs) else suc (length cs) + 1))
    (λ before. rw (changed_before (c ∷ cs) e n (after_cons e n c cs before (after_first c cs up))) (omega arith))
    (λ not_before. grind (arith, nat_tests, length-put cs e n b (rest_ascending c cs up)))

-- a changed block is in the list
pub listed_from_changed : (cs : List Change) (e n : ℕ) (b : Block) → changed cs e n ≡ Some b → Contains cs (change e n b)
unfolding changed
listed_from_changed [] e n b found = absurd (cc)
listed_from_changed (c ∷ cs) e n b found = elim (cases_Bool (c.extent.0 == e && c.place == n)) [
  | inl same ↦
      let is = same_block c.extent.0 c.place e n same in
      let block : Some c.block ≡ Some b = rw same at found in
      let it : change c.extent.0 c.place c.block ≡ change e n b = cc in
      (0, omega arith, it)
  | inr other ↦
      let later : changed cs e n ≡ Some b = rw other at found in
      let at = listed_from_changed cs e n b later in
      (suc at.0, omega arith, at.2)
]

-- each change of an ascending list is seen at its block
pub changed_from_listed : (cs : List Change) (e n : ℕ) (b : Block) → IsAscending cs → Contains cs (change e n b) → changed cs e n ≡ Some b
unfolding changed
changed_from_listed [] e n b up (k, inside, is) = absurd (omega arith)
changed_from_listed (c ∷ cs) e n b up (zero, inside, is) = grind (arith, nat_tests)
changed_from_listed (c ∷ cs) e n b up (suc k, inside, is) =
    let x = change e n b in
    let later = changed_from_listed cs e n b (rest_ascending c cs up) (k, omega arith, is) in
    let before : is_before c.extent.0 c.place e n ≡ true = subst (λ (d : Change). is_before c.extent.0 c.place d.extent.0 d.place ≡ true) is (after_first c cs up k x (omega arith)) in
    rw (differs_before c.extent.0 c.place e n before) later

-- the same of the change at a place of the list
pub changed_entry : (cs : List Change) (c : Change) (i : ℕ) → IsAscending cs → i < length cs → get_or cs i c ≡ c → changed cs c.extent.0 c.place ≡ Some c.block
changed_entry cs c i up inside is = changed_from_listed cs c.extent.0 c.place c.block up (i, inside, is)
