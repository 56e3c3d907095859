-- A move of a processor that recovers nobody leaves the same processes, with their extents.
use Rattle.std.proofs.Common.{◌≡◌, ◌≢◌, ◌⊎◌, inl, inr, ℕ, suc, ◌<◌, Bool, true, false, ◌&&◌, ◌==◌, length, refl, ap, sym, ◌∙◌, subst, arith}
use Rattle.std.proofs.lemmas.Bool.{cases_eq, cond_both, false≢true, ne_eqb}
use Rattle.seq_words.specs.declared.block.Block.{Block}
use Rattle.seq_words.specs.declared.description.MachineDesc.{MachineDesc}
use Rattle.seq_layout.specs.Shapes.{shape_of, segment_extent}
use Rattle.seq_layout.specs.Copies.{Copies, serves, first_copy}
use Rattle.seq_turns.specs.declared.hand.Hand.{Hand}
use Rattle.seq_turns.specs.declared.hand.Hand.TheVariants as hand
use Rattle.seq_turns.specs.declared.hand.RecoveryAt.{RecoveryAt}
use Rattle.seq_turns.specs.Functions.{update}
use Rattle.seq_turns.specs.Machines.{Machine, Change, Move, words_after, blocks_after, copies_after, after_move}
use Rattle.seq_io.specs.Changes.Change.{Unchanged, To_word}
use Rattle.seq_turns.specs.Reading.{status_in, ruling, is_deserted, write_word}
use Rattle.seq_recover.specs.Reading.{names}
use Rattle.seq_turns.proofs.Functions.{update_same, update_other, copy_same, copy_other, copy_elsewhere}
use Rattle.seq_stands.proofs.Changes.{LeavesOthers, leaves_others, lock_leaves}
use Rattle.seq_stands.proofs.LockTurns.{OnlyOf}
use Rattle.seq_invariant.specs.BlockLeft.{way_of, HasToCopy, IsDeserted, IsRecovered, IsLeft}
use Rattle.seq_invariant.specs.BlockFrame.{IsWithin, KeepsLeft}

-- A change leaves the status words of all processes but q, and whom lock words name, but for q.
pub record LeavesNames (d : MachineDesc) (p : Copies) (q : ℕ) (change : Change) : Type 0 where
  pub status : LeavesOthers d q change
  pub names : (x t : ℕ) → x ≢ q → names d (copies_after change p) x t false ≡ names d p x t false

-- it changes no block
pub record IsQuiet (d : MachineDesc) (change : Change) : Type 0 where
  pub blocks : (f : ℕ → ℕ → Bool → Block) (e n : ℕ) (c : Bool) → blocks_after change f e n c ≡ f e n c
  pub within : (area : ℕ → Bool) → IsWithin d area change

pub unchanged_quiet : (d : MachineDesc) → IsQuiet d Unchanged
unchanged_quiet d = record { blocks = λ f e n c. refl; within = λ area. tt }

pub word_quiet : (d : MachineDesc) (p : Copies) (e n : ℕ) (c : Bool) (w : ℕ) → IsQuiet d (write_word d p e n c w)
word_quiet d p e n c w = cond_both (serves (shape_of d) p e c) (To_word e n c w) Unchanged (IsQuiet d)
    (λ _. record { blocks = λ f e' n' c'. refl; within = λ area. tt }) (λ _. unchanged_quiet d)

pub only_names : (d : MachineDesc) (p : Copies) (q : ℕ) (change : Change) → OnlyOf d q change → LeavesNames d p q change
only_names d p q change only = record {
  status = only.others;
  names = λ x t ne. ap (λ w. serves (shape_of d) p (segment_extent (shape_of d) t) false && (w == suc x)) (only.locks.word p.word t false);
}

-- a shadow of a lock word is written
pub shadow_names : (d : MachineDesc) (p : Copies) (q s w : ℕ) → LeavesNames d p q (write_word d p (segment_extent (shape_of d) s) 0 true w)
shadow_names d p q s w = record {
  status = leaves_others d q _ (lock_leaves d p s true w);
  names = λ x t ne. ap (λ y. serves (shape_of d) p (segment_extent (shape_of d) t) false && (y == suc x)) (primary_stays t);
}
  where
    primary_stays : (t : ℕ) → words_after (write_word d p (segment_extent (shape_of d) s) 0 true w) p.word (segment_extent (shape_of d) t) 0 false ≡ p.word (segment_extent (shape_of d) t) 0 false
    primary_stays t = cond_both (serves (shape_of d) p (segment_extent (shape_of d) s) true) (To_word (segment_extent (shape_of d) s) 0 true w) Unchanged
        (λ change. words_after change p.word (segment_extent (shape_of d) t) 0 false ≡ p.word (segment_extent (shape_of d) t) 0 false)
        (λ _. copy_other p.word (segment_extent (shape_of d) s) 0 true w (segment_extent (shape_of d) t) 0 false false≢true) (λ _. refl)

-- a primary of a lock word is written, that names nobody but q before and after
pub primary_names : (d : MachineDesc) (p : Copies) (q s w : ℕ) → (serves (shape_of d) p (segment_extent (shape_of d) s) false ≡ true → (x : ℕ) → x ≢ q → p.word (segment_extent (shape_of d) s) 0 false ≢ suc x) →
    ((x : ℕ) → x ≢ q → w ≢ suc x) → LeavesNames d p q (write_word d p (segment_extent (shape_of d) s) 0 false w)
primary_names d p q s w before after = record {
  status = leaves_others d q _ (lock_leaves d p s false w);
  names = λ x t ne. cond_both (serves (shape_of d) p (segment_extent (shape_of d) s) false) (To_word (segment_extent (shape_of d) s) 0 false w) Unchanged
      (λ change. names d (copies_after change p) x t false ≡ names d p x t false) (λ up. written x t ne up (cases_eq t s)) (λ _. refl);
}
  where
    one_more : (b c : Bool) → (b ≡ true → c ≡ false) → (b && c) ≡ false
    one_more true c h = h refl
    one_more false c h = refl

    written : (x t : ℕ) → x ≢ q → serves (shape_of d) p (segment_extent (shape_of d) s) false ≡ true → (t ≡ s) ⊎ (t ≡ s → ⊥) → names d (copies_after (To_word (segment_extent (shape_of d) s) 0 false w) p) x t false ≡ names d p x t false
    written x t ne up (inr other) = ap (λ y. serves (shape_of d) p (segment_extent (shape_of d) t) false && (y == suc x))
        (copy_elsewhere p.word (segment_extent (shape_of d) s) 0 false w (segment_extent (shape_of d) t) 0 false (λ e. other (let c : t ≡ s = omega (arith, e) in c)))
    written x t ne up (inl same) = subst (λ u. names d (copies_after (To_word (segment_extent (shape_of d) s) 0 false w) p) x u false ≡ names d p x u false) (sym same) (
        one_more _ _ (λ _. ap (λ y. y == suc x) (copy_same p.word (segment_extent (shape_of d) s) 0 false w) ∙ ne_eqb w (suc x) (after x ne))
        ∙ sym (one_more _ _ (λ up'. ne_eqb _ (suc x) (before up' x ne))))

-- the status that rules is what it was
pub ruling_stays : (d : MachineDesc) (p : Copies) (q x : ℕ) (change : Change) → LeavesOthers d q change → x < length d.processes → x ≢ q → ruling d (copies_after change p) x ≡ ruling d p x
ruling_stays d p q x change leaves lt ne = ap status_in (leaves.word p.word x (first_copy (shape_of d) p x) lt ne)

-- a hand that recovers nobody has nothing to copy
pub calm_done : (h : Hand) → ((x : RecoveryAt) → h ≡ hand.Recovering x → ⊥) → (x : RecoveryAt) (y : ℕ) (forward : Bool) → h ≡ hand.Recovering x → HasToCopy x y forward → ⊥
calm_done h calm x y forward k its = calm x k

-- A processor that has nothing to copy, before and after its move: it changes words of process q alone, which isn't left.
module _ (d : MachineDesc) (m : Machine) (p q : ℕ) (move : Move) (now_done : (x : RecoveryAt) (y : ℕ) (forward : Bool) → m.hand p ≡ hand.Recovering x → HasToCopy x y forward → ⊥) (next_done : (x : RecoveryAt) (y : ℕ) (forward : Bool) → move.hand ≡ hand.Recovering x → HasToCopy x y forward → ⊥)
    (leaves : LeavesNames d m.copies q move.change) (not_before : (forward : Bool) → IsLeft d m q forward → ⊥) (not_after : (forward : Bool) → IsDeserted d (after_move p move m) q forward → ⊥) where
  abbrev n : Machine
  n = after_move p move m

  recovered_before : (x : ℕ) (forward : Bool) → IsRecovered d n x forward → IsRecovered d m x forward
  recovered_before x forward h = record { inside = h.inside; processor = h.processor; at = h.at; hand = go (cases_eq h.processor p); copies = h.copies }
    where
      go : (h.processor ≡ p) ⊎ (h.processor ≡ p → ⊥) → m.hand h.processor ≡ hand.Recovering h.at
      go (inl e) = absurd (next_done h.at x forward (sym (update_same m.hand p move.hand) ∙ ap (update m.hand p move.hand) (sym e) ∙ h.hand) h.copies)
      go (inr ne) = sym (update_other m.hand p move.hand h.processor ne) ∙ h.hand

  recovered_after : (x : ℕ) (forward : Bool) → IsRecovered d m x forward → IsRecovered d n x forward
  recovered_after x forward h = record {
    inside = h.inside;
    processor = h.processor;
    at = h.at;
    hand = update_other m.hand p move.hand h.processor (λ e. now_done h.at x forward (ap m.hand (sym e) ∙ h.hand) h.copies) ∙ h.hand;
    copies = h.copies;
  }

  before : (x : ℕ) (forward : Bool) → IsLeft d n x forward → IsLeft d m x forward
  before x forward (inr h) = inr (recovered_before x forward h)
  before x forward (inl h) = go (cases_eq x q)
    where
      go : (x ≡ q) ⊎ (x ≡ q → ⊥) → IsLeft d m x forward
      go (inl e) = absurd (not_after forward (subst (λ y. IsDeserted d n y forward) e h))
      go (inr ne) =
          let same : ruling d n.copies x ≡ ruling d m.copies x = ruling_stays d m.copies q x move.change leaves.status h.inside ne in
          inl (record { inside = h.inside; deserted = ap (is_deserted m.incarnation) (sym same) ∙ h.deserted; way = ap way_of (sym same) ∙ h.way })

  still : (x : ℕ) (forward : Bool) → IsLeft d m x forward → IsLeft d n x forward
  still x forward (inr h) = inr (recovered_after x forward h)
  still x forward (inl h) =
      let ne : x ≢ q = λ e. not_before forward (subst (λ y. IsLeft d m y forward) e (inl h)) in
      let same : ruling d n.copies x ≡ ruling d m.copies x = ruling_stays d m.copies q x move.change leaves.status h.inside ne in
      inl (record { inside = h.inside; deserted = ap (is_deserted m.incarnation) same ∙ h.deserted; way = ap way_of same ∙ h.way })

  pub keeps_left : KeepsLeft d m (after_move p move m)
  keeps_left = record {
    before = before;
    still = still;
    names = λ x t forward h. leaves.names x t (λ e. not_before forward (subst (λ y. IsLeft d m y forward) e h));
  }
