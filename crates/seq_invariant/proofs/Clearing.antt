-- The turns of a recovery that clear lock words, and those that close it: all is copied, so the process isn't left.
use Rattle.std.proofs.Common.{◌≡◌, ℕ, ◌+◌, ◌/◌, ◌<◌, Bool, true, false, not, ◌==◌, if◌then◌else◌, Option, Some, None, suc, List, length, refl, ap, sym, ◌∙◌, subst, arith}
use Rattle.std.proofs.lemmas.Bool.{cond_both, cond-true, and_parts, eqb-true, false≢true}
use Rattle.seq_words.specs.Masks.{has_bit}
use Rattle.seq_words.specs.Description.{IsDescription}
use Rattle.seq_words.specs.declared.description.MachineDesc.{MachineDesc}
use Rattle.seq_words.specs.declared.events.Event.{Event}
use Rattle.seq_layout.specs.Shapes.{shape_of, segment_extent}
use Rattle.seq_layout.specs.Copies.{serves}
use Rattle.seq_turns.specs.declared.hand.Hand.TheVariants as hand
use Rattle.seq_recover.specs.declared.recovery.Recovery.{Recovery}
use Rattle.seq_recover.specs.declared.recovery.Locks as locks_stage
use Rattle.seq_recover.specs.declared.recovery.Closing as closing_stage
use Rattle.seq_turns.specs.declared.hand.RecoveryAt.{RecoveryAt}
use Rattle.seq_turns.specs.declared.hand.RecoveryAt.TheVariants as recovery
use Rattle.seq_turns.specs.Machines.{Machine, Change, Move, copies_after, after_move}
use Rattle.seq_turns.specs.Machines.Turn.{Moves}
use Rattle.seq_io.specs.Changes.Change.{Unchanged, To_word}
use Rattle.seq_turns.specs.Reading.{context_of, write_word}
use Rattle.seq_turns.specs.Operations.{goes}
use Rattle.seq_recover.specs.Reading.{names, is_shadow, left_from}
use Rattle.seq_recover.specs.Turns.{into_stage}
use Rattle.seq_turns.specs.Recoveries.{after_clearing, locks_cleared, locks_move, closing_move}
use Rattle.seq_turns.proofs.Functions.{update_same}
use Rattle.seq_recover.proofs.LeftFrom.{left_passes}
use Rattle.seq_stands.specs.Grips.{grip}
use Rattle.seq_stands.specs.Grips.Grip.{On}
use Rattle.seq_stands.specs.Words.{words_of, view_of, ruling, AllUp, IsDeserted, GripHolds, WordsStand}
use Rattle.seq_stands.proofs.Changes.{view_primary}
use Rattle.seq_stands.proofs.Gripped.{process_of, recovery_stage, all_recovered}
use Rattle.seq_stands.proofs.LockTurns.{only_unchanged, only_status}
use Rattle.seq_stands.proofs.Numbers.{word_taken}
use Rattle.seq_cache.specs.Changes.{IsCache}
use Rattle.seq_invariant.specs.BlockApart.{owners_of}
use Rattle.seq_invariant.specs.BlockHands.{RecoveryKnows}
use Rattle.seq_invariant.specs.BlockWorks.{Committed}
use Rattle.seq_invariant.specs.BlockLeft as left
use Rattle.seq_invariant.specs.BlockLeft.{HasToCopy, IsLeft}
use Rattle.seq_invariant.specs.BlockTurns.{AfterMove}
use Rattle.seq_invariant.specs.Holds.{Holds}
use Rattle.seq_invariant.proofs.Left.{deserted_word, gripped_is_alive}
use Rattle.seq_invariant.proofs.Kept.{LeavesNames, IsQuiet, unchanged_quiet, word_quiet, only_names, shadow_names, primary_names, keeps_left}
use Rattle.seq_invariant.proofs.Moved.{TurnMade, quiet_made}
use Rattle.seq_invariant.proofs.Stopped.{not_left}
use Rattle.seq_invariant.proofs.Turned.{apart, no_pass}

-- with nothing left to copy
abbrev pub IsCopied : RecoveryAt → Type 0
IsCopied x = (q : ℕ) (forward : Bool) → HasToCopy x q forward → ⊥

module _ (d : MachineDesc) (events : List Event) (at : Committed) (m : Machine) (p : ℕ) (described : IsDescription d) (st : Holds d events at m) (x : RecoveryAt) (e : m.hand p ≡ hand.Recovering x) (copied : IsCopied x) where
  abbrev q : ℕ
  q = process_of x

  all : AllUp (words_of d m)
  all = all_recovered d m st.words.words p x e

  pub gripped : grip (m.hand p) ≡ On (process_of x) ((recovery_stage x).0)
  gripped = ap grip e ∙ (recovery_stage x).1

  pub there : process_of x < length d.processes
  there = (subst (GripHolds (words_of d m) p) gripped (st.words.words.grips p)).process

  -- it changes words of the process alone, which isn't left then
  done_made : (move : Move) → move.commit ≡ None → move.cache ≡ m.cache p → LeavesNames d m.copies (process_of x) move.change → IsQuiet d move.change → ((y : RecoveryAt) → move.hand ≡ hand.Recovering y → IsCopied y) →
      ((forward : Bool) → left.IsDeserted d (after_move p move m) (process_of x) forward → ⊥) → AfterMove d at m move → TurnMade d at m p (Moves move)
  done_made move none cache names quiet next gone knows = quiet_made d at m p move none st.blocks (apart d events at m p described st)
      (keeps_left d m p (process_of x) move (λ y a forward k its. let z : hand.Recovering x ≡ hand.Recovering y = sym e ∙ k in let z' : x ≡ y = cc in copied a forward (subst (λ u. HasToCopy u a forward) (sym z') its))
      (λ y a forward k its. next y k a forward its) names (not_left d (owners_of at.state) m p all st.words.words st.locks x e copied) gone)
      knows (subst IsCache (sym cache) (st.blocks.caches p)) quiet (no_pass d events at m p described st (hand.Recovering x) e (λ z. z))

  -- it has hold of the process still
  pub still_made : (move : Move) (y : RecoveryAt) → move.hand ≡ hand.Recovering y → process_of y ≡ process_of x → IsCopied y → move.commit ≡ None → move.cache ≡ m.cache p → LeavesNames d m.copies (process_of x) move.change → IsQuiet d move.change →
      AfterMove d at m move → WordsStand (words_of d (after_move p move m)) → TurnMade d at m p (Moves move)
  still_made move y k same copied' none cache names quiet knows st' = done_made move none cache names quiet
      (λ z i. subst IsCopied (let c : y ≡ z = (let w : hand.Recovering y ≡ hand.Recovering z = sym k ∙ i in cc) in c) copied')
      (λ forward h. gripped_is_alive d (after_move p move m) st' p (process_of x) ((recovery_stage y).0) (ap grip (update_same m.hand p move.hand ∙ k) ∙ (recovery_stage y).1 ∙ ap (λ z. On z ((recovery_stage y).0)) same)
      (deserted_word d (after_move p move m) st' (process_of x) forward h)) knows

  -- it lets go of it
  pub closed_made : (move : Move) → move.hand ≡ hand.Seek → move.commit ≡ None → move.cache ≡ m.cache p → move.change ≡ write_word d m.copies (process_of x) 0 false 0 → AfterMove d at m move → WordsStand (words_of d (after_move p move m)) → TurnMade d at m p (Moves move)
  closed_made move k none cache changes knows st' = done_made move none cache
      (subst (LeavesNames d m.copies (process_of x)) (sym changes) (only_names d m.copies (process_of x) _ (only_status d m.copies (process_of x) false 0 there)))
      (subst (IsQuiet d) (sym changes) (word_quiet d m.copies (process_of x) 0 false 0))
      (λ y i. let z : hand.Seek ≡ hand.Recovering y = sym k ∙ i in let c : ⊥ = cc in absurd c)
      (λ forward h. free (deserted_word d (after_move p move m) st' (process_of x) forward h)) knows
    where
      free : IsDeserted (words_of d (after_move p move m)) (process_of x) → ⊥
      free h =
          let up : serves (shape_of d) m.copies (process_of x) false ≡ true = (all (process_of x)).0 in
          let view = subst (λ (c : Change). view_of d (copies_after c m.copies) (process_of x) ≡ record (view_of d m.copies (process_of x)) { word1 = if (view_of d m.copies (process_of x)).up1 then 0 else (view_of d m.copies (process_of x)).word1 }) (sym changes) (view_primary d m.copies (process_of x) 0) in
          let zero : ruling (view_of d (copies_after move.change m.copies) (process_of x)) ≡ 0 = ap ruling view ∙ both (serves (shape_of d) m.copies (process_of x) false) up _ _ in
          word_taken h.kind h.holder h.number (sym h.named ∙ zero)
        where
          both : (b : Bool) → b ≡ true → (a c : ℕ) → (if b then (if b then 0 else a) else c) ≡ 0
          both true h' a c = refl
          both false h' a c = absurd (false≢true h')

-- after a lock word was cleared
clearing_process : (r : Recovery locks_stage.Locks) (k : ℕ) (o : Option ℕ) → process_of (after_clearing r k o) ≡ r.pid.0
clearing_process r k (Some j) = refl
clearing_process r k None = refl

clearing_copied : (r : Recovery locks_stage.Locks) (k : ℕ) (o : Option ℕ) → IsCopied (after_clearing r k o)
clearing_copied r k (Some j) = λ q forward h. h
clearing_copied r k None = λ q forward h. h

module _ (d : MachineDesc) (events : List Event) (at : Committed) (m : Machine) (p : ℕ) (described : IsDescription d) (st : Holds d events at m) where
  -- a lock word is cleared
  pub locks_made : (r : Recovery locks_stage.Locks) → m.hand p ≡ hand.Recovering (recovery.Locks r) → WordsStand (words_of d (after_move p (locks_move d m p r) m)) → TurnMade d at m p (Moves (locks_move d m p r))
  locks_made r e = go (left_from d m.copies r.pid.0 r.cursor) refl
    where
      all' : AllUp (words_of d m)
      all' = all_recovered d m st.words.words p (recovery.Locks r) e

      -- the word that is cleared names the process
      cleared : (k : ℕ) → left_from d m.copies r.pid.0 r.cursor ≡ Some k → LeavesNames d m.copies r.pid.0 (To_word (segment_extent (shape_of d) (k / 2)) 0 (is_shadow k) 0)
      cleared k found = which (is_shadow k) (and_parts (not (has_bit (context_of d m.copies r.pid.0).held (k / 2))) _ (left_passes d m.copies r.pid.0 r.cursor k found).1).1
        where
          extent : ℕ
          extent = segment_extent (shape_of d) (k / 2)

          which : (b : Bool) → names d m.copies r.pid.0 (k / 2) b ≡ true → LeavesNames d m.copies r.pid.0 (To_word (segment_extent (shape_of d) (k / 2)) 0 b 0)
          which true named = subst (LeavesNames d m.copies r.pid.0) (cond-true _ _ _ (all' (segment_extent (shape_of d) (k / 2))).1) (shadow_names d m.copies r.pid.0 (k / 2) 0)
          which false named = subst (LeavesNames d m.copies r.pid.0) (cond-true _ _ _ (all' (segment_extent (shape_of d) (k / 2))).0) (primary_names d m.copies r.pid.0 (k / 2) 0
              (λ up x ne says. let its : m.copies.word (segment_extent (shape_of d) (k / 2)) 0 false ≡ suc r.pid.0 = eqb-true _ _ (and_parts _ _ named).1 in ne (let c : x ≡ r.pid.0 = omega (arith, says, its) in c))
              (λ x ne says. let c : ⊥ = omega (arith, says) in c))

      go : (o : Option ℕ) → left_from d m.copies r.pid.0 r.cursor ≡ o → WordsStand (words_of d (after_move p (locks_cleared d m p r o) m)) → TurnMade d at m p (Moves (locks_cleared d m p r o))
      go None found st' = still_made d events at m p described st (recovery.Locks r) e (λ q forward h. h) (locks_cleared d m p r None) (recovery.Closing (into_stage r (record {}))) refl refl (λ q forward h. h) refl refl
          (only_names d m.copies r.pid.0 Unchanged (only_unchanged d r.pid.0)) (unchanged_quiet d) tt st'
      go (Some k) found st' = still_made d events at m p described st (recovery.Locks r) e (λ q forward h. h) (locks_cleared d m p r (Some k)) (after_clearing r k (left_from d m.copies r.pid.0 (k + 1))) refl
          (clearing_process r k (left_from d m.copies r.pid.0 (k + 1))) (clearing_copied r k (left_from d m.copies r.pid.0 (k + 1))) refl refl (cleared k found) (record { blocks = λ f a n c. refl; within = λ area. tt })
          (knows (left_from d m.copies r.pid.0 (k + 1))) st'
        where
          knows : (o : Option ℕ) → RecoveryKnows d (copies_after (To_word (segment_extent (shape_of d) (k / 2)) 0 (is_shadow k) 0) m.copies) (after_clearing r k o)
          knows (Some j) = tt
          knows None = tt

  -- the recovery is closed
  pub closing_made : (r : Recovery closing_stage.Closing) → m.hand p ≡ hand.Recovering (recovery.Closing r) → WordsStand (words_of d (after_move p (closing_move d m p r) m)) → TurnMade d at m p (Moves (closing_move d m p r))
  closing_made r e = cond_both (r.cursor == 0) _ _ (λ (move : Move). WordsStand (words_of d (after_move p move m)) → TurnMade d at m p (Moves move))
      (λ _. λ st'. still_made d events at m p described st (recovery.Closing r) e (λ q forward h. h) (goes m p (write_word d m.copies r.pid.0 0 true 0) (hand.Recovering (recovery.Closing (record r { cursor = 1 })))) (recovery.Closing (record r { cursor = 1 })) refl refl (λ q forward h. h) refl refl
      (only_names d m.copies r.pid.0 _ (only_status d m.copies r.pid.0 true 0 (there d events at m p described st (recovery.Closing r) e (λ q forward h. h)))) (word_quiet d m.copies r.pid.0 0 true 0) tt st')
      (λ _. λ st'. closed_made d events at m p described st (recovery.Closing r) e (λ q forward h. h) (goes m p (write_word d m.copies r.pid.0 0 false 0) hand.Seek) refl refl refl refl tt st')
