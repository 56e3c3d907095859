-- The lock word that a turn of Locks clears, and whether others are left.
use Rattle.std.proofs.Common.{◌≡◌, ℕ, ◌+◌, ◌*◌, ◌/◌, ◌<◌, true, false, not, ◌==◌, length, Option, Some, None, suc, sym, ap, ◌∙◌}
use Rattle.std.specs.Option.{is_some}
use Rattle.std.proofs.lemmas.Bool.{and_parts, false≢true, true≢false}
use Rattle.seq_words.specs.Masks.{has_bit}
use Rattle.seq_words.specs.declared.description.MachineDesc.{MachineDesc}
use Rattle.seq_layout.specs.Shapes.{shape_of, segment_extent}
use Rattle.seq_layout.specs.Copies.{Copies, serves}
use Rattle.seq_status.specs.declared.step.Step.{Step}
use Rattle.seq_status.specs.declared.step.Step.TheVariants.{Again, Next}
use Rattle.seq_recover.specs.declared.recovery.Locks.{Locks}
use Rattle.seq_recover.specs.declared.recovery.Closing.{Closing}
use Rattle.seq_recover.specs.declared.recovery.Recovery.{Recovery}
use Rattle.seq_recover.specs.Reading.{context_of, names, is_shadow, left_from}
use Rattle.seq_recover.specs.Turns.{Turned, into_stage, after_clearing, lock_cleared, locks_cleared, locks_turn}
use Rattle.seq_recover.proofs.LeftFrom.{left_passes}

-- a turn that finds none
pub unchanged_turn : (d : MachineDesc) (p : Copies) (r : Recovery Locks) → left_from d p r.pid.0 r.cursor ≡ None → locks_turn d p r ≡ record { copies = p; step = Next (into_stage r (record {})) }
unfolding locks_turn
unchanged_turn d p r none = ap (locks_cleared d p r) none

module _ (d : MachineDesc) (p : Copies) (r : Recovery Locks) (k : ℕ) (found : left_from d p r.pid.0 r.cursor ≡ Some k) where
  abbrev q : ℕ
  q = r.pid.0

  pub chosen_inside : k < 2 * length d.segments
  chosen_inside = (left_passes d p q r.cursor k found).2

  -- the word that is chosen is in service
  pub chosen_serves : serves (shape_of d) p (segment_extent (shape_of d) (k / 2)) (is_shadow k) ≡ true
  chosen_serves =
      let passes = (left_passes d p q r.cursor k found).1 in
      let named = (and_parts (not (has_bit (context_of d p q).held (k / 2))) (names d p q (k / 2) (is_shadow k)) passes).1 in
      (and_parts (serves (shape_of d) p (segment_extent (shape_of d) (k / 2)) (is_shadow k)) (p.word (segment_extent (shape_of d) (k / 2)) 0 (is_shadow k) == suc q) named).0

  -- the turn clears it
  pub turn_is : locks_turn d p r ≡ record { copies = lock_cleared d p k; step = after_clearing r k (left_from d p q (k + 1)) }
  unfolding locks_turn
  turn_is = ap (locks_cleared d p r) found

  -- and moves on where none is left above it
  pub goes_on : (o : Option ℕ) → o ≡ left_from d p q (k + 1) → is_some o ≡ true → (locks_turn d p r).step ≡ Again (record r { cursor = k + 1 })
  goes_on (Some j) e some = ap (λ (t : Turned (Step (Recovery Locks) (Recovery Closing))). t.step) turn_is ∙ ap (after_clearing r k) (sym e)
  goes_on None e some = absurd (false≢true some)

  pub moves_on : (o : Option ℕ) → o ≡ left_from d p q (k + 1) → is_some o ≡ false → (locks_turn d p r).step ≡ Next (into_stage r (record {}))
  moves_on (Some j) e none = absurd (true≢false none)
  moves_on None e none = ap (λ (t : Turned (Step (Recovery Locks) (Recovery Closing))). t.step) turn_is ∙ ap (after_clearing r k) (sym e)

  pub none_above : (o : Option ℕ) → o ≡ left_from d p q (k + 1) → is_some o ≡ false → left_from d p q (k + 1) ≡ None
  none_above (Some j) e none = absurd (true≢false none)
  none_above None e none = sym e
