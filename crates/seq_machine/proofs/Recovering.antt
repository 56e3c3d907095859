-- Turns of recoveries: their rows, notes, caches and commits, and what they read.
use Rattle.std.proofs.Common.{◌≡◌, ℕ, ◌==◌, Option, Some, None, refl, ap, ◌∙◌, inl, inr}
use Rattle.std.proofs.lemmas.Bool.{cases_Bool}
use Rattle.seq_words.specs.declared.description.MachineDesc.{MachineDesc}
use Rattle.seq_kernel.specs.declared.outcomes.Note.TheVariants.{Moved}
use Rattle.seq_recover.specs.declared.recovery.Claimed.{Claimed}
use Rattle.seq_recover.specs.declared.recovery.Copying.{Copying}
use Rattle.seq_recover.specs.declared.recovery.Closing.{Closing}
use Rattle.seq_recover.specs.declared.recovery.Recovered.{Recovered}
use Rattle.seq_recover.specs.declared.recovery.Locks.{Locks}
use Rattle.seq_recover.specs.declared.recovery.Recovery.{Recovery}
use Rattle.seq_recover.specs.Turns.{claimed_turn, copying_turn, locks_turn, closing_turn}
use Rattle.seq_layout.specs.Copies.{Copies}
use Rattle.seq_status.specs.declared.step.Step.{Step}
use Rattle.seq_turns.specs.declared.hand.Hand.{Hand}
use Rattle.seq_turns.specs.declared.hand.RecoveryAt.{RecoveryAt}
use Rattle.seq_turns.specs.declared.hand.RecoveryAt.TheVariants as at
use Rattle.seq_turns.specs.Machines.{Machine, Move}
use Rattle.seq_turns.specs.Reading.{ruling, goes_forward}
use Rattle.seq_turns.specs.Processors.{is_free, looks, seeks}
use Rattle.seq_recover.specs.Reading.{left_from}
use Rattle.seq_turns.specs.Recoveries.{begins, claimed_move, copying_move, locks_cleared, locks_move, closing_move, recovery_move}
use Rattle.seq_turns.specs.Landed.{after_claimed, after_copying, after_locks, after_closing}
use Rattle.seq_turns.proofs.Landed.{recovery_turns_agree}
use Rattle.seq_machine.specs.Here.{here, turned, cache_after}
use Rattle.seq_machine.specs.Rows.{IsRow, holding}
use Rattle.seq_machine.specs.Processors.{cache_left}

-- the row of a turn of each stage, by what it leaves
module _ (d : MachineDesc) (p now : Copies) (h : Hand) where
  pub claimed_row : (r : Recovery Claimed) (step : Step (Recovery Claimed) (Recovery Copying)) → now ≡ (claimed_turn d p r).copies → step ≡ (claimed_turn d p r).step → h ≡ after_claimed step → IsRow p now h (λ m i. claimed_move d m i r)
  claimed_row r step left goes after = record {
    hands = λ m i. after ∙ ap after_claimed goes ∙ ((recovery_turns_agree d (holding p m) i).claimed r).hands;
    copies = λ m i. left ∙ ((recovery_turns_agree d (holding p m) i).claimed r).copies;
  }

  pub copying_row : (r : Recovery Copying) (step : Step (Recovery Copying) (Recovery Locks)) → now ≡ (copying_turn d p r).copies → step ≡ (copying_turn d p r).step → h ≡ after_copying step → IsRow p now h (λ m i. copying_move d m i r)
  copying_row r step left goes after = record {
    hands = λ m i. after ∙ ap after_copying goes ∙ ((recovery_turns_agree d (holding p m) i).copying r).hands;
    copies = λ m i. left ∙ ((recovery_turns_agree d (holding p m) i).copying r).copies;
  }

  pub locks_row : (r : Recovery Locks) (step : Step (Recovery Locks) (Recovery Closing)) → now ≡ (locks_turn d p r).copies → step ≡ (locks_turn d p r).step → h ≡ after_locks step → IsRow p now h (λ m i. locks_move d m i r)
  locks_row r step left goes after = record {
    hands = λ m i. after ∙ ap after_locks goes ∙ ((recovery_turns_agree d (holding p m) i).locks r).hands;
    copies = λ m i. left ∙ ((recovery_turns_agree d (holding p m) i).locks r).copies;
  }

  pub closing_row : (r : Recovery Closing) (step : Step (Recovery Closing) Recovered) → now ≡ (closing_turn d p r).copies → step ≡ (closing_turn d p r).step → h ≡ after_closing step → IsRow p now h (λ m i. closing_move d m i r)
  closing_row r step left goes after = record {
    hands = λ m i. after ∙ ap after_closing goes ∙ ((recovery_turns_agree d (holding p m) i).closing r).hands;
    copies = λ m i. left ∙ ((recovery_turns_agree d (holding p m) i).closing r).copies;
  }

-- a move of processor p as one of a recovery is: it keeps the cache, and commits nothing
pub record Recovers (m : Machine) (p : ℕ) (move : Move) : Type 0 where
  pub note : move.note ≡ Moved
  pub cache : move.cache ≡ m.cache p
  pub commit : move.commit ≡ None

module _ (d : MachineDesc) (m : Machine) (p : ℕ) where
  pub claimed_recovers : (r : Recovery Claimed) → Recovers m p (claimed_move d m p r)
  claimed_recovers r = elim (cases_Bool (r.cursor == 0)) [
    | inl t ↦ rw t (record { note = refl; cache = refl; commit = refl })
    | inr t ↦ rw t (record { note = refl; cache = refl; commit = refl })
  ]

  closing_recovers : (r : Recovery Closing) → Recovers m p (closing_move d m p r)
  closing_recovers r = elim (cases_Bool (r.cursor == 0)) [
    | inl t ↦ rw t (record { note = refl; cache = refl; commit = refl })
    | inr t ↦ rw t (record { note = refl; cache = refl; commit = refl })
  ]

  cleared_recovers : (r : Recovery Locks) (found : Option ℕ) → Recovers m p (locks_cleared d m p r found)
  cleared_recovers r (Some k) = record { note = refl; cache = refl; commit = refl }
  cleared_recovers r None = record { note = refl; cache = refl; commit = refl }

  pub move_recovers : (r : RecoveryAt) → Recovers m p (recovery_move d m p r)
  move_recovers (at.Claimed r) = claimed_recovers r
  move_recovers (at.Copying r) = record { note = refl; cache = refl; commit = refl }
  move_recovers (at.Locks r) = cleared_recovers r (left_from d m.copies r.pid.0 r.cursor)
  move_recovers (at.Closing r) = closing_recovers r

  -- a processor that seeks keeps its cache
  looks_cache : (q : ℕ) → (looks d m p q).cache ≡ m.cache p
  looks_cache q = elim (cases_Bool (is_free d m q)) [ inl t ↦ rw t refl | inr t ↦ rw t refl ]

  pub seeks_cache : (found : Option ℕ) → cache_left (turned (seeks d m p found)) (cache_after (m.cache p) (seeks d m p found)) ≡ m.cache p
  seeks_cache (Some q) = (claimed_recovers (begins m p q (goes_forward (ruling d m.copies q)))).cache
  seeks_cache None = looks_cache (m.scan p)

  -- a turn of a recovery depends on the memories and on the cache of its processor
  pub recovery_is_local : (i : ℕ) (r : RecoveryAt) → recovery_move d m p r ≡ recovery_move d (here m.copies (m.cache p) i) p r
  recovery_is_local i (at.Claimed r) = refl
  recovery_is_local i (at.Copying r) = refl
  recovery_is_local i (at.Locks r) = cleared_is_local (left_from d m.copies r.pid.0 r.cursor)
    where
      cleared_is_local : (found : Option ℕ) → locks_cleared d m p r found ≡ locks_cleared d (here m.copies (m.cache p) i) p r found
      cleared_is_local (Some k) = refl
      cleared_is_local None = refl
  recovery_is_local i (at.Closing r) = refl
