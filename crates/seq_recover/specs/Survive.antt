-- What the states of a recovery know survives what other elements write.
use Rattle.std.specs.Prelude.{◌≢◌, ℕ, suc, Bool}
use Rattle.seq_words.specs.declared.block.Block.{Block}
use Rattle.seq_words.specs.declared.description.MachineDesc.{MachineDesc}
use Rattle.seq_layout.specs.Copies.{Copies, with_block, with_word}
use Rattle.seq_layout.specs.Held.{IsOther}
use Rattle.seq_recover.specs.declared.recovery.Copying.{Copying}
use Rattle.seq_recover.specs.declared.recovery.Locks.{Locks}
use Rattle.seq_recover.specs.declared.recovery.Closing.{Closing}
use Rattle.seq_recover.specs.declared.recovery.Recovery.{Recovery}
use Rattle.seq_recover.specs.Stands.{IsInArea, CopyingKnows, LocksKnows, ClosingKnows, RecoveredKnows}

-- What is said of process q survives each write to a block outside its area, and to a word that isn't its status word and names it
-- neither before nor after.
pub record SurvivesOthers (d : MachineDesc) (q : ℕ) (Said : Copies → Type 0) : Type 0 where
  pub block : (p : Copies) (e n : ℕ) (c : Bool) (b : Block) → ¬ (IsInArea d p q e) → Said p → Said (with_block p e n c b)
  pub word : (p : Copies) (e n : ℕ) (c : Bool) (w : ℕ) → IsOther q 0 e n → p.word e n c ≢ suc q → w ≢ suc q → Said p → Said (with_word p e n c w)

-- So do the facts of each state.
abbrev pub CopyingSurvives : Type 0
CopyingSurvives = (d : MachineDesc) (r : Recovery Copying) → SurvivesOthers d r.pid.0 (λ p. CopyingKnows d p r)

abbrev pub LocksSurvives : Type 0
LocksSurvives = (d : MachineDesc) (r : Recovery Locks) → SurvivesOthers d r.pid.0 (λ p. LocksKnows d p r)

abbrev pub ClosingSurvives : Type 0
ClosingSurvives = (d : MachineDesc) (r : Recovery Closing) → SurvivesOthers d r.pid.0 (λ p. ClosingKnows d p r)

abbrev pub RecoveredSurvives : Type 0
RecoveredSurvives = (d : MachineDesc) (q : ℕ) → SurvivesOthers d q (λ p. RecoveredKnows d p q)
