-- A processor that has hold of one process, before and after its turn, and recovers none.
use Rattle.std.proofs.Common.{◌≡◌, ℕ, None, refl, ap, sym, ◌∙◌, subst}
use Rattle.seq_words.specs.declared.description.MachineDesc.{MachineDesc}
use Rattle.seq_cache.specs.Changes.{IsCache}
use Rattle.seq_turns.specs.declared.hand.Hand.{Hand}
use Rattle.seq_turns.specs.declared.hand.Hand.TheVariants as hand
use Rattle.seq_turns.specs.declared.hand.RecoveryAt.{RecoveryAt}
use Rattle.seq_turns.specs.Machines.{Machine, Move, Turn, after_move}
use Rattle.seq_turns.specs.Machines.Turn.{Moves, Looks, Copies_unit, Stops}
use Rattle.seq_turns.specs.Events.{after_turn}
use Rattle.seq_turns.proofs.Functions.{update_same}
use Rattle.seq_stands.specs.Grips.{Stage, grip}
use Rattle.seq_stands.specs.Grips.Grip.{On}
use Rattle.seq_stands.specs.Words.{words_of, IsRecovery, WordsStand}
use Rattle.seq_stands.proofs.Gripped.{recovery_stage}
use Rattle.seq_invariant.specs.BlockWorks.{Committed}
use Rattle.seq_invariant.specs.BlockStanding.{BlocksStand}
use Rattle.seq_invariant.specs.BlockFrame.{IsApart, KeepsLeft, IsAmidPass}
use Rattle.seq_invariant.specs.BlockTurns.{AfterTurn}
use Rattle.seq_invariant.proofs.Left.{deserted_word, gripped_is_alive, gripped_is_kept}
use Rattle.seq_invariant.proofs.Kept.{LeavesNames, IsQuiet, calm_done, keeps_left}
use Rattle.seq_invariant.proofs.Moved.{TurnMade, quiet_made}

-- a hand that has hold of a process at a stage that is none of a recovery recovers none
pub not_recovering : (h : Hand) (q : ℕ) (stage : Stage) → grip h ≡ On q stage → (IsRecovery stage → ⊥) → (x : RecoveryAt) → h ≡ hand.Recovering x → ⊥
not_recovering h q stage g calm x e =
    let s = recovery_stage x in
    let same : On q stage ≡ On _ s.0 = sym g ∙ ap grip e ∙ s.1 in
    calm (subst IsRecovery (let c : s.0 ≡ stage = cc in c) s.2)

-- it has hold of process q afterwards, recovers none, and changed words of q alone
pub record IsTame (d : MachineDesc) (m : Machine) (q : ℕ) (move : Move) : Type 0 where
  pub stage : Stage
  pub gripped : grip move.hand ≡ On q stage
  pub calm : IsRecovery stage → ⊥
  pub names : LeavesNames d m.copies q move.change
  pub none : move.commit ≡ None

module _ (d : MachineDesc) (m : Machine) (p q : ℕ) (stage : Stage) (gripped : grip (m.hand p) ≡ On q stage) (calm : IsRecovery stage → ⊥) (st : WordsStand (words_of d m)) where
  pub tame_left : (move : Move) → IsTame d m q move → WordsStand (words_of d (after_move p move m)) → KeepsLeft d m (after_move p move m)
  tame_left move tame st' = keeps_left d m p q move (calm_done (m.hand p) (not_recovering (m.hand p) q stage gripped calm)) (calm_done move.hand (not_recovering move.hand q tame.stage tame.gripped tame.calm)) tame.names
      (λ forward is. gripped_is_kept d m st p q stage forward gripped (not_recovering (m.hand p) q stage gripped calm) is)
      (λ forward is. gripped_is_alive d (after_move p move m) st' p q tame.stage (ap grip (update_same m.hand p move.hand) ∙ tame.gripped) (deserted_word d (after_move p move m) st' q forward is))

-- the same of a turn, that writes no block
pub record IsTameQuiet (d : MachineDesc) (m : Machine) (q : ℕ) (move : Move) : Type 0 where
  pub tame : IsTame d m q move
  pub quiet : IsQuiet d move.change

abbrev pub TurnIsTame : MachineDesc → Machine → ℕ → Turn → Type 0
TurnIsTame d m q (Moves move) = IsTameQuiet d m q move
TurnIsTame d m q (Looks next move) = ⊥
TurnIsTame d m q (Copies_unit i) = ⊥
TurnIsTame d m q Stops = Unit {0}

module _ (d : MachineDesc) (at : Committed) (m : Machine) (p q : ℕ) (stage : Stage) (gripped : grip (m.hand p) ≡ On q stage) (calm : IsRecovery stage → ⊥) (st : WordsStand (words_of d m)) (blocks : BlocksStand d at m) (apart : IsApart d m p)
    (still : IsAmidPass (m.hand p) → ⊥) where
  pub tame_made : (t : Turn) → TurnIsTame d m q t → AfterTurn d at m t → WordsStand (words_of d (after_turn d m p t)) → IsCache ((after_turn d m p t).cache p) → (t ≡ Stops → TurnMade d at m p Stops) → TurnMade d at m p t
  tame_made (Moves move) tame knows st' cache stops =
      quiet_made d at m p move tame.tame.none blocks apart (tame_left d m p q stage gripped calm st move tame.tame st') knows (subst IsCache (update_same m.cache p move.cache) cache) tame.quiet still
  tame_made (Looks next move) tame knows st' cache stops = absurd tame
  tame_made (Copies_unit i) tame knows st' cache stops = absurd tame
  tame_made Stops tame knows st' cache stops = stops refl
