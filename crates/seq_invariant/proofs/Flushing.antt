-- The turns of a flush change words of its process alone, and leave the extents of its hand.
use Rattle.std.proofs.Common.{◌≡◌, ℕ, ◌+◌, ◌<◌, Bool, true, false, ◌==◌, nat_le, None, length, refl, ap, sym, subst}
use Rattle.std.proofs.lemmas.Bool.{cond_both}
use Rattle.seq_words.specs.declared.description.MachineDesc.{MachineDesc}
use Rattle.seq_process.specs.declared.running.Running.{Running}
use Rattle.seq_kernel.specs.declared.outcomes.Cause.{Cause}
use Rattle.seq_turns.specs.declared.hand.Hand.TheVariants as hand
use Rattle.seq_turns.specs.declared.hand.FlushAt.{FlushAt}
use Rattle.seq_turns.specs.declared.hand.FlushAt.TheVariants as flush
use Rattle.seq_turns.specs.Machines.{Machine, Move}
use Rattle.seq_turns.specs.Reading.{write_word}
use Rattle.seq_turns.specs.Operations.{unit_count, flush_move}
use Rattle.seq_stands.specs.Grips.{Stage, grip, begun, flush_stage}
use Rattle.seq_stands.specs.Grips.Kind.{Run, Pass2}
use Rattle.seq_stands.specs.Grips.Step.{To_pass1, To_pass2, To_run}
use Rattle.seq_stands.specs.Grips.Stage.{Holding, Setting}
use Rattle.seq_stands.specs.Words.{IsRecovery}
use Rattle.seq_stands.specs.Hands.{IsFlushAt}
use Rattle.seq_stands.proofs.Flushes.{follows_grip}
use Rattle.seq_stands.proofs.LockTurns.{only_block, only_status}
use Rattle.seq_invariant.specs.BlockAreas.{hand_area}
use Rattle.seq_invariant.proofs.Kept.{LeavesNames, IsQuiet, word_quiet, only_names}
use Rattle.seq_invariant.proofs.Tame.{IsTame}

-- a stage of a flush is none of a recovery
begun_calm : (k : ℕ) (a b : Stage) → (IsRecovery a → ⊥) → (IsRecovery b → ⊥) → IsRecovery (begun k a b) → ⊥
begun_calm k a b x y = cond_both (k == 0) a b (λ s. IsRecovery s → ⊥) (λ _. x) (λ _. y)

pub flush_calm : (f : FlushAt) → IsRecovery (flush_stage f) → ⊥
flush_calm (flush.Mark f) = begun_calm f.cursor (Holding Run) (Setting To_pass1) (λ x. x) (λ x. x)
flush_calm (flush.First f) = λ x. x
flush_calm (flush.Second f) = begun_calm f.cursor (Setting To_pass2) (Holding Pass2) (λ x. x) (λ x. x)
flush_calm (flush.Close f) = begun_calm f.cursor (Holding Pass2) (Setting To_run) (λ x. x) (λ x. x)

-- in its first pass
abbrev pub IsFirst : FlushAt → Type 0
IsFirst (flush.Mark f) = ⊥
IsFirst (flush.First f) = Unit {0}
IsFirst (flush.Second f) = ⊥
IsFirst (flush.Close f) = ⊥

-- amid a pass
abbrev pub IsAmid : FlushAt → Type 0
IsAmid (flush.Mark f) = ⊥
IsAmid (flush.First f) = Unit {0}
IsAmid (flush.Second f) = Unit {0}
IsAmid (flush.Close f) = ⊥

module _ (d : MachineDesc) (m : Machine) (p : ℕ) (r : Running) (why : Cause) (mask : ℕ) (there : r.pid.0 < length d.processes) where
  -- the status word of the process is written
  pub status_names : (x : ℕ) (c : Bool) (w : ℕ) → x ≡ r.pid.0 → LeavesNames d m.copies r.pid.0 (write_word d m.copies x 0 c w)
  status_names x c w e = subst (λ y. LeavesNames d m.copies r.pid.0 (write_word d m.copies y 0 c w)) (sym e) (only_names d m.copies r.pid.0 _ (only_status d m.copies r.pid.0 c w there))

  abbrev Tame : Move → Type 0
  Tame move = move.commit ≡ None → IsTame d m r.pid.0 move

  goes_on : (f : FlushAt) (move : Move) → move.hand ≡ hand.Flushing r why mask f → LeavesNames d m.copies r.pid.0 move.change → Tame move
  goes_on f move e names none = record { stage = flush_stage f; gripped = ap grip e; calm = flush_calm f; names = names; none = none }

  pub flush_tame : (f : FlushAt) → IsFlushAt p (m.incarnation p) r.pid.0 f → Tame (flush_move d m p r why mask f)
  flush_tame (flush.Mark f) is = cond_both (f.cursor == 0) _ _ Tame
      (λ _. goes_on (flush.Mark (record f { cursor = 1 })) _ refl (status_names f.pid.0 false _ is.process))
      (λ _. goes_on _ _ refl (status_names f.pid.0 true _ is.process))
  flush_tame (flush.First f) is = cond_both (nat_le (unit_count m p f) f.cursor) _ _ Tame
      (λ _. λ none. absurd (let c : ⊥ = cc in c))
      (λ _. goes_on (flush.First (record f { cursor = f.cursor + 1 })) _ refl (only_names d m.copies r.pid.0 _ (only_block d m.copies r.pid.0 _ _ false _)))
  flush_tame (flush.Second f) is = cond_both (f.cursor == 0) _ _ Tame
      (λ _. goes_on (flush.Second (record f { cursor = 1 })) _ refl (status_names f.pid.0 true _ is.process))
      (λ _. goes_on _ _ refl (only_names d m.copies r.pid.0 _ (only_block d m.copies r.pid.0 _ _ true _)))
  flush_tame (flush.Close f) is = cond_both (f.cursor == 0) _ _ Tame
      (λ _. goes_on (flush.Close (record f { cursor = 1 })) _ refl (status_names f.pid.0 false _ is.process))
      (λ _. λ none. record { stage = Holding Run; gripped = follows_grip d r why mask; calm = λ x. x; names = status_names f.pid.0 true _ is.process; none = none })

  -- the extents of the hand stay amid a pass
  pub pass_stays : (f : FlushAt) → IsAmid f → (e : ℕ) → hand_area d (hand.Flushing r why mask f) e ≡ true → hand_area d (flush_move d m p r why mask f).hand e ≡ true
  pass_stays (flush.Mark f) amid e is = absurd amid
  pass_stays (flush.First f) amid e is = cond_both (nat_le (unit_count m p f) f.cursor) _ _ (λ (move : Move). hand_area d move.hand e ≡ true) (λ _. is) (λ _. is)
  pass_stays (flush.Second f) amid e is = cond_both (f.cursor == 0) _ _ (λ (move : Move). hand_area d move.hand e ≡ true) (λ _. is) (λ _. is)
  pass_stays (flush.Close f) amid e is = absurd amid

  -- outside the passes no block is written
  pub mark_quiet : (f : FlushAt) → (IsAmid f → ⊥) → IsQuiet d (flush_move d m p r why mask f).change
  mark_quiet (flush.Mark f) calm = cond_both (f.cursor == 0) _ _ (λ (move : Move). IsQuiet d move.change) (λ _. word_quiet d m.copies f.pid.0 0 false _) (λ _. word_quiet d m.copies f.pid.0 0 true _)
  mark_quiet (flush.First f) calm = absurd (calm tt)
  mark_quiet (flush.Second f) calm = absurd (calm tt)
  mark_quiet (flush.Close f) calm = cond_both (f.cursor == 0) _ _ (λ (move : Move). IsQuiet d move.change) (λ _. word_quiet d m.copies f.pid.0 0 false _) (λ _. word_quiet d m.copies f.pid.0 0 true _)
