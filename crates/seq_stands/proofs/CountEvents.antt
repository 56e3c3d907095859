-- What each event makes of the processors' ways to a commit, and of the history.
use Rattle.std.proofs.Common.{◌≡◌, ◌≢◌, ℕ, suc, ◌≤◌, false, Some, refl, ap, sym, subst, arith}
use Rattle.std.proofs.lemmas.Bool.{cond_both, false≢true}
use Rattle.std.proofs.lemmas.Option.{none-some}
use Rattle.seq_words.specs.declared.description.MachineDesc.{MachineDesc}
use Rattle.seq_words.specs.declared.events.Entry.{Entry}
use Rattle.seq_words.specs.declared.events.Event.{Event}
use Rattle.seq_words.specs.declared.events.Event.TheVariants as event
use Rattle.seq_words.specs.declared.half.Half.{Half}
use Rattle.seq_words.specs.declared.kinds.Element.TheVariants as element
use Rattle.seq_turns.specs.declared.hand.Hand.{Hand}
use Rattle.seq_turns.specs.declared.hand.Hand.TheVariants as hand
use Rattle.seq_turns.specs.Functions.{update}
use Rattle.seq_turns.specs.Machines.{Machine, Turn, history_after}
use Rattle.seq_turns.specs.Machines.Turn.{Moves, Looks, Copies_unit, Stops}
use Rattle.seq_turns.specs.Duties.{rests}
use Rattle.seq_turns.specs.Processors.{turn}
use Rattle.seq_turns.specs.Events.{is_down, comes_back, strikes, after_turn, happens}
use Rattle.seq_turns.proofs.Functions.{update_same, update_other, update_cases}
use Rattle.seq_stands.specs.CountAhead.{ahead}
use Rattle.seq_stands.specs.Counts.{commit_of, is_turn, ahead_of, TurnsGoOnByOne, OthersStay, OnlyTurnsGoOn, CommitsLate, CommitsComeLate, HistoriesGrowByCommits}
use Rattle.seq_stands.proofs.CountTurns.{Late, TurnCounts, turn_counts}

-- A turn of processor p.
module _ (d : MachineDesc) (m : Machine) (p : ℕ) where
  -- what holds of the hand that is left
  left : (P : Hand → Type 0) (h : Hand) → P h → P (update m.hand p h p)
  left P h k = subst P (sym (update_same m.hand p h)) k

  by_one : (t : Turn) → TurnCounts (ahead (m.hand p)) t → ahead ((after_turn d m p t).hand p) ≤ suc (ahead (m.hand p))
  by_one (Moves move) k = left (λ h. ahead h ≤ suc (ahead (m.hand p))) move.hand k.by_one
  by_one (Looks next move) k = left (λ h. ahead h ≤ suc (ahead (m.hand p))) move.hand k.by_one
  by_one (Copies_unit i) k = omega arith
  by_one Stops k = left (λ h. ahead h ≤ suc (ahead (m.hand p))) hand.Down (omega arith)

  others : (t : Turn) (q : ℕ) → q ≢ p → ahead ((after_turn d m p t).hand q) ≡ ahead (m.hand q)
  others (Moves move) q ne = ap ahead (update_other m.hand p move.hand q ne)
  others (Looks next move) q ne = ap ahead (update_other m.hand p move.hand q ne)
  others (Copies_unit i) q ne = refl
  others Stops q ne = ap ahead (update_other m.hand p hand.Down q ne)

  commits : (t : Turn) (entry : Entry) → TurnCounts (ahead (m.hand p)) t → commit_of t ≡ Some entry → CommitsLate (ahead (m.hand p)) (ahead ((after_turn d m p t).hand p))
  commits (Moves move) entry k e = left (λ h. CommitsLate (ahead (m.hand p)) (ahead h)) move.hand (subst (Late (ahead (m.hand p)) move.hand) e k.commits)
  commits (Looks next move) entry k e = left (λ h. CommitsLate (ahead (m.hand p)) (ahead h)) move.hand (subst (Late (ahead (m.hand p)) move.hand) e k.commits)
  commits (Copies_unit i) entry k e = absurd (none-some entry e)
  commits Stops entry k e = absurd (none-some entry e)

  added : (t : Turn) → (after_turn d m p t).history ≡ history_after (commit_of t) m.history
  added (Moves move) = refl
  added (Looks next move) = refl
  added (Copies_unit i) = refl
  added Stops = refl

pub turns_go_on_by_one : TurnsGoOnByOne
turns_go_on_by_one d m p = by_one d m p.0 (turn d m p.0 (m.hand p.0)) (turn_counts d m p.0 (m.hand p.0) refl)

pub others_stay : OthersStay
others_stay d m p other ne = others d m p.0 (turn d m p.0 (m.hand p.0)) other ne

pub commits_come_late : CommitsComeLate
commits_come_late d m p entry e = commits d m p.0 (turn d m p.0 (m.hand p.0)) entry (turn_counts d m p.0 (m.hand p.0) refl) e

-- a processor that comes back, and one that is struck, are as far ahead as before
back_ahead : (h : Hand) → ahead (comes_back h) ≤ ahead h
back_ahead hand.Down = omega arith
back_ahead hand.Seek = omega arith
back_ahead (hand.Claiming q c) = omega arith
back_ahead (hand.Running r) = omega arith
back_ahead (hand.Acquiring r t c) = omega arith
back_ahead (hand.Flushing r c mask f) = omega arith
back_ahead (hand.Unlocking r c mask l) = omega arith
back_ahead (hand.Leaving q l) = omega arith
back_ahead (hand.Recovering r) = omega arith

struck_ahead : (half : Half) (reg mask : ℕ) (h : Hand) → ahead (strikes half reg mask h) ≤ ahead h
struck_ahead half reg mask hand.Down = omega arith
struck_ahead half reg mask hand.Seek = omega arith
struck_ahead half reg mask (hand.Claiming q c) = omega arith
struck_ahead half reg mask (hand.Running r) = omega arith
struck_ahead half reg mask (hand.Acquiring r t c) = omega arith
struck_ahead half reg mask (hand.Flushing r c held f) = omega arith
struck_ahead half reg mask (hand.Unlocking r c held l) = omega arith
struck_ahead half reg mask (hand.Leaving q l) = omega arith
struck_ahead half reg mask (hand.Recovering r) = omega arith

-- What is left of a machine: no processor is farther ahead, and the history is the same.
record IsLeft (m after : Machine) : Type 0 where
  ahead : (q : ℕ) → ahead_of after q ≤ ahead_of m q
  history : after.history ≡ m.history

module _ (d : MachineDesc) (m : Machine) where
  -- with another hand of processor p, which is no farther ahead
  handed : (p : ℕ) (h : Hand) → ahead h ≤ ahead_of m p → (q : ℕ) → ahead (update m.hand p h q) ≤ ahead_of m q
  handed p h less q = update_cases (λ x. ahead x ≤ ahead_of m q) m.hand p h q (λ here. let same = ap (ahead_of m) here in omega (arith, same, less)) (λ _. omega arith)

  is_left : (e : Event) → is_turn e ≡ false → IsLeft m (happens d m e)
  is_left (event.Processor p) e = absurd (false≢true (sym e))
  is_left (event.Io i) e = cond_both (rests d m i.0) _ _ (IsLeft m) (λ _. record { ahead = λ q. omega arith; history = refl }) (λ _. record { ahead = λ q. omega arith; history = refl })
  is_left (event.Input l byte) e = record { ahead = λ q. omega arith; history = refl }
  is_left (event.Close l) e = record { ahead = λ q. omega arith; history = refl }
  is_left (event.Fail (element.Processor p)) e = cond_both (is_down (m.hand p.0)) _ _ (IsLeft m)
      (λ _. record { ahead = λ q. omega arith; history = refl }) (λ _. record { ahead = handed p.0 hand.Down (omega arith); history = refl })
  is_left (event.Fail (element.Memory i)) e = record { ahead = λ q. omega arith; history = refl }
  is_left (event.Fail (element.Io i)) e = record { ahead = λ q. omega arith; history = refl }
  is_left (event.Repair (element.Processor p)) e = record { ahead = handed p.0 (comes_back (m.hand p.0)) (back_ahead (m.hand p.0)); history = refl }
  is_left (event.Repair (element.Memory i)) e = record { ahead = λ q. omega arith; history = refl }
  is_left (event.Repair (element.Io i)) e = record { ahead = λ q. omega arith; history = refl }
  is_left (event.Upset p half reg mask) e = record { ahead = handed p.0 (strikes half reg mask (m.hand p.0)) (struck_ahead half reg mask (m.hand p.0)); history = refl }
  is_left (event.Hangup l) e = record { ahead = λ q. omega arith; history = refl }

pub only_turns_go_on : OnlyTurnsGoOn
only_turns_go_on d m e p not_turn = (is_left d m e not_turn).ahead p

pub history_stays : (d : MachineDesc) (m : Machine) (e : Event) → is_turn e ≡ false → (happens d m e).history ≡ m.history
history_stays d m e not_turn = (is_left d m e not_turn).history

pub histories_grow_by_commits : HistoriesGrowByCommits
histories_grow_by_commits d m (event.Processor p) = added d m p.0 (turn d m p.0 (m.hand p.0))
histories_grow_by_commits d m (event.Io i) = history_stays d m (event.Io i) refl
histories_grow_by_commits d m (event.Input l byte) = refl
histories_grow_by_commits d m (event.Close l) = refl
histories_grow_by_commits d m (event.Fail e) = history_stays d m (event.Fail e) refl
histories_grow_by_commits d m (event.Repair e) = history_stays d m (event.Repair e) refl
histories_grow_by_commits d m (event.Upset p half reg mask) = refl
histories_grow_by_commits d m (event.Hangup l) = refl
