-- While a memory is to be copied no event begins an operation.
use Rattle.std.proofs.Common.{◌≡◌, ◌≢◌, ◌⊎◌, inl, inr, ℕ, Bool, true, false, Option, Some, None, refl, ap, sym, ◌∙◌, subst}
use Rattle.std.proofs.lemmas.Bool.{cond_both, cases_eq, true≢false}
use Rattle.seq_words.specs.declared.description.MachineDesc.{MachineDesc}
use Rattle.seq_words.specs.declared.events.Event.TheVariants as event
use Rattle.seq_words.specs.declared.half.Half.{Half}
use Rattle.seq_words.specs.declared.kinds.Element.TheVariants as element
use Rattle.seq_turns.specs.declared.hand.Hand.{Hand}
use Rattle.seq_turns.specs.declared.hand.Hand.TheVariants as hand
use Rattle.seq_turns.specs.Functions.{update}
use Rattle.seq_turns.specs.Machines.{Machine, Turn}
use Rattle.seq_turns.specs.Machines.Turn.{Moves, Looks, Copies_unit, Stops}
use Rattle.seq_turns.specs.Duties.{rests}
use Rattle.seq_turns.specs.Reading.{copied_memory, is_amid}
use Rattle.seq_turns.specs.Processors.{someone_amid, copies_or_waits, seeks_or_copies, runs_or_copies, turn}
use Rattle.seq_turns.specs.Events.{is_down, comes_back, strikes, after_turn, happens}
use Rattle.seq_turns.proofs.Functions.{update_cases}
use Rattle.seq_stands.specs.CountLeft.{CopyingBeginsNone}

abbrev Idle : Hand → Type 0
Idle h = is_amid h ≡ false

-- the hand that a turn leaves is amid no operation
abbrev LeavesIdle : Turn → Type 0
LeavesIdle (Moves move) = Idle move.hand
LeavesIdle (Looks next move) = Idle move.hand
LeavesIdle (Copies_unit i) = Unit {0}
LeavesIdle Stops = Unit {0}

module _ (d : MachineDesc) (m : Machine) (p i : ℕ) (copied : copied_memory d m.copies ≡ Some i) where
  waits : Idle (m.hand p) → (o : Option ℕ) → LeavesIdle (copies_or_waits m p i o)
  waits idle (Some r) = idle
  waits idle None = tt

  turn_idle : (h : Hand) → m.hand p ≡ h → Idle h → LeavesIdle (turn d m p h)
  turn_idle hand.Down e idle = ap is_amid e
  turn_idle hand.Seek e idle = subst (λ o. LeavesIdle (seeks_or_copies d m p o)) (sym copied) (waits (ap is_amid e) (someone_amid d m))
  turn_idle (hand.Claiming q c) e idle = absurd (true≢false idle)
  turn_idle (hand.Running r) e idle = subst (λ o. LeavesIdle (runs_or_copies d m p r o)) (sym copied) (waits (ap is_amid e) (someone_amid d m))
  turn_idle (hand.Acquiring r t c) e idle = absurd (true≢false idle)
  turn_idle (hand.Flushing r why mask f) e idle = absurd (true≢false idle)
  turn_idle (hand.Unlocking r why mask l) e idle = absurd (true≢false idle)
  turn_idle (hand.Leaving q l) e idle = absurd (true≢false idle)
  turn_idle (hand.Recovering r) e idle = absurd (true≢false idle)

module _ (d : MachineDesc) (m : Machine) (q : ℕ) (idle : Idle (m.hand q)) where
  -- the hand of a processor changes, to one that is amid no operation if it is this processor's
  handed : (p : ℕ) (h : Hand) → (q ≡ p → Idle h) → Idle (update m.hand p h q)
  handed p h here = update_cases Idle m.hand p h q here (λ _. idle)

  after : (p : ℕ) (t : Turn) → (q ≡ p → LeavesIdle t) → Idle ((after_turn d m p t).hand q)
  after p (Moves move) here = handed p move.hand here
  after p (Looks next move) here = handed p move.hand here
  after p (Copies_unit i) here = idle
  after p Stops here = handed p hand.Down (λ _. refl)

back_idle : (h : Hand) → Idle h → Idle (comes_back h)
back_idle hand.Down idle = refl
back_idle hand.Seek idle = idle
back_idle (hand.Claiming q c) idle = idle
back_idle (hand.Running r) idle = idle
back_idle (hand.Acquiring r t c) idle = idle
back_idle (hand.Flushing r why mask f) idle = idle
back_idle (hand.Unlocking r why mask l) idle = idle
back_idle (hand.Leaving q l) idle = idle
back_idle (hand.Recovering r) idle = idle

struck_idle : (half : Half) (reg mask : ℕ) (h : Hand) → Idle h → Idle (strikes half reg mask h)
struck_idle half reg mask hand.Down idle = idle
struck_idle half reg mask hand.Seek idle = idle
struck_idle half reg mask (hand.Claiming q c) idle = idle
struck_idle half reg mask (hand.Running r) idle = idle
struck_idle half reg mask (hand.Acquiring r t c) idle = idle
struck_idle half reg mask (hand.Flushing r why held f) idle = idle
struck_idle half reg mask (hand.Unlocking r why held l) idle = idle
struck_idle half reg mask (hand.Leaving q l) idle = idle
struck_idle half reg mask (hand.Recovering r) idle = idle

pub copying_begins_none : CopyingBeginsNone
copying_begins_none d m (event.Processor p) q i copied idle = after d m q idle p.0 (turn d m p.0 (m.hand p.0)) (λ same. turn_idle d m p.0 i copied (m.hand p.0) refl (subst (λ x. Idle (m.hand x)) same idle))
copying_begins_none d m (event.Io x) q i copied idle = cond_both (rests d m x.0) _ _ (λ (n : Machine). Idle (n.hand q)) (λ _. idle) (λ _. idle)
copying_begins_none d m (event.Input l byte) q i copied idle = idle
copying_begins_none d m (event.Close l) q i copied idle = idle
copying_begins_none d m (event.Fail (element.Processor p)) q i copied idle = cond_both (is_down (m.hand p.0)) _ _ (λ (n : Machine). Idle (n.hand q)) (λ _. idle) (λ _. handed d m q idle p.0 hand.Down (λ _. refl))
copying_begins_none d m (event.Fail (element.Memory x)) q i copied idle = idle
copying_begins_none d m (event.Fail (element.Io x)) q i copied idle = idle
copying_begins_none d m (event.Repair (element.Processor p)) q i copied idle = handed d m q idle p.0 (comes_back (m.hand p.0)) (λ same. back_idle (m.hand p.0) (subst (λ x. Idle (m.hand x)) same idle))
copying_begins_none d m (event.Repair (element.Memory x)) q i copied idle = idle
copying_begins_none d m (event.Repair (element.Io x)) q i copied idle = idle
copying_begins_none d m (event.Upset p half reg mask) q i copied idle = handed d m q idle p.0 (strikes half reg mask (m.hand p.0)) (λ same. struck_idle half reg mask (m.hand p.0) (subst (λ x. Idle (m.hand x)) same idle))
copying_begins_none d m (event.Hangup l) q i copied idle = idle
