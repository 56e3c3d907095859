-- A processor that is down stays so until it is repaired.
use Rattle.std.proofs.Common.{◌≡◌, ◌⊎◌, inl, inr, ℕ, true, refl, sym, ◌∙◌, subst}
use Rattle.std.proofs.lemmas.Bool.{cond_both, cases_eq}
use Rattle.seq_words.specs.declared.names.Pe.{Pe}
use Rattle.seq_words.specs.declared.kinds.Element.TheVariants as elements
use Rattle.seq_words.specs.declared.description.MachineDesc.{MachineDesc}
use Rattle.seq_words.specs.declared.events.Event.TheVariants as events
use Rattle.seq_turns.specs.declared.hand.Hand.{Hand}
use Rattle.seq_turns.specs.declared.hand.Hand.TheVariants as hand
use Rattle.seq_turns.specs.Machines.{Machine, Turn}
use Rattle.seq_turns.specs.Machines.Turn.{Moves, Looks, Copies_unit, Stops}
use Rattle.seq_turns.specs.Processors.{turn}
use Rattle.seq_turns.specs.Events.{is_down, comes_back, stopped, after_turn, happens}
use Rattle.seq_turns.proofs.Functions.{update_same, update_other, update_cases}

module _ (d : MachineDesc) (m : Machine) (p : ℕ) (down : m.hand p ≡ hand.Down) where
  -- a turn of another processor
  by_other : (q : ℕ) (t : Turn) → (p ≡ q → ⊥) → (after_turn d m q t).hand p ≡ hand.Down
  by_other q (Moves move) ne = update_other m.hand q move.hand p ne ∙ down
  by_other q (Looks next move) ne = update_other m.hand q move.hand p ne ∙ down
  by_other q (Copies_unit i) ne = down
  by_other q Stops ne = update_other m.hand q hand.Down p ne ∙ down

  -- its own turn
  by_itself : (after_turn d m p (turn d m p (m.hand p))).hand p ≡ hand.Down
  by_itself = subst (λ (h : Hand). (after_turn d m p (turn d m p h)).hand p ≡ hand.Down) (sym down) (update_same m.hand p (m.hand p) ∙ down)

  pub turn_stays : (q : ℕ) → (after_turn d m q (turn d m q (m.hand q))).hand p ≡ hand.Down
  turn_stays q = go (cases_eq p q)
    where
      go : (p ≡ q) ⊎ (p ≡ q → ⊥) → (after_turn d m q (turn d m q (m.hand q))).hand p ≡ hand.Down
      go (inl e) = subst (λ (k : ℕ). (after_turn d m k (turn d m k (m.hand k))).hand p ≡ hand.Down) e by_itself
      go (inr ne) = by_other q (turn d m q (m.hand q)) ne

  -- a processor fails, this one or another
  pub failure_stays : (q : Pe) → (happens d m (events.Fail (elements.Processor q))).hand p ≡ hand.Down
  failure_stays q = cond_both (is_down (m.hand q.0)) m (stopped m q.0) (λ (n : Machine). n.hand p ≡ hand.Down) (λ _. down)
      (λ _. update_cases (λ (h : Hand). h ≡ hand.Down) m.hand q.0 hand.Down p (λ e. refl) (λ ne. down))

  -- another is repaired
  pub repair_stays : (q : Pe) → (p ≡ q.0 → ⊥) → (happens d m (events.Repair (elements.Processor q))).hand p ≡ hand.Down
  repair_stays q ne = update_other m.hand q.0 (comes_back (m.hand q.0)) p ne ∙ down

-- what is down, by its test
down_is : (h : Hand) → is_down h ≡ true → h ≡ hand.Down
down_is hand.Down e = refl
down_is hand.Seek e = absurd (let c : ⊥ = cc in c)
down_is (hand.Claiming q c) e = absurd (let c : ⊥ = cc in c)
down_is (hand.Running r) e = absurd (let c : ⊥ = cc in c)
down_is (hand.Acquiring r t c) e = absurd (let c : ⊥ = cc in c)
down_is (hand.Flushing r cause mask f) e = absurd (let c : ⊥ = cc in c)
down_is (hand.Unlocking r cause mask l) e = absurd (let c : ⊥ = cc in c)
down_is (hand.Leaving q l) e = absurd (let c : ⊥ = cc in c)
down_is (hand.Recovering r) e = absurd (let c : ⊥ = cc in c)

-- a processor that fails is down
pub failed_is_down : (d : MachineDesc) (m : Machine) (q : Pe) → (happens d m (events.Fail (elements.Processor q))).hand q.0 ≡ hand.Down
failed_is_down d m q = cond_both (is_down (m.hand q.0)) m (stopped m q.0) (λ (n : Machine). n.hand q.0 ≡ hand.Down) (λ e. down_is (m.hand q.0) e) (λ _. update_same m.hand q.0 hand.Down)
