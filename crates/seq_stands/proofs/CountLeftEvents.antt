-- The turns that are left after every event.
use Rattle.std.proofs.Common.{◌≡◌, ◌≢◌, ◌⊎◌, inl, inr, ℕ, ◌-◌, ◌<◌, ◌≤◌, true, false, [], ◌∷◌, length, ap, sym, ◌∙◌, subst, arith}
use Rattle.std.proofs.lemmas.Bool.{cond_both, cases_Bool, cases_eq, and_parts, eqb-true, eq-eqb, false≢true, true≢false}
use Rattle.seq_words.specs.declared.description.MachineDesc.{MachineDesc}
use Rattle.seq_words.specs.declared.events.Event.{Event}
use Rattle.seq_words.specs.declared.events.Event.TheVariants as event
use Rattle.seq_words.specs.declared.half.Half.{Half}
use Rattle.seq_words.specs.declared.kinds.Element.TheVariants as element
use Rattle.seq_cache.specs.Changes.{Changes}
use Rattle.seq_turns.specs.declared.hand.Hand.{Hand}
use Rattle.seq_turns.specs.declared.hand.Hand.TheVariants as hand
use Rattle.seq_turns.specs.declared.hand.ReleaseAt.TheVariants as release
use Rattle.seq_turns.specs.Functions.{update}
use Rattle.seq_turns.specs.Machines.{Machine, Turn}
use Rattle.seq_turns.specs.Machines.Turn.{Moves, Looks, Copies_unit, Stops}
use Rattle.seq_turns.specs.Duties.{rests}
use Rattle.seq_turns.specs.Allowed.{Allowed}
use Rattle.seq_turns.specs.Processors.{turn}
use Rattle.seq_turns.specs.Reading.{is_amid}
use Rattle.seq_turns.specs.Events.{is_down, comes_back, strikes, stops, is_check, after_turn, happens, run}
use Rattle.seq_turns.proofs.Functions.{update_same, update_other}
use Rattle.seq_stands.specs.Fit.{Fit}
use Rattle.seq_stands.proofs.Fitting.{events_keep_fit}
use Rattle.seq_stands.specs.CountLeft.{left, left_of, most_left, is_turn_of, turns_of, LeftRunsOut, EventsLeaveFew, OwnTurnsLower, OthersRaiseNone}
use Rattle.seq_stands.proofs.CountLeft.{counts, Lowers, none_left, fits_lowers, left_is_few}

-- what holds of the hand and the cache that a processor is left with
left_with : (m : Machine) (p : ℕ) (P : ℕ → Hand → Type 0) (h : Hand) (c : Changes) → P (length c.changes) h → P (length (update m.cache p c p).changes) (update m.hand p h p)
left_with m p P h c k = subst (λ x. P (length x.changes) (update m.hand p h p)) (sym (update_same m.cache p c)) (subst (P (length c.changes)) (sym (update_same m.hand p h)) k)

-- and of those of another
of_other : (m : Machine) (p q : ℕ) (P : ℕ → Hand → Type 0) (h : Hand) (c : Changes) → q ≢ p → P (length (m.cache q).changes) (m.hand q) → P (length (update m.cache p c q).changes) (update m.hand p h q)
of_other m p q P h c ne k = subst (λ x. P (length x.changes) (update m.hand p h q)) (sym (update_other m.cache p c q ne)) (subst (P (length (m.cache q).changes)) (sym (update_other m.hand p h q ne)) k)

module _ (d : MachineDesc) (m : Machine) where
  -- a turn of processor p
  module _ (p : ℕ) where
    own : (before : ℕ) (t : Turn) → Lowers d before t → left_of d (after_turn d m p t) p < before
    own before (Moves move) fewer = left_with m p (λ k h. left d k h < before) move.hand move.cache fewer
    own before (Looks next move) fewer = left_with m p (λ k h. left d k h < before) move.hand move.cache fewer
    own before (Copies_unit i) fewer = absurd fewer
    own before Stops fewer = left_with m p (λ k h. left d k h < before) hand.Down (record (m.cache p) { changes = [] }) fewer

    others : (q : ℕ) → q ≢ p → (t : Turn) → left_of d (after_turn d m p t) q ≤ left_of d m q
    others q ne (Moves move) = of_other m p q (λ k h. left d k h ≤ left_of d m q) move.hand move.cache ne (omega arith)
    others q ne (Looks next move) = of_other m p q (λ k h. left d k h ≤ left_of d m q) move.hand move.cache ne (omega arith)
    others q ne (Copies_unit i) = omega arith
    others q ne Stops = of_other m p q (λ k h. left d k h ≤ left_of d m q) hand.Down (record (m.cache p) { changes = [] }) ne (omega arith)

  -- a processor that comes back, and one that is struck, have as many left as before
  back_left : (k : ℕ) (h : Hand) → left d k (comes_back h) ≤ left d k h
  back_left k hand.Down = omega arith
  back_left k hand.Seek = omega arith
  back_left k (hand.Claiming q c) = omega arith
  back_left k (hand.Running r) = omega arith
  back_left k (hand.Acquiring r t c) = omega arith
  back_left k (hand.Flushing r c mask f) = omega arith
  back_left k (hand.Unlocking r c mask l) = omega arith
  back_left k (hand.Leaving q l) = omega arith
  back_left k (hand.Recovering r) = omega arith

  struck_left : (half : Half) (reg mask k : ℕ) (h : Hand) → left d k (strikes half reg mask h) ≤ left d k h
  struck_left half reg mask k hand.Down = omega arith
  struck_left half reg mask k hand.Seek = omega arith
  struck_left half reg mask k (hand.Claiming q c) = omega arith
  struck_left half reg mask k (hand.Running r) = omega arith
  struck_left half reg mask k (hand.Acquiring r t c) = omega arith
  struck_left half reg mask k (hand.Flushing r c held f) = omega arith
  struck_left half reg mask k (hand.Unlocking r c held (release.Shadow l)) = omega arith
  struck_left half reg mask k (hand.Unlocking r c held (release.Primary l)) = omega arith
  struck_left half reg mask k (hand.Leaving q l) = omega arith
  struck_left half reg mask k (hand.Recovering r) = omega arith

  -- with another hand of one processor, which has no more left
  handed : (p : ℕ) (h : Hand) → left d (length (m.cache p).changes) h ≤ left_of d m p → (q : ℕ) → left d (length (m.cache q).changes) (update m.hand p h q) ≤ left_of d m q
  handed p h few q = go (cases_eq q p)
    where
      go : (q ≡ p) ⊎ (q ≡ p → ⊥) → left d (length (m.cache q).changes) (update m.hand p h q) ≤ left_of d m q
      go (inl e) = subst (λ x. left d (length (m.cache x).changes) (update m.hand p h x) ≤ left_of d m x) (sym e) (subst (λ y. left d (length (m.cache p).changes) y ≤ left_of d m p) (sym (update_same m.hand p h)) few)
      go (inr ne) = subst (λ y. left d (length (m.cache q).changes) y ≤ left_of d m q) (sym (update_other m.hand p h q ne)) (omega arith)

  -- one that stops has none left
  stopping : (p q : ℕ) → left_of d (after_turn d m p Stops) q ≤ left_of d m q
  stopping p q = go (cases_eq q p)
    where
      go : (q ≡ p) ⊎ (q ≡ p → ⊥) → left_of d (after_turn d m p Stops) q ≤ left_of d m q
      go (inl e) = subst (λ x. left_of d (after_turn d m p Stops) x ≤ left_of d m x) (sym e) (left_with m p (λ k h. left d k h ≤ left_of d m p) hand.Down (record (m.cache p) { changes = [] }) (omega arith))
      go (inr ne) = others p q ne Stops

  raise_none : (e : Event) (p : ℕ) → is_turn_of p e ≡ false → left_of d (happens d m e) p ≤ left_of d m p
  raise_none (event.Processor q) p other = others q.0 p (λ same. true≢false (sym (eq-eqb q.0 p (sym same)) ∙ other)) (turn d m q.0 (m.hand q.0))
  raise_none (event.Io i) p other = cond_both (rests d m i.0) _ _ (λ x. left_of d x p ≤ left_of d m p) (λ _. omega arith) (λ _. omega arith)
  raise_none (event.Input l byte) p other = omega arith
  raise_none (event.Close l) p other = omega arith
  raise_none (event.Fail (element.Processor q)) p other = cond_both (is_down (m.hand q.0)) _ _ (λ x. left_of d x p ≤ left_of d m p) (λ _. omega arith) (λ _. stopping q.0 p)
  raise_none (event.Fail (element.Memory i)) p other = omega arith
  raise_none (event.Fail (element.Io i)) p other = omega arith
  raise_none (event.Repair (element.Processor q)) p other = handed q.0 (comes_back (m.hand q.0)) (back_left (length (m.cache q.0).changes) (m.hand q.0)) p
  raise_none (event.Repair (element.Memory i)) p other = omega arith
  raise_none (event.Repair (element.Io i)) p other = omega arith
  raise_none (event.Upset q half reg mask) p other = handed q.0 (strikes half reg mask (m.hand q.0)) (struck_left half reg mask (length (m.cache q.0).changes) (m.hand q.0)) p
  raise_none (event.Hangup l) p other = omega arith

pub others_raise_none : OthersRaiseNone
others_raise_none d m e p other = raise_none d m e p other

pub own_turns_lower : OwnTurnsLower
own_turns_lower d m p fit inside amid = own d m p.0 (left_of d m p.0) (turn d m p.0 (m.hand p.0)) (fits_lowers d m p.0 fit inside amid)

-- a turn that ends the run stops its processor
stopped_few : (d : MachineDesc) (m : Machine) (p : ℕ) (t : Turn) → stops t ≡ true → left_of d (after_turn d m p t) p ≤ most_left d
stopped_few d m p (Moves move) is = absurd (false≢true is)
stopped_few d m p (Looks next move) is = absurd (false≢true is)
stopped_few d m p (Copies_unit i) is = absurd (false≢true is)
stopped_few d m p Stops is = left_with m p (λ k h. left d k h ≤ most_left d) hand.Down (record (m.cache p) { changes = [] }) (omega arith)

pub events_leave_few : EventsLeaveFew
events_leave_few d m e p described fit may inside = go e may (cases_Bool (is_turn_of p e)) (cases_Bool (is_check d m e))
  where
    go : (e : Event) → Allowed d m e → (is_turn_of p e ≡ true) ⊎ (is_turn_of p e ≡ false) → (is_check d m e ≡ true) ⊎ (is_check d m e ≡ false) → left_of d (happens d m e) p ≤ most_left d
    go e may (inr other) check = let less = others_raise_none d m e p other in let few = (left_is_few d m p fit inside).most in omega (arith, less, few)
    go e may (inl is) (inr none) = (left_is_few d (happens d m e) p (events_keep_fit d m e described may none fit) inside).most
    go (event.Processor q) may (inl is) (inl ends) =
        let same : q.0 ≡ p = eqb-true q.0 p is in
        subst (λ x. left_of d (happens d m (event.Processor q)) x ≤ most_left d) same (stopped_few d m q.0 (turn d m q.0 (m.hand q.0)) (and_parts _ _ ends).0)
    go (event.Io i) may (inl is) (inl ends) = absurd (false≢true is)
    go (event.Input l byte) may (inl is) (inl ends) = absurd (false≢true is)
    go (event.Close l) may (inl is) (inl ends) = absurd (false≢true is)
    go (event.Fail x) may (inl is) (inl ends) = absurd (false≢true is)
    go (event.Repair x) may (inl is) (inl ends) = absurd (false≢true is)
    go (event.Upset x half reg mask) may (inl is) (inl ends) = absurd (false≢true is)
    go (event.Hangup l) may (inl is) (inl ends) = absurd (false≢true is)

-- a turn of this processor, amid an operation or not
own_turn : (d : MachineDesc) (p : ℕ) (m : Machine) (e : Event) → Fit d m → p < d.processors → is_turn_of p e ≡ true → (is_amid (m.hand p) ≡ false → is_amid ((happens d m e).hand p) ≡ false) → left_of d (happens d m e) p ≤ left_of d m p - 1
own_turn d p m (event.Processor q) fit inside is begins = subst (λ x. x < d.processors → (is_amid (m.hand x) ≡ false → is_amid ((happens d m (event.Processor q)).hand x) ≡ false) → left_of d (happens d m (event.Processor q)) x ≤ left_of d m x - 1) (eqb-true q.0 p is) by_hand inside begins
  where
    by_hand : q.0 < d.processors → (is_amid (m.hand q.0) ≡ false → is_amid ((happens d m (event.Processor q)).hand q.0) ≡ false) → left_of d (happens d m (event.Processor q)) q.0 ≤ left_of d m q.0 - 1
    by_hand inside begins = go (cases_Bool (is_amid (m.hand q.0)))
      where
        go : (is_amid (m.hand q.0) ≡ true) ⊎ (is_amid (m.hand q.0) ≡ false) → left_of d (happens d m (event.Processor q)) q.0 ≤ left_of d m q.0 - 1
        go (inl amid) = let fewer = own_turns_lower d m q fit inside amid in omega (arith, fewer)
        go (inr idle) = let none = none_left d (length ((happens d m (event.Processor q)).cache q.0).changes) ((happens d m (event.Processor q)).hand q.0) (begins idle) in omega (arith, none)
own_turn d p m (event.Io i) fit inside is begins = absurd (false≢true is)
own_turn d p m (event.Input l byte) fit inside is begins = absurd (false≢true is)
own_turn d p m (event.Close l) fit inside is begins = absurd (false≢true is)
own_turn d p m (event.Fail x) fit inside is begins = absurd (false≢true is)
own_turn d p m (event.Repair x) fit inside is begins = absurd (false≢true is)
own_turn d p m (event.Upset x half reg mask) fit inside is begins = absurd (false≢true is)
own_turn d p m (event.Hangup l) fit inside is begins = absurd (false≢true is)

pub left_runs_out : LeftRunsOut
left_runs_out d p [] m inside none = omega arith
left_runs_out d p (e ∷ es) m inside none = go (cases_Bool (is_turn_of p e)) (left_runs_out d p es (happens d m e) inside none.2)
  where
    go : (is_turn_of p e ≡ true) ⊎ (is_turn_of p e ≡ false) → left_of d (run d es (happens d m e)) p ≤ left_of d (happens d m e) p - turns_of p es → left_of d (run d (e ∷ es) m) p ≤ left_of d m p - turns_of p (e ∷ es)
    go (inl is) rest =
        let one : counts (is_turn_of p e) ≡ 1 = ap counts is in
        let first = own_turn d p m e none.0 inside is none.1 in
        omega (arith, one, first, rest)
    go (inr other) rest =
        let zero : counts (is_turn_of p e) ≡ 0 = ap counts other in
        let first = others_raise_none d m e p other in
        omega (arith, zero, first, rest)
