-- What events make of the ports: how much has arrived at each, and whether it is closed.
use Rattle.std.proofs.Common.{◌≡◌, ℕ, suc, ◌+◌, ◌<◌, ◌≤◌, Bool, true, false, ◌||◌, cond, eqb, List, [], ◌∷◌, length, map, refl, sym, ap, ◌∙◌, subst, arith, eq-eqb}
use Rattle.std.specs.Prelude.{slice_set}
use Rattle.std.proofs.lemmas.Bool.{cond_both, ne_eqb}
use Rattle.seq_words.specs.Description.{line_count}
use Rattle.seq_words.specs.declared.names.LineNo.{LineNo}
use Rattle.seq_words.specs.declared.description.MachineDesc.{MachineDesc}
use Rattle.seq_words.specs.declared.events.Event.{Event}
use Rattle.seq_words.specs.declared.events.Event.TheVariants as events
use Rattle.seq_words.specs.declared.kinds.Element.TheVariants as elements
use Rattle.seq_io.specs.declared.element.PortState.{PortState}
use Rattle.seq_turns.specs.Machines.{Machine, Turn}
use Rattle.seq_turns.specs.Machines.Turn.{Moves, Looks, Copies_unit, Stops}
use Rattle.seq_turns.specs.Processors.{turn}
use Rattle.seq_turns.specs.Duties.{Duty, duty, after_duty, rests}
use Rattle.seq_turns.specs.Allowed.{MayArrive, MayClose, Allowed}
use Rattle.seq_turns.specs.Events.{is_down, stopped, after_turn, after_io, happens, run}
use Rattle.seq_turns.proofs.Functions.{update_cases}
use Rattle.seq_machine.specs.Built.{IsBuilt}
use Rattle.seq_machine.specs.Making.{MayMake}
use Rattle.seq_course.specs.Troubles.{IsTrouble}

-- so much has arrived on each line, and these are closed
pub record IsAt (arrived : ℕ → ℕ) (closed : ℕ → Bool) (m : Machine) : Type 0 where
  pub arrived_is : (l : ℕ) → (m.port l).arrived ≡ arrived l
  pub closed_is : (l : ℕ) → (m.port l).closed ≡ closed l

-- the events may be made, and lead there
pub record LeadTo (d : MachineDesc) (es : List Event) (m : Machine) (arrived : ℕ → ℕ) (closed : ℕ → Bool) : Type 0 where
  pub may : MayMake d es m
  pub at : IsAt arrived closed (run d es m)

pub is_alike : (a a' : ℕ → ℕ) (c c' : ℕ → Bool) (m : Machine) → ((l : ℕ) → a l ≡ a' l) → ((l : ℕ) → c l ≡ c' l) → IsAt a c m → IsAt a' c' m
is_alike a a' c c' m arrived closed at = record { arrived_is = λ l. at.arrived_is l ∙ arrived l; closed_is = λ l. at.closed_is l ∙ closed l }

-- ---- turns

-- a turn of an element that is there
abbrev pub IsTurn : MachineDesc → Event → Type 0
IsTurn d (events.Processor p) = p.0 < d.processors
IsTurn d (events.Io i) = i.0 < d.ios
IsTurn d (events.Input l byte) = ⊥
IsTurn d (events.Close l) = ⊥
IsTurn d (events.Fail e) = ⊥
IsTurn d (events.Repair e) = ⊥
IsTurn d (events.Upset p half reg mask) = ⊥
IsTurn d (events.Hangup l) = ⊥

abbrev pub AreTurns : MachineDesc → List Event → Type 0
AreTurns d [] = Unit {0}
AreTurns d (e ∷ es) = IsTurn d e × AreTurns d es

-- as much has arrived at both, and both are closed or none
record CountsAs (p q : PortState) : Type 0 where
  arrived : q.arrived ≡ p.arrived
  closed : q.closed ≡ p.closed

same_counts : (p : PortState) → CountsAs p p
same_counts p = record { arrived = refl; closed = refl }

turn_counts : (d : MachineDesc) (m : Machine) (p : ℕ) (t : Turn) (l : ℕ) → CountsAs (m.port l) ((after_turn d m p t).port l)
turn_counts d m p (Moves move) l = same_counts (m.port l)
turn_counts d m p (Looks next move) l = same_counts (m.port l)
turn_counts d m p (Copies_unit i) l = same_counts (m.port l)
turn_counts d m p Stops l = same_counts (m.port l)

duty_counts : (d : MachineDesc) (m : Machine) (i at : ℕ) (done : Duty) (l : ℕ) → CountsAs (m.port l) ((after_duty d i at done m).port l)
duty_counts d m i at done l =
    let after : PortState = record (m.port at) { taken = done.taken } in
    update_cases (CountsAs (m.port l)) m.port at after l
    (λ e. subst (λ k. CountsAs (m.port k) after) (sym e) (record { arrived = refl; closed = refl })) (λ ne. same_counts (m.port l))

io_counts : (d : MachineDesc) (m : Machine) (i l : ℕ) → CountsAs (m.port l) ((after_io d m i).port l)
io_counts d m i l = cond_both (rests d m i) m (after_duty d i (m.io i).cursor (duty d m (m.io i).cursor) m) (λ (n : Machine). CountsAs (m.port l) (n.port l))
    (λ t. same_counts (m.port l)) (λ f. duty_counts d m i (m.io i).cursor (duty d m (m.io i).cursor) l)

counts_stay : (d : MachineDesc) (m : Machine) (e : Event) → IsTurn d e → (l : ℕ) → CountsAs (m.port l) ((happens d m e).port l)
counts_stay d m (events.Processor p) is l = turn_counts d m p.0 (turn d m p.0 (m.hand p.0)) l
counts_stay d m (events.Io i) is l = io_counts d m i.0 l
counts_stay d m (events.Input k byte) is l = absurd is
counts_stay d m (events.Close k) is l = absurd is
counts_stay d m (events.Fail e) is l = absurd is
counts_stay d m (events.Repair e) is l = absurd is
counts_stay d m (events.Upset p half reg mask) is l = absurd is
counts_stay d m (events.Hangup k) is l = absurd is

turn_is_built : (d : MachineDesc) (e : Event) → IsTurn d e → IsBuilt e
turn_is_built d (events.Processor p) is = tt
turn_is_built d (events.Io i) is = tt
turn_is_built d (events.Input k byte) is = absurd is
turn_is_built d (events.Close k) is = absurd is
turn_is_built d (events.Fail e) is = absurd is
turn_is_built d (events.Repair e) is = absurd is
turn_is_built d (events.Upset p half reg mask) is = absurd is
turn_is_built d (events.Hangup k) is = absurd is

turn_is_allowed : (d : MachineDesc) (m : Machine) (e : Event) → IsTurn d e → Allowed d m e
turn_is_allowed d m (events.Processor p) is = is
turn_is_allowed d m (events.Io i) is = is
turn_is_allowed d m (events.Input k byte) is = absurd is
turn_is_allowed d m (events.Close k) is = absurd is
turn_is_allowed d m (events.Fail e) is = absurd is
turn_is_allowed d m (events.Repair e) is = absurd is
turn_is_allowed d m (events.Upset p half reg mask) is = absurd is
turn_is_allowed d m (events.Hangup k) is = absurd is

-- ---- failures, repairs and strikes
-- none changes a port
trouble_ports : (d : MachineDesc) (m : Machine) (e : Event) → IsTrouble e → (l : ℕ) → (happens d m e).port l ≡ m.port l
trouble_ports d m (events.Fail (elements.Processor p)) is l = cond_both (is_down (m.hand p.0)) m (stopped m p.0) (λ (n : Machine). n.port l ≡ m.port l) (λ _. refl) (λ _. refl)
trouble_ports d m (events.Fail (elements.Memory i)) is l = refl
trouble_ports d m (events.Fail (elements.Io i)) is l = refl
trouble_ports d m (events.Repair (elements.Processor p)) is l = refl
trouble_ports d m (events.Repair (elements.Memory i)) is l = refl
trouble_ports d m (events.Repair (elements.Io i)) is l = refl
trouble_ports d m (events.Upset p half reg mask) is l = refl
trouble_ports d m (events.Processor p) is l = absurd is
trouble_ports d m (events.Io i) is l = absurd is
trouble_ports d m (events.Input k byte) is l = absurd is
trouble_ports d m (events.Close k) is l = absurd is
trouble_ports d m (events.Hangup k) is l = absurd is

trouble_is_built : (e : Event) → IsTrouble e → IsBuilt e
trouble_is_built (events.Fail e) is = tt
trouble_is_built (events.Repair e) is = tt
trouble_is_built (events.Upset p half reg mask) is = tt
trouble_is_built (events.Processor p) is = absurd is
trouble_is_built (events.Io i) is = absurd is
trouble_is_built (events.Input k byte) is = absurd is
trouble_is_built (events.Close k) is = absurd is
trouble_is_built (events.Hangup k) is = absurd is

module _ (d : MachineDesc) where
  pub trouble_leads : (a : ℕ → ℕ) (c : ℕ → Bool) (m : Machine) (e : Event) → IsTrouble e → Allowed d m e → IsAt a c m → LeadTo d (e ∷ []) m a c
  trouble_leads a c m e is allowed at = record {
    may = (trouble_is_built e is, allowed, λ none. tt);
    at = record {
      arrived_is = λ l. ap (λ (port : PortState). port.arrived) (trouble_ports d m e is l) ∙ at.arrived_is l;
      closed_is = λ l. ap (λ (port : PortState). port.closed) (trouble_ports d m e is l) ∙ at.closed_is l;
    };
  }

  -- ---- turns, one after the other
  turn_goes : (a : ℕ → ℕ) (c : ℕ → Bool) (m : Machine) (e : Event) → IsTurn d e → IsAt a c m → IsAt a c (happens d m e)
  turn_goes a c m e is at = record { arrived_is = λ l. (counts_stay d m e is l).arrived ∙ at.arrived_is l; closed_is = λ l. (counts_stay d m e is l).closed ∙ at.closed_is l }

  pub turns_lead : (a : ℕ → ℕ) (c : ℕ → Bool) (m : Machine) (es : List Event) → AreTurns d es → IsAt a c m → LeadTo d es m a c
  turns_lead a c m [] are at = record { may = tt; at = at }
  turns_lead a c m (e ∷ es) are at =
      let rest = turns_lead a c (happens d m e) es are.1 (turn_goes a c m e are.0 at) in
      record { may = (turn_is_built d e are.0, turn_is_allowed d m e are.0, λ none. rest.may); at = rest.at }

  -- ---- a byte arrives, and a line is closed

  input_goes : (a : ℕ → ℕ) (c : ℕ → Bool) (m : Machine) (k : LineNo) (byte : ℕ) → IsAt a c m → IsAt (λ l. cond (eqb l k.0) 1 0 + a l) c (happens d m (events.Input k byte))
  input_goes a c m k byte at = record { arrived_is = arrived; closed_is = closed }
    where
      new : PortState
      new = record (m.port k.0) { arrived = suc (m.port k.0).arrived; store = slice_set (m.port k.0).store (m.port k.0).arrived byte }

      arrived : (l : ℕ) → ((happens d m (events.Input k byte)).port l).arrived ≡ cond (eqb l k.0) 1 0 + a l
      arrived l = update_cases (λ (p : PortState). p.arrived ≡ cond (eqb l k.0) 1 0 + a l) m.port k.0 new l
          (λ e. rw (eq-eqb l k.0 e) (let now : (m.port k.0).arrived ≡ a k.0 = at.arrived_is k.0 in let there : a l ≡ a k.0 = ap a e in omega arith))
          (λ ne. rw (ne_eqb l k.0 ne) (let now : (m.port l).arrived ≡ a l = at.arrived_is l in omega arith))

      closed : (l : ℕ) → ((happens d m (events.Input k byte)).port l).closed ≡ c l
      closed l = update_cases (λ (p : PortState). p.closed ≡ c l) m.port k.0 new l (λ e. at.closed_is k.0 ∙ sym (ap c e)) (λ ne. at.closed_is l)

  close_goes : (a : ℕ → ℕ) (c : ℕ → Bool) (m : Machine) (k : LineNo) → IsAt a c m → IsAt a (λ l. eqb l k.0 || c l) (happens d m (events.Close k))
  close_goes a c m k at = record { arrived_is = arrived; closed_is = closed }
    where
      new : PortState
      new = record (m.port k.0) { closed = true }

      arrived : (l : ℕ) → ((happens d m (events.Close k)).port l).arrived ≡ a l
      arrived l = update_cases (λ (p : PortState). p.arrived ≡ a l) m.port k.0 new l (λ e. at.arrived_is k.0 ∙ sym (ap a e)) (λ ne. at.arrived_is l)

      closed : (l : ℕ) → ((happens d m (events.Close k)).port l).closed ≡ (eqb l k.0 || c l)
      closed l = update_cases (λ (p : PortState). p.closed ≡ (eqb l k.0 || c l)) m.port k.0 new l
          (λ e. sym (ap (λ b. b || c l) (eq-eqb l k.0 e)))
          (λ ne. at.closed_is l ∙ sym (ap (λ b. b || c l) (ne_eqb l k.0 ne)))

  pub close_leads : (a : ℕ → ℕ) (c : ℕ → Bool) (m : Machine) (k : LineNo) → k.0 < line_count d → c k.0 ≡ false → IsAt a c m → LeadTo d (events.Close k ∷ []) m a (λ l. eqb l k.0 || c l)
  close_leads a c m k there unclosed at =
      let may : MayClose d k.0 (m.port k.0) = record { line = there; unclosed = at.closed_is k.0 ∙ unclosed } in
      record { may = (tt, may, λ none. tt); at = close_goes a c m k at }

  no_more : (b : Bool) (n : ℕ) → n ≡ cond b 0 0 + n
  no_more true n = omega arith
  no_more false n = omega arith

  one_more : (b : Bool) (n k : ℕ) → cond b (suc n) 0 + k ≡ cond b n 0 + (cond b 1 0 + k)
  one_more true n k = omega arith
  one_more false n k = omega arith

  pub inputs_lead : (a : ℕ → ℕ) (c : ℕ → Bool) (m : Machine) (k : LineNo) (bytes : List ℕ) → k.0 < line_count d → a k.0 + length bytes ≤ d.journal → c k.0 ≡ false → IsAt a c m
      → LeadTo d (map (λ byte. events.Input k byte) bytes) m (λ l. cond (eqb l k.0) (length bytes) 0 + a l) c
  inputs_lead a c m k [] there room unclosed at = record { may = tt; at = is_alike a (λ l. cond (eqb l k.0) 0 0 + a l) c c m (λ l. no_more (eqb l k.0) (a l)) (λ l. refl) at }
  inputs_lead a c m k (byte ∷ bytes) there room unclosed at =
      let now : (m.port k.0).arrived ≡ a k.0 = at.arrived_is k.0 in
      let may : MayArrive d k.0 (m.port k.0) = record { line = there; room = omega (arith, now, room); unclosed = at.closed_is k.0 ∙ unclosed } in
      let left : cond (eqb k.0 k.0) 1 0 + a k.0 + length bytes ≤ d.journal = rw (eq-eqb k.0 k.0 refl) (omega (arith, room)) in
      let rest = inputs_lead (λ l. cond (eqb l k.0) 1 0 + a l) c (happens d m (events.Input k byte)) k bytes there left unclosed (input_goes a c m k byte at) in
      record {
        may = (tt, may, λ none. rest.may);
        at = is_alike (λ l. cond (eqb l k.0) (length bytes) 0 + (cond (eqb l k.0) 1 0 + a l)) (λ l. cond (eqb l k.0) (length (byte ∷ bytes)) 0 + a l) c c (run d (map (λ b. events.Input k b) (byte ∷ bytes)) m)
            (λ l. sym (one_more (eqb l k.0) (length bytes) (a l))) (λ l. refl) rest.at;
      }
