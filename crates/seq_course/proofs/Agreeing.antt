-- Every event keeps what a schedule's failures, repairs and strikes have left of a machine.
use Rattle.std.proofs.Common.{◌≡◌, ◌≢◌, ◌⊎◌, inl, inr, ℕ, zero, suc, Bool, true, false, not, ◌&&◌, ◌||◌, cond, eqb, Option, Some, None, List, [], ◌∷◌, ◌++◌, map, refl, sym, ap, ◌∙◌, eq-eqb}
use Rattle.std.specs.Prelude.{nat_le}
use Rattle.std.specs.List.{range_with_len}
use Rattle.std.proofs.lemmas.Bool.{cond_both, cases_eq, ne_eqb, false≢true, true≢false}
use Rattle.seq_words.specs.declared.half.Half.{Half}
use Rattle.seq_words.specs.declared.half.Half.TheVariants as side
use Rattle.seq_words.specs.declared.names.Pe.{Pe}
use Rattle.seq_words.specs.declared.elements.Me.{Me}
use Rattle.seq_words.specs.declared.names.Ioe.{Ioe}
use Rattle.seq_words.specs.declared.kinds.Element.{Element}
use Rattle.seq_words.specs.declared.kinds.Element.TheVariants as elements
use Rattle.seq_words.specs.declared.description.MachineDesc.{MachineDesc}
use Rattle.seq_words.specs.declared.events.Event.{Event}
use Rattle.seq_words.specs.declared.events.Event.TheVariants as events
use Rattle.seq_memory.specs.declared.element.State.{State}
use Rattle.seq_memory.specs.declared.element.State.TheVariants.{InService, Down, Stale, Copying}
use Rattle.seq_schedule.specs.declared.script.Script.{Script}
use Rattle.seq_schedule.specs.declared.script.Script.TheVariants as scripts
use Rattle.seq_schedule.specs.Scripted.{turn_of, times, round_of, events_in}
use Rattle.seq_schedule.specs.Rules.{same_half, is_failed, is_struck, past}
use Rattle.seq_io.specs.declared.element.IoElement.{IoElement}
use Rattle.seq_turns.specs.declared.hand.Hand.{Hand}
use Rattle.seq_turns.specs.declared.hand.Hand.TheVariants as hand
use Rattle.seq_turns.specs.Machines.{Machine, Turn}
use Rattle.seq_turns.specs.Machines.Turn.{Moves, Looks, Copies_unit, Stops}
use Rattle.seq_turns.specs.Reading.{is_copied}
use Rattle.seq_turns.specs.Recoveries.{service_after}
use Rattle.seq_turns.specs.Processors.{turn}
use Rattle.seq_turns.specs.Duties.{duty, after_duty, rests}
use Rattle.seq_turns.specs.Events.{is_down, comes_back, is_back, stopped, strikes, after_turn, after_io, happens, run}
use Rattle.seq_turns.specs.Functions.{update}
use Rattle.seq_turns.proofs.Functions.{update_cases}
use Rattle.seq_course.specs.Troubles.{struck_in, Agrees, EventsAgree, ScriptsAgree}
use Rattle.seq_course.proofs.Downs.{turn_stays, failure_stays, repair_stays, failed_is_down}
use Rattle.seq_course.proofs.StruckHands.{IsAsStruck, LeavesAsStruck, turn_strikes_nothing}
use Rattle.seq_kernel.proofs.Halves.{is_struck as struck_is}
use Rattle.seq_schedule.proofs.Ranges.{state_none}

none_struck : (b : Bool) (h : Half) → None ≡ Some h → b ≡ true
none_struck b h e = absurd (let c : ⊥ = cc in c)

-- ---- turns of processors
module _ (d : MachineDesc) (m : Machine) (before : List Script) (at : Agrees d before m) where
  -- a memory that is copied isn't down, and is in service or copied on
  service_up : (b : Bool) (done : ℕ) → cond b InService (Copying done) ≢ Down
  service_up true done e = absurd (let c : ⊥ = cc in c)
  service_up false done e = absurd (let c : ⊥ = cc in c)

  copied_is_up : (i : ℕ) → is_copied (m.copies.state i) ≡ true → m.copies.state i ≡ Down → ⊥
  copied_is_up i copied down = false≢true (sym (ap is_copied down) ∙ copied)

  copied_stays : (i count done j : ℕ) → is_copied (m.copies.state i) ≡ true → m.copies.state j ≡ Down → update m.copies.state i (service_after count done) j ≡ Down
  copied_stays i count done j copied down = update_cases (λ (s : State). s ≡ Down) m.copies.state i (service_after count done) j (λ e. absurd (copied_is_up i copied (ap m.copies.state (sym e) ∙ down))) (λ ne. down)

  copied_up : (i count done j : ℕ) → m.copies.state j ≢ Down → update m.copies.state i (service_after count done) j ≢ Down
  copied_up i count done j up = update_cases (λ (s : State). s ≢ Down) m.copies.state i (service_after count done) j (λ e. service_up (nat_le count done) done) (λ ne. up)

  -- what is struck of a hand after a change of another or of this one
  by_hand : (q : ℕ) (new : Hand) → IsAsStruck (struck_in (m.hand q)) new → (p : Pe) (h : Half) → struck_in (update m.hand q new p.0) ≡ Some h → is_struck p h before ≡ true
  by_hand q new kept p h = update_cases (λ (x : Hand). struck_in x ≡ Some h → is_struck p h before ≡ true) m.hand q new p.0
      (λ e is. at.halves p h (ap (λ (k : ℕ). struck_in (m.hand k)) e ∙ kept h is)) (λ ne is. at.halves p h is)

  by_turn : (q : ℕ) (t : Turn) → LeavesAsStruck m.copies.state (struck_in (m.hand q)) t → ((p : Pe) → is_failed (elements.Processor p) before ≡ true → (after_turn d m q t).hand p.0 ≡ hand.Down) → Agrees d before (after_turn d m q t)
  by_turn q (Moves move) kept downs = record { processors = downs; down = at.down; up = at.up; ios = at.ios; halves = by_hand q move.hand kept }
  by_turn q (Looks next move) kept downs = record { processors = downs; down = at.down; up = at.up; ios = at.ios; halves = by_hand q move.hand kept }
  by_turn q (Copies_unit i) copied downs = record {
    processors = downs;
    down = λ j failed. copied_stays i _ _ j.0 copied (at.down j failed);
    up = λ j there works. copied_up i _ _ j.0 (at.up j there works);
    ios = at.ios;
    halves = at.halves;
  }
  by_turn q Stops kept downs = record { processors = downs; down = at.down; up = at.up; ios = at.ios; halves = by_hand q hand.Down (λ h e. absurd (let c : ⊥ = cc in c)) }

  turn_agrees : (q : ℕ) → Agrees d before (after_turn d m q (turn d m q (m.hand q)))
  turn_agrees q = by_turn q (turn d m q (m.hand q)) (turn_strikes_nothing d m q) (λ p failed. turn_stays d m p.0 (at.processors p failed) q)

  -- ---- turns of I/O elements
  io_up : (i : ℕ) (j : Ioe) → ((after_io d m i).io j.0).up ≡ (m.io j.0).up
  io_up i j = cond_both (rests d m i) m (after_duty d i (m.io i).cursor (duty d m (m.io i).cursor) m) (λ (n : Machine). (n.io j.0).up ≡ (m.io j.0).up) (λ _. refl)
      (λ _. update_cases (λ (x : IoElement). x.up ≡ (m.io j.0).up) m.io i _ j.0 (λ e. ap (λ (k : ℕ). (m.io k).up) (sym e)) (λ ne. refl))

  io_hand : (i p : ℕ) → (after_io d m i).hand p ≡ m.hand p
  io_hand i p = cond_both (rests d m i) m (after_duty d i (m.io i).cursor (duty d m (m.io i).cursor) m) (λ (n : Machine). n.hand p ≡ m.hand p) (λ _. refl) (λ _. refl)

  io_state : (i j : ℕ) → (after_io d m i).copies.state j ≡ m.copies.state j
  io_state i j = cond_both (rests d m i) m (after_duty d i (m.io i).cursor (duty d m (m.io i).cursor) m) (λ (n : Machine). n.copies.state j ≡ m.copies.state j) (λ _. refl) (λ _. refl)

  io_agrees : (i : ℕ) → Agrees d before (after_io d m i)
  io_agrees i = record {
    processors = λ p failed. io_hand i p.0 ∙ at.processors p failed;
    down = λ j failed. io_state i j.0 ∙ at.down j failed;
    up = λ j there works e. at.up j there works (sym (io_state i j.0) ∙ e);
    ios = λ j. io_up i j ∙ at.ios j;
    halves = λ p h is. at.halves p h (ap struck_in (sym (io_hand i p.0)) ∙ is);
  }

  -- ---- failures
  stops_agrees : (q : Pe) → Agrees d (scripts.One (events.Fail (elements.Processor q)) ∷ before) (happens d m (events.Fail (elements.Processor q)))
  stops_agrees q = record {
    processors = λ p failed. downs p failed (cases_eq p.0 q.0);
    down = λ j failed. cond_both (is_down (m.hand q.0)) m (stopped m q.0) (λ (n : Machine). n.copies.state j.0 ≡ Down) (λ _. at.down j failed) (λ _. at.down j failed);
    up = λ j there works. cond_both (is_down (m.hand q.0)) m (stopped m q.0) (λ (n : Machine). n.copies.state j.0 ≢ Down) (λ _. at.up j there works) (λ _. at.up j there works);
    ios = λ j. cond_both (is_down (m.hand q.0)) m (stopped m q.0) (λ (n : Machine). (n.io j.0).up ≡ not (is_failed (elements.Io j) before)) (λ _. at.ios j) (λ _. at.ios j);
    halves = λ p h. cond_both (is_down (m.hand q.0)) m (stopped m q.0) (λ (n : Machine). struck_in (n.hand p.0) ≡ Some h → is_struck p h before ≡ true) (λ _. at.halves p h)
        (λ _. by_hand q.0 hand.Down (λ k e. absurd (let c : ⊥ = cc in c)) p h);
  }
    where
      downs : (p : Pe) → (eqb p.0 q.0 || is_failed (elements.Processor p) before) ≡ true → (p.0 ≡ q.0) ⊎ (p.0 ≡ q.0 → ⊥) → (happens d m (events.Fail (elements.Processor q))).hand p.0 ≡ hand.Down
      downs p failed (inl e) = ap (λ (k : ℕ). (happens d m (events.Fail (elements.Processor q))).hand k) e ∙ failed_is_down d m q
      downs p failed (inr ne) = failure_stays d m p.0 (at.processors p (sym (ap (λ b. b || is_failed (elements.Processor p) before) (ne_eqb p.0 q.0 ne)) ∙ failed)) q

  -- a test that an element is another one, or has failed
  not_other : (b f : Bool) → (b || f) ≡ false → (b ≡ false) × (f ≡ false)
  not_other true f e = absurd (true≢false e)
  not_other false f e = (refl, e)

  loses_agrees : (i : Me) → Agrees d (scripts.One (events.Fail (elements.Memory i)) ∷ before) (happens d m (events.Fail (elements.Memory i)))
  loses_agrees i = record {
    processors = at.processors;
    down = λ j failed. update_cases (λ (s : State). s ≡ Down) m.copies.state i.0 Down j.0 (λ e. refl) (λ ne. at.down j (sym (ap (λ b. b || is_failed (elements.Memory j) before) (ne_eqb j.0 i.0 ne)) ∙ failed));
    up = λ j there works. update_cases (λ (s : State). s ≢ Down) m.copies.state i.0 Down j.0
        (λ e. absurd (true≢false (sym (eq-eqb j.0 i.0 e) ∙ (not_other _ _ works).0))) (λ ne. at.up j there (not_other _ _ works).1);
    ios = at.ios;
    halves = at.halves;
  }

  rests_agrees : (i : Ioe) → Agrees d (scripts.One (events.Fail (elements.Io i)) ∷ before) (happens d m (events.Fail (elements.Io i)))
  rests_agrees i = record {
    processors = at.processors;
    down = at.down;
    up = at.up;
    ios = λ j. update_cases (λ (x : IoElement). x.up ≡ not (eqb j.0 i.0 || is_failed (elements.Io j) before)) m.io i.0 (record { up = false; cursor = 0 }) j.0
        (λ e. sym (ap (λ b. not (b || is_failed (elements.Io j) before)) (eq-eqb j.0 i.0 e)))
        (λ ne. at.ios j ∙ sym (ap (λ b. not (b || is_failed (elements.Io j) before)) (ne_eqb j.0 i.0 ne)));
    halves = at.halves;
  }

  -- ---- repairs
  -- what is failed behind a repair is another element, and was failed before
  other_failed : (b f : Bool) → (not b && f) ≡ true → (b ≡ false) × (f ≡ true)
  other_failed true f e = absurd (false≢true e)
  other_failed false f e = (refl, e)

  seeks_agrees : (q : Pe) → is_failed (elements.Processor q) before ≡ true → Agrees d (scripts.One (events.Repair (elements.Processor q)) ∷ before) (happens d m (events.Repair (elements.Processor q)))
  seeks_agrees q failed = record {
    processors = λ p still. let other = other_failed _ _ still in repair_stays d m p.0 (at.processors p other.1) q (λ e. true≢false (sym (eq-eqb p.0 q.0 e) ∙ other.0));
    down = at.down;
    up = at.up;
    ios = at.ios;
    halves = λ p h. update_cases (λ (x : Hand). struck_in x ≡ Some h → (not (eqb p.0 q.0) && is_struck p h before) ≡ true) m.hand q.0 (comes_back (m.hand q.0)) p.0
        (λ e is. none_struck _ h (ap (λ (x : Hand). struck_in (comes_back x)) (sym (at.processors q failed)) ∙ is))
        (λ ne is. ap (λ b. not b && is_struck p h before) (ne_eqb p.0 q.0 ne) ∙ at.halves p h is);
  }

  back_up : (s : State) → is_back s ≢ Down
  back_up InService e = absurd (let c : ⊥ = cc in c)
  back_up Down e = absurd (let c : ⊥ = cc in c)
  back_up Stale e = absurd (let c : ⊥ = cc in c)
  back_up (Copying next) e = absurd (let c : ⊥ = cc in c)

  returns_agrees : (i : Me) → Agrees d (scripts.One (events.Repair (elements.Memory i)) ∷ before) (happens d m (events.Repair (elements.Memory i)))
  returns_agrees i = record {
    processors = at.processors;
    down = λ j still. let other = other_failed _ _ still in
        update_cases (λ (s : State). s ≡ Down) m.copies.state i.0 (is_back (m.copies.state i.0)) j.0 (λ e. absurd (true≢false (sym (eq-eqb j.0 i.0 e) ∙ other.0))) (λ ne. at.down j other.1);
    up = λ j there works. update_cases (λ (s : State). s ≢ Down) m.copies.state i.0 (is_back (m.copies.state i.0)) j.0 (λ e. back_up (m.copies.state i.0))
        (λ ne. at.up j there (sym (ap (λ b. not b && is_failed (elements.Memory j) before) (ne_eqb j.0 i.0 ne)) ∙ works));
    ios = at.ios;
    halves = at.halves;
  }

  works_agrees : (i : Ioe) → Agrees d (scripts.One (events.Repair (elements.Io i)) ∷ before) (happens d m (events.Repair (elements.Io i)))
  works_agrees i = record {
    processors = at.processors;
    down = at.down;
    up = at.up;
    ios = λ j. update_cases (λ (x : IoElement). x.up ≡ not (not (eqb j.0 i.0) && is_failed (elements.Io j) before)) m.io i.0 (record (m.io i.0) { up = true }) j.0
        (λ e. sym (ap (λ b. not (not b && is_failed (elements.Io j) before)) (eq-eqb j.0 i.0 e)))
        (λ ne. at.ios j ∙ sym (ap (λ b. not (not b && is_failed (elements.Io j) before)) (ne_eqb j.0 i.0 ne)));
    halves = at.halves;
  }

  -- ---- strikes
  module _ (q : Pe) (k : Half) (reg mask : ℕ) where
    -- what is struck then is this half
    it_is : (h : Half) → Some k ≡ Some h → h ≡ k
    it_is h e = cc

    struck_then : (x : Hand) (h : Half) → struck_in (strikes k reg mask x) ≡ Some h → h ≡ k
    struck_then hand.Down h e = absurd (let c : ⊥ = cc in c)
    struck_then hand.Seek h e = absurd (let c : ⊥ = cc in c)
    struck_then (hand.Claiming p c) h e = absurd (let c : ⊥ = cc in c)
    struck_then (hand.Running r) h e = it_is h (sym (struck_is r.pair k reg mask) ∙ e)
    struck_then (hand.Acquiring r t c) h e = it_is h (sym (struck_is r.pair k reg mask) ∙ e)
    struck_then (hand.Flushing r cause held f) h e = it_is h (sym (struck_is r.pair k reg mask) ∙ e)
    struck_then (hand.Unlocking r cause held l) h e = it_is h (sym (struck_is r.pair k reg mask) ∙ e)
    struck_then (hand.Leaving p l) h e = absurd (let c : ⊥ = cc in c)
    struck_then (hand.Recovering r) h e = absurd (let c : ⊥ = cc in c)

    same_itself : (h : Half) → same_half h h ≡ true
    same_itself side.A = refl
    same_itself side.B = refl

    is_told : (p : Pe) (h : Half) → h ≡ k → p.0 ≡ q.0 → (same_half h k && eqb p.0 q.0 || is_struck p h before) ≡ true
    is_told p h e same = ap (λ (x : Half). same_half h x && eqb p.0 q.0 || is_struck p h before) (sym e)
        ∙ ap (λ b. b && eqb p.0 q.0 || is_struck p h before) (same_itself h)
        ∙ ap (λ b. b || is_struck p h before) (eq-eqb p.0 q.0 same)

    or_before : (b f : Bool) → f ≡ true → (b || f) ≡ true
    or_before true f e = refl
    or_before false f e = e

    stays_struck_down : (x : Hand) → x ≡ hand.Down → strikes k reg mask x ≡ hand.Down
    stays_struck_down x e = ap (strikes k reg mask) e

    strike_agrees : Agrees d (scripts.One (events.Upset q k reg mask) ∷ before) (happens d m (events.Upset q k reg mask))
    strike_agrees = record {
      processors = λ p failed. update_cases (λ (x : Hand). x ≡ hand.Down) m.hand q.0 (strikes k reg mask (m.hand q.0)) p.0
          (λ e. stays_struck_down (m.hand q.0) (ap m.hand (sym e) ∙ at.processors p failed)) (λ ne. at.processors p failed);
      down = at.down;
      up = at.up;
      ios = at.ios;
      halves = λ p h. update_cases (λ (x : Hand). struck_in x ≡ Some h → (same_half h k && eqb p.0 q.0 || is_struck p h before) ≡ true) m.hand q.0 (strikes k reg mask (m.hand q.0)) p.0
          (λ e is. is_told p h (struck_then (m.hand q.0) h is) e)
          (λ ne is. or_before _ _ (at.halves p h is));
    }

-- ---- any event
-- a script that fails, repairs and strikes nothing leaves what those before it did
by_quiet : (d : MachineDesc) (before : List Script) (s : Script) (m : Machine) → ((e : Element) → is_failed e (s ∷ before) ≡ is_failed e before) → ((p : Pe) (h : Half) → is_struck p h (s ∷ before) ≡ is_struck p h before) → Agrees d before m → Agrees d (s ∷ before) m
by_quiet d before s m failed struck at = record {
  processors = λ p is. at.processors p (sym (failed (elements.Processor p)) ∙ is);
  down = λ j is. at.down j (sym (failed (elements.Memory j)) ∙ is);
  up = λ j there is. at.up j there (sym (failed (elements.Memory j)) ∙ is);
  ios = λ j. at.ios j ∙ ap not (sym (failed (elements.Io j)));
  halves = λ p h is. struck p h ∙ at.halves p h is;
}

-- what is repaired has failed, where rule 33 isn't violated
pub has_failed : (b : Bool) → ◌≡◌ {A = Option ℕ} (cond b None (Some 33)) None → b ≡ true
has_failed true e = refl
has_failed false e = absurd (let c : ⊥ = cc in c)

pub events_agree : EventsAgree
events_agree d m (events.Processor p) before none at = by_quiet d before (scripts.One (events.Processor p)) _ (λ e. refl) (λ q h. refl) (turn_agrees d m before at p.0)
events_agree d m (events.Io i) before none at = by_quiet d before (scripts.One (events.Io i)) _ (λ e. refl) (λ q h. refl) (io_agrees d m before at i.0)
events_agree d m (events.Input l byte) before none at = record { processors = at.processors; down = at.down; up = at.up; ios = at.ios; halves = at.halves }
events_agree d m (events.Close l) before none at = record { processors = at.processors; down = at.down; up = at.up; ios = at.ios; halves = at.halves }
events_agree d m (events.Fail (elements.Processor p)) before none at = stops_agrees d m before at p
events_agree d m (events.Fail (elements.Memory i)) before none at = loses_agrees d m before at i
events_agree d m (events.Fail (elements.Io i)) before none at = rests_agrees d m before at i
events_agree d m (events.Repair (elements.Processor p)) before none at = seeks_agrees d m before at p (has_failed _ (state_none d (past d before) (scripts.One (events.Repair (elements.Processor p))) none))
events_agree d m (events.Repair (elements.Memory i)) before none at = returns_agrees d m before at i
events_agree d m (events.Repair (elements.Io i)) before none at = works_agrees d m before at i
events_agree d m (events.Upset p half reg mask) before none at = strike_agrees d m before at p half reg mask
events_agree d m (events.Hangup l) before none at = record { processors = at.processors; down = at.down; up = at.up; ios = at.ios; halves = at.halves }

-- ---- any script
-- a turn, or what arrives
abbrev IsQuiet : Event → Type 0
IsQuiet (events.Processor p) = Unit {0}
IsQuiet (events.Io i) = Unit {0}
IsQuiet (events.Input l byte) = Unit {0}
IsQuiet (events.Close l) = ⊥
IsQuiet (events.Fail e) = ⊥
IsQuiet (events.Repair e) = ⊥
IsQuiet (events.Upset p half reg mask) = ⊥
IsQuiet (events.Hangup l) = ⊥

abbrev AreQuiet : List Event → Type 0
AreQuiet [] = Unit {0}
AreQuiet (e ∷ es) = IsQuiet e × AreQuiet es

quiet_agrees : (d : MachineDesc) (m : Machine) (e : Event) (before : List Script) → IsQuiet e → Agrees d before m → Agrees d before (happens d m e)
quiet_agrees d m (events.Processor p) before quiet at = turn_agrees d m before at p.0
quiet_agrees d m (events.Io i) before quiet at = io_agrees d m before at i.0
quiet_agrees d m (events.Input l byte) before quiet at = record { processors = at.processors; down = at.down; up = at.up; ios = at.ios; halves = at.halves }
quiet_agrees d m (events.Close l) before quiet at = absurd quiet
quiet_agrees d m (events.Fail e) before quiet at = absurd quiet
quiet_agrees d m (events.Repair e) before quiet at = absurd quiet
quiet_agrees d m (events.Upset p half reg mask) before quiet at = absurd quiet
quiet_agrees d m (events.Hangup l) before quiet at = absurd quiet

all_agree : (d : MachineDesc) (es : List Event) (m : Machine) (before : List Script) → AreQuiet es → Agrees d before m → Agrees d before (run d es m)
all_agree d [] m before quiet at = at
all_agree d (e ∷ es) m before quiet at = all_agree d es (happens d m e) before quiet.1 (quiet_agrees d m e before quiet.0 at)

quiet-append : (es more : List Event) → AreQuiet es → AreQuiet more → AreQuiet (es ++ more)
quiet-append [] more are then = then
quiet-append (e ∷ es) more are then = (are.0, quiet-append es more are.1 then)

quiet-times : (n : ℕ) (es : List Event) → AreQuiet es → AreQuiet (times n es)
unfolding times
quiet-times zero es are = tt
quiet-times (suc n) es are = quiet-append es (times n es) are (quiet-times n es are)

quiet-map : (f : ℕ → Event) (ns : List ℕ) → ((n : ℕ) → IsQuiet (f n)) → AreQuiet (map f ns)
quiet-map f [] quiet = tt
quiet-map f (n ∷ ns) quiet = (quiet n, quiet-map f ns quiet)

quiet_round : (d : MachineDesc) → AreQuiet (round_of d)
unfolding round_of
quiet_round d = quiet-append _ _ (quiet-map (λ n. events.Processor (record { 0 = n })) (range_with_len 0 d.processors) (λ n. tt)) (quiet-map (λ n. events.Io (record { 0 = n })) (range_with_len 0 d.ios) (λ n. tt))

quiet_turn : (e : Element) → AreQuiet (turn_of e)
quiet_turn (elements.Processor p) = (tt, tt)
quiet_turn (elements.Memory m) = tt
quiet_turn (elements.Io i) = (tt, tt)

pub scripts_agree : ScriptsAgree
unfolding events_in
scripts_agree d m (scripts.One e) rounds before none at = events_agree d m e before none at
scripts_agree d m (scripts.Bytes l bytes) rounds before none at = by_quiet d before (scripts.Bytes l bytes) _ (λ e. refl) (λ p h. refl) (all_agree d _ m before (quiet-map (λ byte. events.Input l byte) bytes (λ byte. tt)) at)
scripts_agree d m (scripts.Turns e n) rounds before none at = by_quiet d before (scripts.Turns e n) _ (λ e. refl) (λ p h. refl) (all_agree d _ m before (quiet-times n (turn_of e) (quiet_turn e)) at)
scripts_agree d m (scripts.Rounds n) rounds before none at = by_quiet d before (scripts.Rounds n) _ (λ e. refl) (λ p h. refl) (all_agree d _ m before (quiet-times n (round_of d) (quiet_round d)) at)
scripts_agree d m (scripts.Finish n) rounds before none at = by_quiet d before (scripts.Finish n) _ (λ e. refl) (λ p h. refl) (all_agree d _ m before (quiet-times rounds (round_of d) (quiet_round d)) at)
