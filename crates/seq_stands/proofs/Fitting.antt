-- The start fits, and every event that ends no run keeps that.
use Rattle.std.proofs.Common.{◌≡◌, ◌≢◌, ◌⊎◌, inl, inr, ℕ, suc, ◌+◌, ◌<◌, ◌≤◌, Bool, true, false, not, ◌&&◌, ◌||◌, ◌==◌, nat_lt, nat_le, if◌then◌else◌, is_some, Option, Some, None, List, [], length, slice_get, refl, ap, sym, ◌∙◌, subst, arith}
use Rattle.std.proofs.lemmas.Bool.{cond-true, cond_both, cases_eq, or_parts, leb-false, eqb-false, ne_eqb, false≢true, not-false}
use Rattle.std.proofs.lemmas.List.{length-replicate, length-set}
use Rattle.seq_words.specs.Description.{IsDescription, line_count}
use Rattle.seq_words.specs.declared.block.Block.{Block}
use Rattle.seq_words.specs.declared.half.Half.{Half}
use Rattle.seq_words.specs.declared.half.Half.TheVariants.{A, B}
use Rattle.seq_words.specs.declared.regs.Regs.{Regs}
use Rattle.seq_words.specs.declared.description.MachineDesc.{MachineDesc}
use Rattle.seq_words.specs.declared.events.Event.{Event}
use Rattle.seq_words.specs.declared.events.Event.TheVariants as event
use Rattle.seq_words.specs.declared.kinds.Element.TheVariants as element
use Rattle.seq_memory.specs.States.{is_in_service}
use Rattle.seq_memory.specs.declared.element.State.{State}
use Rattle.seq_memory.specs.declared.element.State.TheVariants.{InService, Down, Stale, Copying}
use Rattle.seq_pair.specs.declared.halves.Pair.{Pair}
use Rattle.seq_pair.specs.Halves.{inverted, struck}
use Rattle.seq_layout.specs.Shapes.{shape_of, line_extent}
use Rattle.seq_layout.specs.Copies.{Copies, AtMostOneOut, first_copy}
use Rattle.seq_layout.specs.Units.{units_of}
use Rattle.seq_layout.proofs.CopiesLaws.{all_are_served}
use Rattle.seq_process.specs.declared.running.Running.{Running}
use Rattle.seq_status.specs.declared.status.Status.TheVariants.{Idle}
use Rattle.seq_ruling.specs.Checks.{is_another_out}
use Rattle.seq_cache.specs.declared.change.Change.{Change}
use Rattle.seq_cache.specs.Changes.{Changes, IsCache}
use Rattle.seq_io.specs.declared.element.IoElement.{IoElement}
use Rattle.seq_io.specs.declared.element.PortState.{PortState}
use Rattle.seq_kernel.specs.Bounds.{AreReadable}
use Rattle.seq_turns.specs.declared.hand.Hand.{Hand}
use Rattle.seq_turns.specs.declared.hand.Hand.TheVariants as hand
use Rattle.seq_turns.specs.Functions.{update}
use Rattle.seq_turns.specs.Machines.{Machine, Move, Turn, copies_after}
use Rattle.seq_turns.specs.Machines.Turn.{Moves, Looks, Copies_unit, Stops}
use Rattle.seq_turns.specs.Reading.{copied_memory, is_copied}
use Rattle.seq_turns.specs.Recoveries.{next_of, service_after, unit_taken, with_unit, unit_copied}
use Rattle.seq_turns.specs.Processors.{next_process, turn}
use Rattle.seq_turns.specs.Start.{start}
use Rattle.seq_turns.specs.Allowed.{Allowed}
use Rattle.seq_turns.specs.Duties.{duty, after_duty, rests}
use Rattle.seq_turns.specs.Events.{stopped, lost_copies, is_down, comes_back, is_back, strikes, after_turn, after_io, happens, another_out, awaiting, is_check}
use Rattle.seq_turns.proofs.Functions.{update_same, update_other, update_cases, update_is, lowest_passes, lowest_none}
use Rattle.seq_stands.specs.Hands.{IsHand}
use Rattle.seq_stands.proofs.Hands.{turned_hand, HandKept, back_hand, struck_hand}
use Rattle.seq_stands.proofs.Serviced.{copied_out, fewer_out}
use Rattle.seq_stands.specs.FitHands.{HandFits}
use Rattle.seq_stands.specs.FitLines.{PortFits}
use Rattle.seq_stands.specs.FitBlocks.{BlocksFit, AreWhole}
use Rattle.seq_stands.specs.Fit.{StateFits, StatesFit, WordsFit, RunningFits, HandHolds, CacheFits, ProcessorFits, Fit, StartFit, EventsKeepFit}
use Rattle.seq_stands.proofs.FitHands.{empty_is, TurnFits, turned}
use Rattle.seq_stands.proofs.FitLaw.{strikes_fits, back_fits}
use Rattle.seq_stands.proofs.FitSaved.{started_within}
use Rattle.seq_stands.proofs.FitHeld.{MoveHolds, TurnHolds}
use Rattle.seq_stands.proofs.FitChanged.{ChangeFits, words_kept, blocks_kept, unit_fits, words_lost, blocks_lost, status_fits}
use Rattle.seq_stands.proofs.FitWritten.{TurnWrites, turn_writes}
use Rattle.seq_stands.proofs.FitTurned.{turned_holds}
use Rattle.seq_stands.proofs.FitPorts.{DutyFits, duty_fits, serves_line}

pub few_processors : (d : MachineDesc) → IsDescription d → d.processors ≤ 256
few_processors d described = omega (arith, described.processors.high_at)

-- at the start every memory of the machine is in service
pub starts_serving : (d : MachineDesc) (image : ℕ → ℕ → Block) (i : ℕ) → i < d.memories → (start d image).copies.state i ≡ InService
starts_serving d image i l = let t : nat_lt i d.memories ≡ true = grind (arith, l) in cond-true (nat_lt i d.memories) InService Down t

pub start_fit : StartFit
start_fit d image described fits = record {
  states = record {
    one_out = λ i j a b x y. absurd (false≢true (sym x ∙ ap is_in_service (starts_serving d image i a)));
    next = λ i l. subst (StateFits d i) (sym (starts_serving d image i l)) tt;
  };
  words = record {
    status = λ q c l. status_fits d Idle (few_processors d described) tt;
    locks = λ t c l. omega arith;
    counts = λ l c. omega arith;
    closed = λ l c. omega arith;
  };
  blocks = record { whole = λ e n c. fits.whole e n; contexts = λ q k c there below. fits.contexts q k there below };
  processors = λ p l. record {
    bounds = tt;
    own = tt;
    holds = tt;
    cache = record {
      cache = record {
        ascending = record { pairs = λ i j x lt within. absurd (let k : ⊥ = omega (arith, within) in k) };
        fits = omega arith;
        small = omega (arith, described.cache.high_at);
      };
      capacity = refl;
      whole = λ k none lt. absurd (let c : ⊥ = omega (arith, lt) in c);
    };
    scan = omega (arith, described.processes.low_at);
  };
  ports = λ l k. record { taken = omega arith; arrived = omega arith; store = length-replicate d.journal 0 };
  cursors = λ i l. inl refl;
}

-- the memories may be read
pub fit_readable : (d : MachineDesc) (m : Machine) → IsDescription d → Fit d m → AreReadable d m.copies
fit_readable d m described fits = record {
  served = all_are_served (shape_of d) m.copies described.memories.low_at fits.states.one_out;
  counts = λ l. fits.words.counts l (first_copy (shape_of d) m.copies (line_extent (shape_of d) l));
}

empty_fits : (d : MachineDesc) (c : Changes) → CacheFits d c → CacheFits d (record c { changes = [] })
empty_fits d c is = record { cache = empty_is c is.cache; capacity = is.capacity; whole = λ k none lt. absurd (let x : ⊥ = omega (arith, lt) in x) }

-- strikes and repairs leave what a hand holds
inverted_whole : (r : Regs) (reg mask : ℕ) → length r.x ≡ 32 → length (inverted r reg mask).x ≡ 32
inverted_whole r reg mask full = cond_both (reg == 32) _ _ (λ (x : Regs). length x.x ≡ 32) (λ _. full) (λ _. length-set r.x reg _ ∙ full)

struck_whole : (r : Running) (half : Half) (reg mask : ℕ) → RunningFits r → RunningFits (record r { pair = struck r.pair half reg mask })
struck_whole r A reg mask is = record { whole = record { first = inverted_whole r.pair.a reg mask is.whole.first; second = is.whole.second; reads = is.whole.reads; writes = is.whole.writes }; end = is.end }
struck_whole r B reg mask is = record { whole = record { first = is.whole.first; second = inverted_whole r.pair.b reg mask is.whole.second; reads = is.whole.reads; writes = is.whole.writes }; end = is.end }

strikes_hold : (d : MachineDesc) (changes : List Change) (half : Half) (reg mask : ℕ) (h : Hand) → HandHolds d changes h → HandHolds d changes (strikes half reg mask h)
strikes_hold d changes half reg mask hand.Down is = tt
strikes_hold d changes half reg mask hand.Seek is = tt
strikes_hold d changes half reg mask (hand.Claiming q c) is = is
strikes_hold d changes half reg mask (hand.Running r) is = (struck_whole r half reg mask is.0, is.1)
strikes_hold d changes half reg mask (hand.Acquiring r t c) is = (struck_whole r half reg mask is.0, is.1)
strikes_hold d changes half reg mask (hand.Flushing r c held f) is = (struck_whole r half reg mask is.0, is.1, is.2)
strikes_hold d changes half reg mask (hand.Unlocking r c held l) is = (struck_whole r half reg mask is.0, is.1)
strikes_hold d changes half reg mask (hand.Leaving q l) is = is
strikes_hold d changes half reg mask (hand.Recovering r) is = is

back_holds : (d : MachineDesc) (changes : List Change) (h : Hand) → HandHolds d changes h → HandHolds d changes (comes_back h)
back_holds d changes hand.Down is = tt
back_holds d changes hand.Seek is = is
back_holds d changes (hand.Claiming q c) is = is
back_holds d changes (hand.Running r) is = is
back_holds d changes (hand.Acquiring r t c) is = is
back_holds d changes (hand.Flushing r c held f) is = is
back_holds d changes (hand.Unlocking r c held l) is = is
back_holds d changes (hand.Leaving q l) is = is
back_holds d changes (hand.Recovering r) is = is

-- the same of what is equal
carry : {d : MachineDesc} {r i i' s s' : ℕ} {h h' : Hand} {c c' : Changes} → i ≡ i' → h ≡ h' → c ≡ c' → s ≡ s' → ProcessorFits d r i h c s → ProcessorFits d r i' h' c' s'
carry {d} {r} {i} {i'} {s} {s'} {h} {h'} {c} {c'} a b e f is =
    subst (λ x. ProcessorFits d r i' h' c' x) f (subst (λ x. ProcessorFits d r i' h' x s) e (subst (λ x. ProcessorFits d r i' x c s) b (subst (λ x. ProcessorFits d r x h c s) a is)))

none_of : {A : Type 0} → (o : Option A) → is_some o ≡ false → o ≡ None
none_of None e = refl
none_of (Some x) e = absurd (false≢true (sym e))

module _ (d : MachineDesc) (m : Machine) (fits : Fit d m) where
  -- one processor changes
  one_changes : (p i : ℕ) (h : Hand) (c : Changes) (s : ℕ) → ProcessorFits d p i h c s → (r : ℕ) → r < d.processors → ProcessorFits d r (update m.incarnation p i r) (update m.hand p h r) (update m.cache p c r) (update m.scan p s r)
  one_changes p i h c s is r l = go (cases_eq r p)
    where
      go : (r ≡ p) ⊎ (r ≡ p → ⊥) → ProcessorFits d r (update m.incarnation p i r) (update m.hand p h r) (update m.cache p c r) (update m.scan p s r)
      go (inl e) = subst (λ x. ProcessorFits d x (update m.incarnation p i x) (update m.hand p h x) (update m.cache p c x) (update m.scan p s x)) (sym e)
          (carry (sym (update_same m.incarnation p i)) (sym (update_same m.hand p h)) (sym (update_same m.cache p c)) (sym (update_same m.scan p s)) is)
      go (inr ne) = carry (sym (update_other m.incarnation p i r ne)) (sym (update_other m.hand p h r ne)) (sym (update_other m.cache p c r ne)) (sym (update_other m.scan p s r ne)) (fits.processors r l)

  still : {A : Type 0} → (f : ℕ → A) (p r : ℕ) → update f p (f p) r ≡ f r
  still f p r = ap (λ g. g r) (update_is f p (f p) refl)

  hand_and_cache : (p : ℕ) (h : Hand) (c : Changes) → ProcessorFits d p (m.incarnation p) h c (m.scan p) → (r : ℕ) → r < d.processors → ProcessorFits d r (m.incarnation r) (update m.hand p h r) (update m.cache p c r) (m.scan r)
  hand_and_cache p h c is r l = carry (still m.incarnation p r) refl refl (still m.scan p r) (one_changes p (m.incarnation p) h c (m.scan p) is r l)

  hand_alone : (p : ℕ) (h : Hand) → ProcessorFits d p (m.incarnation p) h (m.cache p) (m.scan p) → (r : ℕ) → r < d.processors → ProcessorFits d r (m.incarnation r) (update m.hand p h r) (m.cache r) (m.scan r)
  hand_alone p h is r l = carry refl refl (still m.cache p r) refl (hand_and_cache p h (m.cache p) is r l)

  -- a processor stops
  stop_fits : (p : ℕ) → p < d.processors → Fit d (stopped m p)
  stop_fits p there = record {
    states = fits.states;
    words = fits.words;
    blocks = fits.blocks;
    processors = λ r l. carry refl refl refl (still m.scan p r)
        (one_changes p (suc (m.incarnation p)) hand.Down (record (m.cache p) { changes = [] }) (m.scan p)
        (record { bounds = tt; own = tt; holds = tt; cache = empty_fits d (m.cache p) (fits.processors p there).cache; scan = (fits.processors p there).scan }) r l);
    ports = fits.ports;
    cursors = fits.cursors;
  }

  hand_fits : (p : ℕ) (h : Hand) → p < d.processors → HandFits d h → IsHand d p (m.incarnation p) h → HandHolds d (m.cache p).changes h → Fit d (record m { hand = update m.hand p h })
  hand_fits p h there bounds own holds = record {
    states = fits.states;
    words = fits.words;
    blocks = fits.blocks;
    processors = hand_alone p h (let now = fits.processors p there in record { bounds = bounds; own = own; holds = holds; cache = now.cache; scan = now.scan });
    ports = fits.ports;
    cursors = fits.cursors;
  }

  -- a port changes, within its bounds
  port_fits : (l : ℕ) (next : PortState) → (l < line_count d → PortFits d next) → Fit d (record m { port = update m.port l next })
  port_fits l next is = record {
    states = fits.states;
    words = fits.words;
    blocks = fits.blocks;
    processors = fits.processors;
    ports = λ x below. update_cases (PortFits d) m.port l next x (λ e. is (subst (λ y. y < line_count d) e below)) (λ _. fits.ports x below);
    cursors = fits.cursors;
  }

  -- a unit is copied
  count_fits : (i count done : ℕ) → count ≡ length (units_of (shape_of d) i) → StateFits d i (service_after count done)
  count_fits i count done e = cond_both (nat_le count done) InService (Copying done) (StateFits d i) (λ _. tt) (λ f. let below = leb-false count done f in omega (arith, e, below))

  copied_fits : (i : ℕ) → copied_memory d m.copies ≡ Some i → Fit d (unit_copied d m i)
  copied_fits i found = record {
    states = record {
      one_out = fewer_out d m.copies (unit_copied d m i).copies out fits.states.one_out;
      next = λ j l. update_cases (StateFits d j) m.copies.state i new j (λ e. subst (λ x. StateFits d x new) (sym e) (count_fits i (length (units_of (shape_of d) i)) (suc (next_of (m.copies.state i))) refl)) (λ _. fits.states.next j l);
    };
    words = record { status = words.status; locks = words.locks; counts = words.counts; closed = words.closed };
    blocks = record { whole = blocks.whole; contexts = blocks.contexts };
    processors = fits.processors;
    ports = fits.ports;
    cursors = fits.cursors;
  }
    where
      new : State
      new = service_after (length (units_of (shape_of d) i)) (suc (next_of (m.copies.state i)))

      words : WordsFit d (copies_after (unit_taken d m.copies i (slice_get (units_of (shape_of d) i) (next_of (m.copies.state i)))) m.copies)
      words = words_kept d m.copies fits.words fits.blocks _ (unit_fits d m.copies fits.words fits.blocks i (slice_get (units_of (shape_of d) i) (next_of (m.copies.state i))))

      blocks : BlocksFit d (copies_after (unit_taken d m.copies i (slice_get (units_of (shape_of d) i) (next_of (m.copies.state i)))) m.copies)
      blocks = blocks_kept d m.copies fits.words fits.blocks _ (unit_fits d m.copies fits.words fits.blocks i (slice_get (units_of (shape_of d) i) (next_of (m.copies.state i))))

      out : (j : ℕ) → is_in_service (update m.copies.state i new j) ≡ false → is_in_service (m.copies.state j) ≡ false
      out j = update_cases (λ s. is_in_service s ≡ false → is_in_service (m.copies.state j) ≡ false) m.copies.state i new j
          (λ e _. ap (λ x. is_in_service (m.copies.state x)) e ∙ copied_out (m.copies.state i) (lowest_passes (λ k. is_copied (m.copies.state k)) d.memories i found).0) (λ _ h. h)

  -- the turn of a processor
  turn_fits : (described : IsDescription d) (p : ℕ) → p < d.processors → Fit d (after_turn d m p (turn d m p (m.hand p)))
  turn_fits described p there =
      go (turn d m p (m.hand p))
      (turned d described m p now.cache.cache (record { readable = fit_readable d m described fits; within = λ q c e free live. started_within d m.copies q fits.blocks (subst (HandHolds d (m.cache p).changes) e now.holds) }) (m.hand p) refl now.own now.bounds)
      (turned_hand d m p (m.hand p) refl now.own)
      (turned_holds d described m p now.cache.capacity now.cache.whole fits.blocks (fit_readable d m described fits) now.scan (m.hand p) refl now.bounds now.holds)
      (turn_writes d m p (few_processors d described) there now.scan fits.words fits.blocks now.cache.whole (m.hand p) now.own now.bounds now.holds)
    where
      now : ProcessorFits d p (m.incarnation p) (m.hand p) (m.cache p) (m.scan p)
      now = fits.processors p there

      moved : (move : Move) → HandFits d move.hand × IsCache move.cache → IsHand d p (m.incarnation p) move.hand → MoveHolds d described m p now.cache.capacity now.cache.whole move → (s : ℕ) → s < length d.processes → ProcessorFits d p (m.incarnation p) move.hand move.cache s
      moved move a b c s l = record { bounds = a.0; own = b; holds = c.holds; cache = record { cache = a.1; capacity = c.capacity; whole = c.whole }; scan = l }

      go : (t : Turn) → TurnFits d described m p now.cache.cache t → HandKept d m p t → TurnHolds d described m p now.cache.capacity now.cache.whole t → TurnWrites d m p (few_processors d described) there now.scan fits.words fits.blocks now.cache.whole t → Fit d (after_turn d m p t)
      go (Moves move) a b c w = record {
        states = record { one_out = fits.states.one_out; next = fits.states.next };
        words = words_kept d m.copies fits.words fits.blocks move.change w;
        blocks = blocks_kept d m.copies fits.words fits.blocks move.change w;
        processors = hand_and_cache p move.hand move.cache (moved move a b c (m.scan p) now.scan);
        ports = fits.ports;
        cursors = fits.cursors;
      }
      go (Looks next move) a b c w = record {
        states = record { one_out = fits.states.one_out; next = fits.states.next };
        words = words_kept d m.copies fits.words fits.blocks move.change w;
        blocks = blocks_kept d m.copies fits.words fits.blocks move.change w;
        processors = λ r l. carry (still m.incarnation p r) refl refl refl (one_changes p (m.incarnation p) move.hand move.cache next (moved move a b c.0 next c.1) r l);
        ports = fits.ports;
        cursors = fits.cursors;
      }
      go (Copies_unit i) a b c w = copied_fits i c
      go Stops a b c w = stop_fits p there

  -- an I/O element's turn
  io_fits : (i : ℕ) → i < d.ios → Fit d (after_io d m i)
  io_fits i there = cond_both (rests d m i) _ _ (Fit d) (λ _. fits) done
    where
      done : rests d m i ≡ false → Fit d (after_duty d i (m.io i).cursor (duty d m (m.io i).cursor) m)
      done works = record {
        states = record { one_out = fits.states.one_out; next = fits.states.next };
        words = words_kept d m.copies fits.words fits.blocks (duty d m (m.io i).cursor).change is.change;
        blocks = blocks_kept d m.copies fits.words fits.blocks (duty d m (m.io i).cursor).change is.change;
        processors = fits.processors;
        ports = λ x l. update_cases (PortFits d) m.port (m.io i).cursor _ x (λ _. record { taken = is.taken; arrived = (fits.ports (m.io i).cursor below).arrived; store = (fits.ports (m.io i).cursor below).store }) (λ _. fits.ports x l);
        cursors = λ x l. update_cases (λ e. (e.cursor ≡ 0) ⊎ (e.cursor < line_count d)) m.io i _ x (λ _. next) (λ _. fits.cursors x l);
      }
        where
          below : (m.io i).cursor < line_count d
          below = serves_line d m i works (fits.cursors i there)

          is : DutyFits d m (m.io i).cursor fits.blocks (fits.ports (m.io i).cursor below) (duty d m (m.io i).cursor)
          is = duty_fits d m (m.io i).cursor fits.blocks (fits.ports (m.io i).cursor below)

          next : ((if (m.io i).cursor + 1 == line_count d then 0 else (m.io i).cursor + 1) ≡ 0) ⊎ ((if (m.io i).cursor + 1 == line_count d then 0 else (m.io i).cursor + 1) < line_count d)
          next = cond_both ((m.io i).cursor + 1 == line_count d) 0 ((m.io i).cursor + 1) (λ x. (x ≡ 0) ⊎ (x < line_count d)) (λ _. inl refl)
              (λ f. inr (let ne = eqb-false ((m.io i).cursor + 1) (line_count d) f in omega (arith, below, ne)))

  -- a memory fails, while all others are in service
  lost_fits : (described : IsDescription d) (i : ℕ) → ((j : ℕ) → j < d.memories → j ≢ i → is_in_service (m.copies.state j) ≡ true) → Fit d (record m { copies = lost_copies d i m.copies })
  lost_fits described i others = record {
    states = record {
      one_out = λ j k a b x y. alone j a x ∙ sym (alone k b y);
      next = λ j l. update_cases (StateFits d j) m.copies.state i Down j (λ _. tt) (λ _. fits.states.next j l);
    };
    words = words_lost d m.copies fits.words fits.blocks i (few_processors d described);
    blocks = blocks_lost d m.copies fits.words fits.blocks i;
    processors = fits.processors;
    ports = fits.ports;
    cursors = fits.cursors;
  }
    where
      alone : (j : ℕ) → j < d.memories → is_in_service (update m.copies.state i Down j) ≡ false → j ≡ i
      alone j l = update_cases (λ s. is_in_service s ≡ false → j ≡ i) m.copies.state i Down j (λ e _. e) (λ ne out. absurd (false≢true (sym out ∙ others j l ne)))

  -- a memory comes back
  mended_fits : (i : ℕ) → m.copies.state i ≡ Down → Fit d (record m { copies = record m.copies { state = update m.copies.state i (is_back (m.copies.state i)) } })
  mended_fits i down = record {
    states = record {
      one_out = fewer_out d m.copies (record m.copies { state = update m.copies.state i (is_back (m.copies.state i)) }) out fits.states.one_out;
      next = λ j l. update_cases (StateFits d j) m.copies.state i (is_back (m.copies.state i)) j (λ _. subst (λ s. StateFits d j (is_back s)) (sym down) tt) (λ _. fits.states.next j l);
    };
    words = record { status = fits.words.status; locks = fits.words.locks; counts = fits.words.counts; closed = fits.words.closed };
    blocks = record { whole = fits.blocks.whole; contexts = fits.blocks.contexts };
    processors = fits.processors;
    ports = fits.ports;
    cursors = fits.cursors;
  }
    where
      out : (j : ℕ) → is_in_service (update m.copies.state i (is_back (m.copies.state i)) j) ≡ false → is_in_service (m.copies.state j) ≡ false
      out j = update_cases (λ s. is_in_service s ≡ false → is_in_service (m.copies.state j) ≡ false) m.copies.state i (is_back (m.copies.state i)) j
          (λ e _. ap (λ x. is_in_service (m.copies.state x)) e ∙ ap is_in_service down) (λ _ h. h)

  element_fits : (i : ℕ) (next : IoElement) → (next.cursor ≡ 0) ⊎ (next.cursor < line_count d) → Fit d (record m { io = update m.io i next })
  element_fits i next is = record {
    states = fits.states;
    words = fits.words;
    blocks = fits.blocks;
    processors = fits.processors;
    ports = fits.ports;
    cursors = λ x l. update_cases (λ e. (e.cursor ≡ 0) ⊎ (e.cursor < line_count d)) m.io i next x (λ _. is) (λ _. fits.cursors x l);
  }

-- where no memory other than i is out, all others are in service
others_serve : (d : MachineDesc) (m : Machine) (i : ℕ) → another_out d m i ≡ None → (j : ℕ) → j < d.memories → j ≢ i → is_in_service (m.copies.state j) ≡ true
others_serve d m i none j l ne =
    let test : is_another_out m.copies i j ≡ false = lowest_none (is_another_out m.copies i) d.memories none j l in
    not-false (is_in_service (m.copies.state j)) (sym (ap (λ b. not b && not (is_in_service (m.copies.state j))) (ne_eqb j i ne)) ∙ test)

pub events_keep_fit : EventsKeepFit
events_keep_fit d m (event.Processor p) described ok on fits = turn_fits d m fits described p.0 ok
events_keep_fit d m (event.Io i) described ok on fits = io_fits d m fits i.0 ok
events_keep_fit d m (event.Input l byte) described ok on fits = port_fits d m fits l.0 _ (λ below.
    let port = fits.ports l.0 below in
    record { taken = omega (arith, port.taken); arrived = omega (arith, ok.room); store = length-set (m.port l.0).store (m.port l.0).arrived byte ∙ port.store })
events_keep_fit d m (event.Close l) described ok on fits = port_fits d m fits l.0 _ (λ below. record { taken = (fits.ports l.0 below).taken; arrived = (fits.ports l.0 below).arrived; store = (fits.ports l.0 below).store })
events_keep_fit d m (event.Fail (element.Processor p)) described ok on fits = cond_both (is_down (m.hand p.0)) _ _ (Fit d) (λ _. fits) (λ _. stop_fits d m fits p.0 ok)
events_keep_fit d m (event.Fail (element.Memory i)) described ok on fits =
    lost_fits d m fits described i.0 (others_serve d m i.0 (none_of (another_out d m i.0) (or_parts (is_some (another_out d m i.0)) (is_some (awaiting d m)) on).0))
events_keep_fit d m (event.Fail (element.Io i)) described ok on fits = element_fits d m fits i.0 _ (inl refl)
events_keep_fit d m (event.Repair (element.Processor p)) described ok on fits =
    let now = fits.processors p.0 ok.0 in
    hand_fits d m fits p.0 (comes_back (m.hand p.0)) ok.0 (back_fits d (m.hand p.0) now.bounds) (back_hand d p.0 (m.incarnation p.0) (m.hand p.0) now.own) (back_holds d (m.cache p.0).changes (m.hand p.0) now.holds)
events_keep_fit d m (event.Repair (element.Memory i)) described ok on fits = mended_fits d m fits i.0 ok.down
events_keep_fit d m (event.Repair (element.Io i)) described ok on fits = element_fits d m fits i.0 _ (fits.cursors i.0 ok.0)
events_keep_fit d m (event.Upset p half reg mask) described ok on fits =
    let now = fits.processors p.0 ok.processor in
    hand_fits d m fits p.0 (strikes half reg mask (m.hand p.0)) ok.processor (strikes_fits d half reg mask (m.hand p.0) ok.other now.bounds) (struck_hand d p.0 (m.incarnation p.0) half reg mask (m.hand p.0) now.own)
    (strikes_hold d (m.cache p.0).changes half reg mask (m.hand p.0) now.holds)
events_keep_fit d m (event.Hangup l) described ok on fits = record {
  states = fits.states;
  words = fits.words;
  blocks = fits.blocks;
  processors = fits.processors;
  ports = fits.ports;
  cursors = fits.cursors;
}
