-- Lists of processors, cursors and incarnations beside the table's functions, and a turn by what it reads.
use Rattle.std.proofs.Math.Path.{fun_ext}
use Rattle.std.proofs.Common.{◌≡◌, ℕ, suc, ◌+◌, ◌-◌, ◌<◌, true, false, ◌==◌, if◌then◌else◌, nat_le, List, length, Option, Some, None, Ok, refl, ap, sym, ◌∙◌, subst, add-one}
use Rattle.std.specs.Prelude.{slice_get, slice_index, slice_index_or, slice_set}
use Rattle.std.proofs.lemmas.Option.{get_or_from_slice_get}
use Rattle.std.proofs.lemmas.Bool.{cond_both}
use Rattle.std.proofs.lemmas.List.{get_or-set_same, get_or-set_other, set-get_or}
use Rattle.seq_words.specs.declared.description.MachineDesc.{MachineDesc}
use Rattle.seq_words.specs.declared.kinds.Blocker.{Blocker}
use Rattle.seq_words.specs.declared.kinds.Element.TheVariants as element
use Rattle.seq_words.specs.declared.events.Event.TheVariants as event
use Rattle.seq_memory.specs.declared.element.Memories.{Memories}
use Rattle.seq_layout.specs.Copies.{Copies, copies}
use Rattle.seq_layout.specs.Shapes.{shape_of}
use Rattle.seq_process.specs.declared.running.Running.{Running}
use Rattle.seq_cache.specs.Changes.{Changes}
use Rattle.seq_status.specs.declared.status.Status.TheVariants.{Run}
use Rattle.seq_status.specs.Words.{word_of}
use Rattle.seq_locks.specs.Turns.{is_taken, word_at}
use Rattle.seq_kernel.specs.Steps.{step_of}
use Rattle.seq_kernel.specs.Turns.{Turned}
use Rattle.seq_kernel.specs.declared.outcomes.Cause.{Cause}
use Rattle.seq_kernel.specs.declared.outcomes.Cause.TheVariants.{Wait, Quantum}
use Rattle.seq_kernel.specs.declared.outcomes.Reason.TheVariants.{Lock}
use Rattle.seq_kernel.specs.declared.outcomes.Outcome.{Outcome}
use Rattle.seq_kernel.specs.declared.outcomes.Outcome.TheVariants as outcome
use Rattle.seq_kernel.specs.declared.outcomes.Note.{Note}
use Rattle.seq_kernel.specs.declared.outcomes.Note.TheVariants as note
use Rattle.seq_turns.specs.declared.hand.Hand.{Hand}
use Rattle.seq_turns.specs.declared.hand.Hand.TheVariants as hand
use Rattle.seq_turns.specs.Functions.{update}
use Rattle.seq_turns.specs.Machines.{Machine, Turn, idles, copies_after}
use Rattle.seq_turns.specs.Machines.Turn.{Moves, Looks, Copies_unit, Stops}
use Rattle.seq_turns.specs.Reading.{status_word, lock_word, holder, write_word, copied_memory}
use Rattle.seq_turns.specs.Causes.{agree, follows, flushes, finds, released}
use Rattle.seq_turns.specs.Operations.{goes}
use Rattle.seq_turns.specs.Processors.{is_free, next_process, deserted, seeks, after_step, runs, seeks_or_copies, runs_or_copies, turn}
use Rattle.seq_turns.specs.Events.{after_turn, note_of_turn, stops, blocker}
use Rattle.seq_turns.proofs.Functions.{update_cases}
use Rattle.seq_machine.specs.Here.{here, among, turned, change_of}
use Rattle.seq_machine.specs.Local.{CopiesNothing, LocalTurnsCopyNothing}
use Rattle.seq_machine.specs.Plain.{Outside, processor_of, idle_processor, machine_of, outside_of}
use Rattle.seq_machine.specs.Processors.{local_turn, processor_after, note_left, cursor_after, incarnations_after, noted, copied_by}
use Rattle.seq_machine.specs.Checking.{answered, answer_to, answer}
use Rattle.seq_machine.specs.declared.hardware.Processor.{Processor}
use Rattle.seq_machine.specs.declared.hardware.Hardware.{Hardware}
use Rattle.seq_machine.proofs.Local.{operations_are_local}
use Rattle.seq_machine.proofs.Returning.{no_some}
use Rattle.seq_machine.proofs.Recovering.{recovery_is_local}

-- a list that is changed at one place is a function changed at that number, whatever is read of its elements
pub set_is : {A B : Type 0} → (f : A → B) (xs : List A) (k : ℕ) (y none : A) → k < length xs → (λ (j : ℕ). f (slice_index_or (slice_set xs k y) j none)) ≡ update (λ j. f (slice_index_or xs j none)) k (f y)
set_is f xs k y none inside = fun_ext (λ j. update_cases (λ z. f (slice_index_or (slice_set xs k y) j none) ≡ z) (λ i. f (slice_index_or xs i none)) k (f y) j
    (λ same. ap f (ap (λ i. slice_index_or (slice_set xs k y) i none) same ∙ get_or-set_same xs k y none inside))
    (λ other. ap f (get_or-set_other xs k j y none other)))

module _ (d : MachineDesc) (m : Machine) (p : ℕ) where
  finds_own : (r : Running) (cache : Changes) (cause : Cause) (mask : ℕ) → CopiesNothing (finds d m p r cache cause mask)
  finds_own r cache cause mask = cond_both (r.steps == 0) (Moves (record (idles m p) { hand = follows d r cause mask; cache = cache; note = note.Found r.pid cause })) _ CopiesNothing (λ _. tt)
      (λ _. cond_both (agree r.pair) (Moves (record (idles m p) { hand = flushes m p r cause mask; cache = cache; note = note.Found r.pid cause })) Stops CopiesNothing (λ _. tt) (λ _. tt))

  step_own : (r : Running) (t : Turned) (o : Outcome) → CopiesNothing (after_step d m p r t o)
  step_own r t outcome.Done = tt
  step_own r t (outcome.Claim s) = cond_both (is_taken (shape_of d) m.copies (lock_word d s.0) false)
      (finds d m p r (m.cache p) (Wait (Lock s (record { 0 = word_at m.copies (lock_word d s.0) false - 1 }))) 0) _ CopiesNothing (λ _. finds_own r (m.cache p) (Wait (Lock s (record { 0 = word_at m.copies (lock_word d s.0) false - 1 }))) 0) (λ _. tt)
  step_own r t (outcome.NeedsFlush cause) = finds_own t.running t.cache cause (released r.held cause)
  step_own r t (outcome.Waits reason) = finds_own r (m.cache p) (Wait reason) 0
  step_own r t outcome.Diverged = tt

  runs_own : (r : Running) → CopiesNothing (runs d m p r)
  runs_own r = cond_both (nat_le d.quantum r.used) (finds d m p r (m.cache p) Quantum 0) _ CopiesNothing (λ _. finds_own r (m.cache p) Quantum 0) (λ _. let t = step_of d m.copies r (m.cache p) in step_own r t t.outcome)

seeks_own : (d : MachineDesc) (m : Machine) (p : ℕ) (found : Option ℕ) → CopiesNothing (seeks d m p found)
seeks_own d m p (Some q) = tt
seeks_own d m p None = tt

pub local_own : LocalTurnsCopyNothing
local_own d p cache i scan pe hand.Down = tt
local_own d p cache i scan pe hand.Seek = seeks_own d (among p cache i scan) pe (deserted d (among p cache i scan))
local_own d p cache i scan pe (hand.Claiming q c) = tt
local_own d p cache i scan pe (hand.Running r) = runs_own d (here p cache (i pe)) pe r
local_own d p cache i scan pe (hand.Acquiring r t c) = cond_both (is_taken (shape_of d) p c.at true)
    (finds d (here p cache (i pe)) pe r cache (Wait (Lock t (record { 0 = word_at p c.at true - 1 }))) 0) _ CopiesNothing (λ _. finds_own d (here p cache (i pe)) pe r cache (Wait (Lock t (record { 0 = word_at p c.at true - 1 }))) 0) (λ _. tt)
local_own d p cache i scan pe (hand.Flushing r cause mask f) = tt
local_own d p cache i scan pe (hand.Unlocking r cause mask l) = tt
local_own d p cache i scan pe (hand.Leaving q l) = tt
local_own d p cache i scan pe (hand.Recovering r) = tt

-- a turn that moves a running process or stops its processor leaves the cursor
pub runs_cursor : (d : MachineDesc) (m : Machine) (p scan : ℕ) (r : Running) → cursor_after (runs d m p r) scan ≡ scan
runs_cursor d m p scan r = cond_both (nat_le d.quantum r.used) (finds d m p r (m.cache p) Quantum 0) _ (λ (t : Turn). cursor_after t scan ≡ scan)
    (λ _. finds_cursor r (m.cache p) Quantum 0) (λ _. let t = step_of d m.copies r (m.cache p) in step_cursor t t.outcome)
  where
    finds_cursor : (r : Running) (cache : Changes) (cause : Cause) (mask : ℕ) → cursor_after (finds d m p r cache cause mask) scan ≡ scan
    finds_cursor r cache cause mask = cond_both (r.steps == 0) (Moves (record (idles m p) { hand = follows d r cause mask; cache = cache; note = note.Found r.pid cause })) _ (λ (t : Turn). cursor_after t scan ≡ scan) (λ _. refl)
        (λ _. cond_both (agree r.pair) (Moves (record (idles m p) { hand = flushes m p r cause mask; cache = cache; note = note.Found r.pid cause })) Stops (λ (t : Turn). cursor_after t scan ≡ scan) (λ _. refl) (λ _. refl))

    step_cursor : (t : Turned) (o : Outcome) → cursor_after (after_step d m p r t o) scan ≡ scan
    step_cursor t outcome.Done = refl
    step_cursor t (outcome.Claim s) = cond_both (is_taken (shape_of d) m.copies (lock_word d s.0) false)
        (finds d m p r (m.cache p) (Wait (Lock s (record { 0 = word_at m.copies (lock_word d s.0) false - 1 }))) 0) _ (λ (t : Turn). cursor_after t scan ≡ scan)
        (λ _. finds_cursor r (m.cache p) (Wait (Lock s (record { 0 = word_at m.copies (lock_word d s.0) false - 1 }))) 0) (λ _. refl)
    step_cursor t (outcome.NeedsFlush cause) = finds_cursor t.running t.cache cause (released r.held cause)
    step_cursor t (outcome.Waits reason) = finds_cursor r (m.cache p) (Wait reason) 0
    step_cursor t outcome.Diverged = refl

-- the turn of a running process depends on the memories, and on the cache and the incarnation of its processor
runs_local : (d : MachineDesc) (m : Machine) (p : ℕ) (r : Running) → runs d m p r ≡ runs d (here m.copies (m.cache p) (m.incarnation p)) p r
runs_local d m p r = refl

module _ (d : MachineDesc) (m : Machine) (p : ℕ) where
  seeks_local : (found : Option ℕ) → m.hand p ≡ hand.Seek → seeks d m p found ≡ seeks d (among m.copies (m.cache p) m.incarnation (m.scan p)) p found
  seeks_local (Some q) is = refl
  seeks_local None is = λ i. Looks (next_process d (m.scan p)) (
      if is_free d m (m.scan p)
      then goes m p (write_word d m.copies (m.scan p) 0 false (word_of (Run (holder m p)))) (hand.Claiming (record { 0 = m.scan p }) (record { at = status_word (m.scan p); value = word_of (Run (holder m p)); stage = record {} }))
      else record (idles m p) { hand = is i; note = note.Looked (record { 0 = m.scan p }) })

  -- a turn that copies no memory is local
  turn_local : (h : Hand) → copied_by (copied_memory d m.copies) h ≡ None → m.hand p ≡ h → turn d m p h ≡ local_turn d m.copies (m.cache p) m.incarnation (m.scan p) p h
  turn_local hand.Down none is = λ i. Moves (record (idles m p) { hand = is i })
  turn_local hand.Seek none is = ap (seeks_or_copies d m p) none ∙ seeks_local (deserted d m) is
  turn_local (hand.Claiming q c) none is = operations_are_local d m p (hand.Claiming q c) tt
  turn_local (hand.Running r) none is = ap (runs_or_copies d m p r) none ∙ runs_local d m p r
  turn_local (hand.Acquiring r t c) none is = operations_are_local d m p (hand.Acquiring r t c) tt
  turn_local (hand.Flushing r cause mask f) none is = operations_are_local d m p (hand.Flushing r cause mask f) tt
  turn_local (hand.Unlocking r cause mask l) none is = operations_are_local d m p (hand.Unlocking r cause mask l) tt
  turn_local (hand.Leaving q l) none is = operations_are_local d m p (hand.Leaving q l) tt
  turn_local (hand.Recovering r) none is = ap Moves (recovery_is_local d m p (m.incarnation p) r)

  module _ (none : copied_by (copied_memory d m.copies) (m.hand p) ≡ None) where
    pub turn_is : turn d m p (m.hand p) ≡ local_turn d m.copies (m.cache p) m.incarnation (m.scan p) p (m.hand p)
    turn_is = turn_local (m.hand p) none refl

    pub turn_own : CopiesNothing (turn d m p (m.hand p))
    turn_own = subst CopiesNothing (sym turn_is) (local_own d m.copies (m.cache p) m.incarnation (m.scan p) p (m.hand p))

-- a turn's note, by what is left of it
pub note_is : (p : ℕ) (t : Turn) → CopiesNothing t → note_of_turn p t ≡ noted p (note_left (turned t))
note_is p (Moves move) own = refl
note_is p (Looks next move) own = refl
note_is p (Copies_unit i) own = absurd own
note_is p Stops own = refl

-- it stops its processor exactly where none is left
pub own_moves : (t : Turn) (n : Note) → CopiesNothing t → Some n ≡ note_left (turned t) → stops t ≡ false
own_moves (Moves move) n own is = refl
own_moves (Looks next move) n own is = refl
own_moves (Copies_unit i) n own is = absurd own
own_moves Stops n own is = absurd (no_some n (sym is))

pub own_stops : (t : Turn) → CopiesNothing t → None ≡ note_left (turned t) → stops t ≡ true
own_stops (Moves move) own is = absurd (no_some move.note is)
own_stops (Looks next move) own is = absurd (no_some move.note is)
own_stops (Copies_unit i) own is = absurd own
own_stops Stops own is = refl

-- a turn that stops changes no memory
stop_changes_none : (t : Turn) (p : Copies) → None ≡ note_left (turned t) → copies_after (change_of t) p ≡ p
stop_changes_none (Moves move) p is = absurd (no_some move.note is)
stop_changes_none (Looks next move) p is = absurd (no_some move.note is)
stop_changes_none (Copies_unit i) p is = refl
stop_changes_none Stops p is = refl

-- the hardware after a turn of processor p, with these memories
abbrev pub hardware_after : Hardware → ℕ → Turn → Memories → Hardware
hardware_after h p t memories = record h {
  processors = slice_set h.processors p (processor_after t (processor_of h p));
  memories = memories;
  scan = slice_set h.scan p (cursor_after t (slice_index h.scan p));
  incarnations = incarnations_after (note_left (turned t)) h.incarnations p;
}

-- As a machine it is that of the table.
module _ (h : Hardware) (o : Outside) (p : ℕ) (memories : Memories) (few : p < length h.processors) (scans : p < length h.scan) (incarnations : p < length h.incarnations) where
  hands : (y : Processor) → (λ (q : ℕ). (slice_index_or (slice_set h.processors p y) q (idle_processor h.desc)).hand) ≡ update (machine_of h o).hand p y.hand
  hands y = set_is (λ x. x.hand) h.processors p y (idle_processor h.desc) few

  caches : (y : Processor) → (λ (q : ℕ). (slice_index_or (slice_set h.processors p y) q (idle_processor h.desc)).cache) ≡ update (machine_of h o).cache p y.cache
  caches y = set_is (λ x. x.cache) h.processors p y (idle_processor h.desc) few

  -- the cursor stays, or moves on
  cursors : (next : ℕ) → slice_index (slice_set h.scan p next) ≡ update (machine_of h o).scan p next
  cursors next = set_is (λ x. x) h.scan p next 0 scans

  stays : slice_index (slice_set h.scan p (slice_index h.scan p)) ≡ slice_index h.scan
  stays = ap slice_index (set-get_or h.scan p 0)

  raised : slice_index (slice_set h.incarnations p (slice_index h.incarnations p + 1)) ≡ update (machine_of h o).incarnation p (suc (slice_index h.incarnations p))
  raised = set_is (λ x. x) h.incarnations p (slice_index h.incarnations p + 1) 0 incarnations ∙ ap (update (slice_index h.incarnations) p) (add-one (slice_index h.incarnations p))

  pub machine_after : (d : MachineDesc) (t : Turn) → CopiesNothing t → copies h.layout memories ≡ copies_after (change_of t) (copies h.layout h.memories)
      → machine_of (hardware_after h p t memories) (outside_of (after_turn d (machine_of h o) p t)) ≡ after_turn d (machine_of h o) p t
  machine_after d (Moves move) own same = λ i. record (after_turn d (machine_of h o) p (Moves move)) {
    copies = same i;
    hand = hands (processor_after (Moves move) (processor_of h p)) i;
    cache = caches (processor_after (Moves move) (processor_of h p)) i;
    scan = stays i;
  }
  machine_after d (Looks next move) own same = λ i. record (after_turn d (machine_of h o) p (Looks next move)) {
    copies = same i;
    hand = hands (processor_after (Looks next move) (processor_of h p)) i;
    cache = caches (processor_after (Looks next move) (processor_of h p)) i;
    scan = cursors next i;
  }
  machine_after d (Copies_unit memory) own same = absurd own
  machine_after d Stops own same = λ i. record (after_turn d (machine_of h o) p Stops) {
    copies = same i;
    hand = hands (processor_after Stops (processor_of h p)) i;
    cache = caches (processor_after Stops (processor_of h p)) i;
    scan = stays i;
    incarnation = raised i;
  }

-- What the code's turn of processor p leaves, where it read the processor, its incarnation and its cursor in their lists.
module _ (h : Hardware) (o : Outside) (p : ℕ) (few : p < length h.processors) (scans : p < length h.scan) (incarnations : p < length h.incarnations) (none : copied_by (copied_memory h.desc (copies h.layout h.memories)) (processor_of h p).hand ≡ None) where
  module _ (z : Processor) (xs : List ℕ) (scan : ℕ) (z_is : slice_get h.processors p ≡ Some z) (xs_is : xs ≡ h.incarnations) (scan_is : slice_get h.scan p ≡ Some scan) where
    processor_is : processor_of h p ≡ z
    processor_is = get_or_from_slice_get h.processors p z (idle_processor h.desc) z_is

    cursor_is : slice_index h.scan p ≡ scan
    cursor_is = get_or_from_slice_get h.scan p scan 0 scan_is

    is_table : local_turn h.desc (copies h.layout h.memories) z.cache (slice_index xs) scan p z.hand ≡ turn h.desc (machine_of h o) p ((machine_of h o).hand p)
    is_table =
        (λ j. local_turn h.desc (copies h.layout h.memories) (sym processor_is j).cache (slice_index (xs_is j)) (sym cursor_is j) p (sym processor_is j).hand)
        ∙ sym (turn_is h.desc (machine_of h o) p none)

    own : CopiesNothing (turn h.desc (machine_of h o) p ((machine_of h o).hand p))
    own = turn_own h.desc (machine_of h o) p none

    module _ (n : Option Note) (n_is : n ≡ note_left (turned (local_turn h.desc (copies h.layout h.memories) z.cache (slice_index xs) scan p z.hand))) where
      left_is : n ≡ note_left (turned (turn h.desc (machine_of h o) p ((machine_of h o).hand p)))
      left_is = n_is ∙ ap (λ t. note_left (turned t)) is_table

      pub turn_noted : note_of_turn p (turn h.desc (machine_of h o) p ((machine_of h o).hand p)) ≡ noted p n
      turn_noted = note_is p (turn h.desc (machine_of h o) p ((machine_of h o).hand p)) own ∙ ap (noted p) (sym left_is)

      -- what the turn is answered, where it moves and where it stops
      abbrev t : Turn
      t = turn h.desc (machine_of h o) p ((machine_of h o).hand p)

      pub turn_moves : (x : Note) → n ≡ Some x → Ok x ≡ answer h.desc (machine_of h o) (event.Processor (record { 0 = p }))
      turn_moves x some =
          let goes : stops t ≡ false = own_moves t x own (sym some ∙ left_is) in
          let same : note_of_turn p t ≡ x = turn_noted ∙ ap (noted p) some in
          (λ j. answer_to (sym same j) h.desc (machine_of h o) (if sym goes j then Some (element.Processor (record { 0 = p })) else None))

      pub turn_stops : (b : Option Blocker) → n ≡ None → b ≡ blocker h.desc (machine_of h o) (Some (element.Processor (record { 0 = p }))) → answered (note.Stopped (element.Processor (record { 0 = p }))) (element.Processor (record { 0 = p })) b ≡ answer h.desc (machine_of h o) (event.Processor (record { 0 = p }))
      turn_stops b stopped named =
          let ends : stops t ≡ true = own_stops t own (sym stopped ∙ left_is) in
          let same : note_of_turn p t ≡ note.Stopped (element.Processor (record { 0 = p })) = turn_noted ∙ ap (noted p) stopped in
          ap (answered (note.Stopped (element.Processor (record { 0 = p }))) (element.Processor (record { 0 = p }))) named
          ∙ (λ j. answer_to (sym same j) h.desc (machine_of h o) (if sym ends j then Some (element.Processor (record { 0 = p })) else None))

      pub stop_keeps : (memories : Memories) → n ≡ None → copies h.layout memories ≡ copies_after (change_of (local_turn h.desc (copies h.layout h.memories) z.cache (slice_index xs) scan p z.hand)) (copies h.layout h.memories) → copies h.layout memories ≡ copies h.layout h.memories
      stop_keeps memories stopped changed = changed ∙ stop_changes_none (local_turn h.desc (copies h.layout h.memories) z.cache (slice_index xs) scan p z.hand) (copies h.layout h.memories) (sym stopped ∙ n_is)

      pub turn_made : (y : Processor) (cursor : ℕ) (memories : Memories) (numbers : List ℕ)
          → y ≡ processor_after (local_turn h.desc (copies h.layout h.memories) z.cache (slice_index xs) scan p z.hand) z
          → cursor ≡ cursor_after (local_turn h.desc (copies h.layout h.memories) z.cache (slice_index xs) scan p z.hand) scan
          → copies h.layout memories ≡ copies_after (change_of (local_turn h.desc (copies h.layout h.memories) z.cache (slice_index xs) scan p z.hand)) (copies h.layout h.memories)
          → numbers ≡ incarnations_after n h.incarnations p
          → machine_of (record h { processors = slice_set h.processors p y; memories = memories; scan = slice_set h.scan p cursor; incarnations = numbers }) (outside_of (after_turn h.desc (machine_of h o) p (turn h.desc (machine_of h o) p ((machine_of h o).hand p))))
          ≡ after_turn h.desc (machine_of h o) p (turn h.desc (machine_of h o) p ((machine_of h o).hand p))
      turn_made y cursor memories numbers y_is c_is m_is n_are =
          let t = turn h.desc (machine_of h o) p ((machine_of h o).hand p) in
          let y_made : y ≡ processor_after t (processor_of h p) = y_is ∙ (λ j. processor_after (is_table j) (sym processor_is j)) in
          let c_made : cursor ≡ cursor_after t (slice_index h.scan p) = c_is ∙ (λ j. cursor_after (is_table j) (sym cursor_is j)) in
          let n_made : numbers ≡ incarnations_after (note_left (turned t)) h.incarnations p = n_are ∙ (λ j. incarnations_after (left_is j) h.incarnations p) in
          (λ j. machine_of (record h { processors = slice_set h.processors p (y_made j); memories = memories; scan = slice_set h.scan p (c_made j); incarnations = n_made j }) (outside_of (after_turn h.desc (machine_of h o) p t)))
          ∙ machine_after h o p memories few scans incarnations h.desc t own (m_is ∙ ap (λ x. copies_after (change_of x) (copies h.layout h.memories)) is_table)
