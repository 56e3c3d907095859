-- A turn of an I/O element of the hardware is the table's.
use Rattle.std.proofs.Common.{◌≡◌, inl, inr, ℕ, ◌+◌, ◌<◌, ◌≤◌, Bool, true, false, if◌then◌else◌, ◌==◌, List, [], ◌∷◌, length, map, get_or, set, Option, Some, None, Err, arith, refl, ap, sym, ◌∙◌, subst, length-append}
use Rattle.std.specs.Prelude.{slice_get, IsSome, Result}
use Rattle.std.proofs.lemmas.Bool.{cond-true, cond-false, cond_both, cases_Bool, cases_eq, or_parts, eqb-false, ne_eqb, eq-eqb, false≢true}
use Rattle.std.proofs.lemmas.List.{set-get_or, get_or_default, length-map}
use Rattle.std.proofs.lemmas.List.FromFn.{length-map-range_with_len}
use Rattle.std.proofs.lemmas.Option.{get_or_from_slice_get}
use Rattle.seq_words.specs.Description.{IsDescription, line_count}
use Rattle.seq_words.specs.declared.description.MachineDesc.{MachineDesc}
use Rattle.seq_words.specs.declared.names.LineNo.{LineNo}
use Rattle.seq_words.specs.declared.events.Event.TheVariants as event
use Rattle.seq_memory.specs.declared.element.Memories.{Memories}
use Rattle.seq_shelf.specs.declared.line.LineError.{LineError}
use Rattle.seq_shelf.specs.declared.line.LineError.TheVariants.{Fault, NoMemory}
use Rattle.seq_shelf.specs.Causes.{Rose}
use Rattle.seq_shelf.specs.Told.{LineView}
use Rattle.seq_shelf.specs.Rows.{line_at, on_line, Accepts, AllAccept}
use Rattle.seq_layout.specs.Shapes.{Shape, shape_of, owner_from}
use Rattle.seq_layout.specs.Copies.{copies}
use Rattle.seq_io.specs.declared.element.IoElement.{IoElement}
use Rattle.seq_io.specs.declared.element.IoNote.{IoNote}
use Rattle.seq_io.specs.declared.element.PortState.{PortState}
use Rattle.seq_io.specs.Bounds.{IsCursor}
use Rattle.seq_io.specs.Lines.{outside, no_port}
use Rattle.seq_io.specs.Changes as element_change
use Rattle.seq_io.specs.Duties as element
use Rattle.seq_io.specs.Turns as element_turn
use Rattle.seq_io.specs.Turns.{bytes_of}
use Rattle.seq_kernel.specs.declared.outcomes.Note.{Note}
use Rattle.seq_kernel.specs.declared.outcomes.Note.TheVariants.{Nothing}
use Rattle.seq_turns.specs.Functions.{update}
use Rattle.seq_turns.specs.Machines.{Machine}
use Rattle.seq_turns.specs.Duties.{Duty, duty, rests, sent_after, after_duty}
use Rattle.seq_turns.specs.Events.{after_io, note}
use Rattle.seq_turns.specs.Served.{outside_of as line_outside, noted, in_table}
use Rattle.seq_turns.proofs.Functions.{update_cases}
use Rattle.seq_turns.proofs.Served.{duties_agree, rests_agree, changes_agree}
use Rattle.seq_machine.specs.declared.hardware.Hardware.{Hardware}
use Rattle.seq_machine.specs.Plain.{Outside, fresh_element, empty_port, machine_of, outside_of, IsOutside, IsHardware}
use Rattle.seq_machine.specs.Serving.{sent_by, Sends, stopped_at, StopsAt}
use Rattle.seq_machine.proofs.Lists.{set_is_update}

pub lines_of : (d : MachineDesc) (s : Shape) → s ≡ shape_of d → length s.owners ≡ line_count d
lines_of d s shape = ap (λ (x : Shape). length x.owners) shape ∙ length-map-range_with_len (owner_from 0 d.processes) 0 (line_count d)

-- a list keeps its length where its items are told of in one way or another
pub mapped_many : {A B : Type 0} (f : A → B) (xs : List A) (n : ℕ) → n ≤ length xs → n ≤ length (map f xs)
mapped_many f xs n many = omega (arith, many, length-map xs f)

pub mapped_alike : {A B C : Type 0} (f : A → B) (g : A → C) (xs : List A) → length (map f xs) ≡ length (map g xs)
mapped_alike f g xs = length-map xs f ∙ sym (length-map xs g)

none_either : (b : Bool) → ◌≡◌ {A = List ℕ} (if b then [] else []) []
none_either true = refl
none_either false = refl

-- lines accept the same bytes where these are told in another way
pub accept_alike : (old new : List LineView) (f g : ℕ → List ℕ) → ((l : ℕ) → f l ≡ g l) → AllAccept old new f → AllAccept old new g
accept_alike old new f g same all = record { number = all.number; each = λ l. subst (λ bytes. Accepts (line_at old l) (line_at new l) bytes) (same l) (all.each l) }

pub accept_none : (old new : List LineView) (at : ℕ) → AllAccept old new (on_line at []) → AllAccept old new (λ l. [])
accept_none old new at = accept_alike old new (on_line at []) (λ l. []) (λ l. none_either (l == at))

-- why a run stops at an error of the line that is served
pub cause_of : (at : ℕ) (old new : List LineView) (l : LineNo) (e : LineError) → l.0 ≡ at →
    ((x : LineNo) → ◌≡◌ {A = Result IoNote (LineNo × LineError)} (Err (l, e)) (Err (x, Fault)) → Rose (line_at old x.0).faults (line_at new x.0).faults) →
    ((x : LineNo) → ◌≡◌ {A = Result IoNote (LineNo × LineError)} (Err (l, e)) (Err (x, NoMemory)) → Rose (line_at old x.0).refusals (line_at new x.0).refusals) → StopsAt at old new (stopped_at l e)
cause_of at old new l Fault here fault memory = (here, subst (λ x. Rose (line_at old x).faults (line_at new x).faults) here (fault l refl))
cause_of at old new l NoMemory here fault memory = subst (λ x. Rose (line_at old x).refusals (line_at new x).refusals) here (memory l refl)

sent_length : (sent : Option ℕ) (bytes : List ℕ) → length (sent_after sent bytes) ≡ length bytes + length (bytes_of sent)
sent_length None bytes = omega arith
sent_length (Some byte) bytes = length-append bytes (byte ∷ [])

module _ (d : MachineDesc) (m : Machine) (i : ℕ) (described : IsDescription d) (s : Shape) (shape : s ≡ shape_of d) (io : IoElement) (element_is : m.io i ≡ io) (lines : List LineView) (marks : List Bool) (ports : List PortState) (told : (l : ℕ) → l < line_count d → outside lines marks ports l ≡ line_outside m l) (cursor : IsCursor s io) where
  abbrev done : element.Duty
  done = element_turn.turn_at s m.copies io lines marks ports

  cursor_is : (m.io i).cursor ≡ io.cursor
  cursor_is = ap (λ (x : IoElement). x.cursor) element_is

  rests_same : rests d m i ≡ element_turn.rests s m.copies io
  rests_same = rests_agree d m i ∙ ap (λ (x : IoElement). element_turn.rests (shape_of d) m.copies x) element_is ∙ ap (λ (x : Shape). element_turn.rests x m.copies io) (sym shape)

  resting : rests d m i ≡ true → done ≡ element.nothing (outside lines marks ports io.cursor).port
  resting t = cond-true _ _ _ (sym rests_same ∙ t)

  cursor_in : rests d m i ≡ false → io.cursor < line_count d
  cursor_in f =
      let some : length s.owners ≡ 0 → ⊥ = eqb-false (length s.owners) 0 (or_parts _ _ (or_parts _ _ (sym rests_same ∙ f)).1).0 in
      let there : io.cursor < length s.owners = cursor (elim (cases_eq (length s.owners) 0) [ inl none ↦ absurd (some none) | inr more ↦ omega (arith, more) ]) in
      subst (λ n. io.cursor < n) (lines_of d s shape) there

  serving : rests d m i ≡ false → duty d m (m.io i).cursor ≡ in_table done
  serving f =
      ap (duty d m) cursor_is ∙ duties_agree d m io.cursor described (cursor_in f)
      ∙ ap in_table (ap (λ (x : Shape). element.duty x m.copies (line_outside m io.cursor) io.cursor) (sym shape) ∙ ap (λ o. element.duty s m.copies o io.cursor) (sym (told io.cursor (cursor_in f))) ∙ sym (cond-false _ _ _ (sym rests_same ∙ f)))

  pub note_same : noted done.note ≡ note d m (event.Io (record { 0 = i }))
  note_same = cond_both (rests d m i) Nothing (duty d m (m.io i).cursor).note (λ (n : Note). noted done.note ≡ n) (λ t. ap (λ (x : element.Duty). noted x.note) (resting t)) (λ f. sym (ap (λ (x : Duty). x.note) (serving f)))

  pub sent_same : (l : ℕ) → on_line io.cursor (bytes_of done.sent) l ≡ sent_by d m i l
  sent_same l = cond_both (rests d m i) [] (on_line (m.io i).cursor (bytes_of (duty d m (m.io i).cursor).sent) l) (λ (bytes : List ℕ). on_line io.cursor (bytes_of done.sent) l ≡ bytes)
      (λ t. ap (λ (x : element.Duty). on_line io.cursor (bytes_of x.sent) l) (resting t) ∙ none_either (l == io.cursor))
      (λ f. ap (λ at. on_line at (bytes_of done.sent) l) (sym cursor_is) ∙ ap (λ (x : Duty). on_line (m.io i).cursor (bytes_of x.sent) l) (sym (serving f)))

  pub sends_so : IsSome done.sent → Sends d m i
  sends_so some = elim (cases_Bool (rests d m i)) [
    | inl t ↦ absurd (false≢true (subst (λ (x : element.Duty). IsSome x.sent) (resting t) some))
    | inr f ↦ (f, subst (λ (x : Duty). IsSome x.sent) (sym (serving f)) some)
  ]

  -- each line has what was sent on it, and what the turn sends
  pub sent_grows : (l : ℕ) → length ((after_io d m i).sent l) ≡ length (m.sent l) + length (sent_by d m i l)
  sent_grows l = elim (cases_Bool (rests d m i)) [
    | inl t ↦
        ap (λ (x : Machine). length (x.sent l)) (cond-true (rests d m i) m (after_duty d i (m.io i).cursor (duty d m (m.io i).cursor) m) t)
        ∙ (let none = ap (λ (x : List ℕ). length x) (cond-true (rests d m i) [] (on_line (m.io i).cursor (bytes_of (duty d m (m.io i).cursor).sent) l) t) in omega (arith, none))
    | inr f ↦
        ap (λ (x : Machine). length (x.sent l)) (cond-false (rests d m i) m (after_duty d i (m.io i).cursor (duty d m (m.io i).cursor) m) f)
        ∙ by_line (duty d m (m.io i).cursor).sent (m.io i).cursor
        ∙ ap (λ (x : List ℕ). length (m.sent l) + length x) (sym (cond-false (rests d m i) [] (on_line (m.io i).cursor (bytes_of (duty d m (m.io i).cursor).sent) l) f))
  ]
    where
      by_line : (sent : Option ℕ) (at : ℕ) → length (update m.sent at (sent_after sent (m.sent at)) l) ≡ length (m.sent l) + length (on_line at (bytes_of sent) l)
      by_line sent at = update_cases (λ (x : List ℕ). length x ≡ length (m.sent l) + length (on_line at (bytes_of sent) l)) m.sent at (sent_after sent (m.sent at)) l
          (λ e. sent_length sent (m.sent at) ∙ ap (λ k. length (m.sent k) + length (bytes_of sent)) (sym e) ∙ ap (λ (x : List ℕ). length (m.sent l) + length x) (sym (cond-true (l == at) (bytes_of sent) [] (eq-eqb l at e))))
          (λ ne. let none = ap (λ (x : List ℕ). length x) (cond-false (l == at) (bytes_of sent) [] (ne_eqb l at ne)) in omega (arith, none))

  pub hung_same : (l : ℕ) → (after_io d m i).hung l ≡ m.hung l
  hung_same l = cond_both (rests d m i) m (after_duty d i (m.io i).cursor (duty d m (m.io i).cursor) m) (λ (x : Machine). x.hung l ≡ m.hung l) (λ _. refl) (λ _. refl)

-- the same of the hardware, with lines from outside
module _ (h : Hardware) (hw : IsHardware h) (i : ℕ) (inside : i < h.desc.ios) (io : IoElement) (found : slice_get h.ios i ≡ Some io) (lines : List LineView) (marks : List Bool) (enough : line_count h.desc ≤ length lines) (same : length marks ≡ length lines) (o : Outside) (is_out : IsOutside lines marks o) (serves : IsCursor (shape_of h.desc) (get_or h.ios i fresh_element)) where
  abbrev m : Machine
  m = machine_of h o

  element_is : m.io i ≡ io
  element_is = get_or_from_slice_get h.ios i io fresh_element found

  cursor : IsCursor h.layout io
  cursor = subst (λ (s : Shape). IsCursor s io) (sym hw.layout) (subst (IsCursor (shape_of h.desc)) element_is serves)

  port_is : (l : ℕ) → l < line_count h.desc → get_or h.ports l no_port ≡ get_or h.ports l (empty_port h.desc)
  port_is l lt = get_or_default h.ports l no_port (empty_port h.desc) (subst (λ n. l < n) (sym hw.ports) lt)

  told : (l : ℕ) → l < line_count h.desc → outside lines marks h.ports l ≡ line_outside m l
  told l lt =
      let there : l < length lines = omega (arith, lt, enough) in
      let marked : l < length marks = omega (arith, there, same) in
      λ k. record { port = port_is l lt k; accepted = sym (is_out.accepted l there) k; hung = sym (is_out.hung l marked) k }

  abbrev made : element.Duty
  made = element_turn.turn_at h.layout m.copies io lines marks h.ports

  pub note_is : noted made.note ≡ note h.desc m (event.Io (record { 0 = i }))
  note_is = note_same h.desc m i hw.described h.layout hw.layout io element_is lines marks h.ports told cursor

  pub sends : IsSome made.sent → Sends h.desc m i
  sends = sends_so h.desc m i hw.described h.layout hw.layout io element_is lines marks h.ports told cursor

  pub accepts : (new : List LineView) → AllAccept lines new (on_line io.cursor (bytes_of made.sent)) → AllAccept lines new (sent_by h.desc m i)
  accepts new = accept_alike lines new _ _ (sent_same h.desc m i hw.described h.layout hw.layout io element_is lines marks h.ports told cursor)

  pub outside_new : (new : List LineView) (new_marks : List Bool) → new_marks ≡ marks → AllAccept lines new (on_line io.cursor (bytes_of made.sent)) → IsOutside new new_marks (outside_of (after_io h.desc m i))
  outside_new new new_marks kept all =
      let accepted = accepts new all in
      record {
        accepted = λ l lt.
            let before = is_out.accepted l (subst (λ n. l < n) accepted.number lt) in
            let grows = sent_grows h.desc m i hw.described h.layout hw.layout io element_is lines marks h.ports told cursor l in
            let counts = (accepted.each l).count in
            grows ∙ ap (λ n. n + length (sent_by h.desc m i l)) before ∙ sym counts;
        hung = λ l lt. hung_same h.desc m i hw.described h.layout hw.layout io element_is lines marks h.ports told cursor l ∙ is_out.hung l (subst (λ (x : List Bool). l < length x) kept lt) ∙ ap (λ (x : List Bool). get_or x l false) (sym kept);
      }

  -- what the element's turn leaves
  module _ (memories : Memories) (io' : IoElement) (ports : List PortState) (copies_are : copies h.layout memories ≡ element_change.copies_after made.change m.copies) (ports_are : ports ≡ element_turn.ports_after h.ports io.cursor made.taken) (io_is : io' ≡ element_turn.element_after h.layout m.copies io) where
    abbrev after : Hardware
    after = record h { memories = memories; ios = set h.ios i io'; ports = ports }

    there : i < length h.ios
    there = subst (λ n. i < n) (sym hw.ios) inside

    rested : rests h.desc m i ≡ rests h.desc m i → element_turn.rests h.layout m.copies io ≡ rests h.desc m i
    rested _ = sym (rests_same h.desc m i hw.described h.layout hw.layout io element_is lines marks h.ports told cursor)

    at_rest : rests h.desc m i ≡ true → machine_of after (outside_of m) ≡ m
    at_rest t = λ k. record {
      copies = copies_rest k;
      hand = m.hand;
      cache = m.cache;
      scan = m.scan;
      incarnation = m.incarnation;
      io = io_rest k;
      port = port_rest k;
      history = m.history;
      sent = m.sent;
      hung = m.hung;
    }
      where
        none : made ≡ element.nothing (outside lines marks h.ports io.cursor).port
        none = resting h.desc m i hw.described h.layout hw.layout io element_is lines marks h.ports told cursor t

        copies_rest : copies h.layout memories ≡ m.copies
        copies_rest = copies_are ∙ ap (λ (x : element.Duty). element_change.copies_after x.change m.copies) none

        io_rest : (λ j. get_or (set h.ios i io') j fresh_element) ≡ m.io
        io_rest =
            ap (λ (x : IoElement). λ (j : ℕ). get_or (set h.ios i x) j fresh_element) (io_is ∙ cond-true _ _ _ (rested refl ∙ t) ∙ sym element_is)
            ∙ ap (λ (xs : List IoElement). λ (j : ℕ). get_or xs j fresh_element) (set-get_or h.ios i fresh_element)

        ports_rest : ports ≡ h.ports
        ports_rest = ports_are ∙ ap (λ (x : element.Duty). element_turn.ports_after h.ports io.cursor x.taken) none ∙ set-get_or h.ports io.cursor no_port

        port_rest : (λ l. get_or ports l (empty_port h.desc)) ≡ m.port
        port_rest = ap (λ (xs : List PortState). λ (l : ℕ). get_or xs l (empty_port h.desc)) ports_rest

    at_work : rests h.desc m i ≡ false → machine_of after (outside_of (after_duty h.desc i io.cursor (in_table made) m)) ≡ after_duty h.desc i io.cursor (in_table made) m
    at_work f = λ k. record {
      copies = (copies_are ∙ sym (changes_agree made.change m.copies)) k;
      hand = m.hand;
      cache = m.cache;
      scan = m.scan;
      incarnation = m.incarnation;
      io = io_work k;
      port = port_work k;
      history = m.history;
      sent = (after_duty h.desc i io.cursor (in_table made) m).sent;
      hung = m.hung;
    }
      where
        within : io.cursor < line_count h.desc
        within = cursor_in h.desc m i hw.described h.layout hw.layout io element_is lines marks h.ports told cursor f

        io_work : (λ j. get_or (set h.ios i io') j fresh_element) ≡ update m.io i (record (m.io i) { cursor = if io.cursor + 1 == line_count h.desc then 0 else io.cursor + 1 })
        io_work =
            set_is_update h.ios i io' fresh_element there
            ∙ ap (update m.io i) (io_is ∙ cond-false _ _ _ (rested refl ∙ f)
            ∙ ap (λ n. record io { cursor = if io.cursor + 1 == n then 0 else io.cursor + 1 }) (lines_of h.desc h.layout hw.layout)
            ∙ ap (λ (x : IoElement). record x { cursor = if io.cursor + 1 == line_count h.desc then 0 else io.cursor + 1 }) (sym element_is))

        port_work : (λ l. get_or ports l (empty_port h.desc)) ≡ update m.port io.cursor (record (m.port io.cursor) { taken = made.taken })
        port_work =
            ap (λ (xs : List PortState). λ (l : ℕ). get_or xs l (empty_port h.desc)) ports_are
            ∙ set_is_update h.ports io.cursor (record (get_or h.ports io.cursor no_port) { taken = made.taken }) (empty_port h.desc) (subst (λ n. io.cursor < n) (sym hw.ports) within)
            ∙ ap (λ (x : PortState). update m.port io.cursor (record x { taken = made.taken })) (port_is io.cursor within)

    pub machine_is : machine_of after (outside_of (after_io h.desc m i)) ≡ after_io h.desc m i
    machine_is = cond_both (rests h.desc m i) m (after_duty h.desc i (m.io i).cursor (duty h.desc m (m.io i).cursor) m) (λ (x : Machine). machine_of after (outside_of x) ≡ x) at_rest
        (λ f.
        let e = ap (λ at. after_duty h.desc i at (duty h.desc m (m.io i).cursor) m) (cursor_is h.desc m i hw.described h.layout hw.layout io element_is lines marks h.ports told cursor)
        ∙ ap (λ (x : Duty). after_duty h.desc i io.cursor x m) (serving h.desc m i hw.described h.layout hw.layout io element_is lines marks h.ports told cursor f) in
        subst (λ (x : Machine). machine_of after (outside_of x) ≡ x) (sym e) (at_work f))

-- nothing has changed where the turn gave up
pub nothing_changed : (h : Hardware) (i : ℕ) (io io' : IoElement) (memories : Memories) (ports : List PortState) → slice_get h.ios i ≡ Some io → io' ≡ io → memories ≡ h.memories → ports ≡ h.ports → ◌≡◌ {A = Hardware} (record h { memories = memories; ios = set h.ios i io'; ports = ports }) h
nothing_changed h i io io' memories ports found same_io same_memories same_ports = λ k. record h {
  memories = same_memories k;
  ios = (ap (λ (x : IoElement). set h.ios i x) (same_io ∙ sym (get_or_from_slice_get h.ios i io fresh_element found)) ∙ set-get_or h.ios i fresh_element) k;
  ports = same_ports k;
}
