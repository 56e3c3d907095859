-- Every event keeps lines, ports and the elements that serve them within their bounds.
use Rattle.std.proofs.Common.{◌≡◌, ◌≢◌, ◌⊎◌, inl, inr, ℕ, zero, suc, ◌+◌, ◌<◌, ◌≤◌, Bool, true, false, not, ◌&&◌, ◌||◌, ◌==◌, nat_lt, if◌then◌else◌, Option, Some, None, is_some, [], ◌∷◌, length, slice_index, slice_get, refl, sym, ◌∙◌, subst, arith, length-append}
use Rattle.std.proofs.lemmas.Bool.{cond_both, or_parts, eqb-false, ltb-true, and_parts, eqb-true}
use Rattle.std.proofs.lemmas.List.{length-replicate, length-set}
use Rattle.seq_words.specs.Description.{line_count}
use Rattle.seq_words.specs.declared.block.Block.{Block}
use Rattle.seq_words.specs.declared.description.MachineDesc.{MachineDesc}
use Rattle.seq_layout.specs.Places.{memory_of}
use Rattle.seq_layout.specs.Shapes.{shape_of, segment_extent, line_extent}
use Rattle.seq_layout.specs.Copies.{same_copy}
use Rattle.seq_layout.specs.Units.{units_of}
use Rattle.seq_layout.specs.declared.units.Unit.{Unit as Part}
use Rattle.seq_layout.specs.declared.units.Unit.TheVariants.{Block as Of_block, Word as Of_word}
use Rattle.seq_io.specs.declared.element.PortState.{PortState}
use Rattle.seq_words.specs.declared.kinds.Element.TheVariants as element
use Rattle.seq_words.specs.declared.events.Event.TheVariants as event
use Rattle.seq_turns.specs.Functions.{update, update_copy}
use Rattle.seq_turns.specs.Machines.{Machine, Change, Turn, words_after}
use Rattle.seq_io.specs.Changes.Change.{Unchanged, To_block, To_word}
use Rattle.seq_turns.specs.Machines.Turn.{Moves, Looks, Copies_unit, Stops}
use Rattle.seq_turns.specs.Reading.{copied_memory}
use Rattle.seq_turns.specs.Recoveries.{copy_on, unit_taken, next_of, unit_copied}
use Rattle.seq_turns.specs.Duties.{Duty, duty, tells_sent, takes, closes, goal, written, accepted, has_steady_owner, is_below, is_at, differs, may_send, outbox_at, sent_after, after_duty, rests}
use Rattle.seq_turns.specs.Processors.{turn}
use Rattle.seq_turns.specs.Events.{lost_copies, is_down, stopped, after_turn, after_io, happens}
use Rattle.seq_turns.proofs.Functions.{update_cases}
use Rattle.seq_stands.specs.Standing.{Stands}
use Rattle.seq_stands.specs.FitHands.{HandsFit}
use Rattle.seq_stands.specs.FitLines.{LineWord, PortFits, LinesFit, WritesFit, StartLinesFit, EventsKeepLinesFit}
use Rattle.seq_stands.proofs.FitChanges.{TurnDoes, turn_does}

-- no word of a line is outside its bounds
abbrev pub WordsFit : MachineDesc → (ℕ → ℕ → Bool → ℕ) → Type 0
WordsFit d f = (l n : ℕ) (c : Bool) → LineWord d n (f (line_extent (shape_of d) l) n c)

line_word_zero : (d : MachineDesc) (n : ℕ) → LineWord d n 0
line_word_zero d zero = omega arith
line_word_zero d (suc zero) = omega arith
line_word_zero d (suc (suc zero)) = omega arith
line_word_zero d (suc (suc (suc n))) = tt

-- one word is set, to a number within its bounds if it is one of a line
set_fits : (d : MachineDesc) (f : ℕ → ℕ → Bool → ℕ) (e n : ℕ) (c : Bool) (w : ℕ) → ((l : ℕ) → line_extent (shape_of d) l ≡ e → LineWord d n w) → WordsFit d f → WordsFit d (update_copy f e n c w)
unfolding update_copy
set_fits d f e n c w is fits l n' c' = cond_both ((line_extent (shape_of d) l == e && n' == n) && same_copy c' c) w (f (line_extent (shape_of d) l) n' c') (LineWord d n')
    (λ t. let h = and_parts (line_extent (shape_of d) l == e) (n' == n) (and_parts (line_extent (shape_of d) l == e && n' == n) (same_copy c' c) t).0 in
    subst (λ k. LineWord d k w) (sym (eqb-true n' n h.1)) (is l (eqb-true (line_extent (shape_of d) l) e h.0)))
    (λ _. fits l n' c')

pub start_lines_fit : StartLinesFit
start_lines_fit d image = record {
  words = λ l n c. line_word_zero d n;
  ports = λ l. record { taken = omega arith; arrived = omega arith; store = length-replicate d.journal 0 };
  sent = λ l. omega arith;
  cursors = λ i. inl refl;
}

-- A duty of an I/O element at line l.
module _ (d : MachineDesc) (m : Machine) (l : ℕ) (writes : has_steady_owner d m l ≡ true → written d m.copies l ≤ 1048576) (fits : LinesFit d m) where
  -- it leaves the words, the port and what was sent within their bounds
  pub record DutyFits (done : Duty) : Type 0 where
    pub words : WordsFit d (words_after done.change m.copies.word)
    pub taken : done.taken ≤ (m.port l).arrived
    pub sent : length (sent_after done.sent (m.sent l)) ≤ 1048576

  nothing_fits : (done : Duty) → done.change ≡ Unchanged → done.taken ≡ (m.port l).taken → done.sent ≡ None → DutyFits done
  nothing_fits done a b c = record {
    words = subst (λ (x : Change). WordsFit d (words_after x m.copies.word)) (sym a) fits.words;
    taken = subst (λ x. x ≤ (m.port l).arrived) (sym b) (fits.ports l).taken;
    sent = subst (λ x. length (sent_after x (m.sent l)) ≤ 1048576) (sym c) (fits.sent l);
  }

  word_fits : (n : ℕ) (c : Bool) (w : ℕ) (done : Duty) → done.change ≡ To_word (line_extent (shape_of d) l) n c w → done.taken ≡ (m.port l).taken → done.sent ≡ None → LineWord d n w → DutyFits done
  word_fits n c w done a b e is = record {
    words = subst (λ (x : Change). WordsFit d (words_after x m.copies.word)) (sym a) (set_fits d m.copies.word (line_extent (shape_of d) l) n c w (λ _ _. is) fits.words);
    taken = subst (λ x. x ≤ (m.port l).arrived) (sym b) (fits.ports l).taken;
    sent = subst (λ x. length (sent_after x (m.sent l)) ≤ 1048576) (sym e) (fits.sent l);
  }

  block_fits : (e n : ℕ) (c : Bool) (b : Block) (done : Duty) → done.change ≡ To_block e n c b → done.taken ≡ (m.port l).taken → done.sent ≡ None → DutyFits done
  block_fits e n c b done i j k = record {
    words = subst (λ (x : Change). WordsFit d (words_after x m.copies.word)) (sym i) fits.words;
    taken = subst (λ x. x ≤ (m.port l).arrived) (sym j) (fits.ports l).taken;
    sent = subst (λ x. length (sent_after x (m.sent l)) ≤ 1048576) (sym k) (fits.sent l);
  }

  closes_fits : DutyFits (closes d m l)
  closes_fits =
      cond_both (not (m.port l).closed) _ _ DutyFits (λ _. nothing_fits _ refl refl refl) (λ _.
      cond_both (is_at d m.copies l 1 false 0) _ _ DutyFits (λ _. word_fits 1 false 1 _ refl refl refl (omega arith)) (λ _.
      cond_both (is_at d m.copies l 1 true 0) _ _ DutyFits (λ _. word_fits 1 true 1 _ refl refl refl (omega arith)) (λ _. nothing_fits _ refl refl refl)))

  takes_fits : (at byte : ℕ) → at < (m.port l).arrived → DutyFits (takes d m l at byte)
  takes_fits at byte below =
      let count : suc at ≤ d.journal = omega (arith, below, (fits.ports l).arrived) in
      cond_both (is_at d m.copies l 0 false at && differs d m.copies l false at byte) _ _ DutyFits (λ _. block_fits _ _ false _ _ refl refl refl) (λ _.
      cond_both (is_at d m.copies l 0 true at && differs d m.copies l true at byte) _ _ DutyFits (λ _. block_fits _ _ true _ _ refl refl refl) (λ _.
      cond_both (is_at d m.copies l 0 false at) _ _ DutyFits (λ _. word_fits 0 false (suc at) _ refl refl refl count) (λ _.
      cond_both (is_at d m.copies l 0 true at) _ _ DutyFits (λ _. word_fits 0 true (suc at) _ refl refl refl count) (λ _. record { words = fits.words; taken = omega (arith, below); sent = fits.sent l }))))

  goal_fits : goal d m l ≤ 1048576
  goal_fits = cond_both (m.hung l && has_steady_owner d m l) _ _ (λ x. x ≤ 1048576) (λ t. writes (and_parts (m.hung l) (has_steady_owner d m l) t).1) (λ _. fits.sent l)

  tells_fits : DutyFits (tells_sent d m l)
  tells_fits =
      cond_both (is_below d m.copies l 2 false (goal d m l)) _ _ DutyFits (λ _. word_fits 2 false (goal d m l) _ refl refl refl goal_fits) (λ _.
      cond_both (is_below d m.copies l 2 true (goal d m l)) _ _ DutyFits (λ _. word_fits 2 true (goal d m l) _ refl refl refl goal_fits) (λ _.
      cond_both (nat_lt (m.port l).taken (m.port l).arrived) _ _ DutyFits (λ t. takes_fits (m.port l).taken (slice_index (m.port l).store (m.port l).taken) (ltb-true (m.port l).taken (m.port l).arrived t)) (λ _. closes_fits)))

  pub duty_fits : DutyFits (duty d m l)
  duty_fits = cond_both (may_send d m l) _ _ DutyFits
      (λ t. record { words = fits.words; taken = (fits.ports l).taken; sent = let parts = and_parts (not (m.hung l) && has_steady_owner d m l) (nat_lt (accepted m l) (written d m.copies l)) t in let below : accepted m l < written d m.copies l = ltb-true (accepted m l) (written d m.copies l) parts.1 in let most = writes (and_parts (not (m.hung l)) (has_steady_owner d m l) parts.0).1 in omega (arith, below, most, length-append (m.sent l) (outbox_at d m.copies l (accepted m l) ∷ [])) })
      (λ _. tells_fits)

module _ (d : MachineDesc) (m : Machine) (fits : LinesFit d m) where
  -- what isn't spoken of may change
  same : (n : Machine) → WordsFit d n.copies.word → n.port ≡ m.port → n.sent ≡ m.sent → n.io ≡ m.io → LinesFit d n
  same n words a b c = record {
    words = words;
    ports = λ l. subst (λ f. PortFits d (f l)) (sym a) (fits.ports l);
    sent = λ l. subst (λ f. length (f l) ≤ 1048576) (sym b) (fits.sent l);
    cursors = λ i. subst (λ f. ((f i).cursor ≡ 0) ⊎ ((f i).cursor < line_count d)) (sym c) (fits.cursors i);
  }

  io_fits : WritesFit d m → (i : ℕ) → LinesFit d (after_io d m i)
  io_fits writes i = cond_both (rests d m i) _ _ (LinesFit d) (λ _. fits) (λ f. done f)
    where
      l : ℕ
      l = (m.io i).cursor

      done : rests d m i ≡ false → LinesFit d (after_duty d i (m.io i).cursor (duty d m (m.io i).cursor) m)
      done f = record {
        words = is.words;
        ports = λ x. update_cases (PortFits d) m.port (m.io i).cursor _ x (λ _. record { taken = is.taken; arrived = (fits.ports (m.io i).cursor).arrived; store = (fits.ports (m.io i).cursor).store }) (λ _. fits.ports x);
        sent = λ x. update_cases (λ xs. length xs ≤ 1048576) m.sent (m.io i).cursor _ x (λ _. is.sent) (λ _. fits.sent x);
        cursors = λ x. update_cases (λ e. (e.cursor ≡ 0) ⊎ (e.cursor < line_count d)) m.io i _ x (λ _. next) (λ _. fits.cursors x);
      }
        where
          some : line_count d ≢ 0
          some = eqb-false (line_count d) 0 (or_parts (line_count d == 0) (is_some (copied_memory d m.copies)) (or_parts (not (m.io i).up) (line_count d == 0 || is_some (copied_memory d m.copies)) f).1).0

          below : (m.io i).cursor < line_count d
          below = go (fits.cursors i)
            where
              go : ((m.io i).cursor ≡ 0) ⊎ ((m.io i).cursor < line_count d) → (m.io i).cursor < line_count d
              go (inl z) = omega (arith, z, some)
              go (inr k) = k

          is : DutyFits d m (m.io i).cursor (writes.writes (m.io i).cursor below) fits (duty d m (m.io i).cursor)
          is = duty_fits d m (m.io i).cursor (writes.writes (m.io i).cursor below) fits

          next : ((if (m.io i).cursor + 1 == line_count d then 0 else (m.io i).cursor + 1) ≡ 0) ⊎ ((if (m.io i).cursor + 1 == line_count d then 0 else (m.io i).cursor + 1) < line_count d)
          next = cond_both ((m.io i).cursor + 1 == line_count d) 0 ((m.io i).cursor + 1) (λ x. (x ≡ 0) ⊎ (x < line_count d)) (λ _. inl refl)
              (λ f. inr (let ne = eqb-false ((m.io i).cursor + 1) (line_count d) f in omega (arith, below, ne)))

  -- a port changes, within its bounds
  port_fits : (l : ℕ) (next : PortState) → PortFits d next → LinesFit d (record m { port = update m.port l next })
  port_fits l next is = record { words = fits.words; ports = λ x. update_cases (PortFits d) m.port l next x (λ _. is) (λ _. fits.ports x); sent = fits.sent; cursors = fits.cursors }

  -- a memory's words are lost
  lost_fits : (i : ℕ) → WordsFit d (lost_copies d i m.copies).word
  lost_fits i l n c = cond_both (memory_of d.memories (line_extent (shape_of d) l) c == i) 0 (m.copies.word (line_extent (shape_of d) l) n c) (LineWord d n) (λ _. line_word_zero d n) (λ _. fits.words l n c)

  -- a unit is copied
  taken_fits : (i : ℕ) (u : Option Part) → WordsFit d (words_after (unit_taken d m.copies i u) m.copies.word)
  taken_fits i None = fits.words
  taken_fits i (Some (Of_block e n)) = fits.words
  taken_fits i (Some (Of_word w)) = set_fits d m.copies.word w.extent.0 w.word (copy_on d i w.extent.0) (m.copies.word w.extent.0 w.word (not (copy_on d i w.extent.0)))
      (λ l e. subst (λ x. LineWord d w.word (m.copies.word x w.word (not (copy_on d i w.extent.0)))) e (fits.words l w.word (not (copy_on d i w.extent.0)))) fits.words

  abbrev LineWords : Change → Type 0
  LineWords change = WordsFit d (words_after change m.copies.word)

  block_set : (e n : ℕ) (c : Bool) (b : Block) → LineWords (To_block e n c b)
  block_set e n c b = fits.words

  status_set : (q : ℕ) (c : Bool) (w : ℕ) → q < length d.processes → LineWords (To_word q 0 c w)
  status_set q c w k = set_fits d m.copies.word q 0 c w (λ l e. absurd (let x : ⊥ = omega (arith, k, e) in x)) fits.words

  lock_set : (t : ℕ) (c : Bool) (w : ℕ) → t < length d.segments → LineWords (To_word (segment_extent (shape_of d) t) 0 c w)
  lock_set t c w k = set_fits d m.copies.word (segment_extent (shape_of d) t) 0 c w (λ l e. absurd (let x : ⊥ = omega (arith, k, e) in x)) fits.words

  -- a processor's turn changes no word of a line, but where it copies one
  turn_fits : (p : ℕ) → Stands d m → HandsFit d m → LinesFit d (after_turn d m p (turn d m p (m.hand p)))
  turn_fits p st hands = go (turn d m p (m.hand p)) (turn_does d m p st LineWords fits.words block_set status_set lock_set (m.hand p) refl (st.hands.hands p) (hands.hands p))
    where
      go : (t : Turn) → TurnDoes d m p st LineWords fits.words block_set status_set lock_set t → LinesFit d (after_turn d m p t)
      go (Moves move) k = same (after_turn d m p (Moves move)) k refl refl refl
      go (Looks next move) k = same (after_turn d m p (Looks next move)) k refl refl refl
      go (Copies_unit i) k = same (unit_copied d m i) (taken_fits i (slice_get (units_of (shape_of d) i) (next_of (m.copies.state i)))) refl refl refl
      go Stops k = same (stopped m p) fits.words refl refl refl

pub events_keep_lines_fit : EventsKeepLinesFit
events_keep_lines_fit d m (event.Processor p) described ok st hands writes fits = turn_fits d m fits p.0 st hands
events_keep_lines_fit d m (event.Io i) described ok st hands writes fits = io_fits d m fits writes i.0
events_keep_lines_fit d m (event.Input l byte) described ok st hands writes fits =
    let port = fits.ports l.0 in
    port_fits d m fits l.0 _ (record { taken = omega (arith, port.taken); arrived = omega (arith, ok.room); store = length-set (m.port l.0).store (m.port l.0).arrived byte ∙ port.store })
events_keep_lines_fit d m (event.Close l) described ok st hands writes fits = port_fits d m fits l.0 _ (record { taken = (fits.ports l.0).taken; arrived = (fits.ports l.0).arrived; store = (fits.ports l.0).store })
events_keep_lines_fit d m (event.Fail (element.Processor p)) described ok st hands writes fits = cond_both (is_down (m.hand p.0)) _ _ (LinesFit d) (λ _. fits) (λ _. same d m fits (stopped m p.0) fits.words refl refl refl)
events_keep_lines_fit d m (event.Fail (element.Memory i)) described ok st hands writes fits = same d m fits (happens d m (event.Fail (element.Memory i))) (lost_fits d m fits i.0) refl refl refl
events_keep_lines_fit d m (event.Fail (element.Io i)) described ok st hands writes fits = record {
  words = fits.words;
  ports = fits.ports;
  sent = fits.sent;
  cursors = λ x. update_cases (λ e. (e.cursor ≡ 0) ⊎ (e.cursor < line_count d)) m.io i.0 _ x (λ _. inl refl) (λ _. fits.cursors x);
}
events_keep_lines_fit d m (event.Repair (element.Processor p)) described ok st hands writes fits = same d m fits (happens d m (event.Repair (element.Processor p))) fits.words refl refl refl
events_keep_lines_fit d m (event.Repair (element.Memory i)) described ok st hands writes fits = same d m fits (happens d m (event.Repair (element.Memory i))) fits.words refl refl refl
events_keep_lines_fit d m (event.Repair (element.Io i)) described ok st hands writes fits = record {
  words = fits.words;
  ports = fits.ports;
  sent = fits.sent;
  cursors = λ x. update_cases (λ e. (e.cursor ≡ 0) ⊎ (e.cursor < line_count d)) m.io i.0 _ x (λ _. fits.cursors i.0) (λ _. fits.cursors x);
}
events_keep_lines_fit d m (event.Upset p half reg mask) described ok st hands writes fits = same d m fits (happens d m (event.Upset p half reg mask)) fits.words refl refl refl
events_keep_lines_fit d m (event.Hangup l) described ok st hands writes fits = same d m fits (happens d m (event.Hangup l)) fits.words refl refl refl
