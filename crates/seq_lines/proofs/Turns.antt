-- Every turn of a processor keeps what stands of the lines.
use Rattle.std.proofs.Common.{◌≡◌, ◌⊎◌, inl, inr, ℕ, ◌+◌, ◌<◌, ◌≤◌, true, false, ◌-◌, ◌==◌, nat_le, List, take, length, Option, Some, None, refl, ap, sym, ◌∙◌, subst, arith}
use Rattle.std.proofs.lemmas.Bool.{cases_lt, cases_Bool, cond_both, cond-false}
use Rattle.std.proofs.lemmas.List.{take-take}
use Rattle.std.proofs.Math.Seq.{take-length}
use Rattle.seq_words.specs.Masks.{has_bit}
use Rattle.seq_words.specs.Description.{IsDescription, line_count, process_of}
use Rattle.seq_words.specs.declared.events.Entry.{Entry}
use Rattle.seq_words.specs.declared.names.Seg.{Seg}
use Rattle.seq_words.specs.declared.description.MachineDesc.{MachineDesc}
use Rattle.seq_flat.specs.declared.inputs.LineInput.{LineInput}
use Rattle.seq_flat.specs.declared.state.End.{End}
use Rattle.seq_flat.specs.declared.state.End.TheVariants.{Live, Exited, Trapped}
use Rattle.seq_flat.specs.declared.state.FlatState.{FlatState}
use Rattle.seq_flat.specs.Run.{output, IsPrefix}
use Rattle.seq_layout.specs.Shapes.{shape_of, line_extent, index_of}
use Rattle.seq_layout.specs.Copies.{first_copy, IsServed}
use Rattle.seq_layout.proofs.CopiesLaws.{all_are_served}
use Rattle.seq_process.specs.declared.running.Running.{Running}
use Rattle.seq_process.specs.Contexts.{started, end_of}
use Rattle.seq_cache.specs.Changes.{Changes}
use Rattle.seq_kernel.specs.declared.outcomes.Cause.{Cause}
use Rattle.seq_kernel.specs.declared.outcomes.Cause.TheVariants.{Wait, Quantum}
use Rattle.seq_kernel.specs.declared.outcomes.Reason.TheVariants.{Lock}
use Rattle.seq_kernel.specs.declared.outcomes.Outcome.{Outcome}
use Rattle.seq_kernel.specs.declared.outcomes.Outcome.TheVariants as outcome
use Rattle.seq_kernel.specs.Turns.{Turned}
use Rattle.seq_kernel.specs.Calls.{lines_of, line_word}
use Rattle.seq_kernel.specs.Bounds.{IsWithin}
use Rattle.seq_kernel.specs.Steps.{step_of}
use Rattle.seq_kernel.proofs.CallPlaces.{line_below, index_few, own_lines_few}
use Rattle.seq_locks.specs.declared.claim.Claim.{Claim}
use Rattle.seq_locks.specs.declared.stages.Shadow as shadow_stage
use Rattle.seq_locks.specs.Turns.{is_taken, word_at}
use Rattle.seq_runs.proofs.Growth.{prefix_length}
use Rattle.seq_flat.specs.Reached.{IsReached}
use Rattle.seq_turns.specs.declared.hand.Hand.{Hand}
use Rattle.seq_turns.specs.declared.hand.Hand.TheVariants as hand
use Rattle.seq_turns.specs.declared.hand.FlushAt.{FlushAt}
use Rattle.seq_turns.specs.declared.hand.FlushAt.TheVariants as flush
use Rattle.seq_turns.specs.declared.hand.ReleaseAt.{ReleaseAt}
use Rattle.seq_turns.specs.declared.hand.ReleaseAt.TheVariants as release
use Rattle.seq_turns.specs.declared.hand.RecoveryAt.{RecoveryAt}
use Rattle.seq_turns.specs.declared.hand.RecoveryAt.TheVariants as recovery
use Rattle.seq_turns.specs.Functions.{update}
use Rattle.seq_turns.specs.Machines.{Machine, Move, Turn, after_move}
use Rattle.seq_turns.specs.Machines.Turn.{Moves, Looks, Copies_unit, Stops}
use Rattle.seq_turns.specs.Reading.{lock_word, context_of, copied_memory, is_copied, is_amid}
use Rattle.seq_turns.specs.Causes.{finds, agree, released}
use Rattle.seq_turns.specs.Operations.{taken_up, claims, acquires, less, unit_count, flush_move, unlock_move, leave_move}
use Rattle.seq_recover.specs.Reading.{left_from}
use Rattle.seq_turns.specs.Recoveries.{recovery_move, locks_cleared, unit_copied}
use Rattle.seq_turns.specs.Processors.{turn, after_step, seeks, is_free, deserted, someone_amid, copies_or_waits, seeks_or_copies, runs_or_copies}
use Rattle.seq_turns.specs.Events.{after_turn}
use Rattle.seq_turns.proofs.Functions.{update_cases, lowest_passes, lowest_none}
use Rattle.seq_stands.specs.Standing.{Stands}
use Rattle.seq_lines.specs.Lines.{HasRoom, HandHasRoom, LinesStand}
use Rattle.seq_lines.specs.Known.{FirstHold, IsOffLines, TurnIsOffLines, HandIsWithin, ClaimsImage, CommitsOutput, CommitsAs, commit_of}
use Rattle.seq_lines.specs.Turns.{TurnIsKnown, TurnsKeepLines}
use Rattle.seq_lines.proofs.Frame.{line_framed}
use Rattle.seq_lines.proofs.Written.{written_on}
use Rattle.seq_lines.proofs.Changed.{off_lines, words_off_lines}
use Rattle.seq_lines.proofs.Elements.{stop_kept}
use Rattle.seq_lines.proofs.Rooms.{SaysSent, step_room, TurnHasRoom, follows_room, finds_room, runs_room}
use Rattle.seq_lines.proofs.UnitsCopied.{unit_copy_kept}

pub prefix_on : (xs ys zs : List ℕ) → IsPrefix xs ys → IsPrefix ys zs → IsPrefix xs zs
prefix_on xs ys zs a b = sym (take-take (length xs) (length ys) zs (prefix_length xs ys a)) ∙ ap (take (length xs)) b ∙ a

-- the outputs only grew, within the outboxes
pub record OutputsFit (d : MachineDesc) (f g : FlatState) (m : Machine) : Type 0 where
  pub keeps : (l : ℕ) → IsPrefix (output f l) (output g l)
  pub room : (l : ℕ) → l < line_count d → m.hung l ≡ false → length (output g l) ≤ length (m.sent l) + 256

module _ (d : MachineDesc) (inputs : List LineInput) (f g : FlatState) (m : Machine) (p : ℕ) (st : LinesStand d inputs f m) where
  same_outputs : g ≡ f → OutputsFit d f g m
  same_outputs e = record {
    keeps = λ l. subst (λ x. IsPrefix (output f l) (output x l)) (sym e) (take-length (output f l));
    room = λ l lt open_yet. subst (λ x. length (output x l) ≤ length (m.sent l) + 256) (sym e) ((st.line l lt).sent.room open_yet);
  }

  committed : (r : Running) → HasRoom d m.sent m.hung r → CommitsOutput d f g r → OutputsFit d f g m
  committed r room out = record {
    keeps = λ l. out.keeps.line l;
    room = λ l lt open_yet. go l lt open_yet (cases_Bool (has_bit (lines_of d r) l));
  }
    where
      go : (l : ℕ) → l < line_count d → m.hung l ≡ false → (has_bit (lines_of d r) l ≡ true) ⊎ (has_bit (lines_of d r) l ≡ false) → length (output g l) ≤ length (m.sent l) + 256
      go l lt open_yet (inl own) = let a = out.own l own in let b = room l own open_yet in omega (arith, a, b)
      go l lt open_yet (inr other) = subst (λ x. length x ≤ length (m.sent l) + 256) (sym (out.other l other)) ((st.line l lt).sent.room open_yet)

  -- what a hand commits fits
  outputs_fit : (o : Option Entry) (h : Hand) → HandHasRoom d m.sent m.hung h → CommitsAs d f g o h → OutputsFit d f g m
  outputs_fit None h room e = same_outputs e
  outputs_fit (Some entry) hand.Down room none = absurd none
  outputs_fit (Some entry) hand.Seek room none = absurd none
  outputs_fit (Some entry) (hand.Claiming q c) room none = absurd none
  outputs_fit (Some entry) (hand.Running r) room none = absurd none
  outputs_fit (Some entry) (hand.Acquiring r t c) room none = absurd none
  outputs_fit (Some entry) (hand.Flushing r cause mask fl) room out = committed r room out
  outputs_fit (Some entry) (hand.Unlocking r cause mask l) room none = absurd none
  outputs_fit (Some entry) (hand.Leaving q l) room none = absurd none
  outputs_fit (Some entry) (hand.Recovering r) room none = absurd none

  -- a move that changes nothing of a line
  module _ (move : Move) (scan : ℕ → ℕ) (off : IsOffLines d move.change) (room : HandHasRoom d m.sent m.hung move.hand) (fit : OutputsFit d f g m) where
    pub move_kept : LinesStand d inputs g (record (after_move p move m) { scan = scan })
    move_kept = record {
      line = λ l lt. line_framed d inputs inputs f g m (record (after_move p move m) { scan = scan }) l
          (record { copies = off_lines d m.copies l move.change off; port = refl; input = refl; sent = refl; hung = refl })
          (fit.keeps l)
          (record { prefix = prefix_on (m.sent l) (output f l) (output g l) (st.line l lt).sent.prefix (fit.keeps l); room = λ open_yet. fit.room l lt open_yet })
          (st.line l lt);
      hand = λ q. update_cases (HandHasRoom d m.sent m.hung) m.hand p move.hand q (λ e. room) (λ ne. st.hand q);
      cursor = st.cursor;
      unsent = st.unsent;
      beyond = λ l n c past. words_off_lines d m.copies.word l move.change off n c ∙ st.beyond l n c past;
    }

module _ (d : MachineDesc) (inputs : List LineInput) (f g : FlatState) (commits : ℕ → ℕ) (m : Machine) (p : ℕ) (described : IsDescription d) (reached : IsReached d f) (stands : Stands d m) (st : LinesStand d inputs f m) where
  served : (e : ℕ) → IsServed (shape_of d) m.copies e
  served e = all_are_served (shape_of d) m.copies described.memories.low_at stands.service.one_out e

  -- what the sent word of a first copy says
  pub says : SaysSent d m.copies m.sent m.hung
  says = record {
    word = λ l lt open_yet.
        let h = ((st.line l lt).copy (first_copy (shape_of d) m.copies (line_extent (shape_of d) l)) (served (line_extent (shape_of d) l))).sent in
        subst (λ x. line_word d m.copies l 2 ≤ x) (cond-false _ _ _ open_yet) h;
  }

  abbrev Room : Running → Type 0
  Room r = HasRoom d m.sent m.hung r

  -- a process that is taken up
  started_room : (q : ℕ) → q < length d.processes → FirstHold d m.copies f commits q → Room (started (record { 0 = q }) (context_of d m.copies q))
  started_room q inside hold l own open_yet =
      let small : index_of (process_of d q).lines l < 4 = let a = index_few d q l described inside own in let b = own_lines_few d q described inside in omega (arith, a, b) in
      let w = written_on d m.copies f commits q described reached inside hold l own small in
      let room = (st.line l (line_below d q l described inside own)).sent.room open_yet in
      omega (arith, w, room)

  taken_room : (q : ℕ) (end : End) → q < length d.processes → FirstHold d m.copies f commits q → HandHasRoom d m.sent m.hung (taken_up d m q end)
  taken_room q Live inside hold = started_room q inside hold
  taken_room q (Exited code) inside hold = tt
  taken_room q (Trapped cause pc) inside hold = tt

  claims_room : (q : ℕ) (c : Claim shadow_stage.Shadow) → q < length d.processes → (is_taken (shape_of d) m.copies c.at true ≡ false → FirstHold d m.copies f commits q) → HandHasRoom d m.sent m.hung (claims d m p q c).hand
  claims_room q c inside hold = cond_both (is_taken (shape_of d) m.copies c.at true) _ _ (λ (move : Move). HandHasRoom d m.sent m.hung move.hand) (λ _. tt) (λ free. taken_room q (end_of (context_of d m.copies q)) inside (hold free))

  acquires_room : (r : Running) (t : Seg) (c : Claim shadow_stage.Shadow) → Room r → TurnHasRoom d m (acquires d m p r t c)
  acquires_room r t c room = cond_both (is_taken (shape_of d) m.copies c.at true) _ _ (TurnHasRoom d m)
      (λ _. finds_room d m p r (m.cache p) (Wait (Lock t (record { 0 = word_at m.copies c.at true - 1 }))) 0 room) (λ _. room)

  abbrev MoveHasRoom : Move → Type 0
  MoveHasRoom move = HandHasRoom d m.sent m.hung move.hand

  flush_room : (r : Running) (cause : Cause) (mask : ℕ) (at : FlushAt) → Room r → MoveHasRoom (flush_move d m p r cause mask at)
  flush_room r cause mask (flush.Mark x) room = cond_both (x.cursor == 0) _ _ MoveHasRoom (λ _. room) (λ _. room)
  flush_room r cause mask (flush.First x) room = cond_both (nat_le (unit_count m p x) x.cursor) _ _ MoveHasRoom (λ _. room) (λ _. room)
  flush_room r cause mask (flush.Second x) room = cond_both (x.cursor == 0) _ _ MoveHasRoom (λ _. room) (λ _. room)
  flush_room r cause mask (flush.Close x) room = cond_both (x.cursor == 0) _ _ MoveHasRoom (λ _. room) (λ _. follows_room d m p r cause mask room)

  unlock_room : (r : Running) (cause : Cause) (mask : ℕ) (at : ReleaseAt) → Room r → MoveHasRoom (unlock_move d m p r cause mask at)
  unlock_room r cause mask (release.Shadow l) room = room
  unlock_room r cause mask (release.Primary l) room = follows_room d m p r cause (less d mask l.at) room

  leave_room : (q : ℕ) (at : ReleaseAt) → MoveHasRoom (leave_move d m p q at)
  leave_room q (release.Shadow l) = tt
  leave_room q (release.Primary l) = tt

  recovery_room : (at : RecoveryAt) → MoveHasRoom (recovery_move d m p at)
  recovery_room (recovery.Claimed r) = cond_both (r.cursor == 0) _ _ MoveHasRoom (λ _. tt) (λ _. tt)
  recovery_room (recovery.Copying r) = tt
  recovery_room (recovery.Locks r) = go (left_from d m.copies r.pid.0 r.cursor)
    where
      go : (o : Option ℕ) → MoveHasRoom (locks_cleared d m p r o)
      go (Some k) = tt
      go None = tt
  recovery_room (recovery.Closing r) = cond_both (r.cursor == 0) _ _ MoveHasRoom (λ _. tt) (λ _. tt)

  seeks_room : HandHasRoom d m.sent m.hung (m.hand p) → (o : Option ℕ) → TurnHasRoom d m (seeks d m p o)
  seeks_room room (Some q) = tt
  seeks_room room None = cond_both (is_free d m (m.scan p)) _ _ MoveHasRoom (λ _. tt) (λ _. room)

  copies_room : HandHasRoom d m.sent m.hung (m.hand p) → (i : ℕ) (o : Option ℕ) → TurnHasRoom d m (copies_or_waits m p i o)
  copies_room room i (Some r) = room
  copies_room room i None = tt

  seek_room : HandHasRoom d m.sent m.hung (m.hand p) → (o : Option ℕ) → TurnHasRoom d m (seeks_or_copies d m p o)
  seek_room room (Some i) = copies_room room i (someone_amid d m)
  seek_room room None = seeks_room room (deserted d m)

  run_room : HandHasRoom d m.sent m.hung (m.hand p) → (r : Running) → IsWithin d r → Room r → (o : Option ℕ) → TurnHasRoom d m (runs_or_copies d m p r o)
  run_room here r within room (Some i) = copies_room here i (someone_amid d m)
  run_room here r within room None = runs_room d m p r room (step_room d m.copies m.sent m.hung r (m.cache p) described within says room)

  turn_room : (h : Hand) → HandHasRoom d m.sent m.hung (m.hand p) → HandHasRoom d m.sent m.hung h → HandIsWithin d h → ClaimsImage d m.copies f commits h → TurnHasRoom d m (turn d m p h)
  turn_room hand.Down here room within hold = here
  turn_room hand.Seek here room within hold = seek_room here (copied_memory d m.copies)
  turn_room (hand.Claiming q c) here room within hold = claims_room q.0 c within hold
  turn_room (hand.Running r) here room within hold = run_room here r within room (copied_memory d m.copies)
  turn_room (hand.Acquiring r t c) here room within hold = acquires_room r t c room
  turn_room (hand.Flushing r cause mask x) here room within hold = flush_room r cause mask x room
  turn_room (hand.Unlocking r cause mask l) here room within hold = unlock_room r cause mask l room
  turn_room (hand.Leaving q l) here room within hold = leave_room q.0 l
  turn_room (hand.Recovering r) here room within hold = recovery_room r

  -- who copies a unit copies to a memory that is to be copied, while nobody is amid an operation
  abbrev CopiesRight : Turn → Type 0
  CopiesRight (Moves move) = Unit {0}
  CopiesRight (Looks next move) = Unit {0}
  CopiesRight (Copies_unit i) = (i < d.memories) × (is_copied (m.copies.state i) ≡ true) × ((q : ℕ) → is_amid (m.hand q) ≡ false)
  CopiesRight Stops = Unit {0}

  waits_right : (i : ℕ) (o : Option ℕ) → copied_memory d m.copies ≡ Some i → someone_amid d m ≡ o → CopiesRight (copies_or_waits m p i o)
  waits_right i (Some r) e none = tt
  waits_right i None e none =
      let found = lowest_passes (λ j. is_copied (m.copies.state j)) d.memories i e in (
        found.1,
        found.0,
        λ q. elim (cases_lt q d.processors) [
          | inl lt ↦ lowest_none (λ r. is_amid (m.hand r)) d.processors none q lt
          | inr past ↦ ap is_amid (stands.hands.beyond q past)
        ],
      )

  finds_right : (r : Running) (cache : Changes) (cause : Cause) (mask : ℕ) → CopiesRight (finds d m p r cache cause mask)
  finds_right r cache cause mask = cond_both (r.steps == 0) _ _ CopiesRight (λ _. tt) (λ _. cond_both (agree r.pair) _ _ CopiesRight (λ _. tt) (λ _. tt))

  seeks_right : (o : Option ℕ) → CopiesRight (seeks d m p o)
  seeks_right (Some q) = tt
  seeks_right None = tt

  after_right : (r : Running) (t : Turned) (o : Outcome) → CopiesRight (after_step d m p r t o)
  after_right r t outcome.Done = tt
  after_right r t (outcome.Claim s) = cond_both (is_taken (shape_of d) m.copies (lock_word d s.0) false) _ _ CopiesRight (λ _. finds_right r (m.cache p) (Wait (Lock s (record { 0 = word_at m.copies (lock_word d s.0) false - 1 }))) 0) (λ _. tt)
  after_right r t (outcome.NeedsFlush cause) = finds_right t.running t.cache cause (released r.held cause)
  after_right r t (outcome.Waits why) = finds_right r (m.cache p) (Wait why) 0
  after_right r t outcome.Diverged = tt

  seek_right : (o : Option ℕ) → copied_memory d m.copies ≡ o → CopiesRight (seeks_or_copies d m p o)
  seek_right (Some i) e = waits_right i (someone_amid d m) e refl
  seek_right None e = seeks_right (deserted d m)

  run_right : (r : Running) (o : Option ℕ) → copied_memory d m.copies ≡ o → CopiesRight (runs_or_copies d m p r o)
  run_right r (Some i) e = waits_right i (someone_amid d m) e refl
  run_right r None e = cond_both (nat_le d.quantum r.used) _ _ CopiesRight (λ _. finds_right r (m.cache p) Quantum 0) (λ _. after_right r (step_of d m.copies r (m.cache p)) (step_of d m.copies r (m.cache p)).outcome)

  turn_right : (h : Hand) → CopiesRight (turn d m p h)
  turn_right hand.Down = tt
  turn_right hand.Seek = seek_right (copied_memory d m.copies) refl
  turn_right (hand.Claiming q c) = tt
  turn_right (hand.Running r) = run_right r (copied_memory d m.copies) refl
  turn_right (hand.Acquiring r t c) = cond_both (is_taken (shape_of d) m.copies c.at true) _ _ CopiesRight (λ _. finds_right r (m.cache p) (Wait (Lock t (record { 0 = word_at m.copies c.at true - 1 }))) 0) (λ _. tt)
  turn_right (hand.Flushing r cause mask x) = tt
  turn_right (hand.Unlocking r cause mask l) = tt
  turn_right (hand.Leaving q l) = tt
  turn_right (hand.Recovering r) = tt

  after_kept : (t : Turn) → TurnIsOffLines d t → TurnHasRoom d m t → CopiesRight t → CommitsAs d f g (commit_of t) (m.hand p) → LinesStand d inputs g (after_turn d m p t)
  after_kept (Moves move) off room right out = move_kept d inputs f g m p st move m.scan off room (outputs_fit d inputs f g m p st move.commit (m.hand p) (st.hand p) out)
  after_kept (Looks next move) off room right out = move_kept d inputs f g m p st move (update m.scan p next) off room (outputs_fit d inputs f g m p st move.commit (m.hand p) (st.hand p) out)
  after_kept (Copies_unit i) off room right e = subst (λ x. LinesStand d inputs x (unit_copied d m i)) (sym e) (unit_copy_kept d inputs f m i described right.0 right.1 right.2 stands.service st)
  after_kept Stops off room right e = subst (λ x. LinesStand d inputs x (after_turn d m p Stops)) (sym e) (stop_kept d inputs f m st p)

  pub turn_kept : TurnIsKnown d f g commits m p → LinesStand d inputs g (after_turn d m p (turn d m p (m.hand p)))
  turn_kept known = after_kept (turn d m p (m.hand p)) known.off (turn_room (m.hand p) (st.hand p) (st.hand p) known.within known.claims) (turn_right (m.hand p)) known.leads

pub turns_keep_lines : TurnsKeepLines
turns_keep_lines d inputs f g commits m p described reached stands known st = turn_kept d inputs f g commits m p described reached stands st known
