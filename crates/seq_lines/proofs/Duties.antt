-- Every duty keeps what stands of the lines.
use Rattle.std.proofs.Common.{◌≡◌, ◌≢◌, ◌⊎◌, inl, inr, ℕ, suc, ◌+◌, ◌<◌, ◌≤◌, Bool, true, false, not, ◌&&◌, ◌||◌, ◌==◌, if◌then◌else◌, nat_lt, List, [], ◌∷◌, ◌++◌, take, length, get_or, Option, Some, None, refl, ap, sym, ◌∙◌, subst, arith}
use Rattle.std.specs.Prelude.{slice_index, is_some}
use Rattle.std.proofs.lemmas.Bool.{cases_eq, and_parts, cond_both, cond-true, cond-false, ltb-true, ltb-false, eqb-false, true≢false}
use Rattle.std.proofs.lemmas.List.{length_push}
use Rattle.std.proofs.Math.Seq.{take-suc, take-length}
use Rattle.seq_words.specs.Description.{line_count}
use Rattle.seq_words.specs.declared.description.MachineDesc.{MachineDesc}
use Rattle.seq_flat.specs.declared.inputs.LineInput.{LineInput}
use Rattle.seq_flat.specs.declared.state.FlatState.{FlatState}
use Rattle.seq_flat.specs.State.{input_at}
use Rattle.seq_flat.specs.Run.{output, IsPrefix}
use Rattle.seq_runs.proofs.Growth.{prefix_length}
use Rattle.seq_turns.specs.declared.hand.Hand.{Hand}
use Rattle.seq_turns.specs.declared.hand.Hand.TheVariants as hand
use Rattle.seq_kernel.specs.declared.outcomes.Note.TheVariants.{Sent}
use Rattle.seq_turns.specs.Machines.{Machine, copies_after}
use Rattle.seq_io.specs.Changes.Change.{Unchanged}
use Rattle.seq_turns.specs.Reading.{copied_memory}
use Rattle.seq_turns.specs.Duties.{Duty, owner, has_steady_owner, written, outbox_at, accepted, goal, is_below, is_at, differs, journals, line_set, changes, nothing, closes, takes, tells_sent, may_send, duty, sent_after, after_duty, rests}
use Rattle.seq_turns.proofs.Functions.{update_same, update_other, update_cases}
use Rattle.seq_lines.specs.Lines.{line_copy, PortStands, CopyStands, SentStands, sent_limit, LineStands, HandHasRoom, LinesStand}
use Rattle.seq_lines.specs.Duties.{ReadsOutput, FirstCopiesAreRead, DutiesKeepLines}
use Rattle.seq_lines.proofs.Frame.{limit_grows, line_framed}
use Rattle.seq_lines.proofs.Written.{line_owner, written_is, outbox_byte_is}
use Rattle.seq_lines.proofs.Changed.{IsAtLine, other_line, words_elsewhere}
use Rattle.seq_lines.proofs.DutyCopies.{not_true_is, not_false_is, and_rest, AllStand, sent_stands, closed_stands, journal_stands, count_stands, taken_stands}

pub first_copies_are_read : FirstCopiesAreRead
first_copies_are_read d p f commits l described reached below hold = record {
  written = written_is d p f commits l described reached below hold;
  byte = outbox_byte_is d p f commits l described reached below hold;
}

-- the limit of a line that is hung up, and of one that isn't
pub limit_hung : (sent out : List ℕ) (hung : Bool) → hung ≡ true → sent_limit sent out hung ≡ length out
limit_hung sent out hung t = cond-true _ _ _ t

pub sent_fits : (sent out : List ℕ) (hung : Bool) → IsPrefix sent out → length sent ≤ sent_limit sent out hung
sent_fits sent out true begins = prefix_length sent out begins
sent_fits sent out false begins = omega arith

-- one byte more is a prefix still
pub one_more : (sent out : List ℕ) (byte : ℕ) → IsPrefix sent out → length sent < length out → byte ≡ get_or out (length sent) 0 → IsPrefix (sent ++ byte ∷ []) out
one_more sent out byte begins lt is =
    let more : length (sent ++ byte ∷ []) ≡ suc (length sent) = length_push sent byte ∙ omega arith in
    ap (λ n. take n out) more ∙ take-suc out (length sent) 0 lt ∙ ap (λ s. s ++ get_or out (length sent) 0 ∷ []) begins ∙ ap (λ b. sent ++ b ∷ []) (sym is)

module _ (d : MachineDesc) (inputs : List LineInput) (f : FlatState) (m : Machine) (l : ℕ) where
  -- what a duty at the line leaves of it
  pub record DutyStands (done : Duty) : Type 0 where
    pub at : IsAtLine d l done.change
    pub port : PortStands d (record (m.port l) { taken = done.taken }) (input_at inputs l)
    pub copy : AllStand d m.copies (copies_after done.change m.copies) l (record (m.port l) { taken = done.taken }) (input_at inputs l) (sent_limit (sent_after done.sent (m.sent l)) (output f l) (m.hung l))
    pub sent : SentStands (sent_after done.sent (m.sent l)) (output f l) (m.hung l)

module _ (d : MachineDesc) (inputs : List LineInput) (f : FlatState) (m : Machine) (l : ℕ) (reads : has_steady_owner d m l ≡ true → ReadsOutput d m.copies f l) (st : LineStands d inputs f m l) where
  abbrev Stands : Duty → Type 0
  Stands done = DutyStands d inputs f m l done

  abbrev limit : ℕ
  limit = sent_limit (m.sent l) (output f l) (m.hung l)

  nothing_stands : Stands (nothing m l)
  nothing_stands = record { at = tt; port = st.port; copy = st.copy; sent = st.sent }

  word_set : (n : ℕ) (c : Bool) (w : ℕ) → AllStand d m.copies (copies_after (line_set d l n c w) m.copies) l (m.port l) (input_at inputs l) (sent_limit (m.sent l) (output f l) (m.hung l)) → Stands (changes m l (line_set d l n c w))
  word_set n c w all = record { at = refl; port = st.port; copy = all; sent = st.sent }

  goal_fits : goal d m l ≤ sent_limit (m.sent l) (output f l) (m.hung l)
  goal_fits = cond_both (m.hung l && has_steady_owner d m l) (written d m.copies l) (accepted m l) (λ n. n ≤ sent_limit (m.sent l) (output f l) (m.hung l))
      (λ t. let parts = and_parts (m.hung l) (has_steady_owner d m l) t in
      let w : written d m.copies l ≡ length (output f l) = (reads parts.1).written in
      let e : sent_limit (m.sent l) (output f l) (m.hung l) ≡ length (output f l) = limit_hung (m.sent l) (output f l) (m.hung l) parts.0 in
      omega (arith, w, e))
      (λ u. sent_fits (m.sent l) (output f l) (m.hung l) st.sent.prefix)

  closes_stands : ((m.port l).taken < (m.port l).arrived → ⊥) → Stands (closes d m l)
  closes_stands all_read =
      cond_both (not (m.port l).closed) _ _ Stands (λ _. nothing_stands) (λ open_yet.
      let closed : (m.port l).closed ≡ true = not_false_is (m.port l).closed open_yet in
      let taken : (m.port l).taken ≡ (m.port l).arrived = let le : (m.port l).taken ≤ (m.port l).arrived = st.port.taken in omega (arith, le, all_read) in
      cond_both (is_at d m.copies l 1 false 0) _ _ Stands (λ _. word_set 1 false 1 (closed_stands d m.copies l (m.port l) (input_at inputs l) limit st.port st.copy false closed taken)) (λ _.
      cond_both (is_at d m.copies l 1 true 0) _ _ Stands (λ _. word_set 1 true 1 (closed_stands d m.copies l (m.port l) (input_at inputs l) limit st.port st.copy true closed taken)) (λ _. nothing_stands)))

  takes_stands : (m.port l).taken < (m.port l).arrived → Stands (takes d m l (m.port l).taken (slice_index (m.port l).store (m.port l).taken))
  takes_stands unread =
      let at : ℕ = (m.port l).taken in
      let byte : ℕ = slice_index (m.port l).store (m.port l).taken in
      cond_both (is_at d m.copies l 0 false at && differs d m.copies l false at byte) _ _ Stands (λ t. writes false (and_parts _ _ t).0) (λ same1.
      cond_both (is_at d m.copies l 0 true at && differs d m.copies l true at byte) _ _ Stands (λ t. writes true (and_parts _ _ t).0) (λ same2.
      cond_both (is_at d m.copies l 0 false at) _ _ Stands (λ t. counts false t (and_rest _ _ same1 t)) (λ past1.
      cond_both (is_at d m.copies l 0 true at) _ _ Stands (λ t. counts true t (and_rest _ _ same2 t)) (λ past2.
      record {
        at = tt;
        port = record { arrived = st.port.arrived; taken = unread; room = st.port.room; size = st.port.size; bytes = st.port.bytes; closed = st.port.closed };
        copy = taken_stands d m.copies l (m.port l) (input_at inputs l) limit st.port st.copy unread past1 past2;
        sent = st.sent;
      }))))
    where
      writes : (c : Bool) → is_at d m.copies l 0 c (m.port l).taken ≡ true → Stands (changes m l (journals d m.copies l c (m.port l).taken (slice_index (m.port l).store (m.port l).taken)))
      writes c t = record { at = refl; port = st.port; copy = journal_stands d m.copies l (m.port l) (input_at inputs l) limit st.port st.copy unread c t; sent = st.sent }

      counts : (c : Bool) → is_at d m.copies l 0 c (m.port l).taken ≡ true → differs d m.copies l c (m.port l).taken (slice_index (m.port l).store (m.port l).taken) ≡ false → Stands (changes m l (line_set d l 0 c (suc (m.port l).taken)))
      counts c t same = word_set 0 c (suc (m.port l).taken) (count_stands d m.copies l (m.port l) (input_at inputs l) limit st.port st.copy unread c t same)

  tells_stands : Stands (tells_sent d m l)
  tells_stands =
      cond_both (is_below d m.copies l 2 false (goal d m l)) _ _ Stands (λ _. word_set 2 false (goal d m l) (sent_stands d m.copies l (m.port l) (input_at inputs l) limit st.port st.copy false (goal d m l) goal_fits)) (λ _.
      cond_both (is_below d m.copies l 2 true (goal d m l)) _ _ Stands (λ _. word_set 2 true (goal d m l) (sent_stands d m.copies l (m.port l) (input_at inputs l) limit st.port st.copy true (goal d m l) goal_fits)) (λ _.
      cond_both (nat_lt (m.port l).taken (m.port l).arrived) _ _ Stands (λ t. takes_stands (ltb-true (m.port l).taken (m.port l).arrived t)) (λ u. closes_stands (λ lt. let ge : (m.port l).arrived ≤ (m.port l).taken = ltb-false (m.port l).taken (m.port l).arrived u in omega (arith, lt, ge)))))

  sends_stands : may_send d m l ≡ true → Stands (record { change = Unchanged; taken = (m.port l).taken; sent = Some (outbox_at d m.copies l (accepted m l)); note = Sent (record { 0 = l }) (outbox_at d m.copies l (accepted m l)) })
  sends_stands t =
      let parts = and_parts (not (m.hung l) && has_steady_owner d m l) (nat_lt (accepted m l) (written d m.copies l)) t in
      let first = and_parts (not (m.hung l)) (has_steady_owner d m l) parts.0 in
      let open_yet : m.hung l ≡ false = not_true_is (m.hung l) first.0 in
      let r : ReadsOutput d m.copies f l = reads first.1 in
      let w : written d m.copies l ≡ length (output f l) = r.written in
      let lt : length (m.sent l) < length (output f l) = let k : accepted m l < written d m.copies l = ltb-true (accepted m l) (written d m.copies l) parts.1 in omega (arith, k, w) in
      let room : length (output f l) ≤ length (m.sent l) + 256 = st.sent.room open_yet in
      let byte : ℕ = outbox_at d m.copies l (accepted m l) in
      let more : length (m.sent l ++ byte ∷ []) ≡ length (m.sent l) + 1 = length_push (m.sent l) byte in
      record {
        at = tt;
        port = st.port;
        copy = λ c s. limit_grows (line_copy d m.copies l c) (m.port l) (input_at inputs l) limit (sent_limit (m.sent l ++ byte ∷ []) (output f l) (m.hung l))
            (cond_both (m.hung l) (length (output f l)) (length (m.sent l ++ byte ∷ [])) (λ n. sent_limit (m.sent l) (output f l) (m.hung l) ≤ n)
            (λ h. absurd (true≢false (sym h ∙ open_yet)))
            (λ h. let e : sent_limit (m.sent l) (output f l) (m.hung l) ≡ length (m.sent l) = cond-false _ _ _ h in omega (arith, e, more)))
            (st.copy c s);
        sent = record {
          prefix = one_more (m.sent l) (output f l) byte st.sent.prefix lt (r.byte (length (m.sent l)) lt room);
          room = λ h. omega (arith, room, more);
        };
      }

  pub duty_stands : Stands (duty d m l)
  duty_stands = cond_both (may_send d m l) _ _ Stands (λ t. sends_stands t) (λ _. tells_stands)

-- with more sent, there is as much room as before
pub room_grows : (d : MachineDesc) (sent now : ℕ → List ℕ) (hung : ℕ → Bool) → ((l : ℕ) → length (sent l) ≤ length (now l)) → (h : Hand) → HandHasRoom d sent hung h → HandHasRoom d now hung h
room_grows d sent now hung more hand.Down room = tt
room_grows d sent now hung more hand.Seek room = tt
room_grows d sent now hung more (hand.Claiming q c) room = tt
room_grows d sent now hung more (hand.Running r) room = λ l own open_yet. let k = room l own open_yet in omega (arith, k, more l)
room_grows d sent now hung more (hand.Acquiring r t c) room = λ l own open_yet. let k = room l own open_yet in omega (arith, k, more l)
room_grows d sent now hung more (hand.Flushing r cause mask f) room = λ l own open_yet. let k = room l own open_yet in omega (arith, k, more l)
room_grows d sent now hung more (hand.Unlocking r cause mask x) room = λ l own open_yet. let k = room l own open_yet in omega (arith, k, more l)
room_grows d sent now hung more (hand.Leaving q l) room = tt
room_grows d sent now hung more (hand.Recovering r) room = tt

sent_more : (bytes : List ℕ) (byte : Option ℕ) → length bytes ≤ length (sent_after byte bytes)
sent_more bytes None = omega arith
sent_more bytes (Some b) = omega (arith, length_push bytes b)

module _ (d : MachineDesc) (inputs : List LineInput) (f : FlatState) (m : Machine) (i l : ℕ) (done : Duty) (below : l < line_count d) (st : LinesStand d inputs f m) (h : DutyStands d inputs f m l done) where
  abbrev n : Machine
  n = after_duty d i l done m

  line_here : LineStands d inputs f n l
  line_here = record {
    port = subst (λ x. PortStands d x (input_at inputs l)) (sym (update_same m.port l (record (m.port l) { taken = done.taken }))) h.port;
    copy = λ c s.
        subst (λ x. CopyStands (line_copy d (copies_after done.change m.copies) l c) x (input_at inputs l) (sent_limit (n.sent l) (output f l) (m.hung l))) (sym (update_same m.port l (record (m.port l) { taken = done.taken })))
        (subst (λ x. CopyStands (line_copy d (copies_after done.change m.copies) l c) (record (m.port l) { taken = done.taken }) (input_at inputs l) (sent_limit x (output f l) (m.hung l))) (sym (update_same m.sent l (sent_after done.sent (m.sent l))))
        (h.copy c s));
    sent = subst (λ x. SentStands x (output f l) (m.hung l)) (sym (update_same m.sent l (sent_after done.sent (m.sent l)))) h.sent;
  }

  line_other : (k : ℕ) → k < line_count d → k ≢ l → LineStands d inputs f n k
  line_other k lt ne = line_framed d inputs inputs f f m n k (record {
    copies = other_line d m.copies l k done.change h.at ne;
    port = update_other m.port l (record (m.port l) { taken = done.taken }) k ne;
    input = refl;
    sent = update_other m.sent l (sent_after done.sent (m.sent l)) k ne;
    hung = refl;
  }) (take-length (output f k)) (st.line k lt).sent (st.line k lt)

  pub duty_kept : LinesStand d inputs f n
  duty_kept = record {
    line = λ k lt. go k lt (cases_eq k l);
    hand = λ p. room_grows d m.sent n.sent m.hung (λ k. update_cases (λ x. length (m.sent k) ≤ length x) m.sent l (sent_after done.sent (m.sent l)) k (λ e. subst (λ x. length (m.sent x) ≤ length (sent_after done.sent (m.sent l))) (sym e) (sent_more (m.sent l) done.sent)) (λ ne. omega arith)) (m.hand p) (st.hand p);
    cursor = λ j some. update_cases (λ x. x.cursor < line_count d) m.io i (record (m.io i) { cursor = if l + 1 == line_count d then 0 else l + 1 }) j
        (λ e. cond_both (l + 1 == line_count d) 0 (l + 1) (λ k. k < line_count d) (λ t. some) (λ u. let ne : l + 1 ≢ line_count d = eqb-false (l + 1) (line_count d) u in omega (arith, below, ne)))
        (λ ne. st.cursor j some);
    unsent = λ k past. update_other m.sent l (sent_after done.sent (m.sent l)) k (λ e. let z : ⊥ = omega (arith, e, past, below) in z) ∙ st.unsent k past;
    beyond = λ k w c past. words_elsewhere d m.copies.word l k done.change h.at (λ e. let z : ⊥ = omega (arith, e, past, below) in z) w c ∙ st.beyond k w c past;
  }
    where
      go : (k : ℕ) → k < line_count d → (k ≡ l) ⊎ (k ≡ l → ⊥) → LineStands d inputs f n k
      go k lt (inl e) = subst (LineStands d inputs f n) (sym e) line_here
      go k lt (inr ne) = line_other k lt ne

-- an element that serves no line does nothing
pub serves_one : (d : MachineDesc) (m : Machine) (i : ℕ) → rests d m i ≡ false → 0 < line_count d
serves_one d m i f = let ne : line_count d ≢ 0 = eqb-false (line_count d) 0 (neither (line_count d == 0) (is_some (copied_memory d m.copies)) (neither_rest (not (m.io i).up) _ f)) in omega (arith, ne)
  where
    neither : (a b : Bool) → a || b ≡ false → a ≡ false
    neither true b h = h
    neither false b h = refl

    neither_rest : (a b : Bool) → a || b ≡ false → b ≡ false
    neither_rest true b h = absurd (true≢false h)
    neither_rest false b h = h

pub duties_keep_lines : DutiesKeepLines
duties_keep_lines d inputs f commits m i described reached steady st =
    cond_both (rests d m i) m (after_duty d i (m.io i).cursor (duty d m (m.io i).cursor) m) (LinesStand d inputs f) (λ t. st) (λ u.
    let l : ℕ = (m.io i).cursor in
    let below : (m.io i).cursor < line_count d = st.cursor i (serves_one d m i u) in
    let reads : has_steady_owner d m (m.io i).cursor ≡ true → ReadsOutput d m.copies f (m.io i).cursor =
    λ s. first_copies_are_read d m.copies f commits (m.io i).cursor described reached below (steady (owner d (m.io i).cursor).0.0 (line_owner d (m.io i).cursor described below).process s) in
    duty_kept d inputs f m i (m.io i).cursor (duty d m (m.io i).cursor) below st (duty_stands d inputs f m (m.io i).cursor reads (st.line (m.io i).cursor below)))
