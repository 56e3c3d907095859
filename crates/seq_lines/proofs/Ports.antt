-- Bytes that arrive, the end of a line's input, and a line that is hung up.
use Rattle.std.proofs.Common.{◌≡◌, ◌≢◌, ◌⊎◌, inl, inr, ℕ, suc, ◌<◌, ◌≤◌, Bool, true, false, ◌||◌, List, [], ◌∷◌, ◌++◌, length, get_or, Some, refl, ap, sym, ◌∙◌, subst, arith, eq-eqb, length-set, get_or-set_same, get_or-set_other}
use Rattle.std.specs.Prelude.{slice_get, slice_set}
use Rattle.std.proofs.lemmas.Bool.{cases_eq, ne_eqb, cond-true, cond-false, true≢false}
use Rattle.std.proofs.lemmas.List.{append-nil, length-append, length_push, get_or_append_left}
use Rattle.std.proofs.lemmas.Option.{slice_get_within, slice_get_read, get_or_from_slice_get}
use Rattle.std.proofs.Math.Seq.{take-length, get_or-append_seam}
use Rattle.seq_words.specs.Description.{line_count}
use Rattle.seq_words.specs.declared.names.LineNo.{LineNo}
use Rattle.seq_words.specs.declared.description.MachineDesc.{MachineDesc}
use Rattle.seq_flat.specs.declared.inputs.LineInput.{LineInput}
use Rattle.seq_flat.specs.declared.state.FlatState.{FlatState}
use Rattle.seq_flat.specs.State.{input_at}
use Rattle.seq_flat.specs.Run.{output}
use Rattle.seq_runs.proofs.Growth.{prefix_length}
use Rattle.seq_turns.specs.declared.hand.Hand.{Hand}
use Rattle.seq_turns.specs.declared.hand.Hand.TheVariants as hand
use Rattle.seq_io.specs.declared.element.PortState.{PortState}
use Rattle.seq_words.specs.declared.events.Event.{Event}
use Rattle.seq_words.specs.declared.events.Event.TheVariants as event
use Rattle.seq_turns.specs.Allowed.{MayArrive, MayClose}
use Rattle.seq_turns.specs.Functions.{update}
use Rattle.seq_turns.specs.Machines.{Machine}
use Rattle.seq_turns.specs.Events.{happens}
use Rattle.seq_turns.proofs.Functions.{update_same, update_other, update_cases}
use Rattle.seq_lines.specs.Arrivals.{bytes_of, closes, input_after, Brings}
use Rattle.seq_lines.specs.Lines.{line_copy, PortStands, CopyStands, sent_limit, LineStands, HandHasRoom, LinesStand}
use Rattle.seq_lines.proofs.Frame.{keeps_itself, limit_grows, line_framed}

pub or_false : (b : Bool) → b || false ≡ b
or_false true = refl
or_false false = refl

or_true : (b : Bool) → b || true ≡ true
or_true true = refl
or_true false = refl

-- an event that brings a line nothing
pub brings_nothing : (l : ℕ) (e : Event) (input : LineInput) → bytes_of l e ≡ [] → closes l e ≡ false → input_after l e input ≡ input
brings_nothing l e input none open_yet = λ i. record { bytes = (ap (λ b. input.bytes ++ b) none ∙ append-nil input.bytes) i; closed = (ap (λ c. input.closed || c) open_yet ∙ or_false input.closed) i }

-- what was found of a list is found of a longer one
found_still : (xs ys : List ℕ) (k x : ℕ) → slice_get xs k ≡ Some x → slice_get (xs ++ ys) k ≡ Some x
found_still xs ys k x found =
    let lt : k < length xs = slice_get_within xs k x found in
    slice_get_read (xs ++ ys) (length (xs ++ ys)) k x refl (omega (arith, lt, length-append xs ys))
    (sym (get_or_append_left xs ys x k lt ∙ get_or_from_slice_get xs k x x found))

-- and its next element is the one put there
found_last : (xs : List ℕ) (x : ℕ) → slice_get (xs ++ x ∷ []) (length xs) ≡ Some x
found_last xs x = slice_get_read (xs ++ x ∷ []) (length (xs ++ x ∷ [])) (length xs) x refl (omega (arith, length_push xs x)) (sym (get_or-append_seam xs x [] x))

module _ (d : MachineDesc) (inputs now : List LineInput) (f : FlatState) (m : Machine) (l : LineNo) (st : LinesStand d inputs f m) where
  -- another port at the line, with what the event brings, and all else as it was
  module _ (e : Event) (port : PortState) (below : l.0 < line_count d) (brings : Brings d e inputs now)
      (elsewhere : (k : ℕ) → k ≢ l.0 → (bytes_of k e ≡ []) × (closes k e ≡ false))
      (here : PortStands d port (input_after l.0 e (input_at inputs l.0)))
      (copies : (limit : ℕ) (c : Bool) → CopyStands (line_copy d m.copies l.0 c) (m.port l.0) (input_at inputs l.0) limit → CopyStands (line_copy d m.copies l.0 c) port (input_after l.0 e (input_at inputs l.0)) limit) where
    abbrev n : Machine
    n = record m { port = update m.port l.0 port }

    there : LineStands d now f n l.0
    there = record {
      port = subst (λ x. PortStands d x (input_at now l.0)) (sym (update_same m.port l.0 port)) (subst (PortStands d port) (sym (brings l.0 below)) here);
      copy = λ c s.
          subst (λ x. CopyStands (line_copy d m.copies l.0 c) x (input_at now l.0) (sent_limit (m.sent l.0) (output f l.0) (m.hung l.0))) (sym (update_same m.port l.0 port))
          (subst (λ x. CopyStands (line_copy d m.copies l.0 c) port x (sent_limit (m.sent l.0) (output f l.0) (m.hung l.0))) (sym (brings l.0 below))
          (copies (sent_limit (m.sent l.0) (output f l.0) (m.hung l.0)) c ((st.line l.0 below).copy c s)));
      sent = (st.line l.0 below).sent;
    }

    other : (k : ℕ) → k < line_count d → k ≢ l.0 → LineStands d now f n k
    other k lt ne = line_framed d inputs now f f m n k (record {
      copies = keeps_itself d m.copies k;
      port = update_other m.port l.0 port k ne;
      input = brings k lt ∙ brings_nothing k e (input_at inputs k) (elsewhere k ne).0 (elsewhere k ne).1;
      sent = refl;
      hung = refl;
    }) (take-length (output f k)) (st.line k lt).sent (st.line k lt)

    pub port_changed : LinesStand d now f n
    port_changed = record {
      line = λ k lt. go k lt (cases_eq k l.0);
      hand = st.hand;
      cursor = st.cursor;
      unsent = st.unsent;
      beyond = st.beyond;
    }
      where
        go : (k : ℕ) → k < line_count d → (k ≡ l.0) ⊎ (k ≡ l.0 → ⊥) → LineStands d now f n k
        go k lt (inl e) = subst (LineStands d now f n) (sym e) there
        go k lt (inr ne) = other k lt ne

  -- a byte arrives
  pub input_kept : (byte : ℕ) → MayArrive d l.0 (m.port l.0) → Brings d (event.Input l byte) inputs now → LinesStand d now f (happens d m (event.Input l byte))
  input_kept byte may brings = port_changed (event.Input l byte) new may.line brings elsewhere stands copies
    where
      p : PortState
      p = m.port l.0

      new : PortState
      new = record (m.port l.0) { arrived = suc (m.port l.0).arrived; store = slice_set (m.port l.0).store (m.port l.0).arrived byte }

      old : PortStands d (m.port l.0) (input_at inputs l.0)
      old = (st.line l.0 may.line).port

      input : LineInput
      input = input_at inputs l.0

      brought : bytes_of l.0 (event.Input l byte) ≡ byte ∷ []
      brought = cond-true _ _ _ (eq-eqb l.0 l.0 refl)

      elsewhere : (k : ℕ) → k ≢ l.0 → (bytes_of k (event.Input l byte) ≡ []) × (closes k (event.Input l byte) ≡ false)
      elsewhere k ne = (cond-false _ _ _ (ne_eqb l.0 k (λ e. ne (sym e))), refl)

      found : (k : ℕ) → k < suc (m.port l.0).arrived → (k ≡ (m.port l.0).arrived) ⊎ (k ≡ (m.port l.0).arrived → ⊥) → slice_get ((input_at inputs l.0).bytes ++ byte ∷ []) k ≡ Some (get_or (slice_set (m.port l.0).store (m.port l.0).arrived byte) k 0)
      found k lt (inl e) = subst (λ j. slice_get ((input_at inputs l.0).bytes ++ byte ∷ []) j ≡ Some (get_or (slice_set (m.port l.0).store (m.port l.0).arrived byte) j 0)) (sym e)
          (ap (slice_get ((input_at inputs l.0).bytes ++ byte ∷ [])) old.arrived ∙ found_last (input_at inputs l.0).bytes byte
          ∙ ap Some (sym (get_or-set_same (m.port l.0).store (m.port l.0).arrived byte 0 (let r : (m.port l.0).arrived < d.journal = may.room in let s : length (m.port l.0).store ≡ d.journal = old.size in omega (arith, r, s)))))
      found k lt (inr ne) = found_still (input_at inputs l.0).bytes (byte ∷ []) k _ (old.bytes k (omega (arith, lt, ne)) ∙ ap Some (sym (get_or-set_other (m.port l.0).store (m.port l.0).arrived k byte 0 ne)))

      stands : PortStands d new (input_after l.0 (event.Input l byte) (input_at inputs l.0))
      stands = record {
        arrived = subst (λ b. suc (m.port l.0).arrived ≡ length ((input_at inputs l.0).bytes ++ b)) (sym brought) (let a : (m.port l.0).arrived ≡ length (input_at inputs l.0).bytes = old.arrived in let c : suc (m.port l.0).arrived ≡ length ((input_at inputs l.0).bytes ++ byte ∷ []) = omega (arith, a, length_push (input_at inputs l.0).bytes byte) in c);
        taken = let t : (m.port l.0).taken ≤ (m.port l.0).arrived = old.taken in omega (arith, t);
        room = let r : (m.port l.0).arrived < d.journal = may.room in omega (arith, r);
        size = length-set (m.port l.0).store (m.port l.0).arrived byte ∙ old.size;
        bytes = λ k lt. subst (λ b. slice_get ((input_at inputs l.0).bytes ++ b) k ≡ Some (get_or (slice_set (m.port l.0).store (m.port l.0).arrived byte) k 0)) (sym brought) (found k lt (cases_eq k (m.port l.0).arrived));
        closed = old.closed ∙ sym (or_false (input_at inputs l.0).closed);
      }

      copies : (limit : ℕ) (c : Bool) → CopyStands (line_copy d m.copies l.0 c) (m.port l.0) (input_at inputs l.0) limit → CopyStands (line_copy d m.copies l.0 c) new (input_after l.0 (event.Input l byte) (input_at inputs l.0)) limit
      copies limit c h = record {
        count = h.count;
        arrived = let a : (line_copy d m.copies l.0 c).count ≤ (m.port l.0).arrived = h.arrived in omega (arith, a);
        bytes = λ k lt. found_still (input_at inputs l.0).bytes (bytes_of l.0 (event.Input l byte)) k _ (h.bytes k lt);
        bit = h.bit;
        closed = λ one. absurd (true≢false (sym (h.closed one).0 ∙ may.unclosed));
        sent = h.sent;
      }

  -- the line is closed
  pub close_kept : MayClose d l.0 (m.port l.0) → Brings d (event.Close l) inputs now → LinesStand d now f (happens d m (event.Close l))
  close_kept may brings = port_changed (event.Close l) (record (m.port l.0) { closed = true }) may.line brings (λ k ne. (refl, ne_eqb l.0 k (λ e. ne (sym e)))) stands copies
    where
      old : PortStands d (m.port l.0) (input_at inputs l.0)
      old = (st.line l.0 may.line).port

      nothing_more : (input_at inputs l.0).bytes ++ [] ≡ (input_at inputs l.0).bytes
      nothing_more = append-nil (input_at inputs l.0).bytes

      stands : PortStands d (record (m.port l.0) { closed = true }) (input_after l.0 (event.Close l) (input_at inputs l.0))
      stands = record {
        arrived = old.arrived ∙ ap length (sym nothing_more);
        taken = old.taken;
        room = old.room;
        size = old.size;
        bytes = λ k lt. found_still (input_at inputs l.0).bytes [] k _ (old.bytes k lt);
        closed = sym (ap (λ b. (input_at inputs l.0).closed || b) (eq-eqb l.0 l.0 refl) ∙ or_true (input_at inputs l.0).closed);
      }

      copies : (limit : ℕ) (c : Bool) → CopyStands (line_copy d m.copies l.0 c) (m.port l.0) (input_at inputs l.0) limit → CopyStands (line_copy d m.copies l.0 c) (record (m.port l.0) { closed = true }) (input_after l.0 (event.Close l) (input_at inputs l.0)) limit
      copies limit c h = record {
        count = h.count;
        arrived = h.arrived;
        bytes = λ k lt. found_still (input_at inputs l.0).bytes [] k _ (h.bytes k lt);
        bit = h.bit;
        closed = λ one. (refl, (h.closed one).1);
        sent = h.sent;
      }

-- where fewer lines may be sent on, there is as much room as before
pub fewer_lines : (d : MachineDesc) (sent : ℕ → List ℕ) (hung now : ℕ → Bool) → ((l : ℕ) → now l ≡ false → hung l ≡ false) → (h : Hand) → HandHasRoom d sent hung h → HandHasRoom d sent now h
fewer_lines d sent hung now fewer hand.Down room = tt
fewer_lines d sent hung now fewer hand.Seek room = tt
fewer_lines d sent hung now fewer (hand.Claiming q c) room = tt
fewer_lines d sent hung now fewer (hand.Running r) room = λ l own open_yet. room l own (fewer l open_yet)
fewer_lines d sent hung now fewer (hand.Acquiring r t c) room = λ l own open_yet. room l own (fewer l open_yet)
fewer_lines d sent hung now fewer (hand.Flushing r cause mask f) room = λ l own open_yet. room l own (fewer l open_yet)
fewer_lines d sent hung now fewer (hand.Unlocking r cause mask x) room = λ l own open_yet. room l own (fewer l open_yet)
fewer_lines d sent hung now fewer (hand.Leaving q l) room = tt
fewer_lines d sent hung now fewer (hand.Recovering r) room = tt

-- a line is hung up
pub hangup_kept : (d : MachineDesc) (inputs : List LineInput) (f : FlatState) (m : Machine) (l : LineNo) → l.0 < line_count d → LinesStand d inputs f m → LinesStand d inputs f (happens d m (event.Hangup l))
hangup_kept d inputs f m l below st = record {
  line = λ k lt. record {
    port = (st.line k lt).port;
    copy = λ c s. limit_grows (line_copy d m.copies k c) (m.port k) (input_at inputs k) _ _ (limit k lt) ((st.line k lt).copy c s);
    sent = record { prefix = (st.line k lt).sent.prefix; room = λ open_yet. (st.line k lt).sent.room (before k open_yet) };
  };
  hand = λ p. fewer_lines d m.sent m.hung (update m.hung l.0 true) before (m.hand p) (st.hand p);
  cursor = st.cursor;
  unsent = st.unsent;
  beyond = st.beyond;
}
  where
    before : (k : ℕ) → update m.hung l.0 true k ≡ false → m.hung k ≡ false
    before k = update_cases (λ b. b ≡ false → m.hung k ≡ false) m.hung l.0 true k (λ e h. absurd (true≢false h)) (λ ne h. h)

    limit : (k : ℕ) → k < line_count d → sent_limit (m.sent k) (output f k) (m.hung k) ≤ sent_limit (m.sent k) (output f k) (update m.hung l.0 true k)
    limit k lt = update_cases (λ b. sent_limit (m.sent k) (output f k) (m.hung k) ≤ sent_limit (m.sent k) (output f k) b) m.hung l.0 true k
        (λ e. most (m.sent k) (output f k) (m.hung k) (prefix_length (m.sent k) (output f k) (st.line k lt).sent.prefix)) (λ ne. omega arith)
      where
        most : (sent out : List ℕ) (hung : Bool) → length sent ≤ length out → sent_limit sent out hung ≤ length out
        most sent out true le = omega arith
        most sent out false le = le
