-- What it gives that the lines stand.
use Rattle.std.proofs.Common.{◌≡◌, ◌⊎◌, inl, inr, ℕ, suc, ◌+◌, ◌<◌, ◌≤◌, Bool, true, false, ◌-◌, ◌||◌, ◌&&◌, nat_lt, nat_le, eq-eqb, List, [], length, replicate, refl, ap, sym, ◌∙◌, subst, arith}
use Rattle.std.proofs.lemmas.Bool.{cases_lt, and_from}
use Rattle.std.proofs.lemmas.List.{get_or-map, get_or_past, get_or-replicate, length-replicate}
use Rattle.seq_words.specs.Masks.{has_bit}
use Rattle.seq_words.specs.Description.{IsDescription, line_count, no_process}
use Rattle.seq_words.specs.declared.description.MachineDesc.{MachineDesc}
use Rattle.seq_words.specs.declared.description.ProcessDesc.{ProcessDesc}
use Rattle.seq_flat.specs.declared.inputs.LineInput.{LineInput}
use Rattle.seq_flat.specs.declared.state.FlatState.{FlatState}
use Rattle.seq_flat.specs.declared.state.LineState.{LineState}
use Rattle.seq_flat.specs.declared.state.Rights.{Rights}
use Rattle.seq_flat.specs.State.{start, no_line, no_rights, input_at}
use Rattle.seq_flat.specs.Run.{output, IsPrefix}
use Rattle.seq_layout.specs.Shapes.{shape_of, line_extent}
use Rattle.seq_layout.specs.Copies.{first_copy}
use Rattle.seq_layout.proofs.CopiesLaws.{all_are_served}
use Rattle.seq_kernel.specs.Calls.{line_word}
use Rattle.seq_kernel.proofs.CallPlaces.{line_below}
use Rattle.seq_runs.proofs.Growth.{prefix_length}
use Rattle.seq_turns.specs.Machines.{Machine}
use Rattle.seq_turns.specs.Start.{start as machine_start}
use Rattle.seq_stands.specs.Service.{ServiceStands}
use Rattle.seq_image.specs.Areas.{in_area}
use Rattle.seq_lines.specs.Arrivals.{arrived}
use Rattle.seq_lines.specs.Lines.{line_copy, PortStands, CopyStands, sent_limit, LinesStand}
use Rattle.seq_lines.specs.Known.{FirstCopiesHold}
use Rattle.seq_lines.specs.Gives.{StartStands, ProcessesHoldInput, MemoriesAreReadable, ArrivedFits, SentIsRight, ShownIsCommitted}
use Rattle.seq_lines.proofs.Arrivals.{events_bring_input, arrived_nowhere}

-- nothing is put out at the start
no_output : (d : MachineDesc) (l : ℕ) → output (start d) l ≡ []
no_output d l = ap (λ (x : LineState). x.output) (elim (cases_lt l 16) [
  | inl lt ↦ get_or-replicate 16 l no_line no_line lt
  | inr past ↦ get_or_past (replicate 16 no_line) l no_line (omega (arith, past, length-replicate 16 no_line))
])

pub start_stands : StartStands
start_stands d image described = record {
  line = λ l lt.
      let none : input_at (arrived d []) l ≡ record { bytes = []; closed = false } = (events_bring_input d).first l in
      let out : output (start d) l ≡ [] = no_output d l in
      record {
        port = subst (PortStands d ((machine_start d image).port l)) (sym none) (record { arrived = refl; taken = omega arith; room = omega arith; size = length-replicate d.journal 0; bytes = λ k k_lt. absurd (let z : ⊥ = omega (arith, k_lt) in z); closed = refl });
        copy = λ c s. record { count = inl refl; arrived = omega arith; bytes = λ k k_lt. absurd (let z : ⊥ = omega (arith, k_lt) in z); bit = omega arith; closed = λ e. absurd (let z : ⊥ = omega (arith, e) in z); sent = omega arith };
        sent = record { prefix = refl; room = λ _. let e = ap length out in omega (arith, e) };
      };
  hand = λ p. tt;
  cursor = λ i some. some;
  unsent = λ l past. refl;
  beyond = λ l n c past. refl;
}

-- the first copy of a line that is there
first_stands : (d : MachineDesc) (inputs : List LineInput) (f : FlatState) (m : Machine) (l : ℕ) → IsDescription d → ServiceStands d m → LinesStand d inputs f m → l < line_count d → CopyStands (line_copy d m.copies l (first_copy (shape_of d) m.copies (line_extent (shape_of d) l))) (m.port l) (input_at inputs l) (sent_limit (m.sent l) (output f l) (m.hung l))
first_stands d inputs f m l described service st lt =
    (st.line l lt).copy (first_copy (shape_of d) m.copies (line_extent (shape_of d) l)) (all_are_served (shape_of d) m.copies described.memories.low_at service.one_out (line_extent (shape_of d) l))

pub processes_hold_input : ProcessesHoldInput
processes_hold_input d inputs f m q described service st inside l own =
    let lt : l < line_count d = line_below d q l described inside own in
    let h = first_stands d inputs f m l described service st lt in
    let port = (st.line l lt).port in
    record {
      bytes = h.bytes;
      closed = λ one.
          let c = h.closed one in
          let a : (m.port l).arrived ≡ length (input_at inputs l).bytes = port.arrived in
          let t : (m.port l).taken ≡ (m.port l).arrived = c.1 in
          let less : line_word d m.copies l 0 ≤ (m.port l).arrived = h.arrived in
          (sym port.closed ∙ c.0, counted (line_word d m.copies l 0) (m.port l).taken (m.port l).arrived (length (input_at inputs l).bytes) h.count a t less);
    }
  where
    counted : (count taken arrived total : ℕ) → (count ≡ taken) ⊎ (count ≡ suc taken) → arrived ≡ total → taken ≡ arrived → count ≤ arrived → total ≡ count
    counted count taken arrived total (inl e) a t less = omega (arith, e, a, t)
    counted count taken arrived total (inr e) a t less = absurd (let z : ⊥ = omega (arith, e, t, less) in z)

pub memories_are_readable : MemoriesAreReadable
memories_are_readable d inputs f m described reached service st = record {
  served = all_are_served (shape_of d) m.copies described.memories.low_at service.one_out;
  counts = λ l. elim (cases_lt l (line_count d)) [
    | inl lt ↦ let a = (first_stands d inputs f m l described service st lt).arrived in let r = (st.line l lt).port.room in omega (arith, a, r)
    | inr past ↦ let z = st.beyond l 0 (first_copy (shape_of d) m.copies (line_extent (shape_of d) l)) past in omega (arith, z)
  ];
}

pub arrived_fits : ArrivedFits
arrived_fits d events f m st = record {
  line = λ l. elim (cases_lt l (line_count d)) [
    | inl lt ↦ let a = (st.line l lt).port.arrived in let r = (st.line l lt).port.room in omega (arith, a, r)
    | inr past ↦ let e = ap (λ x. length x.bytes) (arrived_nowhere d events l past) in omega (arith, e)
  ];
}

pub sent_is_right : SentIsRight
sent_is_right d inputs f m ran st = (
  f,
  ran,
  λ l. elim (cases_lt l (line_count d)) [
    | inl lt ↦ (st.line l lt).sent.prefix
    | inr past ↦ subst (λ x. IsPrefix x (output f l)) (sym (st.unsent l past)) refl
  ],
)

pub shown_is_committed : ShownIsCommitted
shown_is_committed d f g o area r inside shows others keeps = record {
  keeps = keeps;
  own = λ l own. sym (shows.line l own).written;
  other = λ l other. ap (λ x. x.output) (others.line l (ap (λ (x : Rights). has_bit x.lines l) (get_or-map (λ (p : ProcessDesc). record { lines = p.lines; grants = p.grants }) d.processes r.pid.0 no_process no_rights inside) ∙ other));
}

own_extent : (d : MachineDesc) (q : ℕ) (segments : ℕ → Bool) → in_area d q segments q ≡ true
unfolding in_area
own_extent d q segments = ap (λ b. b || (nat_le (length d.processes) q && (nat_lt q (length d.processes + length d.segments) && segments (q - length d.processes)))) (eq-eqb q q refl)

pub first_copies_hold : FirstCopiesHold
first_copies_hold d p f commits segments q served holds n = (holds (first_copy (shape_of d) p q)).each q n (and_from (in_area d q segments q) _ (own_extent d q segments) served)
