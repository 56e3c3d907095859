-- A settled machine has nothing left to do.
use Rattle.std.proofs.Common.{◌≡◌, ℕ, ◌<◌, ◌≤◌, true, false, nat_lt, List, take, length, replicate, arith, refl, sym, ◌∙◌, ap, inl, inr}
use Rattle.std.proofs.lemmas.Bool.{cases_lt, le-ltb, false≢true}
use Rattle.std.proofs.Math.Seq.{take-length}
use Rattle.std.proofs.lemmas.List.{get_or-map, length-replicate}
use Rattle.std.proofs.lemmas.List.FromFn.{get_or-map-range_with_len}
use Rattle.seq_words.specs.Masks.{has_bit}
use Rattle.seq_words.specs.Description.{line_count, process_of, no_process}
use Rattle.seq_words.specs.declared.description.MachineDesc.{MachineDesc}
use Rattle.seq_words.specs.declared.description.ProcessDesc.{ProcessDesc}
use Rattle.seq_flat.specs.declared.inputs.LineInput.{LineInput}
use Rattle.seq_flat.specs.declared.state.Rights.{Rights}
use Rattle.seq_flat.specs.declared.state.FlatState.{FlatState}
use Rattle.seq_flat.specs.State.{no_input, no_rights, input_at, rights_at, rights_of}
use Rattle.seq_flat.specs.Run.{output}
use Rattle.seq_flat.specs.Step.{step_or_wait, IsEnabled}
use Rattle.seq_layout.specs.Shapes.{shape_of}
use Rattle.seq_layout.specs.Copies.{first_block}
use Rattle.seq_kernel.proofs.CallPlaces.{line_below}
use Rattle.seq_status.specs.declared.status.Status.TheVariants.{Idle, Run, Pass1, Pass2, Back, Forward}
use Rattle.seq_turns.specs.Duties.{owner, written}
use Rattle.seq_lines.proofs.Written.{line_owner, written_is}
use Rattle.seq_lines.specs.Committed.{state_in, input_counts}
use Rattle.seq_lines.specs.Settled.{CalmIsSteady, SettledIsDone}
use Rattle.seq_lines.proofs.Enabled.{Alike, steps_too}
use Rattle.seq_lines.proofs.States.{same_processes, same_process, same_segments, same_read}

pub calm_is_steady : CalmIsSteady
calm_is_steady m Idle calm = refl
calm_is_steady m (Run h) calm = refl
calm_is_steady m (Pass1 h) calm = absurd calm
calm_is_steady m (Pass2 h) calm = absurd calm
calm_is_steady m (Back h) calm = absurd calm
calm_is_steady m (Forward h) calm = absurd calm

-- what isn't there takes no step
pub nobody : (d : MachineDesc) (inputs : List LineInput) (f : FlatState) (q : ℕ) → length f.processes ≤ q → IsEnabled d inputs f q → ⊥
unfolding step_or_wait
nobody d inputs f q past ok = let none : nat_lt q (length f.processes) ≡ false = le-ltb q (length f.processes) past in false≢true (rw none at ok)

pub settled_is_done : SettledIsDone
settled_is_done d inputs f commits m described reached there are st settled = record {
  quiet = λ q enabled. elim (cases_lt q (length d.processes)) [
    | inl lt ↦ settled.quiet q (steps_too (rights_of d) q inputs (input_counts d m) f (state_in d (first_block (shape_of d) m.copies)) (alike q lt) enabled)
    | inr past ↦ nobody d inputs f q (let n = reached.flat.processes in omega (arith, n, past)) enabled
  ];
  sent = λ l lt open_yet.
      let w : written d m.copies l ≡ length (output f l) = written_is d m.copies f commits l described reached lt (λ n. are (owner d l).0.0 n (let o = (line_owner d l described lt).process in omega (arith, o))) in
      let all : length (m.sent l) ≡ length (output f l) = settled.sent l lt open_yet ∙ w in
      sym (st.line l lt).sent.prefix ∙ ap (λ n. take n (output f l)) all ∙ take-length (output f l);
}
  where
    mine : (q l : ℕ) → q < length d.processes → has_bit (rights_at (rights_of d) q).lines l ≡ true → has_bit (process_of d q).lines l ≡ true
    mine q l lt own = ap (λ (r : Rights). has_bit r.lines l) (sym (get_or-map (λ (p : ProcessDesc). record { lines = p.lines; grants = p.grants }) d.processes q no_process no_rights lt)) ∙ own

    input_is : (l : ℕ) → l < line_count d → input_at (input_counts d m) l ≡ record { bytes = replicate (m.port l).arrived 0; closed = (m.port l).closed }
    input_is l lt = get_or-map-range_with_len (λ k. record { bytes = replicate (m.port k).arrived 0; closed = (m.port k).closed }) 0 (line_count d) l l no_input lt (omega arith)

    alike : (q : ℕ) → q < length d.processes → Alike (rights_of d) q inputs (input_counts d m) f (state_in d (first_block (shape_of d) m.copies))
    alike q lt = record {
      processes = same_processes d m.copies f commits described reached there are;
      process = same_process d m.copies f commits described reached there are q lt;
      segments = same_segments d m.copies f commits described reached there are;
      read = λ l own. same_read d m.copies f commits described reached there are l (line_below d q l described lt (mine q l lt own));
      arrived = λ l own. let below : l < line_count d = line_below d q l described lt (mine q l lt own) in
          sym ((st.line l below).port.arrived) ∙ sym (ap (λ (x : LineInput). length x.bytes) (input_is l below) ∙ length-replicate (m.port l).arrived 0);
      closed = λ l own. let below : l < line_count d = line_below d q l described lt (mine q l lt own) in
          sym ((st.line l below).port.closed) ∙ sym (ap (λ (x : LineInput). x.closed) (input_is l below));
    }
