-- The flat start is a state that is reached.
use Rattle.std.proofs.Common.{◌≡◌, ℕ, ◌-◌, ◌%◌, ◌<◌, ◌≤◌, List, get_or, length, map, replicate, arith, refl, sym, ◌∙◌, ap, subst, inl, inr, length-set, get_or-set_other}
use Rattle.std.proofs.lemmas.Bool.{cases_lt}
use Rattle.std.proofs.lemmas.List.{get_or_past, get_or-replicate, get_or-map, length-append, length-map, length-replicate}
use Rattle.seq_words.specs.declared.description.MachineDesc.{MachineDesc}
use Rattle.seq_words.specs.declared.description.ProcessDesc.{ProcessDesc}
use Rattle.seq_words.specs.Description.{process_of, segment_of, no_process as no_process_desc, no_segment as no_segment_desc}
use Rattle.seq_flat.specs.declared.state.ProcessState.{ProcessState}
use Rattle.seq_flat.specs.declared.state.SegmentState.{SegmentState}
use Rattle.seq_flat.specs.State.{no_process, no_segment, no_line, process_at, segment_at, line_at, filled, start_process, start_segment, start}
use Rattle.seq_flat.specs.Reached.{IsProcessState, IsLineState, HasShape, StartHasShape, StartIsReached}

-- what stands at the start
pub start_process_is : (d : MachineDesc) (p : ℕ) → p < length d.processes → process_at (start d) p ≡ start_process (process_of d p)
start_process_is d p lt = get_or-map start_process d.processes p no_process_desc no_process lt

pub start_segment_is : (d : MachineDesc) (t : ℕ) → t < length d.segments → segment_at (start d) t ≡ start_segment (segment_of d t)
start_segment_is d t lt = get_or-map start_segment d.segments t no_segment_desc no_segment lt

no_line_there : (l : ℕ) → get_or (replicate 16 no_line) l no_line ≡ no_line
no_line_there l = elim (cases_lt l 16) [
  | inl lt ↦ get_or-replicate 16 l no_line no_line lt
  | inr past ↦ get_or_past (replicate 16 no_line) l no_line (omega (arith, length-replicate 16 no_line))
]

pub start_line_is : (d : MachineDesc) (l : ℕ) → line_at (start d) l ≡ no_line
start_line_is d l = no_line_there l

filled_length : (bytes : List ℕ) (size : ℕ) → length bytes ≤ size → length (filled bytes size) ≡ size
filled_length bytes size fits = omega (arith, length-append bytes (replicate (size - length bytes) 0), length-replicate {A = ℕ} (size - length bytes) 0)

start_registers : (p : ProcessDesc) → p.entry % 4 ≡ 0 → IsProcessState (start_process p)
start_registers p aligned = record {
  registers = length-set (replicate {A = ℕ} 32 0) 2 p.size;
  zero = get_or-set_other (replicate {A = ℕ} 32 0) 2 0 p.size 0 (λ e. omega arith);
  aligned = aligned;
  cause = tt;
}

no_process_state : IsProcessState no_process
unfolding no_process
no_process_state = record { registers = refl; zero = refl; aligned = refl; cause = tt }

pub start_is_reached : StartIsReached
start_is_reached d described = record {
  flat = record {
    processes = length-map d.processes start_process;
    segments = length-map d.segments start_segment;
    lines = length-replicate 16 no_line;
    sizes = λ p lt. ap (λ (q : ProcessState). length q.bytes) (start_process_is d p lt) ∙ filled_length (process_of d p).image (process_of d p).size (described.each_process p no_process_desc lt).image;
    segment_sizes = λ t lt. ap (λ (s : SegmentState). length s.bytes) (start_segment_is d t lt) ∙ filled_length (segment_of d t).first (segment_of d t).size (described.each_segment t no_segment_desc lt).first;
  };
  process = λ p. elim (cases_lt p (length d.processes)) [
    | inl lt ↦ subst IsProcessState (sym (start_process_is d p lt)) (start_registers (process_of d p) (described.each_process p no_process_desc lt).aligned)
    | inr past ↦ subst IsProcessState (sym (get_or_past (map start_process d.processes) p no_process (omega (arith, length-map d.processes start_process)))) no_process_state
  ];
  line = λ l. subst (IsLineState d) (sym (start_line_is d l)) (record { read = omega arith; output = omega arith });
}

pub start_has_shape : StartHasShape
start_has_shape d described = let start = start_is_reached d described in record { flat = start.flat; process = start.process }
