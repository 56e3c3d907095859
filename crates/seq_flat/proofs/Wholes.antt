-- A step keeps every pc a multiple of four, and the sixteen lines.
use Rattle.std.proofs.Common.{◌≡◌, ℕ, ◌+◌, ◌<◌, ◌%◌, Bool, true, false, Option, Some, None, List, [], length, map, Result, Ok, Err, OnOk, OnErr, arith, refl, sym, ◌∙◌, ap, subst, inl, inr, get_or, set, get_or-set_same, get_or-set_other, length-set}
use Rattle.std.specs.Prelude.{not, ◌&&◌, ◌||◌, ◌==◌, if◌then◌else◌, nat_lt, drop, slice_get}
use Rattle.std.specs.List.{list_any}
use Rattle.std.proofs.lemmas.Bool.{cases_eq}
use Rattle.seq_words.specs.Masks.{has_bit}
use Rattle.std.proofs.lemmas.List.{get_or-map, length-map}
use Rattle.seq_words.specs.Description.{IsDescription}
use Rattle.seq_words.specs.declared.description.MachineDesc.{MachineDesc}
use Rattle.seq_words.specs.declared.description.ProcessDesc.{ProcessDesc}
use Rattle.seq_words.specs.declared.names.Pid.{Pid}
use Rattle.seq_words.specs.declared.regs.Regs.{Regs}
use Rattle.seq_isa.specs.Meaning.{Outcome, moves, call, trap, register, registers_after}
use Rattle.seq_flat.specs.declared.inputs.LineInput.{LineInput}
use Rattle.seq_flat.specs.declared.state.End.{End}
use Rattle.seq_flat.specs.declared.state.ProcessState.{ProcessState}
use Rattle.seq_flat.specs.declared.state.SegmentState.{SegmentState}
use Rattle.seq_flat.specs.declared.state.LineState.{LineState}
use Rattle.seq_flat.specs.declared.state.FlatState.{FlatState}
use Rattle.seq_flat.specs.declared.state.Rights.{Rights}
use Rattle.seq_flat.specs.declared.state.Waits.{Waits}
use Rattle.seq_flat.specs.State.{start, start_process, no_process, process_at, segment_at, line_at, input_at, rights_at, with_process, with_line}
use Rattle.seq_flat.specs.Memory.{is_owner, seen, bytes_from}
use Rattle.seq_flat.specs.Calls.{argument, answered, ended, taken_by, acquire, release, read_next, read, written, write, kernel_call}
use Rattle.seq_flat.specs.Step.{process_moved, moved, outcome, performed, is_live, step_or_wait}
use Rattle.seq_flat.specs.Whole.{IsWhole}
use Rattle.seq_isa.specs.Laws.{moves_aligned}
use Rattle.seq_isa.proofs.Alignment.{outcome_aligned}

-- the state after a step, if it is one, is whole
Keeps : Result FlatState Waits → Type 0
Keeps (Ok g) = IsWhole g
Keeps (Err w) = Unit {0}

either : {X : Type 0} (P : X → Type 0) (b : Bool) (x y : X) → P x → P y → P (if b then x else y)
either P true x y p q = p
either P false x y p q = q

whole_process : (f : FlatState) (p : ℕ) (q : ProcessState) → IsWhole f → (p < length f.processes → q.regs.pc % 4 ≡ 0) → IsWhole (with_process f p q)
whole_process f p q w aligned = record {
  aligned = λ k lt.
      let there : k < length f.processes = subst (λ n. k < n) (length-set f.processes p q) lt in
      elim (cases_eq k p) [
        | inl same ↦
            let here : p < length f.processes = subst (λ n. n < length f.processes) same there in
            let e : get_or (set f.processes p q) k no_process ≡ q = ap (λ n. get_or (set f.processes p q) n no_process) same ∙ get_or-set_same f.processes p q no_process here in
            subst (λ (x : ProcessState). x.regs.pc % 4 ≡ 0) (sym e) (aligned here)
        | inr other ↦ subst (λ (x : ProcessState). x.regs.pc % 4 ≡ 0) (sym (get_or-set_other f.processes p k q no_process other)) (w.aligned k there)
      ];
  lines = w.lines;
}

whole_segments : (f : FlatState) (segments : List SegmentState) → IsWhole f → IsWhole (record f { segments = segments })
whole_segments f segments w = record { aligned = w.aligned; lines = w.lines }

whole_line : (f : FlatState) (l : ℕ) (n : LineState) → IsWhole f → IsWhole (with_line f l n)
whole_line f l n w = record { aligned = w.aligned; lines = length-set f.lines l n ∙ w.lines }

whole_answered : (f : FlatState) (p answer : ℕ) → IsWhole f → IsWhole (answered f p answer)
unfolding answered
whole_answered f p answer w = whole_process f p _ w (λ there. let h = w.aligned p there in omega arith)

whole_ended : (f : FlatState) (p : ℕ) (e : End) → IsWhole f → IsWhole (ended f p e)
unfolding ended
whole_ended f p e w = whole_segments (with_process f p (record (process_at f p) { end = e })) _ (whole_process f p _ w (λ there. w.aligned p there))

taken_keeps : (f : FlatState) (p s : ℕ) (o : Option Pid) → IsWhole f → Keeps (taken_by f p s o)
unfolding Keeps
taken_keeps f p s None w = whole_answered _ p 0 (whole_segments f _ w)
taken_keeps f p s (Some holder) w = tt

acquire_keeps : (rights : Rights) (f : FlatState) (p s : ℕ) → IsWhole f → Keeps (acquire rights f p s)
unfolding Keeps acquire
acquire_keeps rights f p s w =
    either Keeps (not (nat_lt s (length f.segments))) _ _ (whole_answered f p _ w)
    (either Keeps (not (has_bit rights.grants s)) _ _ (whole_answered f p _ w)
    (either Keeps (is_owner p (segment_at f s).owner) _ _ (whole_answered f p _ w)
    (either Keeps (list_any (λ t. is_owner p t.owner) (drop (s + 1) f.segments)) _ _ (whole_answered f p _ w)
    (taken_keeps f p s (segment_at f s).owner w))))

whole_release : (f : FlatState) (p s : ℕ) → IsWhole f → IsWhole (release f p s)
unfolding release
whole_release f p s w =
    either IsWhole (nat_lt s (length f.segments) && is_owner p (segment_at f s).owner) _ _ (whole_answered _ p 0 (whole_segments f _ w)) (whole_answered f p _ w)

next_keeps : (f : FlatState) (p l : ℕ) (input : LineInput) (o : Option ℕ) → IsWhole f → Keeps (read_next f p l input o)
unfolding Keeps
next_keeps f p l input (Some byte) w = whole_answered _ p byte (whole_line f l _ w)
next_keeps f p l input None w = either Keeps input.closed _ _ (whole_answered f p _ w) tt

read_keeps : (rights : Rights) (inputs : List LineInput) (f : FlatState) (p l : ℕ) → IsWhole f → Keeps (read rights inputs f p l)
unfolding Keeps read
read_keeps rights inputs f p l w =
    either Keeps (not (has_bit rights.lines l)) _ _ (whole_answered f p _ w) (next_keeps f p l (input_at inputs l) (slice_get (input_at inputs l).bytes (line_at f l).read) w)

whole_written : (f : FlatState) (p l : ℕ) (o : Option (List ℕ)) → IsWhole f → IsWhole (written f p l o)
unfolding written
whole_written f p l None w = whole_answered f p _ w
whole_written f p l (Some bytes) w =
    either IsWhole (nat_lt 1048576 (length (line_at f l).output + length bytes)) _ _ (whole_answered f p _ w) (whole_answered _ p _ (whole_line f l _ w))

whole_write : (rights : Rights) (f : FlatState) (p l at count : ℕ) → IsWhole f → IsWhole (write rights f p l at count)
unfolding write
whole_write rights f p l at count w =
    either IsWhole (not (has_bit rights.lines l)) _ _ (whole_answered f p _ w)
    (either IsWhole (nat_lt 64 count) _ _ (whole_answered f p _ w) (whole_written f p l (bytes_from (seen (process_at f p).bytes f.segments p) at count) w))

call_keeps : (rights : Rights) (inputs : List LineInput) (f : FlatState) (p number : ℕ) → IsWhole f → Keeps (kernel_call rights inputs f p number)
unfolding Keeps kernel_call
call_keeps rights inputs f p number w =
    either Keeps (number == 0) _ _ (whole_ended f p _ w)
    (either Keeps (number == 1) _ _ (acquire_keeps rights f p (argument f p 10) w)
    (either Keeps (number == 2) _ _ (whole_release f p (argument f p 10) w)
    (either Keeps (number == 3) _ _ (read_keeps rights inputs f p (argument f p 10) w)
    (either Keeps (number == 4) _ _ (whole_write rights f p (argument f p 10) (argument f p 11) (argument f p 12) w)
    (either Keeps (number == 5) _ _ (whole_answered f p p w)
    (either Keeps (number == 6 || number == 7) _ _ (whole_answered f p 0 w) (whole_answered f p _ w)))))))

after_pc : (r : Regs) (wrote : Option (ℕ × ℕ)) (next : ℕ) → (registers_after r wrote next).pc ≡ next
after_pc r (Some x) next = refl
after_pc r None next = refl

whole_moved : (f : FlatState) (p : ℕ) (wrote : Option (ℕ × ℕ)) (store : Option (ℕ × ℕ × ℕ)) (next : ℕ) → IsWhole f → (p < length f.processes → next % 4 ≡ 0) → IsWhole (moved f p wrote store next)
unfolding moved
whole_moved f p wrote store next w aligned =
    whole_segments (with_process f p (process_moved (process_at f p) wrote store next)) _
    (whole_process f p _ w (λ there. subst (λ n. n % 4 ≡ 0) (sym (after_pc (process_at f p).regs wrote next)) (aligned there)))

performed_keeps : (rights : Rights) (inputs : List LineInput) (f : FlatState) (p : ℕ) (o : Outcome) → IsWhole f → (p < length f.processes → moves_aligned o) → Keeps (performed rights inputs f p o)
unfolding Keeps
performed_keeps rights inputs f p (moves wrote store next) w aligned = whole_moved f p wrote store next w aligned
performed_keeps rights inputs f p call w aligned = call_keeps rights inputs f p (register (process_at f p).regs 17) w
performed_keeps rights inputs f p (trap cause) w aligned = whole_ended f p _ w

keeps_step : (rights : List Rights) (inputs : List LineInput) (f : FlatState) (p : ℕ) → IsWhole f → Keeps (step_or_wait rights inputs f p)
unfolding Keeps step_or_wait
keeps_step rights inputs f p w =
    either Keeps (nat_lt p (length f.processes) && is_live (process_at f p).end) _ _
    (performed_keeps (rights_at rights p) inputs f p (outcome f p) w (λ there. (outcome_aligned (process_at f p).regs (seen (process_at f p).bytes f.segments p) (w.aligned p there)).next)) tt

pub step_whole : (rights : List Rights) (inputs : List LineInput) (f g : FlatState) (p : ℕ) → IsWhole f → step_or_wait rights inputs f p ≡ Ok g → IsWhole g
unfolding Keeps
step_whole rights inputs f g p w stepped = subst Keeps stepped (keeps_step rights inputs f p w)

-- whole before, and after whatever a step answers
pub answers_whole : {T E : Type 0} (result : Result T E) (rights : List Rights) (inputs : List LineInput) (f g : FlatState) (p : ℕ) → IsWhole f → OnOk result (step_or_wait rights inputs f p ≡ Ok g) → OnErr result (g ≡ f) → IsWhole g
answers_whole (Ok t) rights inputs f g p w ok same = step_whole rights inputs f g p w ok
answers_whole (Err e) rights inputs f g p w ok same = subst IsWhole (sym same) w

no_desc : ProcessDesc
no_desc = record { size = 0; entry = 0; image = []; lines = 0; grants = 0 }

pub start_whole : (d : MachineDesc) → IsDescription d → IsWhole (start d)
start_whole d h = record {
  aligned = λ p lt.
      let there : p < length d.processes = simp length-map at lt in
      let here : get_or (map start_process d.processes) p no_process ≡ start_process (get_or d.processes p no_desc) = get_or-map start_process d.processes p no_desc no_process there in
      subst (λ (q : ProcessState). q.regs.pc % 4 ≡ 0) (sym here) (h.each_process p no_desc there).aligned;
  lines = refl;
}
