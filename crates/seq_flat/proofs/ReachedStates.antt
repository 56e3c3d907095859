-- A step, and so a run, keeps what holds of every state that is reached.
use Rattle.std.proofs.Common.{◌≡◌, ℕ, zero, suc, ◌+◌, ◌%◌, ◌<◌, ◌≤◌, Option, Some, None, List, [], ◌∷◌, length, get_or, set, Result, Ok, Err, OnOk, OnErr, arith, refl, sym, ◌∙◌, ap, subst, inl, inr, get_or-set_same, get_or-set_other, length-set}
use Rattle.std.specs.Prelude.{◌++◌, not, ◌&&◌, ◌||◌, ◌==◌, nat_lt, drop, slice_get}
use Rattle.std.specs.List.{list_any}
use Rattle.std.specs.Option.{option_and_then}
use Rattle.std.proofs.lemmas.Bool.{cases_eq, cases_lt, cond_both, and_parts, ltb-true, ltb-false}
use Rattle.std.proofs.lemmas.List.{length-append, set_past}
use Rattle.std.proofs.lemmas.Option.{slice_get_within}
use Rattle.seq_words.specs.Masks.{has_bit}
use Rattle.seq_words.specs.declared.description.MachineDesc.{MachineDesc}
use Rattle.seq_words.specs.declared.names.Pid.{Pid}
use Rattle.seq_words.specs.declared.regs.Regs.{Regs}
use Rattle.seq_isa.specs.Meaning.{Outcome, moves, call, trap, register, registers_after, following}
use Rattle.seq_isa.specs.Laws.{IsAligned}
use Rattle.seq_isa.proofs.Alignment.{outcome_aligned}
use Rattle.seq_flat.specs.declared.inputs.LineInput.{LineInput}
use Rattle.seq_flat.specs.declared.state.End.{End}
use Rattle.seq_flat.specs.declared.state.End.TheVariants.{Exited, Trapped}
use Rattle.seq_flat.specs.declared.state.ProcessState.{ProcessState}
use Rattle.seq_flat.specs.declared.state.SegmentState.{SegmentState}
use Rattle.seq_flat.specs.declared.state.LineState.{LineState}
use Rattle.seq_flat.specs.declared.state.FlatState.{FlatState}
use Rattle.seq_flat.specs.declared.state.Rights.{Rights}
use Rattle.seq_flat.specs.declared.state.Waits.{Waits}
use Rattle.seq_flat.specs.State.{no_process, no_segment, no_line, process_at, segment_at, line_at, input_at, rights_at, rights_of, with_process, with_segment, with_line}
use Rattle.seq_flat.specs.Memory.{is_owner, seen, bytes_from}
use Rattle.seq_flat.specs.Calls.{argument, answered, ended, taken_by, acquire, release, read_next, read, written, write, kernel_call}
use Rattle.seq_flat.specs.Step.{process_moved, moved, outcome, performed, is_live, step_or_wait, step}
use Rattle.seq_flat.specs.Run.{steps, run_from}
use Rattle.seq_flat.proofs.Runs.{stepped_ok}
use Rattle.seq_rv32.proofs.Outcomes.{cause_few, outcome_keeps_zero}
use Rattle.seq_flat.proofs.Moved.{flat_process, flat_segments, flat_line, moved_flat, ended_flat}
use Rattle.seq_flat.specs.Reached.{IsFlat, has_cause, IsProcessState, IsLineState, HasShape, IsReached, FitJournals, StepsKeepShape, StepsStayReached, RunsStayReached}

-- what holds of each element of a list, and of one that is put into it
put_all : {X : Type 0} (P : X → Type 0) (xs : List X) (i : ℕ) (y d : X) → ((k : ℕ) → P (get_or xs k d)) → P y → (k : ℕ) → P (get_or (set xs i y) k d)
put_all P xs i y d each new k = elim (cases_eq k i) [
  | inl same ↦ elim (cases_lt i (length xs)) [
    | inl inside ↦ subst P (sym (ap (λ j. get_or (set xs i y) j d) same ∙ get_or-set_same xs i y d inside)) new
    | inr past ↦ subst P (sym (ap (λ ys. get_or ys k d) (set_past xs i y past))) (each k)
  ]
  | inr other ↦ subst P (sym (get_or-set_other xs i k y d other)) (each k)
]

-- a condition on lines that reading a byte that is there, and putting out bytes while there is room, keep
record Keeping (inputs : List LineInput) (P : LineState → Type 0) : Type 1 where
  reads : (l : ℕ) (n : LineState) → P n → n.read < length (input_at inputs l).bytes → P (record n { read = n.read + 1 })
  writes : (n : LineState) (bytes : List ℕ) → P n → length n.output + length bytes ≤ 1048576 → P (record n { output = n.output ++ bytes })

-- the shape of the description's machine, with the condition on each line
record HasLines (P : LineState → Type 0) (d : MachineDesc) (f : FlatState) : Type 0 where
  flat : IsFlat d f
  process : (p : ℕ) → IsProcessState (process_at f p)
  line : (l : ℕ) → P (line_at f l)

-- the state after a step, if it is one, holds it
Keeps : (LineState → Type 0) → MachineDesc → Result FlatState Waits → Type 0
Keeps P d (Ok g) = HasLines P d g
Keeps P d (Err w) = Unit {0}

after_write : (r : Regs) (w : ℕ × ℕ) (next : ℕ) → length r.x ≡ 32 → length (registers_after r (Some w) next).x ≡ 32
after_write r w next full = length-set r.x w.0 w.1 ∙ full

after_any : (r : Regs) (wrote : Option (ℕ × ℕ)) (next : ℕ) → length r.x ≡ 32 → length (registers_after r wrote next).x ≡ 32
after_any r (Some w) next full = after_write r w next full
after_any r None next full = full

after_pc : (r : Regs) (wrote : Option (ℕ × ℕ)) (next : ℕ) → (registers_after r wrote next).pc ≡ next
after_pc r (Some x) next = refl
after_pc r None next = refl

module _ (P : LineState → Type 0) (d : MachineDesc) (inputs : List LineInput) (f : FlatState) (p : ℕ) (keeping : Keeping inputs P) (reached : HasLines P d f) (there : p < length f.processes) where
  reached_process : (g : FlatState) → HasLines P d g → p < length g.processes → (q : ProcessState) → IsProcessState q → length q.bytes ≡ length (process_at g p).bytes → HasLines P d (with_process g p q)
  reached_process g is inside q new size = record {
    flat = flat_process d g p q is.flat inside size;
    process = put_all IsProcessState g.processes p q no_process is.process new;
    line = is.line;
  }

  reached_line : (l : ℕ) (n : LineState) → P n → HasLines P d (with_line f l n)
  reached_line l n new = record {
    flat = flat_line d f l n reached.flat;
    process = reached.process;
    line = put_all P f.lines l n no_line reached.line new;
  }

  -- a segment with another owner
  reached_owner : (t : ℕ) (owner : Option Pid) → HasLines P d (with_segment f t (record (segment_at f t) { owner = owner }))
  reached_owner t owner = record {
    flat = flat_segments d f (set f.segments t (record (segment_at f t) { owner = owner })) reached.flat (length-set f.segments t (record (segment_at f t) { owner = owner })) same_size;
    process = reached.process;
    line = reached.line;
  }
    where
      same_size : (u : ℕ) → u < length f.segments → length (get_or (set f.segments t (record (segment_at f t) { owner = owner })) u no_segment).bytes ≡ length (segment_at f u).bytes
      same_size u inside = elim (cases_eq u t) [
        | inl same ↦
            ap (λ j. length (get_or (set f.segments t (record (segment_at f t) { owner = owner })) j no_segment).bytes) same
            ∙ ap (λ (s : SegmentState). length s.bytes) (get_or-set_same f.segments t (record (segment_at f t) { owner = owner }) no_segment (subst (λ n. n < length f.segments) same inside))
            ∙ ap (λ j. length (segment_at f j).bytes) (sym same)
        | inr other ↦ ap (λ (s : SegmentState). length s.bytes) (get_or-set_other f.segments t u (record (segment_at f t) { owner = owner }) no_segment other)
      ]

  process_answered : (q : ProcessState) (answer : ℕ) → IsProcessState q → IsProcessState (record q { regs = registers_after q.regs (Some (10, answer)) (following q.regs) })
  process_answered q answer is = record {
    registers = after_write q.regs (10, answer) (following q.regs) is.registers;
    zero = get_or-set_other q.regs.x 10 0 answer 0 (λ e. omega arith) ∙ is.zero;
    aligned = let pc = is.aligned in omega arith;
    cause = is.cause;
  }

  reached_answered : (g : FlatState) (answer : ℕ) → HasLines P d g → p < length g.processes → HasLines P d (answered g p answer)
  unfolding answered
  reached_answered g answer is inside = reached_process g is inside _ (process_answered (process_at g p) answer (is.process p)) refl

  answer : (n : ℕ) → HasLines P d (answered f p n)
  answer n = reached_answered f n reached there

  reached_ended : (end : End) → has_cause end → HasLines P d (ended f p end)
  unfolding ended
  reached_ended end has = record {
    flat = ended_flat d f p end reached.flat;
    process = put_all IsProcessState f.processes p (record (process_at f p) { end = end }) no_process reached.process (let is = reached.process p in record { registers = is.registers; zero = is.zero; aligned = is.aligned; cause = has });
    line = reached.line;
  }

  taken_keeps : (s : ℕ) (o : Option Pid) → Keeps P d (taken_by f p s o)
  unfolding Keeps
  taken_keeps s None = reached_answered _ 0 (reached_owner s (Some (record { 0 = p }))) there
  taken_keeps s (Some holder) = tt

  acquire_keeps : (rights : Rights) (s : ℕ) → Keeps P d (acquire rights f p s)
  unfolding Keeps acquire
  acquire_keeps rights s =
      cond_both (not (nat_lt s (length f.segments))) _ _ (Keeps P d) (λ _. answer _) (λ _.
      cond_both (not (has_bit rights.grants s)) _ _ (Keeps P d) (λ _. answer _) (λ _.
      cond_both (is_owner p (segment_at f s).owner) _ _ (Keeps P d) (λ _. answer _) (λ _.
      cond_both (list_any (λ t. is_owner p t.owner) (drop (s + 1) f.segments)) _ _ (Keeps P d) (λ _. answer _) (λ _.
      taken_keeps s (segment_at f s).owner))))

  release_keeps : (s : ℕ) → HasLines P d (release f p s)
  unfolding release
  release_keeps s =
      cond_both (nat_lt s (length f.segments) && is_owner p (segment_at f s).owner) _ _ (HasLines P d) (λ _. reached_answered _ 0 (reached_owner s None) there) (λ _. answer _)

  next_keeps : (l : ℕ) (input : LineInput) (o : Option ℕ) → input ≡ input_at inputs l → (o ≡ slice_get input.bytes (line_at f l).read) → Keeps P d (read_next f p l input o)
  unfolding Keeps
  next_keeps l input (Some byte) same is =
      let within : (line_at f l).read < length input.bytes = slice_get_within input.bytes (line_at f l).read byte (sym is) in
      reached_answered _ byte (reached_line l _ (keeping.reads l (line_at f l) (reached.line l) (subst (λ (i : LineInput). (line_at f l).read < length i.bytes) same within))) there
  next_keeps l input None same is = cond_both input.closed _ _ (Keeps P d) (λ _. answer _) (λ _. tt)

  read_keeps : (rights : Rights) (l : ℕ) → Keeps P d (read rights inputs f p l)
  unfolding Keeps read
  read_keeps rights l =
      cond_both (not (has_bit rights.lines l)) _ _ (Keeps P d) (λ _. answer _) (λ _. next_keeps l (input_at inputs l) (slice_get (input_at inputs l).bytes (line_at f l).read) refl refl)

  written_keeps : (l : ℕ) (o : Option (List ℕ)) → HasLines P d (written f p l o)
  unfolding written
  written_keeps l None = answer _
  written_keeps l (Some bytes) =
      cond_both (nat_lt 1048576 (length (line_at f l).output + length bytes)) _ _ (HasLines P d) (λ _. answer _) (λ few.
      reached_answered _ (length bytes) (reached_line l _ (keeping.writes (line_at f l) bytes (reached.line l) (ltb-false 1048576 (length (line_at f l).output + length bytes) few))) there)

  write_keeps : (rights : Rights) (l at count : ℕ) → HasLines P d (write rights f p l at count)
  unfolding write
  write_keeps rights l at count =
      cond_both (not (has_bit rights.lines l)) _ _ (HasLines P d) (λ _. answer _) (λ _.
      cond_both (nat_lt 64 count) _ _ (HasLines P d) (λ _. answer _) (λ _. written_keeps l (bytes_from (seen (process_at f p).bytes f.segments p) at count)))

  call_keeps : (rights : Rights) (number : ℕ) → Keeps P d (kernel_call rights inputs f p number)
  unfolding Keeps kernel_call
  call_keeps rights number =
      cond_both (number == 0) _ _ (Keeps P d) (λ _. reached_ended (Exited (argument f p 10)) tt) (λ _.
      cond_both (number == 1) _ _ (Keeps P d) (λ _. acquire_keeps rights (argument f p 10)) (λ _.
      cond_both (number == 2) _ _ (Keeps P d) (λ _. release_keeps (argument f p 10)) (λ _.
      cond_both (number == 3) _ _ (Keeps P d) (λ _. read_keeps rights (argument f p 10)) (λ _.
      cond_both (number == 4) _ _ (Keeps P d) (λ _. write_keeps rights (argument f p 10) (argument f p 11) (argument f p 12)) (λ _.
      cond_both (number == 5) _ _ (Keeps P d) (λ _. answer p) (λ _.
      cond_both (number == 6 || number == 7) _ _ (Keeps P d) (λ _. answer 0) (λ _. answer _)))))))

  moved_keeps : (wrote : Option (ℕ × ℕ)) (store : Option (ℕ × ℕ × ℕ)) (next : ℕ) → outcome f p ≡ moves wrote store next → HasLines P d (moved f p wrote store next)
  unfolding moved
  moved_keeps wrote store next is =
      let q : ProcessState = process_at f p in
      let before = reached.process p in
      let moves_on = subst IsAligned is (outcome_aligned q.regs (seen q.bytes f.segments p) before.aligned) in
      record {
        flat = moved_flat d f p wrote store next reached.flat;
        process = put_all IsProcessState f.processes p (process_moved q wrote store next) no_process reached.process (record {
          registers = after_any q.regs wrote next before.registers;
          zero = outcome_keeps_zero q.regs (seen q.bytes f.segments p) wrote store next is ∙ before.zero;
          aligned = ap (λ n. n % 4) (after_pc q.regs wrote next) ∙ moves_on.next;
          cause = before.cause;
        });
        line = reached.line;
      }

  performed_keeps : (rights : Rights) (o : Outcome) → outcome f p ≡ o → Keeps P d (performed rights inputs f p o)
  unfolding Keeps
  performed_keeps rights (moves wrote store next) is = moved_keeps wrote store next is
  performed_keeps rights call is = call_keeps rights (register (process_at f p).regs 17)
  performed_keeps rights (trap cause) is = reached_ended (Trapped cause (process_at f p).regs.pc) (cause_few (process_at f p).regs (seen (process_at f p).bytes f.segments p) cause is)

step_keeps : (P : LineState → Type 0) (d : MachineDesc) (rights : List Rights) (inputs : List LineInput) (f : FlatState) (p : ℕ) → Keeping inputs P → HasLines P d f → Keeps P d (step_or_wait rights inputs f p)
unfolding Keeps step_or_wait
step_keeps P d rights inputs f p keeping reached =
    cond_both (nat_lt p (length f.processes) && is_live (process_at f p).end) _ _ (Keeps P d)
    (λ lives. performed_keeps P d inputs f p keeping reached (ltb-true p (length f.processes) (and_parts (nat_lt p (length f.processes)) (is_live (process_at f p).end) lives).0) (rights_at rights p) (outcome f p) refl)
    (λ _. tt)

taken : (P : LineState → Type 0) (d : MachineDesc) (rights : List Rights) (inputs : List LineInput) (f g : FlatState) (p : ℕ) → Keeping inputs P → HasLines P d f → step_or_wait rights inputs f p ≡ Ok g → HasLines P d g
unfolding Keeps
taken P d rights inputs f g p keeping reached stepped = subst (Keeps P d) stepped (step_keeps P d rights inputs f p keeping reached)

-- the shape alone, with no condition on lines
pub steps_keep_shape : StepsKeepShape
steps_keep_shape d rights inputs f g p shape stepped =
    let after = taken (λ n. Unit {0}) d rights inputs f g p (record { reads = λ l n _ _. tt; writes = λ n bytes _ _. tt }) (record { flat = shape.flat; process = shape.process; line = λ l. tt }) stepped in
    record { flat = after.flat; process = after.process }

-- the shape before, and after whatever a step answers
pub answers_shaped : {T E : Type 0} (d : MachineDesc) (result : Result T E) (rights : List Rights) (inputs : List LineInput) (f g : FlatState) (p : ℕ) → HasShape d f → OnOk result (step_or_wait rights inputs f p ≡ Ok g) → OnErr result (g ≡ f) → HasShape d g
answers_shaped d (Ok t) rights inputs f g p shape ok same = steps_keep_shape d rights inputs f g p shape ok
answers_shaped d (Err e) rights inputs f g p shape ok same = subst (HasShape d) (sym same) shape

-- lines that fit their journals stay so
fitting : (d : MachineDesc) (inputs : List LineInput) → FitJournals d inputs → Keeping inputs (IsLineState d)
fitting d inputs fit = record {
  reads = λ l n is within. (let few = fit.line l in record { read = omega arith; output = is.output });
  writes = λ n bytes is few. record { read = is.read; output = omega (arith, length-append n.output bytes) };
}

pub steps_stay_reached : StepsStayReached
steps_stay_reached d inputs f g p fit reached stepped =
    let after = taken (IsLineState d) d (rights_of d) inputs f g p (fitting d inputs fit) (record { flat = reached.flat; process = reached.process; line = reached.line }) stepped in
    record { flat = after.flat; process = after.process; line = after.line }

-- what a chain of steps leads to
chained : {A B : Type 0} (P : A → Type 0) (Q : B → Type 0) (next : A → Option B) (o : Option A) (y : B) → ((x : A) → o ≡ Some x → P x) → ((x : A) → P x → next x ≡ Some y → Q y) → option_and_then next o ≡ Some y → Q y
chained P Q next None y first rest e = absurd cc
chained P Q next (Some x) y first rest e = rest x (first x refl) e

pub counted_steps : (d : MachineDesc) (inputs : List LineInput) (p n : ℕ) (f g : FlatState) → FitJournals d inputs → IsReached d f → steps d inputs p n f ≡ Some g → IsReached d g
unfolding steps
counted_steps d inputs p zero f g fit reached ran = let same : f ≡ g = cc in subst (IsReached d) same reached
counted_steps d inputs p (suc n) f g fit reached ran =
    chained (IsReached d) (IsReached d) (λ h. steps d inputs p n h) (step d inputs f p) g
    (λ h stepped. steps_stay_reached d inputs f h p fit reached (stepped_ok (step_or_wait (rights_of d) inputs f p) h stepped))
    (λ h holds rest. counted_steps d inputs p n h g fit holds rest) ran

pub runs_stay_reached : RunsStayReached
unfolding run_from
runs_stay_reached d inputs [] f g fit reached ran = let same : f ≡ g = cc in subst (IsReached d) same reached
runs_stay_reached d inputs (e ∷ es) f g fit reached ran =
    chained (IsReached d) (IsReached d) (λ h. run_from d inputs h es) (steps d inputs e.pid.0 e.count f) g
    (λ h stepped. counted_steps d inputs e.pid.0 e.count f h fit reached stepped)
    (λ h holds rest. runs_stay_reached d inputs es h g fit holds rest) ran
