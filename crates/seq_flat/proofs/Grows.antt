-- A step keeps what each line has put out, and a run goes on by a step.
use Rattle.std.proofs.Common.{◌≡◌, ℕ, ◌+◌, Bool, true, false, Option, Some, None, List, [], ◌++◌, length, Result, Ok, Err, refl, sym, ◌∙◌, ap, subst, inl, inr, get_or, set, get_or-set_same, get_or-set_other, append-nil, append_assoc}
use Rattle.std.specs.Prelude.{not, ◌&&◌, ◌||◌, ◌==◌, if◌then◌else◌, nat_lt, drop, slice_get}
use Rattle.std.specs.List.{list_any}
use Rattle.std.proofs.lemmas.Bool.{cases_eq, cases_lt}
use Rattle.std.proofs.lemmas.List.{set_past}
use Rattle.seq_words.specs.Masks.{has_bit}
use Rattle.seq_words.specs.declared.names.Pid.{Pid}
use Rattle.seq_isa.specs.Meaning.{Outcome, moves, call, trap, register}
use Rattle.seq_flat.specs.declared.inputs.LineInput.{LineInput}
use Rattle.seq_flat.specs.declared.state.End.{End}
use Rattle.seq_flat.specs.declared.state.LineState.{LineState}
use Rattle.seq_flat.specs.declared.state.FlatState.{FlatState}
use Rattle.seq_flat.specs.declared.state.Rights.{Rights}
use Rattle.seq_flat.specs.declared.state.Waits.{Waits}
use Rattle.seq_flat.specs.State.{no_line, process_at, segment_at, line_at, input_at, rights_at, with_line}
use Rattle.seq_flat.specs.Memory.{is_owner, seen, bytes_from}
use Rattle.seq_flat.specs.Calls.{argument, answered, ended, taken_by, acquire, release, read_next, read, written, write, kernel_call}
use Rattle.seq_flat.specs.Step.{moved, outcome, performed, is_live, step_or_wait}
use Rattle.seq_flat.specs.Run.{output}

-- g has put out on each line what f had, and some more
pub record Grown (f g : FlatState) : Type 0 where
  pub line : (l : ℕ) → (more : List ℕ) × (output g l ≡ output f l ++ more)

-- a state with the same lines
same_lines : (f g : FlatState) → g.lines ≡ f.lines → Grown f g
same_lines f g same = record { line = λ l. ([], ap (λ (lines : List LineState). (get_or lines l no_line).output) same ∙ sym (append-nil (output f l))) }

pub grown_more : (f g h : FlatState) → Grown f g → Grown g h → Grown f h
grown_more f g h a b = record {
  line = λ l. ((a.line l).0 ++ (b.line l).0, (b.line l).1 ∙ ap (λ xs. xs ++ (b.line l).0) (a.line l).1 ∙ append_assoc (output f l) (a.line l).0 (b.line l).0);
}

-- another line l, with more output
grown_line : (f : FlatState) (l : ℕ) (n : LineState) (more : List ℕ) → n.output ≡ output f l ++ more → Grown f (with_line f l n)
grown_line f l n more is = record {
  line = λ k. elim (cases_eq k l) [
    | inl same ↦ elim (cases_lt l (length f.lines)) [
      | inl there ↦ (
        more,
        ap (λ i. (get_or (set f.lines l n) i no_line).output) same ∙ ap (λ (x : LineState). x.output) (get_or-set_same f.lines l n no_line there) ∙ is ∙ ap (λ i. output f i ++ more) (sym same),
      )
      | inr past ↦ ([], ap (λ (lines : List LineState). (get_or lines k no_line).output) (set_past f.lines l n past) ∙ sym (append-nil (output f k)))
    ]
    | inr other ↦ ([], ap (λ (x : LineState). x.output) (get_or-set_other f.lines l k n no_line other) ∙ sym (append-nil (output f k)))
  ];
}

-- the state after a step, if it is one, has grown
MayGrow : FlatState → Result FlatState Waits → Type 0
MayGrow f (Ok g) = Grown f g
MayGrow f (Err w) = Unit {0}

either : {X : Type 0} (P : X → Type 0) (b : Bool) (x y : X) → P x → P y → P (if b then x else y)
either P true x y p q = p
either P false x y p q = q

answered_grows : (f g : FlatState) (p answer : ℕ) → Grown f g → Grown f (answered g p answer)
unfolding answered
answered_grows f g p answer grown = record { line = grown.line }

pub self_grows : (f : FlatState) → Grown f f
self_grows f = same_lines f f refl

ended_grows : (f : FlatState) (p : ℕ) (e : End) → Grown f (ended f p e)
unfolding ended
ended_grows f p e = same_lines f _ refl

taken_grows : (f : FlatState) (p s : ℕ) (o : Option Pid) → MayGrow f (taken_by f p s o)
unfolding MayGrow
taken_grows f p s None = answered_grows f _ p 0 (same_lines f _ refl)
taken_grows f p s (Some holder) = tt

acquire_grows : (rights : Rights) (f : FlatState) (p s : ℕ) → MayGrow f (acquire rights f p s)
unfolding MayGrow acquire
acquire_grows rights f p s =
    either (MayGrow f) (not (nat_lt s (length f.segments))) _ _ (answered_grows f f p _ (self_grows f))
    (either (MayGrow f) (not (has_bit rights.grants s)) _ _ (answered_grows f f p _ (self_grows f))
    (either (MayGrow f) (is_owner p (segment_at f s).owner) _ _ (answered_grows f f p _ (self_grows f))
    (either (MayGrow f) (list_any (λ t. is_owner p t.owner) (drop (s + 1) f.segments)) _ _ (answered_grows f f p _ (self_grows f))
    (taken_grows f p s (segment_at f s).owner))))

release_grows : (f : FlatState) (p s : ℕ) → Grown f (release f p s)
unfolding release
release_grows f p s =
    either (Grown f) (nat_lt s (length f.segments) && is_owner p (segment_at f s).owner) _ _ (answered_grows f _ p 0 (same_lines f _ refl)) (answered_grows f f p _ (self_grows f))

next_grows : (f : FlatState) (p l : ℕ) (input : LineInput) (o : Option ℕ) → MayGrow f (read_next f p l input o)
unfolding MayGrow
next_grows f p l input (Some byte) = answered_grows f _ p byte (grown_line f l _ [] (sym (append-nil (output f l))))
next_grows f p l input None = either (MayGrow f) input.closed _ _ (answered_grows f f p _ (self_grows f)) tt

read_grows : (rights : Rights) (inputs : List LineInput) (f : FlatState) (p l : ℕ) → MayGrow f (read rights inputs f p l)
unfolding MayGrow read
read_grows rights inputs f p l =
    either (MayGrow f) (not (has_bit rights.lines l)) _ _ (answered_grows f f p _ (self_grows f)) (next_grows f p l (input_at inputs l) (slice_get (input_at inputs l).bytes (line_at f l).read))

written_grows : (f : FlatState) (p l : ℕ) (o : Option (List ℕ)) → Grown f (written f p l o)
unfolding written
written_grows f p l None = answered_grows f f p _ (self_grows f)
written_grows f p l (Some bytes) =
    either (Grown f) (nat_lt 1048576 (length (line_at f l).output + length bytes)) _ _ (answered_grows f f p _ (self_grows f)) (answered_grows f _ p _ (grown_line f l _ bytes refl))

write_grows : (rights : Rights) (f : FlatState) (p l at count : ℕ) → Grown f (write rights f p l at count)
unfolding write
write_grows rights f p l at count =
    either (Grown f) (not (has_bit rights.lines l)) _ _ (answered_grows f f p _ (self_grows f))
    (either (Grown f) (nat_lt 64 count) _ _ (answered_grows f f p _ (self_grows f)) (written_grows f p l (bytes_from (seen (process_at f p).bytes f.segments p) at count)))

call_grows : (rights : Rights) (inputs : List LineInput) (f : FlatState) (p number : ℕ) → MayGrow f (kernel_call rights inputs f p number)
unfolding MayGrow kernel_call
call_grows rights inputs f p number =
    either (MayGrow f) (number == 0) _ _ (ended_grows f p _)
    (either (MayGrow f) (number == 1) _ _ (acquire_grows rights f p (argument f p 10))
    (either (MayGrow f) (number == 2) _ _ (release_grows f p (argument f p 10))
    (either (MayGrow f) (number == 3) _ _ (read_grows rights inputs f p (argument f p 10))
    (either (MayGrow f) (number == 4) _ _ (write_grows rights f p (argument f p 10) (argument f p 11) (argument f p 12))
    (either (MayGrow f) (number == 5) _ _ (answered_grows f f p p (self_grows f))
    (either (MayGrow f) (number == 6 || number == 7) _ _ (answered_grows f f p 0 (self_grows f)) (answered_grows f f p _ (self_grows f))))))))

moved_grows : (f : FlatState) (p : ℕ) (wrote : Option (ℕ × ℕ)) (store : Option (ℕ × ℕ × ℕ)) (next : ℕ) → Grown f (moved f p wrote store next)
unfolding moved
moved_grows f p wrote store next = same_lines f _ refl

performed_grows : (rights : Rights) (inputs : List LineInput) (f : FlatState) (p : ℕ) (o : Outcome) → MayGrow f (performed rights inputs f p o)
unfolding MayGrow
performed_grows rights inputs f p (moves wrote store next) = moved_grows f p wrote store next
performed_grows rights inputs f p call = call_grows rights inputs f p (register (process_at f p).regs 17)
performed_grows rights inputs f p (trap cause) = ended_grows f p _

step_may_grow : (rights : List Rights) (inputs : List LineInput) (f : FlatState) (p : ℕ) → MayGrow f (step_or_wait rights inputs f p)
unfolding MayGrow step_or_wait
step_may_grow rights inputs f p =
    either (MayGrow f) (nat_lt p (length f.processes) && is_live (process_at f p).end) _ _ (performed_grows (rights_at rights p) inputs f p (outcome f p)) tt

-- a step only adds to what was put out
pub step_grows : (rights : List Rights) (inputs : List LineInput) (f g : FlatState) (p : ℕ) → step_or_wait rights inputs f p ≡ Ok g → Grown f g
unfolding MayGrow
step_grows rights inputs f g p stepped = subst (MayGrow f) stepped (step_may_grow rights inputs f p)
