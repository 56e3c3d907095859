-- A kernel call of a process does the same in two states that agree on it.
use Rattle.std.proofs.Common.{◌≡◌, ◌≢◌, ℕ, ◌+◌, ◌<◌, Bool, true, false, List, length, map, drop, Option, Some, None, Result, Ok, refl, sym, ◌∙◌, ap, ap₂, subst, get_or, set, get_or-set_same, true≢false}
use Rattle.std.specs.Prelude.{if◌then◌else◌, nat_lt, not, ◌&&◌, ◌||◌, ◌==◌, slice_get, ◌++◌}
use Rattle.std.specs.List.{list_any}
use Rattle.std.proofs.lemmas.Bool.{ltb-true, and_parts, not-false, eqb-true, eq-eqb, ne_eqb}
use Rattle.seq_words.specs.Masks.{has_bit}
use Rattle.seq_words.specs.declared.names.Pid.{Pid}
use Rattle.seq_isa.specs.Meaning.{register, registers_after, following}
use Rattle.seq_flat.specs.declared.inputs.LineInput.{LineInput}
use Rattle.seq_flat.specs.declared.state.End.{End}
use Rattle.seq_flat.specs.declared.state.End.TheVariants.{Exited}
use Rattle.seq_flat.specs.declared.state.ProcessState.{ProcessState}
use Rattle.seq_flat.specs.declared.state.SegmentState.{SegmentState}
use Rattle.seq_flat.specs.declared.state.LineState.{LineState}
use Rattle.seq_flat.specs.declared.state.FlatState.{FlatState}
use Rattle.seq_flat.specs.declared.state.Waits.{Waits}
use Rattle.seq_flat.specs.State.{no_segment, process_at, segment_at, line_at, input_at, rights_at, with_process, with_segment, with_line}
use Rattle.seq_flat.specs.Memory.{is_owner, seen, bytes_from}
use Rattle.seq_flat.specs.Calls.{argument, answered, given_up, ended, taken_by, acquire, release, read_next, read, written, write, kernel_call}
use Rattle.seq_runs.specs.Areas.{owns}
use Rattle.seq_runs.proofs.Touches.{segment, line, all_given_up}
use Rattle.seq_runs.proofs.Sames.{Two, Facing, SameTouch, Same, holds_same, any_held_same, seen_same, either, answer_same}

-- the process with an answer
abbrev pub answering : ProcessState → ℕ → ProcessState
answering q answer = record q { regs = registers_after q.regs (Some (10, answer)) (following q.regs) }

-- a segment of the area is put in the place of another, and the process gets an answer
segment_same : (t : Two) (s : ℕ) (now : SegmentState → SegmentState) (answer : ℕ) → Facing t → t.area s ≡ true → ((q : ℕ) → q ≢ t.p → is_owner q (now (segment_at t.f s)).owner ≡ false)
    → SameTouch t (answered (with_segment t.f s (now (segment_at t.f s))) t.p answer) (Ok (answered (with_segment t.g s (now (segment_at t.g s))) t.p answer))
unfolding answered
segment_same t s now answer h inside alone = record {
  now = answering (process_at t.f t.p) answer;
  touch = segment s (now (segment_at t.f s));
  here = refl;
  there =
      ap (λ (q : ProcessState). Ok (with_process (with_segment t.g s (now (segment_at t.g s))) t.p (answering q answer))) (sym h.agree.process)
      ∙ ap (λ (x : SegmentState). Ok (with_process (with_segment t.g s (now x)) t.p (answering (process_at t.f t.p) answer))) (sym (h.agree.segment s inside));
  may = (inside, alone);
}

-- the same of a line that the process owns
line_same : (t : Two) (l : ℕ) (now : LineState → LineState) (answer : ℕ) → Facing t → owns t.rights t.p l ≡ true
    → SameTouch t (answered (with_line t.f l (now (line_at t.f l))) t.p answer) (Ok (answered (with_line t.g l (now (line_at t.g l))) t.p answer))
unfolding answered
line_same t l now answer h mine = record {
  now = answering (process_at t.f t.p) answer;
  touch = line l (now (line_at t.f l));
  here = refl;
  there =
      ap (λ (q : ProcessState). Ok (with_process (with_line t.g l (now (line_at t.g l))) t.p (answering q answer))) (sym h.agree.process)
      ∙ ap (λ (x : LineState). Ok (with_process (with_line t.g l (now x)) t.p (answering (process_at t.f t.p) answer))) (sym (h.agree.line l mine));
  may = mine;
}

-- the process ends
pub ended_same : (t : Two) (e : End) → Facing t → Same t (Ok (ended t.f t.p e)) (Ok (ended t.g t.p e))
unfolding Same ended
ended_same t e h within = record {
  now = record (process_at t.f t.p) { end = e };
  touch = all_given_up;
  here = refl;
  there = ap (λ (q : ProcessState). Ok (record (with_process t.g t.p (record q { end = e })) { segments = map (given_up t.p) t.g.segments })) (sym h.agree.process);
  may = tt;
}

-- nobody but the owner is the owner
pub one_owner : (p q : ℕ) (owner : Option Pid) → q ≢ p → is_owner p owner ≡ true → is_owner q owner ≡ false
one_owner p q (Some x) other is = ne_eqb x.0 q (λ same. other (sym same ∙ eqb-true x.0 p is))
one_owner p q None other is = absurd (true≢false (sym is))

-- who takes a segment is its owner
taker : (p : ℕ) → is_owner p (Some (record { 0 = p })) ≡ true
taker p = eq-eqb p p refl

-- a segment is taken only where it lies in the area
taken_same : (t : Two) (s : ℕ) (o : Option Pid) → Facing t → s < length t.f.segments → (segment_at t.f s).owner ≡ o → Same t (taken_by t.f t.p s o) (taken_by t.g t.p s (segment_at t.g s).owner)
unfolding Same answered
taken_same t s None h there free = λ within.
    let now : SegmentState → SegmentState = λ x. record x { owner = Some (record { 0 = t.p }) } in
    let mine : is_owner t.p (get_or (set t.f.segments s (now (segment_at t.f s))) s no_segment).owner ≡ true = rw (get_or-set_same t.f.segments s (now (segment_at t.f s)) no_segment there) (taker t.p) in
    let inside : t.area s ≡ true = within.segment s mine in
    let none : (segment_at t.g s).owner ≡ None = ap (λ (x : SegmentState). x.owner) (sym (h.agree.segment s inside)) ∙ free in
    subst (λ o. SameTouch t (answered (with_segment t.f s (now (segment_at t.f s))) t.p 0) (taken_by t.g t.p s o)) (sym none)
    (segment_same t s now 0 h inside (λ q other. ne_eqb t.p q (λ same. other (sym same))))
taken_same t s (Some holder) h there held = tt

acquire_same : (t : Two) (s : ℕ) → Facing t → Same t (acquire (rights_at t.rights t.p) t.f t.p s) (acquire (rights_at t.rights t.p) t.g t.p s)
unfolding acquire
acquire_same t s h =
    either t (not (nat_lt s (length t.f.segments))) _ _ _ _ _ (ap (λ n. not (nat_lt s n)) h.agree.counts.segments) (λ _. answer_same t _ h)
    (λ there. either t (not (has_bit (rights_at t.rights t.p).grants s)) _ _ _ _ _ refl (λ _. answer_same t _ h)
    (λ _. either t (is_owner t.p (segment_at t.f s).owner) _ _ _ _ _ (holds_same t s h) (λ _. answer_same t _ h)
    (λ _. either t (list_any (λ x. is_owner t.p x.owner) (drop (s + 1) t.f.segments)) _ _ _ _ _ (any_held_same t (s + 1) h) (λ _. answer_same t _ h)
    (λ _. taken_same t s _ h (ltb-true s (length t.f.segments) (not-false _ there)) refl))))

-- a choice between two states
choice : (t : Two) (b c : Bool) (x y x' y' : FlatState) → b ≡ c → (b ≡ true → Same t (Ok x) (Ok x')) → (b ≡ false → Same t (Ok y) (Ok y')) → Same t (Ok (if b then x else y)) (Ok (if c then x' else y'))
choice t true true x y x' y' same one two = one refl
choice t true false x y x' y' same one two = absurd (true≢false same)
choice t false true x y x' y' same one two = absurd (true≢false (sym same))
choice t false false x y x' y' same one two = two refl

release_same : (t : Two) (s : ℕ) → Facing t → Same t (Ok (release t.f t.p s)) (Ok (release t.g t.p s))
unfolding Same release
release_same t s h =
    choice t (nat_lt s (length t.f.segments) && is_owner t.p (segment_at t.f s).owner) _ _ _ _ _ (ap₂ (λ n b. nat_lt s n && b) h.agree.counts.segments (holds_same t s h))
    (λ is _. segment_same t s (λ x. record x { owner = None }) 0 h (h.near.segment s (and_parts _ _ is).1) (λ q other. refl)) (λ _. answer_same t _ h)

next_same : (t : Two) (l : ℕ) (input : LineInput) (o : Option ℕ) → Facing t → owns t.rights t.p l ≡ true → Same t (read_next t.f t.p l input o) (read_next t.g t.p l input o)
unfolding Same
next_same t l input (Some byte) h mine = λ _. line_same t l (λ n. record n { read = n.read + 1 }) byte h mine
next_same t l input None h mine = either t input.closed _ _ _ _ _ refl (λ _. answer_same t _ h) (λ _. tt)

read_same : (t : Two) (inputs : List LineInput) (l : ℕ) → Facing t → Same t (read (rights_at t.rights t.p) inputs t.f t.p l) (read (rights_at t.rights t.p) inputs t.g t.p l)
unfolding read
read_same t inputs l h =
    either t (not (has_bit (rights_at t.rights t.p).lines l)) _ _ _ _ _ refl (λ _. answer_same t _ h)
    (λ mine. let owned : owns t.rights t.p l ≡ true = not-false _ mine in
    let o = slice_get (input_at inputs l).bytes (line_at t.f l).read in
    subst (λ (n : LineState). Same t (read_next t.f t.p l (input_at inputs l) o) (read_next t.g t.p l (input_at inputs l) (slice_get (input_at inputs l).bytes n.read))) (h.agree.line l owned) (next_same t l (input_at inputs l) o h owned))

written_same : (t : Two) (l : ℕ) (o : Option (List ℕ)) → Facing t → owns t.rights t.p l ≡ true → Same t (Ok (written t.f t.p l o)) (Ok (written t.g t.p l o))
unfolding Same written
written_same t l None h mine = answer_same t _ h
written_same t l (Some bytes) h mine =
    choice t (nat_lt 1048576 (length (line_at t.f l).output + length bytes)) _ _ _ _ _ (ap (λ (n : LineState). nat_lt 1048576 (length n.output + length bytes)) (h.agree.line l mine)) (λ _. answer_same t _ h)
    (λ _ _. line_same t l (λ n. record n { output = n.output ++ bytes }) (length bytes) h mine)

write_same : (t : Two) (l at count : ℕ) → Facing t → Same t (Ok (write (rights_at t.rights t.p) t.f t.p l at count)) (Ok (write (rights_at t.rights t.p) t.g t.p l at count))
unfolding write
write_same t l at count h =
    choice t (not (has_bit (rights_at t.rights t.p).lines l)) _ _ _ _ _ refl (λ _. answer_same t _ h)
    (λ mine. choice t (nat_lt 64 count) _ _ _ _ _ refl (λ _. answer_same t _ h)
    (λ _. subst (λ m. Same t (Ok (written t.f t.p l (bytes_from (seen (process_at t.f t.p).bytes t.f.segments t.p) at count))) (Ok (written t.g t.p l (bytes_from m at count)))) (seen_same t h)
    (written_same t l _ h (not-false _ mine))))

-- what depends on the arguments, which are the same
at_arguments : (t : Two) (call : FlatState → (ℕ → ℕ) → Result FlatState Waits) → Facing t → ((a : ℕ → ℕ) → Same t (call t.f a) (call t.g a)) → Same t (call t.f (argument t.f t.p)) (call t.g (argument t.g t.p))
at_arguments t call h each = subst (λ (q : ProcessState). Same t (call t.f (argument t.f t.p)) (call t.g (register q.regs))) h.agree.process (each (argument t.f t.p))

pub call_same : (t : Two) (inputs : List LineInput) (number : ℕ) → Facing t → Same t (kernel_call (rights_at t.rights t.p) inputs t.f t.p number) (kernel_call (rights_at t.rights t.p) inputs t.g t.p number)
unfolding kernel_call
call_same t inputs number h =
    let rights = rights_at t.rights t.p in
    either t (number == 0) _ _ _ _ _ refl (λ _. at_arguments t (λ f a. Ok (ended f t.p (Exited (a 10)))) h (λ a. ended_same t (Exited (a 10)) h))
    (λ _. either t (number == 1) _ _ _ _ _ refl (λ _. at_arguments t (λ f a. acquire rights f t.p (a 10)) h (λ a. acquire_same t (a 10) h))
    (λ _. either t (number == 2) _ _ _ _ _ refl (λ _. at_arguments t (λ f a. Ok (release f t.p (a 10))) h (λ a. release_same t (a 10) h))
    (λ _. either t (number == 3) _ _ _ _ _ refl (λ _. at_arguments t (λ f a. read rights inputs f t.p (a 10)) h (λ a. read_same t inputs (a 10) h))
    (λ _. either t (number == 4) _ _ _ _ _ refl (λ _. at_arguments t (λ f a. Ok (write rights f t.p (a 10) (a 11) (a 12))) h (λ a. write_same t (a 10) (a 11) (a 12) h))
    (λ _. either t (number == 5) _ _ _ _ _ refl (λ _. answer_same t _ h)
    (λ _. either t (number == 6 || number == 7) _ _ _ _ _ refl (λ _. answer_same t _ h) (λ _. answer_same t _ h)))))))
