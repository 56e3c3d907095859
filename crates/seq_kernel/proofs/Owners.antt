-- A step of the flat machine changes a segment's bytes or its owner, and not both.
use Rattle.std.proofs.Common.{◌≡◌, ℕ, ◌+◌, ◌≤◌, Option, Some, None, List, length, map, get_or, set, Result, Ok, Err, refl, sym, ◌∙◌, ap, subst, inl, inr, get_or-set_same, get_or-set_other}
use Rattle.std.specs.Prelude.{not, ◌&&◌, ◌||◌, ◌==◌, nat_lt, drop, slice_get}
use Rattle.std.specs.List.{list_any}
use Rattle.std.proofs.lemmas.Bool.{cases_eq, cases_lt, cond_both}
use Rattle.std.proofs.lemmas.List.{get_or-map, get_or_past, length-map, set_past}
use Rattle.seq_words.specs.Masks.{has_bit}
use Rattle.seq_words.specs.declared.names.Pid.{Pid}
use Rattle.seq_isa.specs.Meaning.{Outcome, moves, call, trap, register}
use Rattle.seq_flat.specs.declared.inputs.LineInput.{LineInput}
use Rattle.seq_flat.specs.declared.state.End.{End}
use Rattle.seq_flat.specs.declared.state.End.TheVariants.{Exited, Trapped}
use Rattle.seq_flat.specs.declared.state.LineState.{LineState}
use Rattle.seq_flat.specs.declared.state.SegmentState.{SegmentState}
use Rattle.seq_flat.specs.declared.state.FlatState.{FlatState}
use Rattle.seq_flat.specs.declared.state.Rights.{Rights}
use Rattle.seq_flat.specs.declared.state.Waits.{Waits}
use Rattle.seq_flat.specs.State.{no_segment, process_at, segment_at, line_at, input_at, rights_at, with_segment, with_line}
use Rattle.seq_flat.specs.Memory.{is_owner, seen, bytes_from}
use Rattle.seq_flat.specs.Calls.{given_up, argument, answered, ended, taken_by, acquire, release, read_next, read, written, write, kernel_call}
use Rattle.seq_flat.specs.Step.{moved, outcome, performed, is_live, step_or_wait}
use Rattle.seq_flat.proofs.Moved.{owner_kept}
use Rattle.seq_kernel.specs.Owners.{ChangesBytesOrOwner, StepsChangeBytesOrOwner}

MayChange : FlatState → Result FlatState Waits → Type 0
MayChange f (Ok g) = ChangesBytesOrOwner f g
MayChange f (Err w) = Unit {0}

-- the same segments
kept : (f g : FlatState) → g.segments ≡ f.segments → ChangesBytesOrOwner f g
kept f g same = record { segment = λ t. inr (ap (λ (segments : List SegmentState). (get_or segments t no_segment).owner) same) }

-- a segment whose bytes stay, in its place among the others
put_bytes : (f : FlatState) (s : ℕ) (x : SegmentState) → x.bytes ≡ (segment_at f s).bytes → (t : ℕ) → (get_or (set f.segments s x) t no_segment).bytes ≡ (segment_at f t).bytes
put_bytes f s x same t = elim (cases_eq t s) [
  | inl here ↦ elim (cases_lt s (length f.segments)) [
    | inl inside ↦
        ap (λ j. (get_or (set f.segments s x) j no_segment).bytes) here
        ∙ ap (λ (y : SegmentState). y.bytes) (get_or-set_same f.segments s x no_segment inside) ∙ same ∙ ap (λ j. (segment_at f j).bytes) (sym here)
    | inr past ↦ ap (λ (ys : List SegmentState). (get_or ys t no_segment).bytes) (set_past f.segments s x past)
  ]
  | inr other ↦ ap (λ (y : SegmentState). y.bytes) (get_or-set_other f.segments s t x no_segment other)
]

given_bytes : (p : ℕ) (s : SegmentState) → (given_up p s).bytes ≡ s.bytes
given_bytes p s = cond_both (is_owner p s.owner) (record s { owner = None }) s (λ (x : SegmentState). x.bytes ≡ s.bytes) (λ own. refl) (λ other. refl)

map_bytes : (f : FlatState) (p t : ℕ) → (get_or (map (given_up p) f.segments) t no_segment).bytes ≡ (segment_at f t).bytes
map_bytes f p t = elim (cases_lt t (length f.segments)) [
  | inl inside ↦ ap (λ (x : SegmentState). x.bytes) (get_or-map (given_up p) f.segments t no_segment no_segment inside) ∙ given_bytes p (segment_at f t)
  | inr past ↦
      ap (λ (x : SegmentState). x.bytes) (get_or_past (map (given_up p) f.segments) t no_segment (subst (λ n. n ≤ t) (sym (length-map f.segments (given_up p))) past) ∙ sym (get_or_past f.segments t no_segment past))
]

module _ (f : FlatState) (p : ℕ) where
  answer : (g : FlatState) (n : ℕ) → ChangesBytesOrOwner f g → ChangesBytesOrOwner f (answered g p n)
  unfolding answered
  answer g n before = record { segment = before.segment }

  unchanged : (n : ℕ) → ChangesBytesOrOwner f (answered f p n)
  unchanged n = answer f n (kept f f refl)

  with_owner : (s : ℕ) (o : Option Pid) → ChangesBytesOrOwner f (with_segment f s (record (segment_at f s) { owner = o }))
  with_owner s o = record { segment = λ t. inl (put_bytes f s (record (segment_at f s) { owner = o }) refl t) }

  at_end : (e : End) → ChangesBytesOrOwner f (ended f p e)
  unfolding ended
  at_end e = record { segment = λ t. inl (map_bytes f p t) }

  taken : (s : ℕ) (o : Option Pid) → MayChange f (taken_by f p s o)
  unfolding MayChange
  taken s None = answer _ 0 (with_owner s (Some (record { 0 = p })))
  taken s (Some holder) = tt

  by_acquire : (rights : Rights) (s : ℕ) → MayChange f (acquire rights f p s)
  unfolding MayChange acquire
  by_acquire rights s =
      cond_both (not (nat_lt s (length f.segments))) _ _ (MayChange f) (λ _. unchanged _) (λ _.
      cond_both (not (has_bit rights.grants s)) _ _ (MayChange f) (λ _. unchanged _) (λ _.
      cond_both (is_owner p (segment_at f s).owner) _ _ (MayChange f) (λ _. unchanged _) (λ _.
      cond_both (list_any (λ t. is_owner p t.owner) (drop (s + 1) f.segments)) _ _ (MayChange f) (λ _. unchanged _) (λ _. taken s (segment_at f s).owner))))

  by_release : (s : ℕ) → ChangesBytesOrOwner f (release f p s)
  unfolding release
  by_release s = cond_both (nat_lt s (length f.segments) && is_owner p (segment_at f s).owner) _ _ (ChangesBytesOrOwner f) (λ _. answer _ 0 (with_owner s None)) (λ _. unchanged _)

  by_line : (l : ℕ) (n : LineState) (k : ℕ) → ChangesBytesOrOwner f (answered (with_line f l n) p k)
  by_line l n k = answer (with_line f l n) k (kept f (with_line f l n) refl)

  next : (l : ℕ) (input : LineInput) (o : Option ℕ) → MayChange f (read_next f p l input o)
  unfolding MayChange
  next l input (Some byte) = by_line l _ byte
  next l input None = cond_both input.closed _ _ (MayChange f) (λ _. unchanged _) (λ _. tt)

  by_read : (rights : Rights) (inputs : List LineInput) (l : ℕ) → MayChange f (read rights inputs f p l)
  unfolding MayChange read
  by_read rights inputs l = cond_both (not (has_bit rights.lines l)) _ _ (MayChange f) (λ _. unchanged _) (λ _. next l (input_at inputs l) (slice_get (input_at inputs l).bytes (line_at f l).read))

  by_written : (l : ℕ) (o : Option (List ℕ)) → ChangesBytesOrOwner f (written f p l o)
  unfolding written
  by_written l None = unchanged _
  by_written l (Some bytes) = cond_both (nat_lt 1048576 (length (line_at f l).output + length bytes)) _ _ (ChangesBytesOrOwner f) (λ _. unchanged _) (λ _. by_line l _ (length bytes))

  by_write : (rights : Rights) (l at count : ℕ) → ChangesBytesOrOwner f (write rights f p l at count)
  unfolding write
  by_write rights l at count =
      cond_both (not (has_bit rights.lines l)) _ _ (ChangesBytesOrOwner f) (λ _. unchanged _) (λ _.
      cond_both (nat_lt 64 count) _ _ (ChangesBytesOrOwner f) (λ _. unchanged _) (λ _. by_written l (bytes_from (seen (process_at f p).bytes f.segments p) at count)))

  by_call : (rights : Rights) (inputs : List LineInput) (number : ℕ) → MayChange f (kernel_call rights inputs f p number)
  unfolding MayChange kernel_call
  by_call rights inputs number =
      cond_both (number == 0) _ _ (MayChange f) (λ _. at_end (Exited (argument f p 10))) (λ _.
      cond_both (number == 1) _ _ (MayChange f) (λ _. by_acquire rights (argument f p 10)) (λ _.
      cond_both (number == 2) _ _ (MayChange f) (λ _. by_release (argument f p 10)) (λ _.
      cond_both (number == 3) _ _ (MayChange f) (λ _. by_read rights inputs (argument f p 10)) (λ _.
      cond_both (number == 4) _ _ (MayChange f) (λ _. by_write rights (argument f p 10) (argument f p 11) (argument f p 12)) (λ _.
      cond_both (number == 5) _ _ (MayChange f) (λ _. unchanged p) (λ _.
      cond_both (number == 6 || number == 7) _ _ (MayChange f) (λ _. unchanged 0) (λ _. unchanged _)))))))

  by_move : (wrote : Option (ℕ × ℕ)) (store : Option (ℕ × ℕ × ℕ)) (pc : ℕ) → ChangesBytesOrOwner f (moved f p wrote store pc)
  unfolding moved
  by_move wrote store pc = record { segment = λ t. inr (owner_kept f.segments store t) }

  by_outcome : (rights : Rights) (inputs : List LineInput) (o : Outcome) → MayChange f (performed rights inputs f p o)
  unfolding MayChange
  by_outcome rights inputs (moves wrote store pc) = by_move wrote store pc
  by_outcome rights inputs call = by_call rights inputs (register (process_at f p).regs 17)
  by_outcome rights inputs (trap cause) = at_end (Trapped cause (process_at f p).regs.pc)

  by_step : (rights : List Rights) (inputs : List LineInput) → MayChange f (step_or_wait rights inputs f p)
  unfolding MayChange step_or_wait
  by_step rights inputs = cond_both (nat_lt p (length f.processes) && is_live (process_at f p).end) _ _ (MayChange f) (λ _. by_outcome (rights_at rights p) inputs (outcome f p)) (λ _. tt)

pub steps_change_bytes_or_owner : StepsChangeBytesOrOwner
unfolding MayChange
steps_change_bytes_or_owner rights inputs f g p stepped = subst (MayChange f) stepped (by_step f p rights inputs)
