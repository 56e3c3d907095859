-- The call read.
use Rattle.std.proofs.Common.{◌≡◌, ℕ, ◌+◌, ◌<◌, ◌≤◌, true, false, ◌==◌, List, length, set, inl, inr, arith, refl, sym, ◌∙◌, ap, subst, get_or-set_same, get_or-set_other}
use Rattle.std.specs.Prelude.{slice_index, slice_get, Some, Ok}
use Rattle.std.proofs.lemmas.Bool.{cases_Bool, cases_lt, lt-ltb, le-ltb, eqb-true}
use Rattle.std.proofs.lemmas.Option.{slice_get_past}
use Rattle.seq_words.specs.Masks.{has_bit}
use Rattle.seq_words.specs.Description.{IsDescription}
use Rattle.seq_words.specs.declared.description.MachineDesc.{MachineDesc}
use Rattle.seq_flat.specs.declared.inputs.LineInput.{LineInput}
use Rattle.seq_flat.specs.declared.state.LineState.{LineState}
use Rattle.seq_flat.specs.declared.state.FlatState.{FlatState}
use Rattle.seq_flat.specs.declared.state.Rights.{Rights}
use Rattle.seq_flat.specs.State.{line_at, input_at, with_line}
use Rattle.seq_flat.specs.Calls as flat
use Rattle.seq_flat.proofs.CallCases.{read_some, read_end}
use Rattle.seq_layout.specs.Copies.{Copies}
use Rattle.seq_process.specs.declared.running.Running.{Running}
use Rattle.seq_cache.specs.Changes.{Changes}
use Rattle.seq_kernel.specs.declared.outcomes.Outcome.TheVariants.{Done, Waits}
use Rattle.seq_kernel.specs.declared.outcomes.Reason.TheVariants as reason
use Rattle.seq_kernel.specs.Views.{read_by}
use Rattle.seq_kernel.specs.Turns.{stays}
use Rattle.seq_kernel.specs.Calls as kernel
use Rattle.seq_kernel.specs.Bounds.{IsRunning}
use Rattle.seq_flat.specs.Reached.{IsFlat}
use Rattle.seq_kernel.specs.Shown.{Shows, HoldsInput}
use Rattle.seq_flat.proofs.Moved.{flat_line}
use Rattle.seq_kernel.proofs.RefineCallsMeets.{Fits, Meets, answer_meets, meets_by}
use Rattle.seq_kernel.proofs.RefineCallsLines.{keeps_all, line_shows, index_of_four}

module _ (d : MachineDesc) (p : Copies) (r : Running) (c : Changes) (l : ℕ) where
  read_others : has_bit (kernel.lines_of d r) l ≡ false → kernel.read d p r c l ≡ kernel.answers r c (flat.minus 6)
  unfolding kernel.read
  read_others other = rw other refl

  read_on : has_bit (kernel.lines_of d r) l ≡ true → slice_index r.reads (kernel.line_index d r l) < kernel.line_word d p l 0 → kernel.read d p r c l ≡ kernel.read_next d p r c l
  unfolding kernel.read
  read_on own more = rw (own, lt-ltb _ _ more) refl

  read_closed : has_bit (kernel.lines_of d r) l ≡ true → kernel.line_word d p l 0 ≤ slice_index r.reads (kernel.line_index d r l) → (kernel.line_word d p l 1 == 1) ≡ true → kernel.read d p r c l ≡ kernel.answers r c (flat.minus 1)
  unfolding kernel.read
  read_closed own all closed = rw (own, le-ltb _ _ all, closed) refl

  read_open : has_bit (kernel.lines_of d r) l ≡ true → kernel.line_word d p l 0 ≤ slice_index r.reads (kernel.line_index d r l) → (kernel.line_word d p l 1 == 1) ≡ false → kernel.read d p r c l ≡ stays (Waits (reason.Input (record { 0 = l }) (kernel.line_word d p l 0))) r c
  unfolding kernel.read
  read_open own all open_ = rw (own, le-ltb _ _ all, open_) refl

flat_read_others : (rights : Rights) (inputs : List LineInput) (f : FlatState) (p l : ℕ) → has_bit rights.lines l ≡ false → flat.read rights inputs f p l ≡ Ok (flat.answered f p (flat.minus 6))
unfolding flat.read
flat_read_others rights inputs f p l other = rw other refl

module _ (d : MachineDesc) (f : FlatState) (r : Running) (described : IsDescription d) (is : IsFlat d f) (running : IsRunning d r) (p : Copies) (c : Changes) (shows : Shows d f (read_by d p c) r) (rights : Rights) (inputs : List LineInput) (same : rights.lines ≡ kernel.lines_of d r) (l : ℕ) where
  module _ (own : has_bit (kernel.lines_of d r) l ≡ true) (input : HoldsInput d p inputs l) where
    right : has_bit rights.lines l ≡ true
    right = ap (λ n. has_bit n l) same ∙ own

    -- the next byte
    next_meets : slice_index r.reads (kernel.line_index d r l) < kernel.line_word d p l 0 → Meets d p (kernel.read_next d p r c l) (flat.read rights inputs f r.pid.0 l)
    next_meets more =
        let index = kernel.line_index d r l in
        let at = slice_index r.reads index in
        let n : LineState = record (line_at f l) { read = (line_at f l).read + 1 } in
        let line = shows.line l own in
        let byte : Some (kernel.journal_byte d p l at) ≡ slice_get (input_at inputs l).bytes (line_at f l).read = sym (input.bytes at more) ∙ ap (slice_get (input_at inputs l).bytes) line.read in
        let room : index < length r.reads = omega (arith, index_of_four d f r described is running l own, running.within.positions.reads) in
        let reads : slice_index (set r.reads index (at + 1)) index ≡ at + 1 = get_or-set_same r.reads index (at + 1) 0 room in
        meets_by d p _ _ _ (read_some rights inputs f r.pid.0 l (kernel.journal_byte d p l at) right byte)
        (answer_meets d (with_line f l n) p (record r { reads = set r.reads index (at + 1) }) c Done (kernel.journal_byte d p l at) (flat_line d f l n is) running.within.process
        (line_shows d f r described is running l own (read_by d p c) (read_by d p c) n (set r.reads index (at + 1)) r.writes shows shows.whole (keeps_all r.pid.0 index (read_by d p c))
        (λ j other. get_or-set_other r.reads index j (at + 1) 0 other) (λ j other. refl)
        (reads ∙ ap (λ k. k + 1) line.read) line.written line.outbox))

    -- the end of a closed line
    end_meets : kernel.line_word d p l 0 ≤ slice_index r.reads (kernel.line_index d r l) → kernel.line_word d p l 1 ≡ 1 → Meets d p (kernel.answers r c (flat.minus 1)) (flat.read rights inputs f r.pid.0 l)
    end_meets all closed =
        let line = shows.line l own in
        let whole = input.closed closed in
        let past : length (input_at inputs l).bytes ≤ (line_at f l).read = omega (arith, line.read, whole.1) in
        meets_by d p _ _ _ (read_end rights inputs f r.pid.0 l right (sym (slice_get_past (input_at inputs l).bytes (line_at f l).read past)) whole.0)
        (answer_meets d f p r c Done (flat.minus 1) is running.within.process shows)

  -- read
  pub read_fits : (has_bit (kernel.lines_of d r) l ≡ true → HoldsInput d p inputs l) → Fits d p (kernel.read d p r c l) (flat.read rights inputs f r.pid.0 l)
  read_fits inputs_held = elim (cases_Bool (has_bit (kernel.lines_of d r) l)) [
    | inr other ↦
        subst (λ after. Fits d p after (flat.read rights inputs f r.pid.0 l)) (sym (read_others d p r c l other))
        (λ step. meets_by d p _ _ _ (flat_read_others rights inputs f r.pid.0 l (ap (λ n. has_bit n l) same ∙ other)) (answer_meets d f p r c Done (flat.minus 6) is running.within.process shows))
    | inl own ↦ elim (cases_lt (slice_index r.reads (kernel.line_index d r l)) (kernel.line_word d p l 0)) [
      | inl more ↦ subst (λ after. Fits d p after (flat.read rights inputs f r.pid.0 l)) (sym (read_on d p r c l own more)) (λ step. next_meets own (inputs_held own) more)
      | inr all ↦ elim (cases_Bool (kernel.line_word d p l 1 == 1)) [
        | inl closed ↦ subst (λ after. Fits d p after (flat.read rights inputs f r.pid.0 l)) (sym (read_closed d p r c l own all closed)) (λ step. end_meets own (inputs_held own) all (eqb-true (kernel.line_word d p l 1) 1 closed))
        | inr waits ↦ subst (λ after. Fits d p after (flat.read rights inputs f r.pid.0 l)) (sym (read_open d p r c l own all waits)) (λ step. absurd step)
      ]
    ]
  ]
