-- Wherever a kernel call takes a step, it is the flat machine's.
use Rattle.std.proofs.Common.{◌≡◌, ℕ, ◌≤◌, Bool, true, false, ◌||◌, ◌==◌, List, refl, sym, ◌∙◌, ap, subst, arith}
use Rattle.seq_kernel.proofs.Agreed.{agree_fact}
use Rattle.std.specs.Prelude.{if◌then◌else◌, slice_index, Option, Some, None, Result, Ok}
use Rattle.std.proofs.lemmas.Bool.{cond_both}
use Rattle.seq_words.specs.Masks.{has_bit}
use Rattle.seq_words.specs.Description.{IsDescription, process_of}
use Rattle.seq_words.specs.declared.description.MachineDesc.{MachineDesc}
use Rattle.seq_words.specs.declared.half.Half.{Half}
use Rattle.seq_words.specs.declared.half.Half.TheVariants.{A, B}
use Rattle.seq_words.specs.declared.regs.Regs.{Regs}
use Rattle.seq_isa.specs.Meaning.{call, register}
use Rattle.seq_flat.specs.declared.inputs.LineInput.{LineInput}
use Rattle.seq_flat.specs.declared.state.End.TheVariants.{Exited}
use Rattle.seq_flat.specs.declared.state.FlatState.{FlatState}
use Rattle.seq_flat.specs.declared.state.Rights.{Rights}
use Rattle.seq_flat.specs.declared.state.Waits.{Waits}
use Rattle.seq_flat.specs.State.{process_at, rights_at, rights_of}
use Rattle.seq_flat.specs.Calls as flat
use Rattle.seq_flat.specs.Effects.{plain_effect}
use Rattle.seq_flat.specs.Step.{outcome}
use Rattle.seq_flat.proofs.Cases.{steps_calls}
use Rattle.seq_pair.specs.Turns.{unstruck, unstruck_of}
use Rattle.seq_pair.specs.declared.halves.Pair.{Pair}
use Rattle.seq_layout.specs.Copies.{Copies}
use Rattle.seq_process.specs.declared.running.Running.{Running}
use Rattle.seq_cache.specs.Changes.{Changes}
use Rattle.seq_kernel.specs.declared.outcomes.Outcome.{Outcome}
use Rattle.seq_kernel.specs.declared.outcomes.Outcome.TheVariants.{Done, NeedsFlush, Diverged}
use Rattle.seq_kernel.specs.declared.outcomes.Cause.TheVariants as cause
use Rattle.seq_kernel.specs.Views.{read_by}
use Rattle.seq_kernel.specs.Turns.{Turned, stays, answered}
use Rattle.seq_kernel.specs.Calls as kernel
use Rattle.seq_kernel.specs.Bounds.{IsRunning}
use Rattle.seq_flat.specs.Reached.{IsFlat}
use Rattle.seq_kernel.specs.Shown.{Shows, HoldsInput}
use Rattle.seq_kernel.proofs.RefineStepsTaken.{Taken, CallsTake}
use Rattle.seq_kernel.proofs.RefineCallsMeets.{Fits, Meets, choose, answer_meets, meets_by, rights_are}
use Rattle.seq_kernel.proofs.RefineCallsSegments.{acquire_fits, release_fits, ended_meets}
use Rattle.seq_kernel.proofs.RefineCallsRead.{read_fits}
use Rattle.seq_kernel.proofs.RefineCallsWrite.{write_fits}
use Rattle.seq_kernel.proofs.RefineStepsInstruction.{process_there, process_lives}
use Rattle.seq_kernel.proofs.RefineStepsSeen.{same_memory}

-- a register in which the halves agree is that of the unstruck half
pub same_register : (pair : Pair) (i : ℕ) → slice_index pair.a.x i ≡ slice_index pair.b.x i → slice_index (unstruck pair).x i ≡ slice_index pair.a.x i
same_register pair i same = go pair.struck
  where
    go : (h : Option Half) → slice_index (unstruck_of h pair.a pair.b).x i ≡ slice_index pair.a.x i
    go None = refl
    go (Some A) = sym same
    go (Some B) = refl

-- the registers of a call are those of the flat process
pub record SameArguments (f : FlatState) (r : Running) : Type 0 where
  pub first : flat.argument f r.pid.0 10 ≡ register r.pair.a 10
  pub second : flat.argument f r.pid.0 11 ≡ register r.pair.a 11
  pub third : flat.argument f r.pid.0 12 ≡ register r.pair.a 12
  pub number : flat.argument f r.pid.0 17 ≡ register r.pair.a 17

pub same_arguments : (f : FlatState) (r : Running) → unstruck r.pair ≡ (process_at f r.pid.0).regs → kernel.agree_on_call r.pair ≡ true → SameArguments f r
same_arguments f r shown agree =
    let pair = r.pair in
    let is = agree_fact pair agree in
    let at : (i : ℕ) → 10 ≤ i → i ≤ 17 → slice_index (process_at f r.pid.0).regs.x i ≡ slice_index pair.a.x i = λ i low high. ap (λ (h : Regs). slice_index h.x i) (sym shown) ∙ same_register pair i (is.argument i low high) in
    record { first = at 10 (omega arith) (omega arith); second = at 11 (omega arith) (omega arith); third = at 12 (omega arith) (omega arith); number = at 17 (omega arith) (omega arith) }

-- the flat machine has one test where the kernel has two
choose_one : (d : MachineDesc) (p : Copies) (s t first second : Bool) (x y z : Turned) (u v : Result FlatState Waits) → s ≡ first → t ≡ second → Fits d p x u → Fits d p y u → Fits d p z v → Fits d p (if s then x else if t then y else z) (if first || second then u else v)
choose_one d p s t first second x y z u v same_first same_second fits_x fits_y fits_z = rw (← same_first, ← same_second) (go s t)
  where
    go : (s t : Bool) → Fits d p (if s then x else if t then y else z) (if s || t then u else v)
    go true t = fits_x
    go false true = fits_y
    go false false = fits_z

module _ (d : MachineDesc) (inputs : List LineInput) (f : FlatState) (p : Copies) (r : Running) (c : Changes) (described : IsDescription d) (running : IsRunning d r) (is : IsFlat d f) (shows : Shows d f (read_by d p c) r) (arrived : (l : ℕ) → has_bit (kernel.lines_of d r) l ≡ true → HoldsInput d p inputs l) where
  module _ (rights : Rights) (lines : rights.lines ≡ kernel.lines_of d r) (grants : rights.grants ≡ (process_of d r.pid.0).grants) (same : SameArguments f r) where
    write_numbered : Fits d p (kernel.write d p r c (register r.pair.a 10) (register r.pair.a 11) (register r.pair.a 12)) (Ok (flat.write rights f r.pid.0 (flat.argument f r.pid.0 10) (flat.argument f r.pid.0 11) (flat.argument f r.pid.0 12)))
    write_numbered step = meets_by d p _ _ _
        (ap (λ n. Ok (flat.write rights f r.pid.0 n (flat.argument f r.pid.0 11) (flat.argument f r.pid.0 12))) same.first
        ∙ ap (λ n. Ok (flat.write rights f r.pid.0 (register r.pair.a 10) n (flat.argument f r.pid.0 12))) same.second
        ∙ ap (λ n. Ok (flat.write rights f r.pid.0 (register r.pair.a 10) (register r.pair.a 11) n)) same.third)
        (write_fits d f r described is running p c shows (register r.pair.a 10) rights (register r.pair.a 11) (register r.pair.a 12) lines (same_memory d f (read_by d p c) r described running is shows) step)

    test : (k : ℕ) → (register r.pair.a 17 == k) ≡ (flat.argument f r.pid.0 17 == k)
    test k = ap (λ n. n == k) (sym same.number)

    answer : (o : Outcome) (n : ℕ) → Fits d p (record { outcome = o; running = answered r n; cache = c }) (Ok (flat.answered f r.pid.0 n))
    answer o n step = answer_meets d f p r c o n is running.within.process shows

    numbered_fits : Fits d p (kernel.numbered d p r c (register r.pair.a)) (flat.kernel_call rights inputs f r.pid.0 (flat.argument f r.pid.0 17))
    unfolding kernel.numbered flat.kernel_call
    numbered_fits =
        choose d p _ _ _ _ _ _ (test 0) (λ _. λ step. meets_by d p _ _ _ (ap (λ n. Ok (flat.ended f r.pid.0 (Exited n))) same.first) (ended_meets d f r is running p c shows rights (NeedsFlush cause.Exit) (Exited (register r.pair.a 10)))) (λ _.
        choose d p _ _ _ _ _ _ (test 1) (λ _. subst (λ n. Fits d p (kernel.acquire d r c (register r.pair.a 10)) (flat.acquire rights f r.pid.0 n)) (sym same.first) (acquire_fits d f r is running p c shows rights (register r.pair.a 10) grants)) (λ _.
        choose d p _ _ _ _ _ _ (test 2) (λ _. subst (λ n. Fits d p (kernel.release d r c (register r.pair.a 10)) (Ok (flat.release f r.pid.0 n))) (sym same.first) (release_fits d f r is running p c shows rights (register r.pair.a 10))) (λ _.
        choose d p _ _ _ _ _ _ (test 3) (λ _. subst (λ n. Fits d p (kernel.read d p r c (register r.pair.a 10)) (flat.read rights inputs f r.pid.0 n)) (sym same.first) (read_fits d f r described is running p c shows rights inputs lines (register r.pair.a 10) (arrived (register r.pair.a 10)))) (λ _.
        choose d p _ _ _ _ _ _ (test 4) (λ _. write_numbered) (λ _.
        choose d p _ _ _ _ _ _ (test 5) (λ _. answer Done r.pid.0) (λ _.
        choose_one d p _ _ _ _ _ _ _ _ _ (test 6) (test 7) (answer (NeedsFlush cause.Commit) 0) (answer (NeedsFlush cause.Yield) 0) (answer Done (flat.minus 9))))))))

  call_fits : Fits d p (kernel.call_of d p r c) (flat.kernel_call (rights_at (rights_of d) r.pid.0) inputs f r.pid.0 (flat.argument f r.pid.0 17))
  unfolding kernel.call_of
  call_fits = cond_both (kernel.agree_on_call r.pair) (kernel.numbered d p r c (register r.pair.a)) (stays Diverged r c)
      (λ after. Fits d p after (flat.kernel_call (rights_at (rights_of d) r.pid.0) inputs f r.pid.0 (flat.argument f r.pid.0 17)))
      (λ agree. numbered_fits (rights_at (rights_of d) r.pid.0) (ap (λ (x : Rights). x.lines) (rights_are d r.pid.0 running.within.process)) (ap (λ (x : Rights). x.grants) (rights_are d r.pid.0 running.within.process)) (same_arguments f r shows.registers agree)) (λ _. λ step. absurd step)

-- what meets the flat call takes the flat step
pub call_taken : (d : MachineDesc) (inputs : List LineInput) (f : FlatState) (p : Copies) (r : Running) (c : Changes) → IsRunning d r → IsFlat d f → Shows d f (read_by d p c) r → (after : Turned) → outcome f r.pid.0 ≡ call → Meets d p after (flat.kernel_call (rights_at (rights_of d) r.pid.0) inputs f r.pid.0 (flat.argument f r.pid.0 17)) → Taken d inputs f p r.pid.0 after
call_taken d inputs f p r c running is shows after called meets = record {
  state = meets.state;
  step = steps_calls (rights_of d) inputs f r.pid.0 (process_there d f r running is) (process_lives d f (read_by d p c) r running shows) (sym (ap plain_effect called)) ∙ meets.is;
  flat = meets.flat;
  shows = meets.shows;
}

-- Wherever a kernel call takes a step, it is the flat machine's.
pub calls_are_flat : CallsTake
calls_are_flat d inputs f p r c described readable running cached is shows arrived called step =
    call_taken d inputs f p r c running is shows (kernel.call_of d p r c) called (call_fits d inputs f p r c described running is shows arrived step)
