-- The turns of a process that runs, or acquires, change words of that process alone.
use Rattle.std.proofs.Common.{◌≡◌, ◌≢◌, ℕ, suc, ◌-◌, ◌==◌, Bool, true, false, nat_le, if◌then◌else◌, refl, ap, sym, ◌∙◌, subst, arith}
use Rattle.std.proofs.lemmas.Bool.{cond_both, false≢true}
use Rattle.seq_words.specs.declared.description.MachineDesc.{MachineDesc}
use Rattle.seq_words.specs.declared.names.Seg.{Seg}
use Rattle.seq_layout.specs.Shapes.{shape_of, segment_extent}
use Rattle.seq_layout.specs.Copies.{serves}
use Rattle.seq_process.specs.declared.running.Running.{Running}
use Rattle.seq_cache.specs.Changes.{Changes}
use Rattle.seq_kernel.specs.declared.outcomes.Cause.{Cause}
use Rattle.seq_kernel.specs.declared.outcomes.Cause.TheVariants as cause
use Rattle.seq_kernel.specs.declared.outcomes.Reason.TheVariants as reason
use Rattle.seq_kernel.specs.declared.outcomes.Outcome.{Outcome}
use Rattle.seq_kernel.specs.declared.outcomes.Outcome.TheVariants as outcome
use Rattle.seq_kernel.specs.Turns.{Turned}
use Rattle.seq_kernel.specs.Steps.{step_of}
use Rattle.seq_locks.specs.declared.claim.Claim.{Claim}
use Rattle.seq_locks.specs.declared.stages.Shadow as shadow_stage
use Rattle.seq_locks.specs.Turns.{is_taken, word_at}
use Rattle.seq_layout.specs.declared.units.WordAt.{WordAt}
use Rattle.seq_turns.specs.Machines.{Machine}
use Rattle.seq_turns.specs.Reading.{lock_word, write_word}
use Rattle.seq_turns.specs.Causes.{agree, finds, released}
use Rattle.seq_turns.specs.Operations.{acquires}
use Rattle.seq_turns.specs.Processors.{acquisition, after_step, runs}
use Rattle.seq_stands.specs.Grips.Kind.{Run}
use Rattle.seq_stands.specs.Grips.Stage.{Holding}
use Rattle.seq_stands.specs.Grips.Grip.{On}
use Rattle.seq_stands.proofs.Flushes.{follows_grip}
use Rattle.seq_stands.proofs.LockTurns.{only_unchanged}
use Rattle.seq_stands.proofs.Seeks.{free_from}
use Rattle.seq_stands.proofs.Steps.{step_same}
use Rattle.seq_invariant.proofs.Kept.{LeavesNames, unchanged_quiet, word_quiet, only_names, shadow_names, primary_names}
use Rattle.seq_invariant.proofs.Tame.{TurnIsTame}

module _ (d : MachineDesc) (m : Machine) (p : ℕ) where
  -- a cause is found
  pub finds_tame : (r : Running) (cache : Changes) (c : Cause) (mask : ℕ) → TurnIsTame d m r.pid.0 (finds d m p r cache c mask)
  finds_tame r cache c mask = cond_both (r.steps == 0) _ _ (TurnIsTame d m r.pid.0)
      (λ _. record {
        tame = record { stage = Holding Run; gripped = follows_grip d r c mask; calm = λ x. x; names = only_names d m.copies r.pid.0 _ (only_unchanged d r.pid.0); none = refl };
        quiet = unchanged_quiet d;
      })
      (λ _. cond_both (agree r.pair) _ _ (TurnIsTame d m r.pid.0)
      (λ _. record {
        tame = record { stage = Holding Run; gripped = refl; calm = λ x. x; names = only_names d m.copies r.pid.0 _ (only_unchanged d r.pid.0); none = refl };
        quiet = unchanged_quiet d;
      })
      (λ _. tt))

  -- the primary of a lock word that is claimed named nobody
  unnamed : (t : ℕ) → is_taken (shape_of d) m.copies (lock_word d t) false ≡ false → serves (shape_of d) m.copies (segment_extent (shape_of d) t) false ≡ true → (x : ℕ) → m.copies.word (segment_extent (shape_of d) t) 0 false ≢ suc x
  unnamed t free up x e =
      let zero : m.copies.word (segment_extent (shape_of d) t) 0 false ≡ 0 = sym (served (serves (shape_of d) m.copies (segment_extent (shape_of d) t) false) up) ∙ free_from (serves (shape_of d) m.copies (segment_extent (shape_of d) t) false) (m.copies.word (segment_extent (shape_of d) t) 0 false) free in
      let c : ⊥ = omega (arith, zero, e) in c
    where
      served : (b : Bool) → b ≡ true → (if b then m.copies.word (segment_extent (shape_of d) t) 0 false else 0) ≡ m.copies.word (segment_extent (shape_of d) t) 0 false
      served true h = refl
      served false h = absurd (false≢true h)

  pub acquisition_tame : (r : Running) (t : Seg) → TurnIsTame d m r.pid.0 (acquisition d m p r t)
  acquisition_tame r t = cond_both (is_taken (shape_of d) m.copies (lock_word d t.0) false) _ _ (TurnIsTame d m r.pid.0)
      (λ _. finds_tame r (m.cache p) (cause.Wait (reason.Lock t (record { 0 = word_at m.copies (lock_word d t.0) false - 1 }))) 0)
      (λ free. record {
        tame = record {
          stage = Holding Run;
          gripped = refl;
          calm = λ x. x;
          names = primary_names d m.copies r.pid.0 t.0 (suc r.pid.0) (λ up x ne. unnamed t.0 free up x) (λ x ne e. ne (let c : x ≡ r.pid.0 = omega (arith, e) in c));
          none = refl;
        };
        quiet = word_quiet d m.copies (segment_extent (shape_of d) t.0) 0 false (suc r.pid.0);
      })

  after_step_tame : (r : Running) (t : Turned) (o : Outcome) → t.running.pid ≡ r.pid → TurnIsTame d m r.pid.0 (after_step d m p r t o)
  after_step_tame r t outcome.Done same = record {
    tame = record { stage = Holding Run; gripped = ap (λ q. On q.0 (Holding Run)) same; calm = λ x. x; names = only_names d m.copies r.pid.0 _ (only_unchanged d r.pid.0); none = refl };
    quiet = unchanged_quiet d;
  }
  after_step_tame r t (outcome.Claim s) same = acquisition_tame r s
  after_step_tame r t (outcome.NeedsFlush c) same = subst (λ q. TurnIsTame d m q.0 (finds d m p t.running t.cache c (released r.held c))) same (finds_tame t.running t.cache c (released r.held c))
  after_step_tame r t (outcome.Waits why) same = finds_tame r (m.cache p) (cause.Wait why) 0
  after_step_tame r t outcome.Diverged same = tt

  -- a turn of a process that runs
  pub runs_tame : (r : Running) → TurnIsTame d m r.pid.0 (runs d m p r)
  runs_tame r = cond_both (nat_le d.quantum r.used) _ _ (TurnIsTame d m r.pid.0) (λ _. finds_tame r (m.cache p) cause.Quantum 0)
      (λ _. after_step_tame r (step_of d m.copies r (m.cache p)) (step_of d m.copies r (m.cache p)).outcome (step_same d m.copies r (m.cache p)).pid)

  -- the second turn of an acquire
  pub acquires_tame : (r : Running) (t : Seg) (c : Claim shadow_stage.Shadow) → c.at ≡ lock_word d t.0 → TurnIsTame d m r.pid.0 (acquires d m p r t c)
  acquires_tame r t c place = cond_both (is_taken (shape_of d) m.copies c.at true) _ _ (TurnIsTame d m r.pid.0)
      (λ _. finds_tame r (m.cache p) (cause.Wait (reason.Lock t (record { 0 = word_at m.copies c.at true - 1 }))) 0)
      (λ _. record {
        tame = record {
          stage = Holding Run;
          gripped = refl;
          calm = λ x. x;
          names = subst (λ (w : WordAt). LeavesNames d m.copies r.pid.0 (write_word d m.copies w.extent.0 w.word true c.value)) (sym place) (shadow_names d m.copies r.pid.0 t.0 c.value);
          none = refl;
        };
        quiet = word_quiet d m.copies c.at.extent.0 c.at.word true c.value;
      })
