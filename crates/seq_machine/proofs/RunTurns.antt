-- The turn of a running process by the outcome of its step.
use Rattle.std.proofs.Common.{◌≡◌, ℕ, ◌<◌, ◌≤◌, true, false, nat_le, length, refl, sym, ◌∙◌, subst, arith}
use Rattle.std.proofs.lemmas.Bool.{cond-true, cond-false}
use Rattle.seq_words.specs.Description.{IsDescription}
use Rattle.seq_words.specs.declared.names.Seg.{Seg}
use Rattle.seq_words.specs.declared.description.MachineDesc.{MachineDesc}
use Rattle.seq_flat.specs.declared.state.End.TheVariants.{Live}
use Rattle.seq_layout.specs.Copies.{Copies}
use Rattle.seq_process.specs.declared.running.Running.{Running}
use Rattle.seq_cache.specs.Changes.{Changes}
use Rattle.seq_kernel.specs.Bounds.{IsWithin, AreReadable}
use Rattle.seq_kernel.specs.Kept.{KeepsBounds, IsUnchanged}
use Rattle.seq_kernel.specs.Steps.{step_of}
use Rattle.seq_kernel.specs.Refinement.{takes_step}
use Rattle.seq_kernel.specs.declared.outcomes.Outcome.{Outcome}
use Rattle.seq_kernel.specs.declared.outcomes.Outcome.TheVariants.{Done, Claim, NeedsFlush, Waits, Diverged}
use Rattle.seq_kernel.specs.declared.outcomes.Cause.TheVariants.{Release, Wait, Quantum}
use Rattle.seq_kernel.specs.declared.outcomes.Note.TheVariants as note
use Rattle.seq_kernel.proofs.KeptSteps.{steps_keep_bounds}
use Rattle.seq_kernel.proofs.TurnCauses.{turns_have_their_cause}
use Rattle.seq_turns.specs.declared.hand.Hand.TheVariants as hand
use Rattle.seq_turns.specs.Machines.{idles}
use Rattle.seq_turns.specs.Machines.Turn.{Moves}
use Rattle.seq_turns.specs.Causes.{finds}
use Rattle.seq_turns.specs.Processors.{after_step, acquisition, runs}
use Rattle.seq_machine.specs.Here.{here}
use Rattle.seq_machine.specs.Needs.{MayBeSaved}
use Rattle.seq_machine.specs.Runs.{comes_to, turn_after}
use Rattle.seq_machine.specs.declared.runs.Ran.TheVariants.{Acquires, Leaves}

module _ (d : MachineDesc) (p : Copies) (r : Running) (c : Changes) where
  -- a segment that a step gives up, or asks for, is one of the machine's
  pub given_up : (t : Seg) → (step_of d p r c).outcome ≡ NeedsFlush (Release t) → t.0 < length d.segments
  given_up t e =
      let both = ((turns_have_their_cause d p r c).flushes (Release t) (λ i. absurd (let x : ⊥ = cc in x)) (λ i. absurd (let x : ⊥ = cc in x))).0 e in
      both.1.known

  pub asked_for : (t : Seg) → (step_of d p r c).outcome ≡ Claim t → t.0 < length d.segments
  asked_for t e =
      let both = ((turns_have_their_cause d p r c).claims t).0 e in
      both.1.known

  -- where no step is taken, nothing changes
  unchanged : (o : Outcome) → (step_of d p r c).outcome ≡ o → (takes_step o → ⊥) → IsUnchanged r c (step_of d p r c)
  unchanged o e none = (turns_have_their_cause d p r c).unchanged (λ taken. none (subst takes_step e taken))

  -- what the table makes of an outcome, by what the step leaves
  after_is : (q i : ℕ) (o : Outcome) → (step_of d p r c).outcome ≡ o → (step_of d p r c).running.pid ≡ r.pid
      → after_step d (here p c i) q r (step_of d p r c) o ≡ turn_after d (here p (step_of d p r c).cache i) q (step_of d p r c).running (step_of d p r c).cache (comes_to r.held o)
  after_is q i Done e same = λ j. Moves (record (idles (here p c i) q) { hand = hand.Running (step_of d p r c).running; cache = (step_of d p r c).cache; note = note.Ran (sym same j) })
  after_is q i (Claim t) e same =
      let u = unchanged (Claim t) e (λ x. x) in
      λ j. acquisition d (here p (sym u.cache j) i) q (sym u.running j) t
  after_is q i (NeedsFlush cause) e same = refl
  after_is q i (Waits reason) e same =
      let u = unchanged (Waits reason) e (λ x. x) in
      λ j. finds d (here p c i) q (sym u.running j) (sym u.cache j) (Wait reason) 0
  after_is q i Diverged e same = refl

  -- a process with a step left takes it
  pub turn_is : (q i : ℕ) (o : Outcome) (r' : Running) (c' : Changes) → r.used < d.quantum → o ≡ (step_of d p r c).outcome → r' ≡ (step_of d p r c).running → c' ≡ (step_of d p r c).cache
      → (step_of d p r c).running.pid ≡ r.pid → runs d (here p c i) q r ≡ turn_after d (here p c' i) q r' c' (comes_to r.held o)
  turn_is q i o r' c' left eo er ec same =
      let unspent : nat_le d.quantum r.used ≡ false = grind (arith, left) in
      cond-false (nat_le d.quantum r.used) (finds d (here p c i) q r c Quantum 0) (after_step d (here p c i) q r (step_of d p r c) (step_of d p r c).outcome) unspent
      ∙ after_is q i (step_of d p r c).outcome refl same
      ∙ (λ j. turn_after d (here p (sym ec j) i) q (sym er j) (sym ec j) (comes_to r.held (sym eo j)))

  -- a process that has none is left
  pub spent_is : (q i : ℕ) → d.quantum ≤ r.used → runs d (here p c i) q r ≡ turn_after d (here p c i) q r c (Leaves Quantum 0)
  spent_is q i over =
      let spent : nat_le d.quantum r.used ≡ true = grind (arith, over) in
      cond-true (nat_le d.quantum r.used) (finds d (here p c i) q r c Quantum 0) (after_step d (here p c i) q r (step_of d p r c) (step_of d p r c).outcome) spent

  -- it stays within its bounds
  kept : IsDescription d → AreReadable d p → IsWithin d r → r.end ≡ Live → r.used < d.quantum → KeepsBounds d r c (step_of d p r c)
  kept desc readable within live left = steps_keep_bounds d p r c desc readable (record { within = within; live = live; left = left })

  pub pid_is : IsDescription d → AreReadable d p → IsWithin d r → r.end ≡ Live → r.used < d.quantum → (step_of d p r c).running.pid ≡ r.pid
  pid_is desc readable within live left = (kept desc readable within live left).process

  pub may_be_saved : (r' : Running) → r' ≡ (step_of d p r c).running → IsDescription d → AreReadable d p → IsWithin d r → MayBeSaved r → r.end ≡ Live → r.used < d.quantum → MayBeSaved r'
  may_be_saved r' e desc readable within may live left =
      let k = kept desc readable within live left in
      subst MayBeSaved (sym e) (record { aligned = k.within.aligned; zeros = k.zeros may.zeros; commits = rw k.commits may.commits })

-- only a claim acquires
pub acquired : (held : ℕ) (o : Outcome) (t : Seg) → comes_to held o ≡ Acquires t → o ≡ Claim t
acquired held Done t e = absurd (let x : ⊥ = cc in x)
acquired held (Claim u) t e = cc
acquired held (NeedsFlush cause) t e = absurd (let x : ⊥ = cc in x)
acquired held (Waits reason) t e = absurd (let x : ⊥ = cc in x)
acquired held Diverged t e = absurd (let x : ⊥ = cc in x)
