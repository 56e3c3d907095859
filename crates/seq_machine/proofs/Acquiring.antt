-- The first turn of the claim of a lock, by the table.
use Rattle.std.proofs.Common.{◌≡◌, ℕ, suc, ◌+◌, ◌-◌, false, ◌==◌, refl, ap, sym, ◌∙◌, inl, inr, add-one}
use Rattle.std.proofs.lemmas.Bool.{cases_Bool, cond-true, cond-false, cond_both}
use Rattle.seq_words.specs.declared.description.MachineDesc.{MachineDesc}
use Rattle.seq_words.specs.declared.names.Seg.{Seg}
use Rattle.seq_layout.specs.Shapes.{Shape, shape_of, segment_extent}
use Rattle.seq_layout.specs.declared.extents.Extent.{Extent}
use Rattle.seq_cache.specs.Changes.{Changes}
use Rattle.seq_process.specs.declared.running.Running.{Running}
use Rattle.seq_kernel.specs.declared.outcomes.Cause.{Cause}
use Rattle.seq_kernel.specs.declared.outcomes.Cause.TheVariants.{Wait}
use Rattle.seq_kernel.specs.declared.outcomes.Reason.TheVariants.{Lock}
use Rattle.seq_kernel.specs.declared.outcomes.Note.TheVariants as note
use Rattle.seq_locks.specs.declared.claim.Claim.{Claim}
use Rattle.seq_locks.specs.declared.claim.Claimed.TheVariants.{Got, Refused}
use Rattle.seq_locks.specs.declared.stages.Shadow.{Shadow}
use Rattle.seq_locks.specs.declared.stages.Primary.{Primary}
use Rattle.seq_locks.specs.Turns.{is_taken, word_at, claim_primary}
use Rattle.seq_turns.specs.declared.hand.Hand.TheVariants as hand
use Rattle.seq_turns.specs.Machines.{Machine, Turn, idles, copies_after}
use Rattle.seq_turns.specs.Machines.Turn.{Moves, Stops}
use Rattle.seq_turns.specs.Reading.{lock_word}
use Rattle.seq_turns.specs.Causes.{agree, flushes, finds}
use Rattle.seq_turns.specs.Processors.{acquisition}
use Rattle.seq_turns.specs.Landed.{lock_claim}
use Rattle.seq_turns.proofs.Landed.{word_is}
use Rattle.seq_machine.specs.Here.{turned, change_of}
use Rattle.seq_machine.specs.declared.turned.Turned.TheVariants.{Moved}

-- the claim that begins is the lock's, for the process
pub claim_is : (d : MachineDesc) (s : Shape) (r : Running) (t : Seg) (e : Extent) (pid : ℕ) → s ≡ shape_of d → e.0 ≡ segment_extent s t.0 → pid ≡ r.pid.0 → (c : Claim Primary) → c ≡ record { at = record { extent = e; word = 0 }; value = pid + 1; stage = record {} } → c ≡ lock_claim d r t
claim_is d s r t e pid shape extent is c same =
    let value : pid + 1 ≡ suc r.pid.0 = add-one pid ∙ ap suc is in
    same ∙ (λ j. record { at = record { extent = record { 0 = (extent ∙ ap (λ x. segment_extent x t.0) shape) j }; word = 0 }; value = value j; stage = record {} })

-- a cause that is found changes no memory
finds_copies : (d : MachineDesc) (m : Machine) (p : ℕ) (r : Running) (cache : Changes) (cause : Cause) (mask : ℕ) → copies_after (change_of (finds d m p r cache cause mask)) m.copies ≡ m.copies
finds_copies d m p r cache cause mask = cond_both (r.steps == 0) _ _ (λ (t : Turn). copies_after (change_of t) m.copies ≡ m.copies) (λ _. refl)
    (λ _. cond_both (agree r.pair) (Moves (record (idles m p) { hand = flushes m p r cause mask; cache = cache; note = note.Found r.pid cause })) Stops (λ (t : Turn). copies_after (change_of t) m.copies ≡ m.copies) (λ _. refl) (λ _. refl))

module _ (d : MachineDesc) (m : Machine) (p : ℕ) (r : Running) (t : Seg) (s : Shape) (shape : s ≡ shape_of d) (begun : Claim Primary) (begins : begun ≡ lock_claim d r t) where
  -- what the code's claim answers is what the table's does
  at_table : {A : Type 0} (x : A) (f : Shape → Claim Primary → A) → x ≡ f s begun → x ≡ f (shape_of d) (lock_claim d r t)
  at_table x f e = e ∙ (λ j. f (shape j) (begins j))

  -- a claim that is got found the primary free
  pub acquisition_got : (c : Claim Shadow) → Got c ≡ (claim_primary s m.copies begun).state → Moved (hand.Acquiring r t c) note.Moved ≡ turned (acquisition d m p r t)
  unfolding claim_primary
  acquisition_got c e =
      let k = at_table (Got c) (λ s' b. (claim_primary s' m.copies b).state) e in
      elim (cases_Bool (is_taken (shape_of d) m.copies (lock_word d t.0) false)) [
        | inl taken ↦ let x = rw taken at k in absurd (cc)
        | inr free ↦
            let x = rw free at k in
            let same : c ≡ record { at = lock_word d t.0; value = suc r.pid.0; stage = record {} } = cc in
            (λ j. Moved (hand.Acquiring r t (same j)) note.Moved) ∙ sym (ap turned (cond-false _ _ _ free))
      ]

  -- one that is refused found it taken, by the process that it names
  pub acquisition_refused : (v : ℕ) → Refused v ≡ (claim_primary s m.copies begun).state → finds d m p r (m.cache p) (Wait (Lock t (record { 0 = v - 1 }))) 0 ≡ acquisition d m p r t
  unfolding claim_primary
  acquisition_refused v e =
      let k = at_table (Refused v) (λ s' b. (claim_primary s' m.copies b).state) e in
      elim (cases_Bool (is_taken (shape_of d) m.copies (lock_word d t.0) false)) [
        | inl taken ↦
            let x = rw taken at k in
            let same : v ≡ word_at m.copies (lock_word d t.0) false = cc in
            (λ j. finds d m p r (m.cache p) (Wait (Lock t (record { 0 = same j - 1 }))) 0) ∙ sym (cond-true _ _ _ taken)
        | inr free ↦ let x = rw free at k in absurd (cc)
      ]

  pub refused_named : (v : ℕ) → Refused v ≡ (claim_primary s m.copies begun).state → v ≡ word_at m.copies (lock_word d t.0) false
  unfolding claim_primary
  refused_named v e =
      let k = at_table (Refused v) (λ s' b. (claim_primary s' m.copies b).state) e in
      elim (cases_Bool (is_taken (shape_of d) m.copies (lock_word d t.0) false)) [
        | inl taken ↦ let x = rw taken at k in cc
        | inr free ↦ let x = rw free at k in absurd (cc)
      ]

  pub acquisition_copies : (claim_primary s m.copies begun).copies ≡ copies_after (change_of (acquisition d m p r t)) m.copies
  unfolding claim_primary
  acquisition_copies =
      let here = at_table (claim_primary s m.copies begun).copies (λ s' b. (claim_primary s' m.copies b).copies) refl in
      here ∙ elim (cases_Bool (is_taken (shape_of d) m.copies (lock_word d t.0) false)) [
        | inl taken ↦ rw taken (sym (finds_copies d m p r (m.cache p) (Wait (Lock t (record { 0 = word_at m.copies (lock_word d t.0) false - 1 }))) 0))
        | inr free ↦ rw free (word_is d m.copies (lock_word d t.0).extent.0 0 false (suc r.pid.0))
      ]
