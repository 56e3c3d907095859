-- The second turn of a process's claim: the process is taken up from what was committed.
use Rattle.std.proofs.Math.Path.{fun_ext}
use Rattle.std.proofs.Common.{◌≡◌, ℕ, ◌<◌, ◌≤◌, Bool, true, false, length, inl, inr, refl, sym, ap, ◌∙◌, subst, arith}
use Rattle.std.proofs.lemmas.Bool.{cond_both, cases_lt}
use Rattle.std.proofs.lemmas.List.{get_or_past}
use Rattle.seq_words.specs.Masks.{has_bit}
use Rattle.seq_words.specs.Description.{IsDescription}
use Rattle.seq_words.specs.declared.description.MachineDesc.{MachineDesc}
use Rattle.seq_flat.specs.declared.state.End.{End}
use Rattle.seq_flat.specs.declared.state.End.TheVariants.{Live, Exited, Trapped}
use Rattle.seq_flat.specs.State.{no_segment, process_at}
use Rattle.seq_flat.specs.Memory.{is_owner}
use Rattle.seq_layout.specs.Shapes.{shape_of}
use Rattle.seq_layout.specs.Copies.{Copies, IsServed, first_block}
use Rattle.seq_process.specs.declared.running.Running.{Running}
use Rattle.seq_process.specs.Contexts.{started, end_of}
use Rattle.seq_cache.specs.Changes.{Changes, IsCache}
use Rattle.seq_locks.specs.declared.claim.Claim.{Claim}
use Rattle.seq_locks.specs.declared.stages.Shadow as shadow_stage
use Rattle.seq_locks.specs.Turns.{is_taken}
use Rattle.seq_runs.specs.Areas.{HoldsWithin}
use Rattle.seq_runs.specs.Ahead as alone
use Rattle.seq_runs.proofs.Ahead.{starts_ahead}
use Rattle.seq_image.specs.Images as images
use Rattle.seq_image.specs.Areas.{in_area, owned_by}
use Rattle.seq_flat.specs.Reached.{IsReached}
use Rattle.seq_image.specs.Starting.{taken_up}
use Rattle.seq_image.proofs.ContextsRead.{has_lengths, end_is}
use Rattle.seq_image.proofs.TakenUp.{image_is_taken_up}
use Rattle.seq_image.specs.Depends.{AreWhole}
use Rattle.seq_image.specs.Ahead.{RunsAhead, emptied}
use Rattle.seq_image.proofs.StaysAhead.{taken_up_runs_ahead}
use Rattle.seq_turns.specs.declared.hand.Hand.TheVariants as hand
use Rattle.seq_turns.specs.Machines.{Machine, copies_after}
use Rattle.seq_turns.specs.Reading.{context_of}
use Rattle.seq_turns.specs.Operations.{sets, claims}
use Rattle.seq_turns.specs.Operations as operations
use Rattle.seq_invariant.specs.BlockAreas.{segments_of, BothHold}
use Rattle.seq_invariant.specs.BlockWorks.{Committed, committed_blocks, Works}
use Rattle.seq_invariant.specs.BlockHands.{Runs, HandKnows}
use Rattle.seq_invariant.specs.BlockTurns.{AfterMove}
use Rattle.seq_invariant.proofs.BlockCopies.{word_same, same_keeps}
use Rattle.seq_invariant.proofs.BlockStays.{runs_kept}
use Rattle.seq_invariant.proofs.BlockShrinks.{some_same}
use Rattle.seq_invariant.proofs.BlockFollows.{whole_is}
use Rattle.seq_invariant.proofs.BlockSteps.{first_holds, works_same, both_same}
use Rattle.seq_invariant.proofs.BlockStops.{empty_cache}
use Rattle.seq_invariant.proofs.BlockContexts.{context_is}

module _ (d : MachineDesc) (described : IsDescription d) (at : Committed) (p : Copies) (q : ℕ) (reached : IsReached d at.state) (there : q < length d.processes)
    (whole : AreWhole (first_block (shape_of d) p)) (served : (e : ℕ) → IsServed (shape_of d) p e) (both : BothHold (shape_of d) p (in_area d q (owned_by at.state q)) (committed_blocks d at)) where
  -- the context that is read is that of the image
  pub context_read_is : context_of d p q ≡ images.context_of d at.state q (at.commits q)
  context_read_is = context_is d p q (images.context_of d at.state q (at.commits q)) (has_lengths d at.state q (at.commits q) described reached)
      (image_is_taken_up d at.state at.commits (first_block (shape_of d) p) q described reached there whole.block
      (first_holds (shape_of d) p (in_area d q (owned_by at.state q)) (committed_blocks d at) served both)).blocks

  module _ (c : Changes) (cache : IsCache c) (lives : (process_at at.state q).end ≡ Live) where
    abbrev r : Running
    r = taken_up d at.state q (at.commits q)

    runs : RunsAhead d at.inputs at.state at.commits (owned_by at.state q) r (emptied c)
    runs = taken_up_runs_ahead d at.inputs at.state at.commits c.capacity q described reached there lives (empty_cache c cache)

    holds : HoldsWithin (owned_by at.state q) q at.state
    holds = record { segment = λ s held. held }

    taken_works : Works d at (owned_by at.state q) r (emptied c)
    taken_works =
        let alone0 : alone.IsAhead d at.inputs (owned_by at.state q) q 0 at.state at.state = starts_ahead d at.inputs (owned_by at.state q) q at.state holds in
        let same : at.state ≡ runs.ahead.state = some_same (sym alone0.leads ∙ runs.ahead.steps) in
        record {
          ahead = runs.ahead;
          alone = subst (λ x. alone.IsAhead d at.inputs (owned_by at.state q) q 0 at.state x) same alone0;
          reached = subst (IsReached d) same reached;
          equal = λ none. refl;
        }

    area_taken : owned_by at.state q ≡ segments_of d (hand.Running r)
    area_taken = fun_ext (λ t. go t ∙ sym (whole_is (has_bit r.held t) q))
      where
        unheld : (t : ℕ) → length d.segments ≤ t → (b : Bool) → has_bit r.held t ≡ b → has_bit r.held t ≡ false
        unheld t past true is = absurd (let lt = runs.ahead.flush.within.held t is in let x : ⊥ = omega (arith, past, lt) in x)
        unheld t past false is = is

        go : (t : ℕ) → owned_by at.state q t ≡ has_bit r.held t
        go t = elim (cases_lt t (length d.segments)) [
          | inl lt ↦ runs.held t lt
          | inr past ↦ ap (λ s. is_owner q s.owner) (get_or_past at.state.segments t no_segment (omega (arith, past, reached.flat.segments))) ∙ sym (unheld t past (has_bit r.held t) refl)
        ]

    pub taken_runs : Runs d at (segments_of d (hand.Running r)) p (emptied c) r
    taken_runs = record {
      works = works_same d at p (owned_by at.state q) (segments_of d (hand.Running r)) area_taken r (emptied c) taken_works;
      live = runs.running.live;
      own = runs.own;
      clean = λ none. refl;
      both = both_same d at p (owned_by at.state q) (segments_of d (hand.Running r)) area_taken q q refl both;
    }

module _ (d : MachineDesc) (described : IsDescription d) (at : Committed) (m : Machine) (p q : ℕ) (now : Claim shadow_stage.Shadow) (reached : IsReached d at.state) (there : q < length d.processes)
    (whole : AreWhole (first_block (shape_of d) m.copies)) (served : (e : ℕ) → IsServed (shape_of d) m.copies e) (both : BothHold (shape_of d) m.copies (in_area d q (owned_by at.state q)) (committed_blocks d at)) (cache : IsCache (m.cache p)) where
  abbrev after : Copies
  after = copies_after (sets d m now.at true now.value) m.copies

  read : context_of d m.copies q ≡ images.context_of d at.state q (at.commits q)
  read = context_read_is d described at m.copies q reached there whole served both

  runs_after : (r : Running) → Runs d at (segments_of d (hand.Running r)) m.copies (emptied (m.cache p)) r → Runs d at (segments_of d (hand.Running r)) after (emptied (m.cache p)) r
  runs_after r k =
      let same = word_same d m.copies now.at.extent.0 now.at.word true now.value in
      runs_kept d at m.copies after (emptied (m.cache p)) (segments_of d (hand.Running r)) r (record { primaries = same_keeps (shape_of d) m.copies after false _ same; shadows = same_keeps (shape_of d) m.copies after true _ same }) k

  taken : (e : End) → end_of (context_of d m.copies q) ≡ e → HandKnows d at after (emptied (m.cache p)) (operations.taken_up d m q e)
  taken Live is =
      let lives : (process_at at.state q).end ≡ Live = sym (ap end_of read ∙ end_is d at.state q (at.commits q) described reached) ∙ is in
      subst (λ x. Runs d at (segments_of d (hand.Running (started (record { 0 = q }) x))) after (emptied (m.cache p)) (started (record { 0 = q }) x)) (sym read)
      (runs_after (taken_up d at.state q (at.commits q)) (taken_runs d described at m.copies q reached there whole served both (m.cache p) cache lives))
  taken (Exited code) is = tt
  taken (Trapped cause pc) is = tt

  pub claims_knows : AfterMove d at m (claims d m p q now)
  claims_knows = cond_both (is_taken (shape_of d) m.copies now.at true) _ _ (AfterMove d at m) (λ _. tt) (λ _. taken (end_of (context_of d m.copies q)) refl)
