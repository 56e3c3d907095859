-- A cause that is found keeps what the hand knows: the flush begins, or what follows it.
use Rattle.std.proofs.Common.{◌≡◌, ℕ, ◌+◌, Bool, true, ◌==◌, List, [], ◌∷◌, refl, sym, ap, ◌∙◌, subst}
use Rattle.std.proofs.lemmas.Bool.{cond_both, and_parts, eqb-true, false≢true}
use Rattle.seq_words.specs.Description.{IsDescription}
use Rattle.seq_words.specs.declared.description.MachineDesc.{MachineDesc}
use Rattle.seq_pair.specs.declared.halves.Pair.{Pair}
use Rattle.seq_layout.specs.Shapes.{shape_of}
use Rattle.seq_process.specs.declared.running.Running.{Running}
use Rattle.seq_cache.specs.Changes.{Changes}
use Rattle.seq_kernel.specs.declared.outcomes.Cause.{Cause}
use Rattle.std.proofs.Common.{false, ◌-◌, ◌<◌, length, inl, inr, arith}
use Rattle.std.proofs.lemmas.Bool.{cases_lt}
use Rattle.seq_memory.specs.States.{is_in_service}
use Rattle.seq_layout.specs.Places.{memory_of, IsPlace}
use Rattle.seq_layout.specs.Copies.{serves}
use Rattle.seq_layout.specs.Contexts.{context_blocks}
use Rattle.seq_process.specs.Contexts.{saved}
use Rattle.seq_cache.specs.declared.change.Change.{Change}
use Rattle.seq_flush.specs.Turns.{no_change, unit_at}
use Rattle.seq_flush.specs.Facts.{AreApart, all_written}
use Rattle.seq_flush.proofs.Numbered.{length_units, unit_changed, unit_context}
use Rattle.seq_flush.proofs.Standing.{all_stand}
use Rattle.seq_flush.proofs.Layer.{writing_is_one_layer}
use Rattle.seq_image.specs.Areas.{AreAlike, in_area}
use Rattle.seq_image.specs.Flushing.{with_units, AreFlushed}
use Rattle.seq_image.proofs.WholeImages.{image_is_whole}
use Rattle.seq_invariant.specs.BlockHands.{committed_copies}
use Rattle.seq_image.specs.Flushing.{flushed}
use Rattle.seq_image.proofs.FlushedImages.{flush_makes_image}
use Rattle.seq_image.proofs.FlushedUnits.{flush_stays_inside}
use Rattle.seq_image.specs.Ahead.{over_image}
use Rattle.seq_turns.specs.Machines.{Machine}
use Rattle.seq_turns.specs.Causes.{same_numbers, agree, finds}
use Rattle.seq_invariant.specs.BlockAreas.{BothHold}
use Rattle.seq_invariant.specs.BlockWorks.{with_commit, Committed, committed_blocks, one_more, Works, Rested, Make}
use Rattle.seq_invariant.specs.BlockHands.{Suits, AreCommitted}
use Rattle.seq_invariant.proofs.BlockCommits.{one_more_here}
use Rattle.seq_invariant.proofs.BlockFollows.{wholes, follows_knows}
use Rattle.seq_invariant.proofs.Units.{none_committed}
use Rattle.seq_invariant.specs.BlockTurns.{AfterTurn}

same_lists : (xs ys : List ℕ) → same_numbers xs ys ≡ true → xs ≡ ys
same_lists [] [] e = refl
same_lists [] (y ∷ ys) e = absurd (false≢true e)
same_lists (x ∷ xs) [] e = absurd (false≢true e)
same_lists (x ∷ xs) (y ∷ ys) e =
    let parts = and_parts (x == y) (same_numbers xs ys) e in
    let first : x ≡ y = eqb-true x y parts.0 in
    let rest : xs ≡ ys = same_lists xs ys parts.1 in
    λ i. first i ∷ rest i

-- halves that are found to agree are the same
pub agree_same : (pair : Pair) → agree pair ≡ true → pair.a ≡ pair.b
unfolding agree
agree_same pair e =
    let parts = and_parts (pair.a.pc == pair.b.pc) (same_numbers pair.a.x pair.b.x) e in
    let pc : pair.a.pc ≡ pair.b.pc = eqb-true pair.a.pc pair.b.pc parts.0 in
    let x : pair.a.x ≡ pair.b.x = same_lists pair.a.x pair.b.x parts.1 in
    λ i. record { x = x i; pc = pc i }

-- a unit that is apart from the others is what its units leave at its place
unit_there : (d : MachineDesc) (at : Committed) (us : List Change) (k : ℕ) → AreApart us → k < length us → with_units us (committed_blocks d at) (unit_at us k).extent.0 (unit_at us k).place ≡ (unit_at us k).block
unit_there d at us k apart lt =
    let p = committed_copies d at in
    let u = unit_at us k in
    let still : serves (shape_of d) (all_written (shape_of d) p false us) u.extent.0 false ≡ true = ap (λ x. is_in_service (x (memory_of d.memories u.extent.0 false))) (writing_is_one_layer (shape_of d) p false us).states in
    sym ((writing_is_one_layer (shape_of d) p false us).layer apart u.extent.0 u.place refl) ∙ (all_stand (shape_of d) p false us apart).each k lt still

-- the units of a flush of a process whose halves are the same
pub makes : (d : MachineDesc) (at : Committed) (segments : ℕ → Bool) (r : Running) (c : Changes) → IsDescription d → r.pair.a ≡ r.pair.b → (works : Works d at segments r c) → Make d at segments r.pid.0 (flushed r c) works.ahead.state
makes d at segments r c described same works = record {
  units = record { apart = units.apart; avoid = units.avoid; places = places; whole = whole };
  blocks = blocks;
}
  where
    units : AreFlushed d segments r c
    units = flush_stays_inside d works.ahead.state segments (over_image d at.state at.commits c) r c described works.ahead.cache works.ahead.flush

    blocks : AreAlike (in_area d r.pid.0 segments) (with_units (flushed r c) (committed_blocks d at)) (committed_blocks d (with_commit at r.pid.0 works.ahead.state))
    blocks = flush_makes_image d at.state works.ahead.state at.commits (one_more r.pid.0 at.commits) segments (over_image d at.state at.commits c) r c described works.ahead.flush same
        (one_more_here r.pid.0 at.commits ∙ ap (λ n. n + 1) (sym works.ahead.counts)) (record { each = λ e n inside. refl })

    inside : (k : ℕ) → k < length (flushed r c) → (b : Bool) → in_area d r.pid.0 segments (unit_at (flushed r c) k).extent.0 ≡ b → in_area d r.pid.0 segments (unit_at (flushed r c) k).extent.0 ≡ true
    inside k lt true is = is
    inside k lt false is = absurd ((units.avoid (unit_at (flushed r c) k).extent.0 is).each k lt refl)

    whole : (k : ℕ) → k < length (flushed r c) → length (unit_at (flushed r c) k).block.bytes ≡ 32
    whole k lt =
        let u = unit_at (flushed r c) k in
        let e : u.block ≡ committed_blocks d (with_commit at r.pid.0 works.ahead.state) u.extent.0 u.place = sym (unit_there d at (flushed r c) k units.apart lt) ∙ blocks.each u.extent.0 u.place (inside k lt (in_area d r.pid.0 segments u.extent.0) refl) in
        ap (λ b. length b.bytes) e ∙ image_is_whole d works.ahead.state (one_more r.pid.0 at.commits) u.extent.0 u.place

    places : (k : ℕ) → k < length (flushed r c) → IsPlace (shape_of d).blocks (unit_at (flushed r c) k).extent.0 (unit_at (flushed r c) k).place
    places k lt =
        let context = context_blocks (saved r r.pair.a) in
        let below : k < length c.changes + 8 = omega (arith, lt, length_units r.pid.0 context c.changes) in
        elim (cases_lt k (length c.changes)) [
          | inl change ↦ subst (λ (u : Change). IsPlace (shape_of d).blocks u.extent.0 u.place) (sym (unit_changed r.pid.0 context c.changes k no_change change)) (units.places.changed k no_change change).place
          | inr past ↦ subst (λ (u : Change). IsPlace (shape_of d).blocks u.extent.0 u.place) (sym (unit_context r.pid.0 context c.changes k past below)) (units.places.context (k - length c.changes) (omega (arith, past, below)))
        ]

module _ (d : MachineDesc) (described : IsDescription d) (at : Committed) (m : Machine) (p : ℕ) (r : Running) (c : Changes) (why : Cause) (mask : ℕ)
    (works : Works d at (wholes r mask) r c) (both : BothHold (shape_of d) m.copies (in_area d r.pid.0 (wholes r mask)) (committed_blocks d at)) (clean : r.steps ≡ 0 → c.changes ≡ []) (suits : Suits why mask r) where
  rested : r.steps ≡ 0 → Rested d at (wholes r mask) r c
  rested none = record {
    works = subst (Works d at (wholes r mask) r) (λ i. record { capacity = c.capacity; changes = clean none i }) works;
    none = none;
  }

  cached : r.steps ≡ 0 → AreCommitted d at (in_area d r.pid.0 (wholes r mask)) c.changes
  cached none = subst (AreCommitted d at (in_area d r.pid.0 (wholes r mask))) (sym (clean none)) (none_committed (in_area d r.pid.0 (wholes r mask)) (committed_blocks d at))

  pub found_knows : AfterTurn d at m (finds d m p r c why mask)
  found_knows = cond_both (r.steps == 0) _ _ (AfterTurn d at m)
      (λ z. let none = eqb-true r.steps 0 z in follows_knows d at m.copies c r why mask (clean none) suits (record { rested = rested none; both = both; cached = cached none }))
      (λ _. cond_both (agree r.pair) _ _ (AfterTurn d at m)
      (λ same. (record { works = works; make = makes d at (wholes r mask) r c described (agree_same r.pair same) works; both = both }, suits))
      (λ _. tt))
