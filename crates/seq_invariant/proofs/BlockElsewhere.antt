-- What is committed changes nothing outside the area of its process.
use Rattle.std.proofs.Common.{◌≡◌, ◌≢◌, ◌⊎◌, ℕ, ◌+◌, ◌-◌, ◌<◌, Bool, true, false, length, inl, inr, sym, ap, ◌∙◌, subst, arith}
use Rattle.std.proofs.lemmas.Bool.{cases_Bool, cases_lt, true≢false, false≢true}
use Rattle.seq_words.specs.Masks.{has_bit}
use Rattle.seq_words.specs.Description.{IsDescription}
use Rattle.seq_words.specs.declared.description.MachineDesc.{MachineDesc}
use Rattle.seq_flat.specs.declared.state.FlatState.{FlatState}
use Rattle.seq_flat.specs.declared.state.Rights.{Rights}
use Rattle.seq_flat.specs.declared.state.SegmentState.{SegmentState}
use Rattle.seq_flat.specs.State.{rights_of}
use Rattle.seq_flat.specs.Memory.{is_owner}
use Rattle.seq_layout.specs.Places.{is_place}
use Rattle.seq_layout.specs.Shapes.{shape_of}
use Rattle.seq_kernel.proofs.RefineCallsMeets.{rights_are}
use Rattle.seq_runs.specs.Areas.{OthersStay}
use Rattle.seq_runs.specs.Orders.{HaveOneOwner}
use Rattle.seq_runs.proofs.Ahead.{many_steps_are_local}
use Rattle.seq_runs.proofs.Owners.{lines_have_one_owner}
use Rattle.seq_image.specs.Images.{block_of_bytes, image}
use Rattle.seq_image.specs.Areas.{in_area, owned_by, AgreeOn}
use Rattle.seq_image.proofs.Areas.{process_in_area, segment_in_area}
use Rattle.seq_image.proofs.AreaImages.{image_is_of_the_area}
use Rattle.seq_image.proofs.ImageBlocks.{image_nowhere, image_segment}
use Rattle.seq_invariant.specs.BlockWorks.{Committed, committed_blocks, with_commit, one_more, Commits}
use Rattle.seq_invariant.proofs.BlockOthers.{one_more_elsewhere}

module _ (d : MachineDesc) (described : IsDescription d) (at : Committed) (area : ℕ → Bool) (q n : ℕ) (there : q < length d.processes) (g : FlatState) (commits : Commits d at area q n g) where
  abbrev f : FlatState
  f = at.state

  others : OthersStay (rights_of d) area q f g
  others = (many_steps_are_local d at.inputs area q n f g commits.alone).others

  -- another process owns what it owned
  same_owner : (p t : ℕ) → p ≢ q → owned_by f p t ≡ owned_by g p t
  same_owner p t ne = go (cases_Bool (area t)) (cases_Bool (owned_by f p t)) (cases_Bool (owned_by g p t))
    where
      go : (area t ≡ true) ⊎ (area t ≡ false) → (owned_by f p t ≡ true) ⊎ (owned_by f p t ≡ false) → (owned_by g p t ≡ true) ⊎ (owned_by g p t ≡ false) → owned_by f p t ≡ owned_by g p t
      go (inr out) a b = ap (λ (s : SegmentState). is_owner p s.owner) (sym (others.segment t out))
      go (inl is) (inl held) b = absurd (true≢false (sym is ∙ commits.owned p t ne held))
      go (inl is) (inr free) (inl held) = absurd (false≢true (sym free ∙ others.holder p t ne held))
      go (inl is) (inr free) (inr free') = free ∙ sym free'

  process_elsewhere : (p k : ℕ) → p < length d.processes → p ≢ q → committed_blocks d at p k ≡ committed_blocks d (with_commit at q g) p k
  process_elsewhere p k inside ne =
      (image_is_of_the_area d p (λ t. false) f g at.commits (one_more q at.commits) inside agree (sym (one_more_elsewhere q at.commits p ne))).each p k (process_in_area d p (λ t. false))
    where
      owners : HaveOneOwner (rights_of d)
      owners = lines_have_one_owner d described

      agree : AgreeOn d p (λ t. false) f g
      agree = record {
        process = sym (others.process p ne);
        line = λ l own. sym (others.line l (owners p q l (λ e. ne (sym e)) (ap (λ (r : Rights). has_bit r.lines l) (rights_are d p inside) ∙ own)));
        segment = λ t is. absurd (false≢true is);
        other = λ t out. same_owner p t ne;
      }

  segment_elsewhere : (t k : ℕ) → t < length d.segments → area t ≡ false → committed_blocks d at (length d.processes + t) k ≡ committed_blocks d (with_commit at q g) (length d.processes + t) k
  segment_elsewhere t k lt out = go (cases_Bool (is_place (shape_of d).blocks (length d.processes + t) k))
    where
      go : (is_place (shape_of d).blocks (length d.processes + t) k ≡ true) ⊎ (is_place (shape_of d).blocks (length d.processes + t) k ≡ false) → image d f at.commits (length d.processes + t) k ≡ image d g (one_more q at.commits) (length d.processes + t) k
      go (inl placed) =
          image_segment d f at.commits t k lt placed ∙ ap (λ (s : SegmentState). block_of_bytes s.bytes k) (sym (others.segment t out)) ∙ sym (image_segment d g (one_more q at.commits) t k lt placed)
      go (inr none) = image_nowhere d f at.commits (length d.processes + t) k none ∙ sym (image_nowhere d g (one_more q at.commits) (length d.processes + t) k none)

  pub blocks_elsewhere : (e k : ℕ) → e < length d.processes + length d.segments → in_area d q area e ≡ false → committed_blocks d at e k ≡ committed_blocks d (with_commit at q g) e k
  blocks_elsewhere e k below out = elim (cases_lt e (length d.processes)) [
    | inl process ↦ process_elsewhere e k process (λ same. false≢true (sym out ∙ ap (in_area d q area) same ∙ process_in_area d q area))
    | inr past ↦
        let t : ℕ = e - length d.processes in
        let number : length d.processes + t ≡ e = omega (arith, past) in
        let lt : t < length d.segments = omega (arith, below, past) in
        subst (λ x. committed_blocks d at x k ≡ committed_blocks d (with_commit at q g) x k) number (segment_elsewhere t k lt (off t lt number))
  ]
    where
      off : (t : ℕ) → t < length d.segments → length d.processes + t ≡ e → area t ≡ false
      off t lt number = go (cases_Bool (area t))
        where
          go : (area t ≡ true) ⊎ (area t ≡ false) → area t ≡ false
          go (inl is) = absurd (false≢true (sym out ∙ ap (in_area d q area) (sym number) ∙ segment_in_area d q area t there lt is))
          go (inr free) = free
