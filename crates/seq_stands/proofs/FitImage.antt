-- The image of a flat state that is reached fits, and so the machine fits at its start.
use Rattle.std.proofs.Common.{◌≡◌, ℕ, ◌+◌, ◌*◌, ◌<◌, ◌≤◌, true, length, map, get_or, arith, refl, sym, ◌∙◌, ap, subst}
use Rattle.std.specs.List.{range_with_len}
use Rattle.std.proofs.lemmas.List.FromFn.{get_or-map-range_with_len}
use Rattle.seq_words.specs.Masks.{has_bit}
use Rattle.seq_words.specs.Blocks.{zero_block}
use Rattle.seq_words.specs.Description.{IsDescription}
use Rattle.seq_words.specs.declared.description.MachineDesc.{MachineDesc}
use Rattle.seq_flat.specs.declared.state.FlatState.{FlatState}
use Rattle.seq_flat.specs.State.{start as flat_start}
use Rattle.seq_flat.specs.Reached.{IsReached}
use Rattle.seq_flat.proofs.ReachedStart.{start_is_reached}
use Rattle.seq_layout.specs.Contexts.{number_at, context_blocks, HasLengths, AreParts}
use Rattle.seq_layout.proofs.ContextsRead.{parts_are_numbered}
use Rattle.seq_kernel.specs.Views.{Blocks}
use Rattle.seq_image.specs.Images.{context_of, image}
use Rattle.seq_image.specs.Begun.{no_commits}
use Rattle.seq_image.specs.Starting.{context_read, TakesUp}
use Rattle.seq_image.proofs.TakenUp.{image_is_taken_up}
use Rattle.seq_image.proofs.WholeImages.{image_is_whole}
use Rattle.seq_turns.specs.Start.{start}
use Rattle.seq_stands.specs.FitBlocks.{ContextNumbersFit, ContextBlockFits}
use Rattle.seq_stands.specs.Fit.{ImageFits, Fit}
use Rattle.seq_stands.specs.FitNumbers.{commits_in}
use Rattle.seq_stands.specs.FitStarts.{ImagesFit, MachinesStartFit, MachinesStartAtZero}
use Rattle.seq_stands.proofs.FitBlocks.{block_fits}
use Rattle.seq_stands.proofs.Fitting.{start_fit}

module _ (d : MachineDesc) (f : FlatState) (commits : ℕ → ℕ) (described : IsDescription d) (reached : IsReached d f) where
  abbrev o : Blocks
  o = image d f commits

  module _ (q : ℕ) (there : q < length d.processes) where
    up : TakesUp d f o q (commits q)
    up = image_is_taken_up d f commits o q described reached there (image_is_whole d f commits) (record { each = λ e n inside. refl })

    lengths : HasLengths (context_of d f q (commits q))
    lengths = record { registers = (reached.process q).registers; reads = refl; writes = refl }

    parts : AreParts (number_at (context_read o q)) (context_of d f q (commits q))
    parts = subst (λ xs. AreParts (number_at xs) (context_of d f q (commits q))) (sym up.blocks) (parts_are_numbered (context_of d f q (commits q)) lengths)

    numbers_fit : ContextNumbersFit d (number_at (context_read o q))
    numbers_fit = record {
      inside = up.inside;
      held = λ t b. up.within.held t (ap (λ x. has_bit x t) (sym parts.held) ∙ b);
      cause = λ e. subst (λ x. x ≤ 255) (sym parts.value) (up.cause (sym parts.end ∙ e));
      reads = λ k below. subst (λ x. x ≤ d.journal) (sym (parts.read k below)) (up.within.reads k);
      writes = λ k below. subst (λ x. x ≤ 1048576) (sym (parts.written k below)) (up.within.writes k);
    }

    fits_at : (k : ℕ) → k < 8 → ContextBlockFits d k (o q k)
    fits_at k below = subst (ContextBlockFits d k) (get_or-map-range_with_len (λ k. o q k) 0 8 k k zero_block below (omega arith)) (block_fits d (context_read o q) numbers_fit k)

    pub commits_at : commits_in (o q 4) ≡ commits q
    commits_at = ap commits_in (sym (get_or-map-range_with_len (λ k. o q k) 0 8 4 4 zero_block (omega arith) (omega arith))) ∙ parts.commits

  image_fits : ImageFits d (image d f commits)
  image_fits = record { whole = image_is_whole d f commits; contexts = λ q k there below. fits_at q there k below }

pub images_fit : ImagesFit
images_fit d f commits described reached = image_fits d f commits described reached

pub machines_start_fit : MachinesStartFit
machines_start_fit d described = start_fit d (image d (flat_start d) no_commits) described (images_fit d (flat_start d) no_commits described (start_is_reached d described))

pub machines_start_at_zero : MachinesStartAtZero
machines_start_at_zero d described = record {
  incarnations = λ p l. omega arith;
  contexts = λ q c l. let none = commits_at d (flat_start d) no_commits described (start_is_reached d described) q l in omega (arith, none);
  hands = λ p l. tt;
}
