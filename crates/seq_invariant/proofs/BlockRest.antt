-- What stands at the start, and of free areas.
use Rattle.std.proofs.Common.{◌≡◌, ℕ, Bool, true, false, List, [], Some, inl, inr, refl, sym, ap, ◌∙◌, arith}
use Rattle.std.proofs.lemmas.Bool.{false≢true}
use Rattle.seq_words.specs.Description.{IsDescription}
use Rattle.seq_words.specs.declared.description.MachineDesc.{MachineDesc}
use Rattle.seq_flat.specs.declared.inputs.LineInput.{LineInput}
use Rattle.seq_flat.specs.State as flat
use Rattle.seq_flat.specs.Run.{run_from, flat_run}
use Rattle.seq_layout.specs.Shapes.{shape_of}
use Rattle.seq_status.specs.declared.status.Status.TheVariants.{Idle}
use Rattle.seq_runs.specs.Histories.{entry_count}
use Rattle.seq_flat.specs.Reached.{FitJournals}
use Rattle.seq_image.proofs.WholeImages.{image_is_whole}
use Rattle.seq_image.proofs.ImageBlocks.{image_nowhere}
use Rattle.seq_flat.proofs.ReachedStart.{start_is_reached}
use Rattle.seq_turns.specs.Machines.{Machine}
use Rattle.seq_turns.specs.Reading.{status_in, is_deserted}
use Rattle.seq_turns.specs.Start.{start}
use Rattle.seq_invariant.specs.BlockAreas.{Rests}
use Rattle.seq_invariant.specs.BlockWorks.{committed_blocks}
use Rattle.seq_invariant.specs.BlockLeft.{IsLeft}
use Rattle.seq_invariant.specs.BlockStanding.{ExtentStands, BlocksStand}
use Rattle.seq_invariant.specs.BlockRest.{at_start, StartStands, FreeAreasHold}
use Rattle.seq_invariant.proofs.BlockStops.{rest_holds}

pub free_areas_hold : FreeAreasHold
free_areas_hold d at m area st free = record {
  primaries = rest_holds (shape_of d) m.copies false area (committed_blocks d at) rests;
  shadows = rest_holds (shape_of d) m.copies true area (committed_blocks d at) rests;
}
  where
    rests : (e : ℕ) → area e ≡ true → Rests (shape_of d) m.copies (committed_blocks d at) e
    rests e inside = go (st.extents e (free e inside).0)
      where
        go : ExtentStands d at m e → Rests (shape_of d) m.copies (committed_blocks d at) e
        go (inl h) = absurd ((free e inside).1.hand h)
        go (inr (inl h)) = absurd ((free e inside).1.left h)
        go (inr (inr h)) = h

idle_word : status_in 0 ≡ Idle
idle_word = refl

module _ (d : MachineDesc) (inputs : List LineInput) (described : IsDescription d) (fit : FitJournals d inputs) where
  abbrev m : Machine
  m = start d (committed_blocks d (at_start d inputs))

  nobody_left : (q : ℕ) (forward : Bool) → IsLeft d m q forward → ⊥
  nobody_left q forward (inl h) = false≢true (sym (ap (is_deserted m.incarnation) idle_word) ∙ h.deserted)
  nobody_left q forward (inr h) = let e = h.hand in let c : ⊥ = cc in c

  at_first : flat_run d inputs [] ≡ Some (flat.start d)
  unfolding run_from
  at_first = refl

  no_entries : (q : ℕ) → 0 ≡ entry_count q []
  unfolding entry_count
  no_entries q = refl

  pub start_stands : BlocksStand d (at_start d inputs) m
  start_stands = record {
    committed = record { run = at_first; commits = no_entries; reached = start_is_reached d described; fit = fit };
    blocks = record {
      whole = λ e n c. image_is_whole d (flat.start d) (at_start d inputs).commits e n;
      nowhere = λ e n c out. image_nowhere d (flat.start d) (at_start d inputs).commits e n out;
    };
    caches = λ p. record { ascending = record { pairs = λ i j x lt inside. absurd (omega arith) }; fits = omega arith; small = omega (arith, described.cache.high_at) };
    hands = λ p. tt;
    left = λ q forward is. absurd (nobody_left q forward is);
    extents = λ e lt. inr (inr (record { each = λ n c serving. refl }));
  }

pub start_holds : StartStands
start_holds d inputs described fit = start_stands d inputs described fit
