-- All stands at the start, and so after every list of events from there.
use Rattle.std.proofs.Common.{◌≡◌, inl, inr, ℕ, [], length, refl, ap, sym, subst, arith}
use Rattle.std.proofs.Math.Path.{fun_ext}
use Rattle.std.proofs.lemmas.Bool.{cases_lt}
use Rattle.std.proofs.lemmas.List.{get_or_past, length-map}
use Rattle.seq_words.specs.Description.{IsDescription}
use Rattle.seq_words.specs.declared.description.MachineDesc.{MachineDesc}
use Rattle.seq_flat.specs.State as flat
use Rattle.seq_flat.specs.State.{no_segment, start_segment}
use Rattle.seq_flat.proofs.ReachedStart.{start_segment_is}
use Rattle.seq_turns.specs.Machines.{Machine}
use Rattle.seq_turns.specs.Start.{start}
use Rattle.seq_stands.specs.Standing.{Stands}
use Rattle.seq_stands.specs.Locks.{LocksStand}
use Rattle.seq_stands.proofs.AtStart.{start_stands}
use Rattle.seq_stands.proofs.LockLaw.{start_has_locks}
use Rattle.seq_stands.proofs.FitStanding.{start_fits}
use Rattle.seq_invariant.specs.BlockApart.{number_of, owners_of}
use Rattle.seq_invariant.specs.BlockWorks.{committed_blocks}
use Rattle.seq_invariant.specs.BlockRest.{at_start}
use Rattle.seq_invariant.proofs.BlockRest.{start_holds}
use Rattle.seq_lines.specs.Arrivals.{arrived}
use Rattle.seq_lines.proofs.Gives.{arrived_fits}
use Rattle.seq_lines.proofs.Gives as lines
use Rattle.seq_invariant.specs.Holds.{AllHolds, StartHolds, RunsHold}
use Rattle.seq_invariant.proofs.Law.{runs_keep_all}

-- nobody owns a segment at the start
none_owns : (d : MachineDesc) (t : ℕ) → owners_of (flat.start d) t ≡ 0
none_owns d t = elim (cases_lt t (length d.segments)) [
  | inl lt ↦ ap (λ s. number_of s.owner) (start_segment_is d t lt)
  | inr past ↦ ap (λ s. number_of s.owner) (get_or_past (flat.start d).segments t no_segment (omega (arith, past, length-map d.segments start_segment)))
]

module _ (d : MachineDesc) (described : IsDescription d) where
  abbrev m : Machine
  m = start d (committed_blocks d (at_start d (arrived d [])))

  words : Stands d (start d (committed_blocks d (at_start d (arrived d []))))
  words = start_stands d (committed_blocks d (at_start d (arrived d []))) described

  pub start_is : AllHolds d [] (start d (committed_blocks d (at_start d (arrived d []))))
  start_is =
      let stand = lines.start_stands d (committed_blocks d (at_start d (arrived d []))) described in
      record {
        at = at_start d (arrived d []);
        holds = record {
          words = words;
          locks = subst (λ o. LocksStand d o m) (sym (fun_ext (none_owns d))) (start_has_locks d (committed_blocks d (at_start d (arrived d []))));
          fits = start_fits d (committed_blocks d (at_start d (arrived d []))) described;
          blocks = start_holds d (arrived d []) described (arrived_fits d [] (flat.start d) m stand);
          input = refl;
          inside = λ p. tt;
          lines = stand;
        };
      }

pub all_holds_at_start : StartHolds
all_holds_at_start d described = start_is d described

pub runs_hold : RunsHold
runs_hold d es described ok = runs_keep_all d [] es _ described ok (start_is d described)
