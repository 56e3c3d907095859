-- With contexts within their bounds, so is what an event takes from them.
use Rattle.std.proofs.Common.{◌≡◌, ℕ, ◌+◌, ◌*◌, ◌<◌, length, map, ap, subst, arith}
use Rattle.std.specs.List.{range_with_len}
use Rattle.std.proofs.lemmas.List.FromFn.{length-map-range_with_len}
use Rattle.std.proofs.lemmas.Option.{slice_get-get_or}
use Rattle.seq_words.specs.Description.{IsDescription, line_count}
use Rattle.seq_words.specs.declared.description.MachineDesc.{MachineDesc}
use Rattle.seq_layout.specs.Contexts.{number_at}
use Rattle.seq_layout.specs.Shapes.{shape_of, owner_from, owners_of}
use Rattle.seq_layout.specs.Copies.{Copies, first_block}
use Rattle.seq_layout.proofs.Owners.{entry_owns}
use Rattle.seq_words.specs.declared.events.Event.TheVariants as event
use Rattle.seq_turns.specs.Reading.{context_of}
use Rattle.seq_turns.specs.Duties.{owner}
use Rattle.seq_stands.specs.Grips.{grip}
use Rattle.seq_stands.specs.Words.{words_of, GripHolds, Grips}
use Rattle.seq_stands.specs.FitContexts.{ContextFits, ContextsServe}

-- a context that is read has four positions of each kind
four_reads : (d : MachineDesc) (p : Copies) (q : ℕ) → length (context_of d p q).reads ≡ 4
unfolding context_of
four_reads d p q = length-map-range_with_len (λ i. number_at (map (first_block (shape_of d) p q) (range_with_len 0 8)) (40 + 2 * i)) 0 4

four_writes : (d : MachineDesc) (p : Copies) (q : ℕ) → length (context_of d p q).writes ≡ 4
unfolding context_of
four_writes d p q = length-map-range_with_len (λ i. number_at (map (first_block (shape_of d) p q) (range_with_len 0 8)) (41 + 2 * i)) 0 4

pub owner_is_process : (d : MachineDesc) (l : ℕ) → IsDescription d → l < line_count d → (owner d l).0.0 < length d.processes
owner_is_process d l described below =
    let inside : l < length (owners_of d) = omega (arith, below, length-map-range_with_len (owner_from 0 d.processes) 0 (line_count d)) in
    (entry_owns d l (owner d l) described (slice_get-get_or (owners_of d) l (record { 0 = 0 }, 0) inside)).process

pub contexts_serve : ContextsServe
contexts_serve d m (event.Processor p) described st fit = λ q c e free live.
    let inside : q < length d.processes = Grips.process (subst (GripHolds (words_of d m) p.0) (ap grip e) (st.words.grips p.0)) in
    let is : ContextFits d (context_of d m.copies q) = fit.contexts q inside in
    record {
      within = record {
        process = inside;
        aligned = (is.inside.aligned, is.inside.aligned);
        held = is.held;
        positions = record { reads = four_reads d m.copies q; writes = four_writes d m.copies q };
        reads = is.reads;
        writes = is.writes;
        steps = omega arith;
        used = omega arith;
      };
      zeros = (is.inside.zero, is.inside.zero);
    }
contexts_serve d m (event.Io i) described st fit = record { writes = λ l below steady. (fit.contexts (owner d l).0.0 (owner_is_process d l described below)).writes (owner d l).1 }
contexts_serve d m (event.Input l byte) described st fit = tt
contexts_serve d m (event.Close l) described st fit = tt
contexts_serve d m (event.Fail e) described st fit = tt
contexts_serve d m (event.Repair e) described st fit = tt
contexts_serve d m (event.Upset p half reg mask) described st fit = tt
contexts_serve d m (event.Hangup l) described st fit = tt
