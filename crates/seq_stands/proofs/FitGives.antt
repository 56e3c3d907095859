-- What fits gives what turns of processors and elements need.
use Rattle.std.proofs.Common.{◌≡◌, ◌⊎◌, inl, inr, ℕ, ◌+◌, ◌*◌, ◌/◌, ◌%◌, ◌<◌, ◌≤◌, ◌++◌, List, map, replicate, length, get_or, arith, refl, sym, ◌∙◌, ap, subst, length-append}
use Rattle.std.specs.Prelude.{slice_index}
use Rattle.std.proofs.lemmas.List.{length-map, get_or-append-add, get_or-replicate}
use Rattle.std.proofs.lemmas.List.FromFn.{length-map-range_with_len}
use Rattle.seq_words.specs.Description.{IsDescription, line_count}
use Rattle.seq_words.specs.declared.description.MachineDesc.{MachineDesc}
use Rattle.seq_words.specs.declared.description.SegmentDesc.{SegmentDesc}
use Rattle.seq_layout.specs.Shapes.{shape_of, process_blocks, blocks_of, owner_from, segment_extent, line_extent}
use Rattle.seq_layout.specs.Copies.{IsServed, first_copy}
use Rattle.seq_ruling.specs.Ruling.{HaveRulingWords}
use Rattle.seq_layout.proofs.CopiesLaws.{all_are_served}
use Rattle.seq_layout.proofs.Sizes.{process_has_status, process_has_context}
use Rattle.seq_cache.specs.declared.change.Change.{Change}
use Rattle.seq_cache.specs.Changes.{Changes}
use Rattle.seq_flush.specs.Units.{IsBeside, HavePlaces}
use Rattle.seq_process.specs.declared.running.Running.{Running}
use Rattle.seq_kernel.specs.Kept.{AreOwn}
use Rattle.seq_io.specs.Bounds.{IsPort, IsCursor, journal_blocks}
use Rattle.seq_turns.specs.declared.hand.Hand.{Hand}
use Rattle.seq_turns.specs.declared.hand.Hand.TheVariants as hand
use Rattle.seq_turns.specs.Machines.{Machine}
use Rattle.seq_stands.specs.FitHands.{ProcessFits, HandFits}
use Rattle.seq_stands.specs.FitLines.{PortFits}
use Rattle.seq_stands.specs.FitBlocks.{IsPastContexts, ArePastContexts}
use Rattle.seq_stands.specs.Fit.{HandHolds, Fit}
use Rattle.seq_stands.specs.FitGives.{MemoriesGive, HandGives, FitGives}
use Rattle.seq_stands.proofs.FitSaved.{first_fits, context_fits, context_lengths, context_cause}
use Rattle.seq_stands.proofs.FitHeld.{own_are_past}
use Rattle.seq_stands.proofs.Fitting.{fit_readable}

-- the journal of a line has the blocks of its bytes
line_size : (d : MachineDesc) (l : ℕ) → l < line_count d → journal_blocks (shape_of d) l ≡ d.journal / 32
line_size d l below =
    let processes = map process_blocks d.processes in
    let segments = map (λ (s : SegmentDesc). s.size / 32) d.segments in
    let lines = replicate (line_count d) (d.journal / 32) in
    let place : length d.processes + length d.segments + l ≡ length (processes ++ segments) + l = omega (arith, length-map d.processes process_blocks, length-map d.segments (λ (s : SegmentDesc). s.size / 32), length-append processes segments) in
    ap (λ k. get_or (blocks_of d) k 0) place ∙ get_or-append-add (processes ++ segments) lines l 0 ∙ get_or-replicate (line_count d) l (d.journal / 32) 0 below

-- what is changed past contexts is beside the process's own, and so a flush has places for all of it
pub past_have_places : (d : MachineDesc) (q : ℕ) (changes : List Change) → q < length d.processes → ArePastContexts d q changes → HavePlaces (shape_of d) q changes
past_have_places d q changes there past = record {
  context = λ k below. process_has_context d q k there below;
  status = process_has_status d q there;
  changed = λ k none lt. let is = past k none lt in record { place = is.place; beside = beside _ is };
}
  where
    beside : (u : Change) → IsPastContexts d q u → u.extent.0 ≡ q → 8 ≤ u.place
    beside u is here = go is.past
      where
        go : ((u.extent.0 ≡ q) × (8 ≤ u.place)) ⊎ ((t : ℕ) × (t < length d.segments) × (u.extent.0 ≡ segment_extent (shape_of d) t)) → 8 ≤ u.place
        go (inl x) = x.1
        go (inr (t, b, e)) = absurd (let c : ⊥ = omega (arith, e, here, there) in c)

own_have_places : (d : MachineDesc) (r : Running) (changes : List Change) → ProcessFits d r → AreOwn d r changes → HavePlaces (shape_of d) r.pid.0 changes
own_have_places d r changes fits own = past_have_places d r.pid.0 changes fits.within.process (own_are_past d r changes fits own)

hand_gives : (d : MachineDesc) (c : Changes) (h : Hand) → HandFits d h → HandHolds d c.changes h → HandGives d c h
hand_gives d c hand.Down fits holds = tt
hand_gives d c hand.Seek fits holds = tt
hand_gives d c (hand.Claiming q x) fits holds = tt
hand_gives d c (hand.Running r) fits holds = (λ left. record { within = fits.0.within; live = fits.1; left = left }, own_have_places d r c.changes fits.0 holds.1)
hand_gives d c (hand.Acquiring r t x) fits holds = (record { within = fits.0.within; live = fits.1; left = fits.2.left }, own_have_places d r c.changes fits.0 holds.1)
hand_gives d c (hand.Flushing r cause mask f) fits holds = past_have_places d r.pid.0 c.changes fits.0.within.process holds.1
hand_gives d c (hand.Unlocking r cause mask l) fits holds = tt
hand_gives d c (hand.Leaving q l) fits holds = tt
hand_gives d c (hand.Recovering r) fits holds = tt

pub fit_gives : FitGives
fit_gives d m described fits = record {
  memories = memories;
  hands = λ p l. hand_gives d (m.cache p) (m.hand p) (fits.processors p l).bounds (fits.processors p l).holds;
  ports = λ l below.
      let port = fits.ports l below in
      let whole = described.journal.whole in
      let blocks : journal_blocks (shape_of d) l ≡ d.journal / 32 = line_size d l below in
      record { taken = port.taken; arrived = omega (arith, port.arrived, port.store); store = omega (arith, port.store, blocks, whole) };
  cursors = λ i l some. cursor i l (let owners = length-map-range_with_len (owner_from 0 d.processes) 0 (line_count d) in omega (arith, owners, some));
}
  where
    served : (e : ℕ) → IsServed (shape_of d) m.copies e
    served e = all_are_served (shape_of d) m.copies described.memories.low_at fits.states.one_out e

    memories : MemoriesGive d m.copies
    memories = record {
      readable = fit_readable d m described fits;
      lines = record { served = served; words = ruling };
      ruling = ruling;
      held = λ q l. (fits.words.status q (first_copy (shape_of d) m.copies q) l).named;
      loads = λ q l. record {
        served = served q;
        blocks = (first_fits d m.copies q fits.blocks l).inside;
        inside = (context_fits d m.copies q fits.blocks l).inside;
        lengths = context_lengths d m.copies q fits.blocks l;
        cause = context_cause d m.copies q fits.blocks l;
      };
    }
      where
        ruling : HaveRulingWords (shape_of d) m.copies
        ruling = record {
          place = λ q l. process_has_status d q l;
          served = λ q l. served q;
          format = λ q l. (fits.words.status q (first_copy (shape_of d) m.copies q) l).format;
        }

    cursor : (i : ℕ) → i < d.ios → 0 < line_count d → (m.io i).cursor < length (shape_of d).owners
    cursor i l some = go (fits.cursors i l)
      where
        owners : length (shape_of d).owners ≡ line_count d
        owners = length-map-range_with_len (owner_from 0 d.processes) 0 (line_count d)

        go : ((m.io i).cursor ≡ 0) ⊎ ((m.io i).cursor < line_count d) → (m.io i).cursor < length (shape_of d).owners
        go (inl none) = omega (arith, none, some, owners)
        go (inr below) = omega (arith, below, owners)
