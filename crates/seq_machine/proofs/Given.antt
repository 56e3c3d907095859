-- What a turn of an operation needs is given where the machine fits.
use Rattle.std.proofs.Common.{◌≡◌, ℕ, ◌^◌, ◌<◌, ◌≤◌, true, length, arith, sym, subst}
use Rattle.seq_words.specs.Description.{IsDescription}
use Rattle.seq_words.specs.declared.description.MachineDesc.{MachineDesc}
use Rattle.seq_layout.specs.Shapes.{shape_of}
use Rattle.seq_layout.specs.declared.units.WordAt.{WordAt}
use Rattle.seq_status.specs.declared.status.Holder.{Holder}
use Rattle.seq_flush.specs.declared.flush.Flush.{Flush}
use Rattle.seq_flush.specs.Units.{HavePlaces}
use Rattle.seq_locks.specs.Turns.{word_at}
use Rattle.seq_process.specs.declared.running.Running.{Running}
use Rattle.seq_turns.specs.declared.hand.Hand.{Hand}
use Rattle.seq_turns.specs.declared.hand.Hand.TheVariants as hand
use Rattle.seq_turns.specs.declared.hand.FlushAt.{FlushAt}
use Rattle.seq_turns.specs.declared.hand.FlushAt.TheVariants as flush
use Rattle.seq_turns.specs.declared.hand.ReleaseAt.{ReleaseAt}
use Rattle.seq_turns.specs.declared.hand.ReleaseAt.TheVariants as release
use Rattle.seq_turns.specs.Machines.{Machine}
use Rattle.seq_stands.specs.Hands.{IsHand, IsFlush, IsFlushAt, IsLock, released_word}
use Rattle.seq_stands.specs.FitHands.{HandFits, ProcessFits, MaskFits}
use Rattle.seq_stands.specs.Fit.{FlushAtFits, HandHolds, Fit}
use Rattle.seq_stands.specs.FitNumbers.{HandBelow, NumbersFit}
use Rattle.seq_stands.specs.FitGives.{HandGives, Gives}
use Rattle.seq_stands.proofs.FitGives.{fit_gives}
use Rattle.seq_machine.specs.Needs.{MayBeSaved, MayBeTakenUp, IsLockIn, FlushNeeds, FlushAtNeeds, UnlockNeeds, LeaveNeeds, NeedsOf}

module _ (d : MachineDesc) (m : Machine) (described : IsDescription d) (fits : Fit d m) (numbers : NumbersFit d m) (p : ℕ) (there : p < d.processors) where
  gives : Gives d m
  gives = fit_gives d m described fits

  taken_up : (q : ℕ) → q < length d.processes → MayBeTakenUp d m.copies q
  taken_up q l = let loads = gives.memories.loads q l in record { served = loads.served; inside = loads.blocks; cause = loads.cause }

  saved : (r : Running) → ProcessFits d r → r.commits < 2 ^ 47 → MayBeSaved r
  saved r is few = record { aligned = is.within.aligned; zeros = is.zeros; commits = few }

  -- a flush by this processor
  flush_needs : {S : Type 0} (f : Flush S) (q : ℕ) → IsFlush p (m.incarnation p) q f → HavePlaces (shape_of d) q (m.cache p).changes → FlushNeeds (shape_of d) (m.cache p).changes f
  flush_needs f q is places = record {
    places = subst (λ x. HavePlaces (shape_of d) x (m.cache p).changes) (sym is.process) places;
    incarnation = subst (λ (h : Holder). h.incarnation < 2 ^ 48) (sym is.holder) (let few = numbers.incarnations p there in omega (arith, few));
  }

  flush_at_needs : (q : ℕ) (f : FlushAt) → IsFlushAt p (m.incarnation p) q f → FlushAtFits d (m.cache p).changes f → HavePlaces (shape_of d) q (m.cache p).changes → FlushAtNeeds (shape_of d) (m.cache p).changes f
  flush_at_needs q (flush.Mark f) is at places = flush_needs f q is places
  flush_at_needs q (flush.First f) is at places = flush_needs f q is places
  flush_at_needs q (flush.Second f) is at places = record { flush = flush_needs f q is places; cursor = at.cursor }
  flush_at_needs q (flush.Close f) is at places = flush_needs f q is places

  lock_in : (mask : ℕ) (at : WordAt) → MaskFits d mask → IsLock d mask at → IsLockIn d mask at
  lock_in mask at inside is = record { segment = is.segment; inside = inside.inside is.segment is.bit; word = is.place; bit = is.bit }

  unlock_needs : (mask : ℕ) (l : ReleaseAt) → MaskFits d mask → IsLock d mask (released_word l) → UnlockNeeds d mask l
  unlock_needs mask (release.Shadow l) inside is = lock_in mask l.at inside is
  unlock_needs mask (release.Primary l) inside is = lock_in mask l.at inside is

  leave_needs : (q : ℕ) (l : ReleaseAt) → q < length d.processes → released_word l ≡ record { extent = record { 0 = q }; word = 0 } → LeaveNeeds d q l
  leave_needs q (release.Shadow l) known is = record { process = known; word = is }
  leave_needs q (release.Primary l) known is = record { process = known; word = is }

  needs : (h : Hand) → IsHand d p (m.incarnation p) h → HandFits d h → HandHolds d (m.cache p).changes h → HandBelow (2 ^ 47) h → HandGives d (m.cache p) h → NeedsOf d m.copies (m.cache p) h
  needs hand.Down own bounds holds few given = tt
  needs hand.Seek own bounds holds few given = tt
  needs (hand.Claiming q c) own bounds holds few given = record { word = record { process = holds; word = own.place }; context = taken_up q.0 holds }
  needs (hand.Running r) own bounds holds few given = tt
  needs (hand.Acquiring r t c) own bounds holds few given = record {
    segment = bounds.2.inside;
    word = own.place;
    named = λ _. subst (λ at. word_at m.copies at true ≤ length d.processes) (sym own.place) (fits.words.locks t.0 true bounds.2.inside);
    free = bounds.2.new;
    steps = bounds.0.within.steps;
    left = bounds.2.left;
    process = saved r bounds.0 few;
  }
  needs (hand.Flushing r c mask f) own bounds holds few given = record { flush = flush_at_needs r.pid.0 f own holds.2 given; commits = few.0 }
  needs (hand.Unlocking r c mask l) own bounds holds few given = unlock_needs mask l bounds.2 own
  needs (hand.Leaving q l) own bounds holds few given = leave_needs q.0 l holds own
  needs (hand.Recovering r) own bounds holds few given = tt

  -- of the processor's hand
  pub needs_given : NeedsOf d m.copies (m.cache p) (m.hand p)
  needs_given =
      let now = fits.processors p there in
      needs (m.hand p) now.own now.bounds now.holds (numbers.hands p there) (gives.hands p there)
