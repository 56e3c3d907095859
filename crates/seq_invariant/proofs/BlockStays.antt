-- What a hand knows stays whatever happens outside its area.
use Rattle.std.proofs.Common.{◌≡◌, ℕ, Bool, true, false, drop, ◌-◌, refl}
use Rattle.seq_words.specs.declared.description.MachineDesc.{MachineDesc}
use Rattle.seq_layout.specs.Shapes.{Shape, shape_of}
use Rattle.seq_layout.specs.Copies.{Copies}
use Rattle.seq_process.specs.declared.running.Running.{Running}
use Rattle.seq_cache.specs.Changes.{Changes}
use Rattle.seq_flush.specs.Turns.{units}
use Rattle.seq_kernel.specs.Views.{Blocks}
use Rattle.seq_image.specs.Areas.{in_area}
use Rattle.seq_image.proofs.Writing.{what_is_left_stays}
use Rattle.seq_turns.specs.declared.hand.Hand.{Hand}
use Rattle.seq_turns.specs.declared.hand.Hand.TheVariants as hand
use Rattle.seq_turns.specs.declared.hand.FlushAt.{FlushAt}
use Rattle.seq_turns.specs.declared.hand.FlushAt.TheVariants as flush
use Rattle.seq_turns.specs.declared.hand.RecoveryAt.{RecoveryAt}
use Rattle.seq_invariant.specs.BlockAreas.{hand_area, segments_of, BothHold}
use Rattle.seq_invariant.specs.BlockWorks.{Committed, committed_blocks, with_commit}
use Rattle.seq_invariant.specs.BlockHands.{Runs, Closes, FlushKnows, RecoveryKnows, HandKnows}
use Rattle.seq_invariant.specs.BlockTurns.{KeepBoth, HandsStay}
use Rattle.seq_invariant.proofs.BlockCopies.{apart_drop, holds_kept}
use Rattle.seq_invariant.proofs.Units.{to_come_kept}

pub both_kept : (s : Shape) (before now : Copies) (area : ℕ → Bool) (o : Blocks) → KeepBoth s before now area → BothHold s before area o → BothHold s now area o
both_kept s before now area o kept both = record {
  primaries = holds_kept s before now false area o kept.primaries both.primaries;
  shadows = holds_kept s before now true area o kept.shadows both.shadows;
}

module _ (d : MachineDesc) (at : Committed) (before now : Copies) (c : Changes) where
  module _ (segments : ℕ → Bool) (r : Running) (kept : KeepBoth (shape_of d) before now (in_area d r.pid.0 segments)) where
    pub runs_kept : Runs d at segments before c r → Runs d at segments now c r
    runs_kept h = record { works = h.works; live = h.live; own = h.own; clean = h.clean; both = both_kept (shape_of d) before now (in_area d r.pid.0 segments) (committed_blocks d at) kept h.both }

    pub closes_kept : Closes d at segments before c r → Closes d at segments now c r
    closes_kept h = record { rested = h.rested; both = both_kept (shape_of d) before now (in_area d r.pid.0 segments) (committed_blocks d at) kept h.both; cached = h.cached }

    pub flush_kept : (f : FlushAt) → FlushKnows d at segments before c r f → FlushKnows d at segments now c r f
    flush_kept (flush.Mark f) h = record { works = h.works; make = h.make; both = both_kept (shape_of d) before now (in_area d r.pid.0 segments) (committed_blocks d at) kept h.both }
    flush_kept (flush.First f) h = record {
      works = h.works;
      make = h.make;
      primaries = what_is_left_stays (shape_of d) before now false (in_area d r.pid.0 segments) (drop f.cursor (units f c.changes)) (committed_blocks d (with_commit at r.pid.0 h.works.ahead.state))
          (apart_drop (units f c.changes) f.cursor h.make.units.apart) kept.primaries h.primaries;
      shadows = holds_kept (shape_of d) before now true (in_area d r.pid.0 segments) (committed_blocks d at) kept.shadows h.shadows;
      to_come = to_come_kept d r.pid.0 segments (units f c.changes) h.make.units at before now f.cursor kept.primaries h.to_come;
    }
    flush_kept (flush.Second f) h = record {
      rested = h.rested;
      units = h.units;
      number = h.number;
      primaries = holds_kept (shape_of d) before now false (in_area d r.pid.0 segments) (committed_blocks d at) kept.primaries h.primaries;
      shadows = what_is_left_stays (shape_of d) before now true (in_area d r.pid.0 segments) (drop (f.cursor - 1) (units f c.changes)) (committed_blocks d at)
          (apart_drop (units f c.changes) (f.cursor - 1) h.units.apart) kept.shadows h.shadows;
      cached = h.cached;
    }
    flush_kept (flush.Close f) h = closes_kept h

  pub hand_kept : (h : Hand) → KeepBoth (shape_of d) before now (hand_area d h) → ((r : RecoveryAt) → h ≡ hand.Recovering r → RecoveryKnows d before r → RecoveryKnows d now r) → HandKnows d at before c h → HandKnows d at now c h
  hand_kept hand.Down kept recovers k = tt
  hand_kept hand.Seek kept recovers k = tt
  hand_kept (hand.Claiming q x) kept recovers k = tt
  hand_kept (hand.Running r) kept recovers k = runs_kept (segments_of d (hand.Running r)) r kept k
  hand_kept (hand.Acquiring r t x) kept recovers k = record { runs = runs_kept (segments_of d (hand.Acquiring r t x)) r kept k.runs; left = k.left; asks = k.asks }
  hand_kept (hand.Flushing r why mask f) kept recovers k = (flush_kept (segments_of d (hand.Flushing r why mask f)) r kept f k.0, k.1)
  hand_kept (hand.Unlocking r why mask l) kept recovers k = (closes_kept (segments_of d (hand.Unlocking r why mask l)) r kept k.0, k.1, k.2)
  hand_kept (hand.Leaving q l) kept recovers k = tt
  hand_kept (hand.Recovering r) kept recovers k = recovers r refl k

pub hands_stay : HandsStay
hands_stay d at before now c h kept recovers known = hand_kept d at before now c h kept recovers known
