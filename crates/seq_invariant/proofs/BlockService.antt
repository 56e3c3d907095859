-- Copies that come back into service hold what was committed.
use Rattle.std.proofs.Common.{◌≡◌, ◌⊎◌, ℕ, Bool, true, false, not, inl, inr, ◌∙◌}
use Rattle.std.proofs.lemmas.Bool.{true≢false}
use Rattle.seq_words.specs.declared.description.MachineDesc.{MachineDesc}
use Rattle.seq_layout.specs.Shapes.{shape_of}
use Rattle.seq_layout.specs.Copies.{Copies, serves}
use Rattle.seq_kernel.specs.Views.{Blocks}
use Rattle.seq_image.specs.Areas.{in_area}
use Rattle.seq_turns.specs.declared.hand.Hand.{Hand}
use Rattle.seq_turns.specs.declared.hand.Hand.TheVariants as hand
use Rattle.seq_turns.specs.Machines.{Machine}
use Rattle.seq_turns.specs.Reading.{is_amid}
use Rattle.seq_invariant.specs.BlockAreas.{BothHold, Rests, segments_of}
use Rattle.seq_invariant.specs.BlockWorks.{Committed, committed_blocks}
use Rattle.seq_invariant.specs.BlockHands.{HandKnows}
use Rattle.seq_invariant.specs.BlockStanding.{AreBlocks, ExtentStands, BlocksStand}
use Rattle.seq_invariant.specs.BlockService.{ComeFrom, IsCalm, with_copies, ServiceKeepsBlocks}
use Rattle.seq_invariant.proofs.BlockStops.{both_rest, rest_holds}

module _ (d : MachineDesc) (at : Committed) (m : Machine) (now : Copies) (calm : IsCalm d m) (calm' : IsCalm d (with_copies m now)) (are : AreBlocks d now) (from : ComeFrom d m.copies now) (st : BlocksStand d at m) where
  rests : (o : Blocks) (e : ℕ) → Rests (shape_of d) m.copies o e → Rests (shape_of d) now o e
  rests o e h = record { each = λ n c serving. go n c (from.each e n c serving) }
    where
      go : (n : ℕ) (c : Bool) → ((serves (shape_of d) m.copies e c ≡ true) × (now.block e n c ≡ m.copies.block e n c)) ⊎ ((serves (shape_of d) m.copies e (not c) ≡ true) × (now.block e n c ≡ m.copies.block e n (not c))) → now.block e n c ≡ o e n
      go n c (inl same) = same.1 ∙ h.each n c same.0
      go n c (inr other) = other.1 ∙ h.each n (not c) other.0

  both : (area : ℕ → Bool) (o : Blocks) → BothHold (shape_of d) m.copies area o → BothHold (shape_of d) now area o
  both area o h = record {
    primaries = rest_holds (shape_of d) now false area o (λ e inside. rests o e (both_rest (shape_of d) m.copies area o e inside h));
    shadows = rest_holds (shape_of d) now true area o (λ e inside. rests o e (both_rest (shape_of d) m.copies area o e inside h));
  }

  hand_stands : (p : ℕ) (h : Hand) → is_amid h ≡ false → HandKnows d at m.copies (m.cache p) h → HandKnows d at now (m.cache p) h
  hand_stands p hand.Down quiet k = tt
  hand_stands p hand.Seek quiet k = tt
  hand_stands p (hand.Claiming q c) quiet k = tt
  hand_stands p (hand.Running r) quiet k = record { works = k.works; live = k.live; own = k.own; clean = k.clean; both = both (in_area d r.pid.0 (segments_of d (hand.Running r))) (committed_blocks d at) k.both }
  hand_stands p (hand.Acquiring r t c) quiet k = absurd (true≢false quiet)
  hand_stands p (hand.Flushing r why mask f) quiet k = absurd (true≢false quiet)
  hand_stands p (hand.Unlocking r why mask l) quiet k = absurd (true≢false quiet)
  hand_stands p (hand.Leaving q l) quiet k = tt
  hand_stands p (hand.Recovering x) quiet k = absurd (true≢false quiet)

  extent_stands : (e : ℕ) → ExtentStands d at m e → ExtentStands d at (with_copies m now) e
  extent_stands e (inl h) = inl (record { holder = h.holder; inside = h.inside })
  extent_stands e (inr (inl h)) = absurd (calm.left h.process h.forward h.left)
  extent_stands e (inr (inr h)) = inr (inr (rests (committed_blocks d at) e h))

  pub service_keeps : BlocksStand d at (with_copies m now)
  service_keeps = record {
    committed = record { run = st.committed.run; commits = st.committed.commits; reached = st.committed.reached; fit = st.committed.fit };
    blocks = are;
    caches = st.caches;
    hands = λ p. hand_stands p (m.hand p) (calm.hands p) (st.hands p);
    left = λ q forward is. absurd (calm'.left q forward is);
    extents = λ e lt. extent_stands e (st.extents e lt);
  }

pub service_keeps_blocks : ServiceKeepsBlocks
service_keeps_blocks d at m now calm calm' are from st = service_keeps d at m now calm calm' are from st
