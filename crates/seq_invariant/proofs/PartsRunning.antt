-- A process that runs is ahead of what is committed.
use Rattle.std.proofs.Common.{◌≡◌, ℕ, ◌+◌, ◌-◌, ◌*◌, ◌/◌, ◌%◌, ◌<◌, ◌≤◌, Bool, true, false, not, List, length, Option, Some, None, unwrap_or, slice_index, refl, ap, sym, ◌∙◌, subst, arith}
use Rattle.seq_words.specs.Masks.{has_bit}
use Rattle.seq_words.specs.Description.{IsDescription, process_of}
use Rattle.seq_words.specs.declared.description.MachineDesc.{MachineDesc}
use Rattle.seq_words.specs.declared.block.Block.{Block}
use Rattle.seq_words.specs.declared.events.Event.{Event}
use Rattle.seq_flat.specs.declared.state.FlatState.{FlatState}
use Rattle.seq_flat.specs.Run.{steps}
use Rattle.seq_layout.specs.Shapes.{shape_of, segment_extent}
use Rattle.seq_layout.specs.Copies.{serves, first_block}
use Rattle.seq_layout.proofs.CopiesLaws.{all_are_served}
use Rattle.seq_process.specs.declared.running.Running.{Running}
use Rattle.seq_cache.specs.Changes.{Changes, changed}
use Rattle.seq_cache.specs.Overlay.{overlay}
use Rattle.seq_segments.specs.Map.{before_private}
use Rattle.seq_flush.specs.declared.flush.Flush.{Flush}
use Rattle.seq_flush.specs.declared.stages.First as first_stage
use Rattle.seq_flush.specs.declared.stages.Second as second_stage
use Rattle.seq_flush.specs.Turns.{units}
use Rattle.seq_kernel.specs.Calls.{line_index}
use Rattle.seq_kernel.specs.Views.{Blocks, byte_in, read_by}
use Rattle.seq_kernel.specs.Shown.{Shows}
use Rattle.seq_image.specs.Areas.{AreAlike, in_area}
use Rattle.seq_image.proofs.Areas.{process_in_area, segment_in_area}
use Rattle.seq_image.proofs.FlushedImages.{reads_over_first}
use Rattle.seq_image.proofs.Units.{units_elsewhere}
use Rattle.seq_image.specs.Ahead.{over_image, emptied}
use Rattle.seq_image.proofs.Layers.{nothing_over}
use Rattle.seq_turns.specs.declared.hand.Hand.{Hand}
use Rattle.seq_turns.specs.declared.hand.Hand.TheVariants as hand
use Rattle.seq_turns.specs.declared.hand.FlushAt.TheVariants as flush
use Rattle.seq_turns.specs.Machines.{Machine}
use Rattle.seq_stands.specs.Hands.{IsHand}
use Rattle.seq_stands.specs.Locks.{HandLocks}
use Rattle.seq_invariant.specs.BlockApart.{owners_of}
use Rattle.seq_invariant.specs.BlockAreas.{is_whole, segments_of, BothHold}
use Rattle.seq_invariant.specs.BlockWorks.{Committed, committed_blocks, Works}
use Rattle.seq_invariant.specs.BlockHands.{AreCommitted, FirstPass, SecondPass, Closes, HandKnows}
use Rattle.seq_invariant.proofs.Units.{changes_committed}
use Rattle.seq_lines.specs.Arrivals.{arrived}
use Rattle.seq_invariant.specs.Holds.{Holds}
use Rattle.seq_invariant.specs.Orders.{running_in}
use Rattle.seq_invariant.specs.Processes.{HoldsIn, HasProcess, HasBytes, IsAfterCommit, IsAheadIn, RunningIsAheadAlways}
use Rattle.seq_invariant.proofs.PartsLocks.{holds_whole}
use Rattle.seq_invariant.proofs.PartsPasses.{and_both, others_hold}

has_process : (d : MachineDesc) (g : FlatState) (o : Blocks) (r : Running) → Shows d g o r → HasProcess d g r
has_process d g o r s = record {
  registers = s.registers;
  end = s.end;
  held = λ t lt. (s.segment t lt).held;
  read = λ l mine. (s.line l mine).read;
  written = λ l mine. (s.line l mine).written;
}

-- blocks that are alike in what a process sees
module _ (d : MachineDesc) (g : FlatState) (o o' : Blocks) (r : Running) (s : Shows d g o r) (own : (n : ℕ) → 8 ≤ n → o' r.pid.0 n ≡ o r.pid.0 n) (held : (t n : ℕ) → t < length d.segments → has_bit r.held t ≡ true → o' (segment_extent (shape_of d) t) n ≡ o (segment_extent (shape_of d) t) n) where
  own_byte : (at : ℕ) → 256 ≤ at → byte_in o' r.pid.0 at ≡ byte_in o r.pid.0 at
  own_byte at past = ap (λ (b : Block). slice_index b.bytes (at % 32)) (own (at / 32) (omega (arith, past)))

  segment_byte : (t : ℕ) → t < length d.segments → has_bit r.held t ≡ true → (at : ℕ) → byte_in o' (segment_extent (shape_of d) t) at ≡ byte_in o (segment_extent (shape_of d) t) at
  segment_byte t lt is at = ap (λ (b : Block). slice_index b.bytes (at % 32)) (held t (at / 32) lt is)

  pub has_bytes : HasBytes d g o' r
  has_bytes = record {
    private = record { each = λ k below. own_byte (before_private (process_of d r.pid.0) + k) (omega arith) ∙ s.private.each k below };
    outbox = λ l k mine below. own_byte (256 + 256 * line_index d r l + k) (omega arith) ∙ (s.line l mine).outbox k below;
    segment = λ t lt is. record { each = λ k below. segment_byte t lt is (0 + k) ∙ ((s.segment t lt).bytes is).each k below };
  }

-- what lies over blocks
over : (x : Option Block) (a b : Block) → (x ≡ None → a ≡ b) → unwrap_or x a ≡ unwrap_or x b
over None a b same = same refl
over (Some y) a b same = refl

same_running : {a b : Running} → Some a ≡ Some b → a ≡ b
same_running e = cc

module _ (d : MachineDesc) (events : List Event) (at : Committed) (m : Machine) (described : IsDescription d) (st : Holds d events at m) (p : ℕ) where
  abbrev c : Changes
  c = m.cache p

  abbrev first : Blocks
  first = first_block (shape_of d) m.copies

  -- the first copy of an extent is one in service
  by_first : (o : Blocks) (e n : ℕ) → (serves (shape_of d) m.copies e false ≡ true → m.copies.block e n false ≡ o e n) → (serves (shape_of d) m.copies e true ≡ true → m.copies.block e n true ≡ o e n) → first e n ≡ o e n
  by_first o e n one two = go (serves (shape_of d) m.copies e false) one (all_are_served (shape_of d) m.copies described.memories.low_at st.words.service.one_out e)
    where
      go : (b : Bool) → (b ≡ true → m.copies.block e n false ≡ o e n) → serves (shape_of d) m.copies e (not b) ≡ true → m.copies.block e n (not b) ≡ o e n
      go true one up = one refl
      go false one up = two up

  first_holds : (area : ℕ → Bool) → BothHold (shape_of d) m.copies area (committed_blocks d at) → AreAlike area first (committed_blocks d at)
  first_holds area both = record {
    each = λ e n is. by_first (committed_blocks d at) e n
        (λ up. both.primaries.each e n (and_both (area e) (serves (shape_of d) m.copies e false) is up))
        (λ up. both.shadows.each e n (and_both (area e) (serves (shape_of d) m.copies e true) is up));
  }

  module _ (h : Hand) (r : Running) (is : m.hand p ≡ h) (runs : running_in h ≡ Some r) where
    abbrev area : ℕ → Bool
    area = in_area d r.pid.0 (segments_of d h)

    own : IsHand d p (m.incarnation p) h
    own = subst (IsHand d p (m.incarnation p)) is (st.words.hands.hands p)

    locks : HandLocks d (owners_of at.state) m.copies h
    locks = subst (HandLocks d (owners_of at.state) m.copies) is (st.locks.hands p)

    held_inside : (t : ℕ) → r.pid.0 < length d.processes → t < length d.segments → has_bit r.held t ≡ true → area (segment_extent (shape_of d) t) ≡ true
    held_inside t there lt bit = segment_in_area d r.pid.0 (segments_of d h) t there lt (ap is_whole (holds_whole d (owners_of at.state) m.copies p (m.incarnation p) h r.pid.0 t own locks (subst (λ x. HoldsIn x r.pid.0 t) (sym runs) (refl, bit))))

    -- in its area it reads what lies over the image
    reads : (x c' : Changes) (g : FlatState) → r.pid.0 < length d.processes → Shows d g (over_image d at.state at.commits c') r → ((e n : ℕ) → area e ≡ true → (e ≡ r.pid.0 → 8 ≤ n) → read_by d m.copies x e n ≡ over_image d at.state at.commits c' e n) → HasBytes d g (read_by d m.copies x) r
    reads x c' g there shows same = has_bytes d g (over_image d at.state at.commits c') (read_by d m.copies x) r shows
        (λ n past. same r.pid.0 n (process_in_area d r.pid.0 (segments_of d h)) (λ _. past))
        (λ t n lt bit. same (segment_extent (shape_of d) t) n (held_inside t there lt bit) (λ e. absurd (let z : ⊥ = omega (arith, e, there) in z)))

    both_read : (c' : Changes) (g : FlatState) → r.pid.0 < length d.processes → Shows d g (over_image d at.state at.commits c') r → BothHold (shape_of d) m.copies area (committed_blocks d at) → HasBytes d g (read_by d m.copies c') r
    both_read c' g there shows both = reads c' c' g there shows (λ e n inside _. (reads_over_first d m.copies c' area (committed_blocks d at) (first_holds area both)).each e n inside)

    -- amid the first pass too
    read_is : (e n : ℕ) → read_by d m.copies c e n ≡ unwrap_or (changed c.changes e n) (first e n)
    unfolding overlay
    read_is e n = refl

    first_read : (f : Flush first_stage.First) → f.pid.0 ≡ r.pid.0 → (k : FirstPass d at (segments_of d h) m.copies c r (units f c.changes) f.cursor) → HasBytes d k.works.ahead.state (read_by d m.copies c) r
    first_read f of k = reads c c k.works.ahead.state k.works.ahead.flush.within.process k.works.ahead.flush.shows (λ e n inside past.
        read_is e n ∙ over (changed c.changes e n) (first e n) (committed_blocks d at e n) (λ none. by_first (committed_blocks d at) e n
        (λ up. let no : changed (units f c.changes) e n ≡ None = units_elsewhere f.pid.0 f.context c.changes e n (λ x. past (x ∙ of)) ∙ none in
        others_hold d m.copies false r.pid.0 (segments_of d h) (units f c.changes) f.cursor _ k.primaries e n inside up no
        ∙ sym (k.make.blocks.each e n inside) ∙ ap (λ (x : Option Block). unwrap_or x (committed_blocks d at e n)) no)
        (λ up. k.shadows.each e n (and_both (area e) (serves (shape_of d) m.copies e true) inside up))))

    -- with changes that are committed, where the first copies hold what is committed in all other blocks
    committed_read : (g : FlatState) → r.pid.0 < length d.processes → Shows d g (over_image d at.state at.commits (emptied c)) r → AreCommitted d at area c.changes →
        ((e n : ℕ) → area e ≡ true → (e ≡ r.pid.0 → 8 ≤ n) → changed c.changes e n ≡ None → first e n ≡ committed_blocks d at e n) → HasBytes d g (read_by d m.copies c) r
    committed_read g there shows cached under = reads c (emptied c) g there shows (λ e n inside past.
        read_is e n ∙ over (changed c.changes e n) (first e n) (committed_blocks d at e n) (under e n inside past) ∙ cached.each e n inside ∙ sym (nothing_over (committed_blocks d at) e n))

    -- amid the second pass, and after it
    second_read : (f : Flush second_stage.Second) → f.pid.0 ≡ r.pid.0 → (k : SecondPass d at (segments_of d h) m.copies c r (units f c.changes) f.cursor) → HasBytes d k.rested.works.ahead.state (read_by d m.copies c) r
    second_read f of k = committed_read k.rested.works.ahead.state k.rested.works.ahead.flush.within.process k.rested.works.ahead.flush.shows (changes_committed area f.pid.0 f.context c.changes (committed_blocks d at) k.cached)
        (λ e n inside past none. by_first (committed_blocks d at) e n
        (λ up. k.primaries.each e n (and_both (area e) (serves (shape_of d) m.copies e false) inside up))
        (λ up. others_hold d m.copies true r.pid.0 (segments_of d h) (units f c.changes) (f.cursor - 1) _ k.shadows e n inside up (units_elsewhere f.pid.0 f.context c.changes e n (λ x. past (x ∙ of)) ∙ none)))

    closed_read : (k : Closes d at (segments_of d h) m.copies c r) → HasBytes d k.rested.works.ahead.state (read_by d m.copies c) r
    closed_read k = committed_read k.rested.works.ahead.state k.rested.works.ahead.flush.within.process k.rested.works.ahead.flush.shows k.cached (λ e n inside past none. (first_holds area k.both).each e n inside)

    ahead : (c' : Changes) (works : Works d at (segments_of d h) r c') → HasBytes d works.ahead.state (read_by d m.copies c) r → (IsAfterCommit h → r.steps ≡ 0) → IsAheadIn d (arrived d events) at.state m p r
    ahead c' works bytes none = record {
      state = works.ahead.state;
      steps = subst (λ i. steps d i r.pid.0 r.steps at.state ≡ Some works.ahead.state) st.input works.ahead.steps;
      quantum = let a = works.ahead.flush.within.steps in let b = works.ahead.flush.within.used in omega (arith, a, b);
      has = has_process d works.ahead.state (over_image d at.state at.commits c') r works.ahead.flush.shows;
      bytes = bytes;
      equal = works.equal;
      committed = λ k. none (subst IsAfterCommit is k);
    }

  abbrev Told : Hand → Type 0
  Told h = (r : Running) → running_in h ≡ Some r → IsAheadIn d (arrived d events) at.state m p r

  tell : (h : Hand) (x : Running) → (running_in h ≡ Some x) → IsAheadIn d (arrived d events) at.state m p x → Told h
  tell h x e k r runs = subst (IsAheadIn d (arrived d events) at.state m p) (same_running (sym e ∙ runs)) k

  hands : (h : Hand) → m.hand p ≡ h → HandKnows d at m.copies c h → Told h
  hands hand.Down is k = λ r runs. absurd (let z : ⊥ = cc in z)
  hands hand.Seek is k = λ r runs. absurd (let z : ⊥ = cc in z)
  hands (hand.Claiming q x) is k = λ r runs. absurd (let z : ⊥ = cc in z)
  hands (hand.Running x) is k = tell (hand.Running x) x refl (ahead (hand.Running x) x is refl c k.works
      (both_read (hand.Running x) x is refl c k.works.ahead.state k.works.ahead.flush.within.process k.works.ahead.flush.shows k.both) (λ z. absurd z))
  hands (hand.Acquiring x t a) is k = tell (hand.Acquiring x t a) x refl (ahead (hand.Acquiring x t a) x is refl c k.runs.works
      (both_read (hand.Acquiring x t a) x is refl c k.runs.works.ahead.state k.runs.works.ahead.flush.within.process k.runs.works.ahead.flush.shows k.runs.both) (λ z. absurd z))
  hands (hand.Flushing x why mask (flush.Mark f)) is k = tell (hand.Flushing x why mask (flush.Mark f)) x refl (ahead (hand.Flushing x why mask (flush.Mark f)) x is refl c k.0.works
      (both_read (hand.Flushing x why mask (flush.Mark f)) x is refl c k.0.works.ahead.state k.0.works.ahead.flush.within.process k.0.works.ahead.flush.shows k.0.both) (λ z. absurd z))
  hands (hand.Flushing x why mask (flush.First f)) is k = tell (hand.Flushing x why mask (flush.First f)) x refl (ahead (hand.Flushing x why mask (flush.First f)) x is refl c k.0.works
      (first_read (hand.Flushing x why mask (flush.First f)) x is refl f (own (hand.Flushing x why mask (flush.First f)) x is refl).process k.0) (λ z. absurd z))
  hands (hand.Flushing x why mask (flush.Second f)) is k = tell (hand.Flushing x why mask (flush.Second f)) x refl (ahead (hand.Flushing x why mask (flush.Second f)) x is refl (emptied c) k.0.rested.works
      (second_read (hand.Flushing x why mask (flush.Second f)) x is refl f (own (hand.Flushing x why mask (flush.Second f)) x is refl).process k.0) (λ _. k.0.rested.none))
  hands (hand.Flushing x why mask (flush.Close f)) is k = tell (hand.Flushing x why mask (flush.Close f)) x refl (ahead (hand.Flushing x why mask (flush.Close f)) x is refl (emptied c) k.0.rested.works
      (closed_read (hand.Flushing x why mask (flush.Close f)) x is refl k.0) (λ _. k.0.rested.none))
  hands (hand.Unlocking x why mask l) is k = tell (hand.Unlocking x why mask l) x refl (ahead (hand.Unlocking x why mask l) x is refl (emptied c) k.0.rested.works
      (closed_read (hand.Unlocking x why mask l) x is refl k.0) (λ _. k.0.rested.none))
  hands (hand.Leaving q l) is k = λ r runs. absurd (let z : ⊥ = cc in z)
  hands (hand.Recovering x) is k = λ r runs. absurd (let z : ⊥ = cc in z)

pub running_is_ahead : RunningIsAheadAlways
running_is_ahead d events m described all = record { each = λ p r runs. hands d events all.at m described all.holds p (m.hand p) refl (all.holds.blocks.hands p) r runs }
