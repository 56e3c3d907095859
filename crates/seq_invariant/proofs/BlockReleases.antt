-- The last turns of a flush, and the releases of locks, keep what the hand knows.
use Rattle.std.proofs.Common.{◌≡◌, ◌⊎◌, ℕ, ◌-◌, ◌^◌, Bool, true, false, ◌||◌, ◌==◌, inl, inr, refl, sym, ap, ◌∙◌, subst, arith}
use Rattle.std.proofs.lemmas.Bool.{cond_both, cases_eq, false≢true, ne_eqb}
use Rattle.seq_words.specs.Masks.{has_bit}
use Rattle.seq_words.specs.declared.description.MachineDesc.{MachineDesc}
use Rattle.seq_layout.specs.Shapes.{shape_of, segment_extent}
use Rattle.seq_layout.specs.Copies.{Copies}
use Rattle.seq_layout.specs.declared.units.WordAt.{WordAt}
use Rattle.seq_process.specs.declared.running.Running.{Running}
use Rattle.seq_cache.specs.Changes.{Changes}
use Rattle.seq_status.specs.Words.{word_of}
use Rattle.seq_status.specs.declared.status.Status.TheVariants.{Run}
use Rattle.seq_flush.specs.declared.flush.Flush.{Flush}
use Rattle.seq_flush.specs.declared.stages.Close as close_stage
use Rattle.seq_locks.specs.declared.release.Release.{Release}
use Rattle.seq_locks.specs.declared.stages.Shadow as shadow_stage
use Rattle.seq_locks.specs.declared.stages.Primary as primary_stage
use Rattle.seq_kernel.specs.declared.outcomes.Cause.{Cause}
use Rattle.seq_kernel.proofs.RefineCallsBits.{bit_off_other, bit_off_here}
use Rattle.seq_image.specs.Areas.{in_area}
use Rattle.seq_image.specs.Depends.{HoldsAmong}
use Rattle.seq_image.specs.Ahead.{emptied}
use Rattle.seq_stands.specs.Hands.{IsLock}
use Rattle.seq_stands.specs.Locks.{LockGrip, whole_if, half_if, is_lock}
use Rattle.seq_turns.specs.declared.hand.Hand.TheVariants as hand
use Rattle.seq_turns.specs.declared.hand.FlushAt.TheVariants as flush
use Rattle.seq_turns.specs.declared.hand.ReleaseAt.TheVariants as release
use Rattle.seq_turns.specs.Machines.{Machine, copies_after}
use Rattle.seq_turns.specs.Reading.{write_word}
use Rattle.seq_turns.specs.Causes.{follows}
use Rattle.seq_turns.specs.Operations.{close_move, unlock_move, less}
use Rattle.seq_invariant.specs.BlockAreas.{is_whole}
use Rattle.seq_invariant.specs.BlockWorks.{Committed, committed_blocks}
use Rattle.seq_invariant.specs.BlockHands.{Suits, Closes, HandKnows}
use Rattle.seq_invariant.proofs.BlockCopies.{word_same, same_keeps}
use Rattle.seq_invariant.proofs.BlockStays.{closes_kept}
use Rattle.seq_invariant.proofs.BlockShrinks.{closes_less}
use Rattle.seq_invariant.proofs.Units.{none_committed}
use Rattle.seq_invariant.proofs.BlockFollows.{wholes, held_whole, whole_is, follows_knows}
use Rattle.seq_invariant.specs.BlockTurns.{AfterMove}

-- what a hand knows after both passes speaks of no cache but an empty one
pub closes_emptied : (d : MachineDesc) (at : Committed) (segments : ℕ → Bool) (p : Copies) (c : Changes) (r : Running) → Closes d at segments p c r → Closes d at segments p (emptied c) r
closes_emptied d at segments p c r k = record {
  rested = record { works = k.rested.works; none = k.rested.none };
  both = k.both;
  cached = none_committed (in_area d r.pid.0 segments) (committed_blocks d at);
}

module _ (d : MachineDesc) (at : Committed) (m : Machine) (p : ℕ) (r : Running) (why : Cause) (mask : ℕ) where
  abbrev c : Changes
  c = m.cache p

  -- a copy of a word is written
  closes_after : (segments : ℕ → Bool) (x : Changes) (e n : ℕ) (shadow : Bool) (w : ℕ) → Closes d at segments m.copies x r → Closes d at segments (copies_after (write_word d m.copies e n shadow w) m.copies) x r
  closes_after segments x e n shadow w k =
      let same = word_same d m.copies e n shadow w in
      let q = copies_after (write_word d m.copies e n shadow w) m.copies in
      let area = in_area d r.pid.0 segments in
      closes_kept d at m.copies q x segments r (record { primaries = same_keeps (shape_of d) m.copies q false area same; shadows = same_keeps (shape_of d) m.copies q true area same }) k

  pub close_knows : (f : Flush close_stage.Close) → HandKnows d at m.copies c (hand.Flushing r why mask (flush.Close f)) → AfterMove d at m (close_move d m p r why mask f)
  close_knows f k = cond_both (f.cursor == 0) _ _ (AfterMove d at m)
      (λ _. (closes_after (wholes r mask) c f.pid.0 0 false (word_of (Run f.holder)) k.0, k.1))
      (λ _. follows_knows d at (copies_after (write_word d m.copies f.pid.0 0 true (word_of (Run f.holder))) m.copies) (emptied c) r why mask refl k.1
      (closes_emptied d at (wholes r mask) (copies_after (write_word d m.copies f.pid.0 0 true (word_of (Run f.holder))) m.copies) c r (closes_after (wholes r mask) c f.pid.0 0 true (word_of (Run f.holder)) k.0)))

  module _ (suits : Suits why mask r) where
    -- the segment whose lock is released isn't held
    not_lock : (at' : WordAt) (is : IsLock d mask at') (t : ℕ) → has_bit r.held t ≡ true → is_lock d t at' ≡ false
    not_lock at' is t held = ne_eqb _ _ (λ same.
        let here : is.segment ≡ t = let e : segment_extent (shape_of d) is.segment ≡ segment_extent (shape_of d) t = sym (ap (λ w. w.extent.0) is.place) ∙ same in omega (arith, e) in
        false≢true (sym (suits.given t (subst (λ x. has_bit mask x ≡ true) here is.bit)) ∙ held))

    half_among : (at' : WordAt) (is : IsLock d mask at') → HoldsAmong r (λ t. is_whole (half_if (is_lock d t at') r.pid.0 (whole_if (has_bit r.held t || has_bit mask t) r.pid.0)))
    half_among at' is t held = ap (λ b. is_whole (half_if b r.pid.0 (whole_if (has_bit r.held t || has_bit mask t) r.pid.0))) (not_lock at' is t held) ∙ held_whole r mask t held

    half_within : (b : Bool) (g : LockGrip) → is_whole (half_if b r.pid.0 g) ≡ true → is_whole g ≡ true
    half_within true g h = absurd (false≢true h)
    half_within false g h = h

    suits_less : (segment : ℕ) → has_bit mask segment ≡ true → Suits why (mask - 2 ^ segment) r
    suits_less segment on = record {
      lives = suits.lives;
      given = λ t bit. suits.given t (before t bit (cases_eq t segment));
    }
      where
        before : (t : ℕ) → has_bit (mask - 2 ^ segment) t ≡ true → (t ≡ segment) ⊎ (t ≡ segment → ⊥) → has_bit mask t ≡ true
        before t bit (inl e) = subst (λ x. has_bit mask x ≡ true) (sym e) on
        before t bit (inr ne) = sym (bit_off_other mask segment t ne on) ∙ bit

    -- with one segment less to be released
    less_within : (at' : WordAt) (is : IsLock d mask at') (t : ℕ) → wholes r (mask - 2 ^ is.segment) t ≡ true → is_whole (half_if (is_lock d t at') r.pid.0 (whole_if (has_bit r.held t || has_bit mask t) r.pid.0)) ≡ true
    less_within at' is t h = go (cases_eq t is.segment)
      where
        both : (has_bit r.held t || has_bit (mask - 2 ^ is.segment) t) ≡ true
        both = sym (whole_is _ r.pid.0) ∙ h

        go : (t ≡ is.segment) ⊎ (t ≡ is.segment → ⊥) → is_whole (half_if (is_lock d t at') r.pid.0 (whole_if (has_bit r.held t || has_bit mask t) r.pid.0)) ≡ true
        go (inl e) = absurd (
            let off : has_bit (mask - 2 ^ is.segment) t ≡ false = ap (has_bit (mask - 2 ^ is.segment)) e ∙ bit_off_here mask is.segment is.bit in
            let free : has_bit r.held t ≡ false = suits.given t (subst (λ x. has_bit mask x ≡ true) (sym e) is.bit) in
            let none : (has_bit r.held t || has_bit (mask - 2 ^ is.segment) t) ≡ false = rw (free, off) refl in
            false≢true (sym none ∙ both))
        go (inr ne) =
            let other : is_lock d t at' ≡ false = ne_eqb _ _ (λ same. ne (let e : segment_extent (shape_of d) is.segment ≡ segment_extent (shape_of d) t = sym (ap (λ w. w.extent.0) is.place) ∙ same in let i : t ≡ is.segment = omega (arith, e) in i)) in
            ap (λ b. is_whole (half_if b r.pid.0 (whole_if (has_bit r.held t || has_bit mask t) r.pid.0))) other
            ∙ whole_is _ r.pid.0 ∙ ap (λ b. has_bit r.held t || b) (sym (bit_off_other mask is.segment t ne is.bit)) ∙ both

  pub unlock_shadow_knows : (l : Release shadow_stage.Shadow) → IsLock d mask l.at → HandKnows d at m.copies c (hand.Unlocking r why mask (release.Shadow l)) → AfterMove d at m (unlock_move d m p r why mask (release.Shadow l))
  unlock_shadow_knows l is k =
      let q = copies_after (write_word d m.copies l.at.extent.0 l.at.word true 0) m.copies in (
        closes_less d at (wholes r mask) r c q (λ t. is_whole (half_if (is_lock d t l.at) r.pid.0 (whole_if (has_bit r.held t || has_bit mask t) r.pid.0))) (λ t. half_within k.2 (is_lock d t l.at) (whole_if (has_bit r.held t || has_bit mask t) r.pid.0)) (half_among k.2 l.at is)
            (closes_after (wholes r mask) c l.at.extent.0 l.at.word true 0 k.0),
        k.1,
        k.2,
      )

  pub unlock_primary_knows : (l : Release primary_stage.Primary) → IsLock d mask l.at → HandKnows d at m.copies c (hand.Unlocking r why mask (release.Primary l)) → AfterMove d at m (unlock_move d m p r why mask (release.Primary l))
  unlock_primary_knows l is k =
      let q = copies_after (write_word d m.copies l.at.extent.0 l.at.word false 0) m.copies in
      let halves : ℕ → Bool = λ t. is_whole (half_if (is_lock d t l.at) r.pid.0 (whole_if (has_bit r.held t || has_bit mask t) r.pid.0)) in
      let left : ℕ = mask - 2 ^ is.segment in
      let number : l.at.extent.0 - segment_extent (shape_of d) 0 ≡ is.segment = (let e : l.at.extent.0 ≡ segment_extent (shape_of d) is.segment = ap (λ w. w.extent.0) is.place in omega (arith, e)) in
      let same : left ≡ less d mask l.at = ap (λ n. mask - 2 ^ n) (sym number) in
      let after : Closes d at (wholes r left) q c r = closes_less d at halves r c q (wholes r left) (less_within k.2 l.at is) (held_whole r left) (closes_after halves c l.at.extent.0 l.at.word false 0 k.0) in
      subst (λ x. HandKnows d at q c (follows d r why x)) same (follows_knows d at q c r why left k.1 (suits_less k.2 is.segment is.bit) after)
