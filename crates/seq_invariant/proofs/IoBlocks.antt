-- A turn of an I/O element leaves what stands of the blocks.
use Rattle.std.proofs.Common.{◌≡◌, inl, inr, ℕ, zero, suc, ◌+◌, ◌-◌, ◌/◌, ◌%◌, ◌<◌, ◌≤◌, Bool, true, false, not, ◌&&◌, ◌==◌, nat_lt, if◌then◌else◌, length, List, ◌++◌, [], drop, Option, Some, None, refl, ap, sym, ◌∙◌, subst, arith, length-set, length-drop}
use Rattle.std.specs.Prelude.{slice_get, slice_index}
use Rattle.std.proofs.lemmas.Bool.{cond_both, and_parts, and_from, eqb-true, ltb-true, true≢false, false≢true}
use Rattle.std.proofs.lemmas.List.{get_or-drop}
use Rattle.seq_words.specs.Blocks.{zero_block}
use Rattle.seq_words.specs.Description.{IsDescription, line_count}
use Rattle.seq_words.specs.declared.block.Block.{Block}
use Rattle.seq_words.specs.declared.description.MachineDesc.{MachineDesc}
use Rattle.seq_layout.specs.Places.{is_place}
use Rattle.seq_layout.specs.Shapes.{shape_of, line_extent, segment_extent}
use Rattle.seq_layout.specs.Copies.{Copies, same_copy, serves, first_copy}
use Rattle.seq_layout.proofs.Sizes.{line_has_blocks}
use Rattle.seq_kernel.specs.Views.{Blocks}
use Rattle.seq_cache.specs.declared.change.Change.{Change as Unit_written}
use Rattle.seq_cache.specs.Changes.{Changes}
use Rattle.seq_flush.specs.Facts.{AreApart, all_written}
use Rattle.seq_flush.specs.Turns.{units, no_change}
use Rattle.seq_image.specs.Areas.{CopyHolds, served_in}
use Rattle.seq_image.proofs.Areas.{area_cases, process_in_area, segment_in_area}
use Rattle.seq_image.proofs.ImageBlocks.{place_test}
use Rattle.seq_image.proofs.Writing.{what_is_left_stays}
use Rattle.seq_turns.specs.declared.hand.Hand.{Hand}
use Rattle.seq_turns.specs.declared.hand.Hand.TheVariants as hand
use Rattle.seq_turns.specs.declared.hand.FlushAt.TheVariants as flush
use Rattle.seq_turns.specs.declared.hand.RecoveryAt.TheVariants as recovery
use Rattle.seq_turns.specs.Functions.{update_copy}
use Rattle.seq_turns.specs.Machines.{Machine, Change, copies_after, blocks_after, words_after}
use Rattle.seq_io.specs.Changes.Change.{Unchanged, To_block, To_word}
use Rattle.seq_turns.specs.Reading.{ruling, status_in, is_deserted}
use Rattle.seq_recover.specs.Reading.{names, blocks_in, blocks_below, recovered_blocks}
use Rattle.seq_turns.specs.Duties.{Duty, duty, after_duty, rests, tells_sent, takes, closes, goal, is_below, is_at, differs, may_send, journals}
use Rattle.seq_turns.proofs.Functions.{copy_elsewhere}
use Rattle.seq_stands.specs.Grips.{grip}
use Rattle.seq_stands.specs.Words.{words_of, GripHolds}
use Rattle.seq_stands.specs.Standing.{Stands}
use Rattle.seq_invariant.specs.BlockAreas.{left_area, BothHold}
use Rattle.seq_invariant.specs.BlockWorks.{Committed}
use Rattle.seq_invariant.specs.BlockHands.{IsSame, HandKnows}
use Rattle.seq_invariant.specs.BlockLeft.{way_of, IsLeft, LeftKnows}
use Rattle.seq_invariant.specs.BlockStanding.{AreBlocks, ExtentStands, BlocksStand}
use Rattle.seq_invariant.proofs.Units.{unit_inside}
use Rattle.seq_lines.proofs.Duties.{serves_one}
use Rattle.seq_lines.proofs.OffLines.{recovered_off, found_off}
use Rattle.seq_invariant.specs.JoinedKept.{IoKeepsBlocks}
use Rattle.seq_invariant.proofs.BlockLines.{below_lines}
use Rattle.seq_invariant.proofs.SteadyHolds.{left_inside}

-- a change at a line, of a block that is there, by a block of 32 bytes
abbrev IsLineChange : MachineDesc → ℕ → Change → Type 0
IsLineChange d l Unchanged = Unit {0}
IsLineChange d l (To_block e n c b) = (e ≡ line_extent (shape_of d) l) × (is_place (shape_of d).blocks e n ≡ true) × (length b.bytes ≡ 32)
IsLineChange d l (To_word e n c w) = e ≡ line_extent (shape_of d) l

module _ (d : MachineDesc) (m : Machine) (l : ℕ) (described : IsDescription d) (below : l < line_count d) (room : (m.port l).arrived ≤ d.journal) (whole : (e n : ℕ) (c : Bool) → length (m.copies.block e n c).bytes ≡ 32) where
  abbrev Fits : Duty → Type 0
  Fits done = IsLineChange d l done.change

  journal_fits : (c : Bool) (byte : ℕ) → (m.port l).taken < (m.port l).arrived → IsLineChange d l (journals d m.copies l c (m.port l).taken byte)
  journal_fits c byte unread = (
    refl,
    place_test (shape_of d).blocks (line_extent (shape_of d) l) ((m.port l).taken / 32) (line_has_blocks d l ((m.port l).taken / 32) below (let w = described.journal.whole in omega (arith, unread, room, w))),
    length-set (m.copies.block (line_extent (shape_of d) l) ((m.port l).taken / 32) c).bytes ((m.port l).taken % 32) byte ∙ whole (line_extent (shape_of d) l) ((m.port l).taken / 32) c,
  )

  closes_fits : Fits (closes d m l)
  closes_fits =
      cond_both (not (m.port l).closed) _ _ Fits (λ _. tt) (λ _.
      cond_both (is_at d m.copies l 1 false 0) _ _ Fits (λ _. refl) (λ _.
      cond_both (is_at d m.copies l 1 true 0) _ _ Fits (λ _. refl) (λ _. tt)))

  takes_fits : (byte : ℕ) → (m.port l).taken < (m.port l).arrived → Fits (takes d m l (m.port l).taken byte)
  takes_fits byte unread =
      cond_both (is_at d m.copies l 0 false (m.port l).taken && differs d m.copies l false (m.port l).taken byte) _ _ Fits (λ _. journal_fits false byte unread) (λ _.
      cond_both (is_at d m.copies l 0 true (m.port l).taken && differs d m.copies l true (m.port l).taken byte) _ _ Fits (λ _. journal_fits true byte unread) (λ _.
      cond_both (is_at d m.copies l 0 false (m.port l).taken) _ _ Fits (λ _. refl) (λ _.
      cond_both (is_at d m.copies l 0 true (m.port l).taken) _ _ Fits (λ _. refl) (λ _. tt))))

  tells_fits : Fits (tells_sent d m l)
  tells_fits =
      cond_both (is_below d m.copies l 2 false (goal d m l)) _ _ Fits (λ _. refl) (λ _.
      cond_both (is_below d m.copies l 2 true (goal d m l)) _ _ Fits (λ _. refl) (λ _.
      cond_both (nat_lt (m.port l).taken (m.port l).arrived) _ _ Fits (λ t. takes_fits (slice_index (m.port l).store (m.port l).taken) (ltb-true (m.port l).taken (m.port l).arrived t)) (λ _. closes_fits)))

  duty_fits : Fits (duty d m l)
  duty_fits = cond_both (may_send d m l) _ _ Fits (λ _. tt) (λ _. tells_fits)

same_true : (c' c : Bool) → same_copy c' c ≡ true → c' ≡ c
same_true true c t = sym t
same_true false true t = absurd (false≢true t)
same_true false false t = refl

-- a block after another was changed: one of the two
changed_or_not : (P : Block → Type 0) (f : ℕ → ℕ → Bool → Block) (e n : ℕ) (c : Bool) (b : Block) (e' n' : ℕ) (c' : Bool) → (e' ≡ e → n' ≡ n → P b) → P (f e' n' c') → P (update_copy f e n c b e' n' c')
unfolding update_copy
changed_or_not P f e n c b e' n' c' here there = cond_both ((e' == e && n' == n) && same_copy c' c) b (f e' n' c') P
    (λ t. let parts = and_parts (e' == e) (n' == n) (and_parts (e' == e && n' == n) (same_copy c' c) t).0 in here (eqb-true e' e parts.0) (eqb-true n' n parts.1)) (λ _. there)

module _ (d : MachineDesc) (p : Copies) (l : ℕ) (change : Change) (fits : IsLineChange d l change) where
  abbrev now : Copies
  now = copies_after change p

  -- blocks and words of processes and segments stay
  block_stays : (e n : ℕ) (c : Bool) → e < length d.processes + length d.segments → (copies_after change p).block e n c ≡ p.block e n c
  block_stays e n c lt = go change fits
    where
      go : (x : Change) → IsLineChange d l x → blocks_after x p.block e n c ≡ p.block e n c
      go Unchanged is = refl
      go (To_word e' n' c' w) is = refl
      go (To_block e' n' c' b) is = copy_elsewhere p.block e' n' c' b e n c (λ h. let at = is.0 in let z : ⊥ = omega (arith, at, h, lt) in z)

  word_stays : (e n : ℕ) (c : Bool) → e < length d.processes + length d.segments → (copies_after change p).word e n c ≡ p.word e n c
  word_stays e n c lt = go change fits
    where
      go : (x : Change) → IsLineChange d l x → words_after x p.word e n c ≡ p.word e n c
      go Unchanged is = refl
      go (To_block e' n' c' b) is = refl
      go (To_word e' n' c' w) is = copy_elsewhere p.word e' n' c' w e n c (λ h. let z : ⊥ = omega (arith, is, h, lt) in z)

  blocks_still : AreBlocks d p → AreBlocks d (copies_after change p)
  blocks_still are = record { whole = λ e n c. go_whole change fits e n c; nowhere = λ e n c none. go_nowhere change fits e n c none }
    where
      go_whole : (x : Change) → IsLineChange d l x → (e n : ℕ) (c : Bool) → length (blocks_after x p.block e n c).bytes ≡ 32
      go_whole Unchanged is e n c = are.whole e n c
      go_whole (To_word e' n' c' w) is e n c = are.whole e n c
      go_whole (To_block e' n' c' b) is e n c = changed_or_not (λ x. length x.bytes ≡ 32) p.block e' n' c' b e n c (λ _. λ _. is.2) (are.whole e n c)

      go_nowhere : (x : Change) → IsLineChange d l x → (e n : ℕ) (c : Bool) → is_place (shape_of d).blocks e n ≡ false → blocks_after x p.block e n c ≡ zero_block
      go_nowhere Unchanged is e n c none = are.nowhere e n c none
      go_nowhere (To_word e' n' c' w) is e n c none = are.nowhere e n c none
      go_nowhere (To_block e' n' c' b) is e n c none = changed_or_not (λ x. x ≡ zero_block) p.block e' n' c' b e n c
          (λ a. λ k. absurd (true≢false (sym is.1 ∙ sym (ap (λ x. is_place (shape_of d).blocks x n) a ∙ ap (is_place (shape_of d).blocks e') k) ∙ none))) (are.nowhere e n c none)

  -- an area of processes and segments
  module _ (area : ℕ → Bool) (small : (e : ℕ) → area e ≡ true → e < length d.processes + length d.segments) where
    inside : (shadow : Bool) (e : ℕ) → served_in (shape_of d) p shadow area e ≡ true → area e ≡ true
    inside shadow e t = (and_parts (area e) (serves (shape_of d) p e shadow) t).0

    holds_still : (shadow : Bool) (o : Blocks) → CopyHolds (shape_of d) p shadow area o → CopyHolds (shape_of d) (copies_after change p) shadow area o
    holds_still shadow o h = record { each = λ e n t. block_stays e n shadow (small e (inside shadow e t)) ∙ h.each e n t }

    both_still : (o : Blocks) → BothHold (shape_of d) p area o → BothHold (shape_of d) (copies_after change p) area o
    both_still o h = record { primaries = holds_still false o h.primaries; shadows = holds_still true o h.shadows }

    left_still : (shadow : Bool) (us : List Unit_written) (o : Blocks) → AreApart us → CopyHolds (shape_of d) (all_written (shape_of d) p shadow us) shadow area o → CopyHolds (shape_of d) (all_written (shape_of d) (copies_after change p) shadow us) shadow area o
    left_still shadow us o apart h = what_is_left_stays (shape_of d) p (copies_after change p) shadow area us o apart
        (record { served = λ e a t. t; block = λ e n a t. block_stays e n shadow (small e a) }) h

  -- the same locks name the process
  names_still : (q t : ℕ) (c : Bool) → t < length d.segments → names d (copies_after change p) q t c ≡ names d p q t c
  names_still q t c lt = ap (λ w. serves (shape_of d) p (segment_extent (shape_of d) t) c && (w == suc q)) (word_stays (segment_extent (shape_of d) t) 0 c (let s : length d.processes + t < length d.processes + length d.segments = omega (arith, lt) in s))

  below_still : (q t : ℕ) → t ≤ length d.segments → blocks_below d (copies_after change p) q t ≡ blocks_below d p q t
  below_still q zero le = refl
  below_still q (suc t) le = ap (λ b. b ++ (if names d (copies_after change p) q t false then blocks_in d (segment_extent (shape_of d) t) else [])) (below_still q t (omega (arith, le)))
      ∙ ap (λ b. blocks_below d p q t ++ (if b then blocks_in d (segment_extent (shape_of d) t) else [])) (names_still q t false (omega (arith, le)))

  recovered_still : (q : ℕ) → recovered_blocks d (copies_after change p) q ≡ recovered_blocks d p q
  unfolding recovered_blocks
  recovered_still q = ap (λ b. blocks_in d q ++ b) (below_still q (length d.segments) (omega arith))

  area_still : (q e : ℕ) → q < length d.processes → left_area d (copies_after change p) q e ≡ true → left_area d p q e ≡ true
  area_still q e lt t = elim (area_cases d q (λ s. names d (copies_after change p) q s false) e t) [
    | inl same ↦ subst (λ x. left_area d p q x ≡ true) (sym same) (process_in_area d q (λ s. names d p q s false))
    | inr other ↦ subst (λ x. left_area d p q x ≡ true) (sym other.3) (segment_in_area d q (λ s. names d p q s false) other.0 lt other.1 (sym (names_still q other.0 false other.1) ∙ other.2))
  ]

  area_before : (q e : ℕ) → q < length d.processes → left_area d p q e ≡ true → left_area d (copies_after change p) q e ≡ true
  area_before q e lt t = elim (area_cases d q (λ s. names d p q s false) e t) [
    | inl same ↦ subst (λ x. left_area d (copies_after change p) q x ≡ true) (sym same) (process_in_area d q (λ s. names d (copies_after change p) q s false))
    | inr other ↦ subst (λ x. left_area d (copies_after change p) q x ≡ true) (sym other.3) (segment_in_area d q (λ s. names d (copies_after change p) q s false) other.0 lt other.1 (names_still q other.0 false other.1 ∙ other.2))
  ]

  ruling_still : (q : ℕ) → q < length d.processes → ruling d (copies_after change p) q ≡ ruling d p q
  ruling_still q lt = ap status_in (word_stays q 0 (first_copy (shape_of d) p q) (omega (arith, lt)))

-- what is left of units that are apart is apart
left_apart : (us : List Unit_written) (k : ℕ) → AreApart us → AreApart (drop k us)
left_apart us k apart = record {
  number = λ i j li lj extent place.
      let ei = get_or-drop k us i no_change in
      let ej = get_or-drop k us j no_change in
      let same : k + i ≡ k + j = apart.number (k + i) (k + j) (omega (arith, li, length-drop k us)) (omega (arith, lj, length-drop k us))
      (ap (λ (u : Unit_written). u.extent.0) (sym ei) ∙ extent ∙ ap (λ (u : Unit_written). u.extent.0) ej) (ap (λ (u : Unit_written). u.place) (sym ei) ∙ place ∙ ap (λ (u : Unit_written). u.place) ej) in
      omega (arith, same);
}

module _ (d : MachineDesc) (at : Committed) (m : Machine) (l : ℕ) (change : Change) (described : IsDescription d) (stands : Stands d m) (fits : IsLineChange d l change) where
  abbrev later : Copies
  later = copies_after change m.copies

  same_still : (o : Option (ℕ × ℕ)) → ((b : ℕ × ℕ) → o ≡ Some b → b.0 < length d.processes + length d.segments) → IsSame m.copies o → IsSame (copies_after change m.copies) o
  same_still None small h = h
  same_still (Some b) small h = block_stays d m.copies l change fits b.0 b.1 true (small b refl) ∙ h ∙ sym (block_stays d m.copies l change fits b.0 b.1 false (small b refl))

  hand_still : (p : ℕ) (c : Changes) (h : Hand) → GripHolds (words_of d m) p (grip h) → HandKnows d at m.copies c h → HandKnows d at (copies_after change m.copies) c h
  hand_still p c hand.Down g k = tt
  hand_still p c hand.Seek g k = tt
  hand_still p c (hand.Claiming q x) g k = tt
  hand_still p c (hand.Running r) g k = record { works = k.works; live = k.live; own = k.own; clean = k.clean; both = both_still d m.copies l change fits _ (λ e a. below_lines d r.pid.0 _ e g.process a) _ k.both }
  hand_still p c (hand.Acquiring r t x) g k = record {
    runs = record { works = k.runs.works; live = k.runs.live; own = k.runs.own; clean = k.runs.clean; both = both_still d m.copies l change fits _ (λ e a. below_lines d r.pid.0 _ e g.process a) _ k.runs.both };
    asks = k.asks;
    left = k.left;
  }
  hand_still p c (hand.Flushing r why mask (flush.Mark f)) g k = (record { works = k.0.works; make = k.0.make; both = both_still d m.copies l change fits _ (λ e a. below_lines d r.pid.0 _ e g.process a) _ k.0.both }, k.1)
  hand_still p c (hand.Flushing r why mask (flush.First f)) g k = (
    record {
      works = k.0.works;
      make = k.0.make;
      primaries = left_still d m.copies l change fits _ (λ e a. below_lines d r.pid.0 _ e g.process a) false _ _ (left_apart (units f c.changes) f.cursor k.0.make.units.apart) k.0.primaries;
      shadows = holds_still d m.copies l change fits _ (λ e a. below_lines d r.pid.0 _ e g.process a) true _ k.0.shadows;
      to_come = record { each = λ i past below up. block_stays d m.copies l change fits _ _ false (below_lines d r.pid.0 _ _ g.process (unit_inside d r.pid.0 _ (units f c.changes) k.0.make.units i below)) ∙ k.0.to_come.each i past below up };
    },
    k.1,
  )
  hand_still p c (hand.Flushing r why mask (flush.Second f)) g k = (
    record {
      rested = k.0.rested;
      units = k.0.units;
      number = k.0.number;
      primaries = holds_still d m.copies l change fits _ (λ e a. below_lines d r.pid.0 _ e g.process a) false _ k.0.primaries;
      shadows = left_still d m.copies l change fits _ (λ e a. below_lines d r.pid.0 _ e g.process a) true _ _ (left_apart (units f c.changes) (f.cursor - 1) k.0.units.apart) k.0.shadows;
      cached = k.0.cached;
    },
    k.1,
  )
  hand_still p c (hand.Flushing r why mask (flush.Close f)) g k = (record { rested = k.0.rested; both = both_still d m.copies l change fits _ (λ e a. below_lines d r.pid.0 _ e g.process a) _ k.0.both; cached = k.0.cached }, k.1)
  hand_still p c (hand.Unlocking r why mask x) g k = (record { rested = k.0.rested; both = both_still d m.copies l change fits _ (λ e a. below_lines d r.pid.0 _ e g.process a) _ k.0.both; cached = k.0.cached }, k.1, k.2)
  hand_still p c (hand.Leaving q x) g k = tt
  hand_still p c (hand.Recovering (recovery.Claimed r)) g k = tt
  hand_still p c (hand.Recovering (recovery.Copying r)) g k = record {
    inside = k.inside;
    same = λ j lt. subst (λ b. IsSame (copies_after change m.copies) (slice_get b j)) (sym (recovered_still d m.copies l change fits r.pid.0))
        (same_still (slice_get (recovered_blocks d m.copies r.pid.0) j) (found_off d m p described stands (recovered_blocks d m.copies r.pid.0) j (recovered_off d m p described stands r.pid.0 k.inside)) (k.same j lt));
  }
  hand_still p c (hand.Recovering (recovery.Locks r)) g k = tt
  hand_still p c (hand.Recovering (recovery.Closing r)) g k = tt

-- the same processes are left after a duty
module _ (d : MachineDesc) (at : Committed) (m : Machine) (i l : ℕ) (done : Duty) (described : IsDescription d) (stands : Stands d m) (blocks : BlocksStand d at m) (fits : IsLineChange d l done.change) where
  abbrev after : Machine
  after = after_duty d i l done m

  left_before : (q : ℕ) (forward : Bool) → IsLeft d (after_duty d i l done m) q forward → IsLeft d m q forward
  left_before q forward (inl x) = let e = ruling_still d m.copies l done.change fits q x.inside in
      inl (record { inside = x.inside; deserted = subst (λ s. is_deserted m.incarnation s ≡ true) e x.deserted; way = subst (λ s. way_of s ≡ Some forward) e x.way })
  left_before q forward (inr x) = inr (record { inside = x.inside; processor = x.processor; at = x.at; hand = x.hand; copies = x.copies })

  left_after : (q : ℕ) (forward : Bool) → IsLeft d m q forward → IsLeft d (after_duty d i l done m) q forward
  left_after q forward (inl x) = let e = sym (ruling_still d m.copies l done.change fits q x.inside) in
      inl (record { inside = x.inside; deserted = subst (λ s. is_deserted m.incarnation s ≡ true) e x.deserted; way = subst (λ s. way_of s ≡ Some forward) e x.way })
  left_after q forward (inr x) = inr (record { inside = x.inside; processor = x.processor; at = x.at; hand = x.hand; copies = x.copies })

  left_knows : (q : ℕ) (forward : Bool) → IsLeft d m q forward → LeftKnows d at (copies_after done.change m.copies) q forward
  left_knows q forward left =
      let lt : q < length d.processes = left_inside d m stands q forward left in
      let h = holds_still d m.copies l done.change fits (left_area d m.copies q) (λ e a. below_lines d q _ e lt a) (not forward) _ (blocks.left q forward left) in
      record {
        each = λ e n t. let parts = and_parts (left_area d (copies_after done.change m.copies) q e) (serves (shape_of d) m.copies e (not forward)) t in
            h.each e n (and_from (left_area d m.copies q e) _ (area_still d m.copies l done.change fits q e lt parts.0) parts.1);
      }

  extent_still : (e : ℕ) → e < length d.processes + length d.segments → ExtentStands d at m e → ExtentStands d at (after_duty d i l done m) e
  extent_still e lt (inl x) = inl (record { holder = x.holder; inside = x.inside })
  extent_still e lt (inr (inl x)) = inr (inl (record { process = x.process; forward = x.forward; left = left_after x.process x.forward x.left; inside = area_before d m.copies l done.change fits x.process e (left_inside d m stands x.process x.forward x.left) x.inside }))
  extent_still e lt (inr (inr x)) = inr (inr (record { each = λ n shadow up. block_stays d m.copies l done.change fits e n shadow lt ∙ x.each n shadow up }))

  duty_leaves_blocks : BlocksStand d at (after_duty d i l done m)
  duty_leaves_blocks = record {
    committed = record { run = blocks.committed.run; commits = blocks.committed.commits; reached = blocks.committed.reached; fit = blocks.committed.fit };
    blocks = blocks_still d m.copies l done.change fits blocks.blocks;
    caches = blocks.caches;
    hands = λ p. hand_still d at m l done.change described stands fits p (m.cache p) (m.hand p) (stands.words.grips p) (blocks.hands p);
    left = λ q forward left. left_knows q forward (left_before q forward left);
    extents = λ e lt. extent_still e lt (blocks.extents e lt);
  }

pub io_keeps_blocks : IoKeepsBlocks
io_keeps_blocks d inputs f at m i described stands st blocks =
    cond_both (rests d m i) m (after_duty d i (m.io i).cursor (duty d m (m.io i).cursor) m) (BlocksStand d at) (λ _. blocks) (λ u.
    let below : (m.io i).cursor < line_count d = st.cursor i (serves_one d m i u) in
    duty_leaves_blocks d at m i (m.io i).cursor (duty d m (m.io i).cursor) described stands blocks (duty_fits d m (m.io i).cursor described below (st.line (m.io i).cursor below).port.room blocks.blocks.whole))
