-- The turns that are left, after each event.
use Rattle.std.proofs.Common.{◌≡◌, ◌⊎◌, inl, inr, ℕ, zero, suc, ◌+◌, ◌-◌, ◌*◌, ◌^◌, ◌<◌, ◌≤◌, Bool, true, false, ◌==◌, nat_le, Option, Some, None, length, refl, ap, sym, ◌∙◌, arith}
use Rattle.std.specs.Prelude.{sum, if◌then◌else◌}
use Rattle.std.proofs.lemmas.Bool.{cond_both, cases_eq, eqb-true, false≢true, true≢false}
use Rattle.seq_words.specs.Masks.{has_bit}
use Rattle.seq_words.specs.declared.description.MachineDesc.{MachineDesc}
use Rattle.seq_flat.specs.declared.state.End.{End}
use Rattle.seq_flat.specs.declared.state.End.TheVariants.{Live, Exited, Trapped}
use Rattle.seq_layout.specs.Shapes.{shape_of, blocks_of, segment_extent}
use Rattle.seq_process.specs.declared.running.Running.{Running}
use Rattle.seq_process.specs.Contexts.{end_of}
use Rattle.seq_locks.specs.Turns.{is_taken, word_at}
use Rattle.seq_flush.specs.Turns.{into_stage}
use Rattle.seq_kernel.specs.declared.outcomes.Cause.{Cause}
use Rattle.seq_kernel.specs.declared.outcomes.Cause.TheVariants as cause
use Rattle.seq_kernel.specs.declared.outcomes.Reason.TheVariants.{Lock}
use Rattle.seq_kernel.specs.declared.outcomes.Note.TheVariants.{Found}
use Rattle.seq_kernel.proofs.RefineCallsBits.{bit_off_here, bit_off_other}
use Rattle.seq_turns.specs.declared.hand.Hand.{Hand}
use Rattle.seq_turns.specs.declared.hand.Hand.TheVariants as hand
use Rattle.seq_turns.specs.declared.hand.FlushAt.{FlushAt}
use Rattle.seq_turns.specs.declared.hand.FlushAt.TheVariants as flush
use Rattle.seq_turns.specs.declared.hand.ReleaseAt.{ReleaseAt}
use Rattle.seq_turns.specs.declared.hand.ReleaseAt.TheVariants as release
use Rattle.seq_turns.specs.declared.hand.RecoveryAt.{RecoveryAt}
use Rattle.seq_turns.specs.declared.hand.RecoveryAt.TheVariants as recovery
use Rattle.seq_turns.specs.Functions.{lowest}
use Rattle.seq_turns.specs.Machines.{Machine, Move, Turn, idles}
use Rattle.seq_turns.specs.Machines.Turn.{Moves, Looks, Copies_unit, Stops}
use Rattle.seq_turns.specs.Reading.{context_of, is_amid}
use Rattle.seq_turns.specs.Causes.{agree, flushes, finds, follows, release_next, after_releases}
use Rattle.seq_turns.specs.Operations.{taken_up, flush_move, less, unit_count}
use Rattle.seq_recover.specs.Turns as recovering
use Rattle.seq_recover.specs.Reading.{recovered_blocks, left_from}
use Rattle.seq_turns.specs.Recoveries.{after_clearing, locks_cleared, recovery_move}
use Rattle.seq_turns.specs.Processors.{turn}
use Rattle.seq_recover.proofs.LeftFrom.{left_passes}
use Rattle.seq_stands.specs.Hands.{IsHand}
use Rattle.seq_stands.specs.FitHands.{MaskFits, HandFits}
use Rattle.seq_stands.specs.Fit.{FlushAtFits, RecoveryAtFits, HandHolds, Fit}
use Rattle.seq_stands.proofs.FitBlocks.{no_bit}
use Rattle.seq_stands.specs.CountLeft.{segments_below, leaving_turns, releasing_turns, flush_left, recovery_left, left, left_of, most_left, LeftIsFew}

-- a segment counts where it is one of the mask
abbrev pub counts : Bool → ℕ
counts b = if b then 1 else 0

-- the segments of a mask
at_most : (n mask : ℕ) → segments_below n mask ≤ n
at_most zero mask = omega arith
at_most (suc n) mask = let before = at_most n mask in cond_both (has_bit mask n) 1 0 (λ x. segments_below n mask + x ≤ suc n) (λ _. omega (arith, before)) (λ _. omega (arith, before))

same_below : (n a b : ℕ) → ((t : ℕ) → t < n → has_bit a t ≡ has_bit b t) → segments_below n a ≡ segments_below n b
same_below zero a b same = refl
same_below (suc n) a b same =
    let before = same_below n a b (λ t lt. same t (omega (arith, lt))) in
    let here : counts (has_bit a n) ≡ counts (has_bit b n) = ap counts (same n (omega arith)) in
    omega (arith, before, here)

none_of_zero : (n : ℕ) → segments_below n 0 ≡ 0
none_of_zero zero = refl
none_of_zero (suc n) =
    let before = none_of_zero n in
    let here : counts (has_bit 0 n) ≡ 0 = ap counts (no_bit n) in
    omega (arith, before, here)

-- a segment that is released is one less
one_less : (n mask t : ℕ) → has_bit mask t ≡ true → t < n → segments_below n (mask - 2 ^ t) + 1 ≡ segments_below n mask
one_less zero mask t on lt = absurd (let c : ⊥ = omega (arith, lt) in c)
one_less (suc n) mask t on lt = go (cases_eq t n) (λ below. one_less n mask t on below)
  where
    go : (t ≡ n) ⊎ (t ≡ n → ⊥) → (t < n → segments_below n (mask - 2 ^ t) + 1 ≡ segments_below n mask) → segments_below (suc n) (mask - 2 ^ t) + 1 ≡ segments_below (suc n) mask
    go (inl e) lower =
        let before = same_below n (mask - 2 ^ t) mask (λ u below. bit_off_other mask t u (λ same. let c : ⊥ = omega (arith, same, below, e) in c) on) in
        let off : counts (has_bit (mask - 2 ^ t) n) ≡ 0 = ap counts (ap (has_bit (mask - 2 ^ t)) (sym e) ∙ bit_off_here mask t on) in
        let was : counts (has_bit mask n) ≡ 1 = ap counts (ap (has_bit mask) (sym e) ∙ on) in
        omega (arith, before, off, was)
    go (inr ne) lower =
        let before = lower (omega (arith, lt, ne)) in
        let same : counts (has_bit (mask - 2 ^ t) n) ≡ counts (has_bit mask n) = ap counts (bit_off_other mask t n (λ e. ne (sym e)) on) in
        omega (arith, before, same)

module _ (d : MachineDesc) where
  -- after all releases, and after the flush
  after_left : (k : ℕ) (r : Running) (why : Cause) (mask : ℕ) → left d k (after_releases r why) ≤ releasing_turns d why mask
  after_left k r (cause.Release t) mask = omega arith
  after_left k r cause.Exit mask = omega arith
  after_left k r cause.Trap mask = omega arith
  after_left k r cause.Commit mask = omega arith
  after_left k r cause.Yield mask = omega arith
  after_left k r (cause.Wait reason) mask = omega arith
  after_left k r cause.Room mask = omega arith
  after_left k r cause.Quantum mask = omega arith

  follows_left : (k : ℕ) (r : Running) (why : Cause) (mask : ℕ) → left d k (follows d r why mask) ≤ releasing_turns d why mask
  follows_left k r why mask = next (lowest (has_bit mask) 16)
    where
      next : (o : Option ℕ) → left d k (release_next d r why mask o) ≤ releasing_turns d why mask
      next (Some t) = omega arith
      next None = after_left k r why mask

  -- a turn leaves fewer than so many
  abbrev Leaves : ℕ → Move → Type 0
  Leaves before move = left d (length move.cache.changes) move.hand < before

  abbrev pub Lowers : ℕ → Turn → Type 0
  Lowers before (Moves move) = Leaves before move
  Lowers before (Looks next move) = Leaves before move
  Lowers before (Copies_unit i) = ⊥
  Lowers before Stops = 0 < before

  module _ (m : Machine) (p : ℕ) where
    abbrev k : ℕ
    k = length (m.cache p).changes

    found : (r : Running) (why : Cause) (mask before : ℕ) → 2 * (k + 8) + 6 + releasing_turns d why mask < before → Lowers before (finds d m p r (m.cache p) why mask)
    found r why mask before few =
        cond_both (r.steps == 0) _ _ (Lowers before) (λ _. let next = follows_left k r why mask in omega (arith, next, few))
        (λ _. cond_both (agree r.pair) (Moves (record (idles m p) { hand = flushes m p r why mask; cache = m.cache p; note = Found r.pid why })) Stops (Lowers before) (λ _. omega (arith, few)) (λ _. omega (arith, few)))

    flushed : (r : Running) (why : Cause) (mask : ℕ) (f : FlushAt) → FlushAtFits d (m.cache p).changes f → Leaves (flush_left (k + 8) f + releasing_turns d why mask) (flush_move d m p r why mask f)
    flushed r why mask (flush.Mark f) fits = cond_both (f.cursor == 0) _ _ (Leaves (flush_left (k + 8) (flush.Mark f) + releasing_turns d why mask))
        (λ z. let first = eqb-true f.cursor 0 z in omega (arith, first)) (λ _. let few = fits.cursor in omega (arith, few))
    flushed r why mask (flush.First f) fits = let few = fits.cursor in cond_both (nat_le (unit_count m p f) f.cursor) _ _ (Leaves (flush_left (k + 8) (flush.First f) + releasing_turns d why mask))
        (λ _. omega (arith, few)) (λ _. omega (arith, few))
    flushed r why mask (flush.Second f) fits = let few = fits.cursor in cond_both (f.cursor == 0) _ _ (Leaves (flush_left (k + 8) (flush.Second f) + releasing_turns d why mask))
        (λ z. let first = eqb-true f.cursor 0 z in omega (arith, first))
        (λ _. cond_both (nat_le (unit_count m p f) f.cursor) (flush.Close (into_stage f (record {}))) (flush.Second (record f { cursor = f.cursor + 1 })) (λ x. flush_left (k + 8) x + releasing_turns d why mask < flush_left (k + 8) (flush.Second f) + releasing_turns d why mask)
        (λ _. omega (arith, few)) (λ _. omega (arith, few)))
    flushed r why mask (flush.Close f) fits = let few = fits.cursor in cond_both (f.cursor == 0) _ _ (Leaves (flush_left (k + 8) (flush.Close f) + releasing_turns d why mask))
        (λ z. let first = eqb-true f.cursor 0 z in omega (arith, first)) (λ _. let next = follows_left 0 r why mask in omega (arith, few, next))

    unlocked : (r : Running) (why : Cause) (mask i : ℕ) (l : ReleaseAt) → IsHand d p i (hand.Unlocking r why mask l) → MaskFits d mask → Lowers (left d k (hand.Unlocking r why mask l)) (turn d m p (hand.Unlocking r why mask l))
    unlocked r why mask i (release.Shadow l) is fits = let one = one_less (length d.segments) mask is.segment is.bit (fits.inside is.segment is.bit) in omega (arith, one)
    unlocked r why mask i (release.Primary l) is fits =
        let number : l.at.extent.0 - segment_extent (shape_of d) 0 ≡ is.segment = (let e : l.at.extent.0 ≡ segment_extent (shape_of d) is.segment = ap (λ w. w.extent.0) is.place in omega (arith, e)) in
        let one = one_less (length d.segments) mask is.segment is.bit (fits.inside is.segment is.bit) in
        let same : segments_below (length d.segments) (less d mask l.at) ≡ segments_below (length d.segments) (mask - 2 ^ is.segment) = ap (λ n. segments_below (length d.segments) (mask - 2 ^ n)) number in
        let next = follows_left k r why (less d mask l.at) in
        omega (arith, one, same, next)

    recovered : (r : RecoveryAt) → RecoveryAtFits d r → Leaves (recovery_left d r) (recovery_move d m p r)
    recovered (recovery.Claimed r) fits = let few = fits.turns in cond_both (r.cursor == 0) _ _ (Leaves (recovery_left d (recovery.Claimed r)))
        (λ z. let first = eqb-true r.cursor 0 z in omega (arith, first)) (λ _. omega (arith, few))
    recovered (recovery.Copying r) fits = let few = fits.turns in
        cond_both (nat_le (length (recovered_blocks d m.copies r.pid.0)) (r.cursor + 1)) (recovery.Locks (recovering.into_stage r (record {}))) (recovery.Copying (record r { cursor = r.cursor + 1 })) (λ x. recovery_left d x < recovery_left d (recovery.Copying r))
        (λ _. omega (arith, few)) (λ _. omega (arith, few))
    recovered (recovery.Locks r) fits = go (left_from d m.copies r.pid.0 r.cursor) refl
      where
        few : r.cursor ≤ 2 * length d.segments
        few = fits.turns

        after : (j : ℕ) → r.cursor ≤ j → (o : Option ℕ) → recovery_left d (after_clearing r j o) < recovery_left d (recovery.Locks r)
        after j behind (Some k) = omega (arith, few, behind)
        after j behind None = omega (arith, few)

        go : (o : Option ℕ) → left_from d m.copies r.pid.0 r.cursor ≡ o → Leaves (recovery_left d (recovery.Locks r)) (locks_cleared d m p r o)
        go (Some j) e = after j (left_passes d m.copies r.pid.0 r.cursor j e).0 (left_from d m.copies r.pid.0 (j + 1))
        go None e = omega (arith, few)
    recovered (recovery.Closing r) fits = let few = fits.turns in cond_both (r.cursor == 0) _ _ (Leaves (recovery_left d (recovery.Closing r)))
        (λ z. let first = eqb-true r.cursor 0 z in omega (arith, first)) (λ _. omega (arith, few))

    -- each turn amid an operation leaves fewer
    pub turn_lowers : (i : ℕ) (h : Hand) → is_amid h ≡ true → HandFits d h → IsHand d p i h → HandHolds d (m.cache p).changes h → Lowers (left d k h) (turn d m p h)
    turn_lowers i hand.Down amid fits is holds = absurd (false≢true amid)
    turn_lowers i hand.Seek amid fits is holds = absurd (false≢true amid)
    turn_lowers i (hand.Claiming q c) amid fits is holds = cond_both (is_taken (shape_of d) m.copies c.at true) _ _ (Leaves (left d k (hand.Claiming q c))) (λ _. omega arith) (λ _. up (end_of (context_of d m.copies q.0)))
      where
        up : (x : End) → left d 0 (taken_up d m q.0 x) < left d k (hand.Claiming q c)
        up Live = omega arith
        up (Exited code) = omega arith
        up (Trapped code pc) = omega arith
    turn_lowers i (hand.Running r) amid fits is holds = absurd (false≢true amid)
    turn_lowers i (hand.Acquiring r t c) amid fits is holds = cond_both (is_taken (shape_of d) m.copies c.at true) _ _ (Lowers (left d k (hand.Acquiring r t c)))
        (λ _. let none = none_of_zero (length d.segments) in found r (cause.Wait (Lock t (record { 0 = word_at m.copies c.at true - 1 }))) 0 (left d k (hand.Acquiring r t c)) (omega (arith, none))) (λ _. omega arith)
    turn_lowers i (hand.Flushing r why mask f) amid fits is holds = flushed r why mask f holds.2
    turn_lowers i (hand.Unlocking r why mask l) amid fits is holds = unlocked r why mask i l is fits.2
    turn_lowers i (hand.Leaving q (release.Shadow l)) amid fits is holds = omega arith
    turn_lowers i (hand.Leaving q (release.Primary l)) amid fits is holds = omega arith
    turn_lowers i (hand.Recovering r) amid fits is holds = recovered r holds

  -- how few are left
  module _ (k : ℕ) (few : k ≤ d.cache) where
    flush_few : (f : FlushAt) → flush_left (k + 8) f ≤ 2 * d.cache + 22
    flush_few (flush.Mark f) = omega (arith, few)
    flush_few (flush.First f) = omega (arith, few)
    flush_few (flush.Second f) = omega (arith, few)
    flush_few (flush.Close f) = omega (arith, few)

    leaving_few : (why : Cause) → leaving_turns why ≤ 2
    leaving_few (cause.Release t) = omega arith
    leaving_few cause.Exit = omega arith
    leaving_few cause.Trap = omega arith
    leaving_few cause.Commit = omega arith
    leaving_few cause.Yield = omega arith
    leaving_few (cause.Wait reason) = omega arith
    leaving_few cause.Room = omega arith
    leaving_few cause.Quantum = omega arith

    recovery_few : (r : RecoveryAt) → recovery_left d r ≤ sum (blocks_of d) + 2 * length d.segments + 6
    recovery_few (recovery.Claimed r) = omega arith
    recovery_few (recovery.Copying r) = omega arith
    recovery_few (recovery.Locks r) = omega arith
    recovery_few (recovery.Closing r) = omega arith

    pub hand_few : (h : Hand) → left d k h ≤ most_left d
    hand_few hand.Down = omega arith
    hand_few hand.Seek = omega arith
    hand_few (hand.Claiming q c) = omega arith
    hand_few (hand.Running r) = omega arith
    hand_few (hand.Acquiring r t c) = omega (arith, few)
    hand_few (hand.Flushing r why mask f) = let a = flush_few f in let b = leaving_few why in let c = at_most (length d.segments) mask in omega (arith, a, b, c)
    hand_few (hand.Unlocking r why mask (release.Shadow l)) = let b = leaving_few why in let c = at_most (length d.segments) mask in omega (arith, b, c)
    hand_few (hand.Unlocking r why mask (release.Primary l)) = let b = leaving_few why in let c = at_most (length d.segments) mask in omega (arith, b, c)
    hand_few (hand.Leaving q (release.Shadow l)) = omega arith
    hand_few (hand.Leaving q (release.Primary l)) = omega arith
    hand_few (hand.Recovering r) = let a = recovery_few r in omega (arith, a)

  pub none_left : (k : ℕ) (h : Hand) → is_amid h ≡ false → left d k h ≡ 0
  none_left k hand.Down idle = refl
  none_left k hand.Seek idle = refl
  none_left k (hand.Claiming q c) idle = absurd (true≢false idle)
  none_left k (hand.Running r) idle = refl
  none_left k (hand.Acquiring r t c) idle = absurd (true≢false idle)
  none_left k (hand.Flushing r why mask f) idle = absurd (true≢false idle)
  none_left k (hand.Unlocking r why mask l) idle = absurd (true≢false idle)
  none_left k (hand.Leaving q l) idle = absurd (true≢false idle)
  none_left k (hand.Recovering r) idle = absurd (true≢false idle)

-- a turn that leaves fewer was taken with some left
some_left : (d : MachineDesc) (before : ℕ) (t : Turn) → Lowers d before t → 0 < before
some_left d before (Moves move) fewer = omega (arith, fewer)
some_left d before (Looks next move) fewer = omega (arith, fewer)
some_left d before (Copies_unit i) fewer = absurd fewer
some_left d before Stops fewer = fewer

-- of a processor that fits
pub fits_lowers : (d : MachineDesc) (m : Machine) (p : ℕ) → Fit d m → p < d.processors → is_amid (m.hand p) ≡ true → Lowers d (left_of d m p) (turn d m p (m.hand p))
fits_lowers d m p fit inside amid = let its = fit.processors p inside in turn_lowers d m p (m.incarnation p) (m.hand p) amid its.bounds its.own its.holds

pub left_is_few : LeftIsFew
left_is_few d m p fit inside =
    let its = fit.processors p inside in
    record {
      none = λ idle. none_left d (length (m.cache p).changes) (m.hand p) idle;
      some = λ amid. some_left d (left_of d m p) (turn d m p (m.hand p)) (fits_lowers d m p fit inside amid);
      most = hand_few d (length (m.cache p).changes) (let a = its.cache.cache.fits in let b = its.cache.capacity in omega (arith, a, b)) (m.hand p);
    }
