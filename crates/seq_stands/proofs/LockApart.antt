-- Events that change no lock word keep what stands of the lock words.
use Rattle.std.proofs.Common.{◌≡◌, inl, inr, ℕ, suc, ◌<◌, Bool, true, false, not, ◌&&◌, nat_lt, slice_index, length, refl, ap, sym, ◌∙◌, subst, arith}
use Rattle.std.proofs.lemmas.Bool.{cond_both}
use Rattle.seq_words.specs.declared.block.Block.{Block}
use Rattle.seq_words.specs.declared.half.Half.{Half}
use Rattle.seq_words.specs.declared.description.MachineDesc.{MachineDesc}
use Rattle.seq_layout.specs.Shapes.{shape_of, segment_extent, line_extent}
use Rattle.seq_turns.specs.declared.hand.Hand.{Hand}
use Rattle.seq_turns.specs.declared.hand.Hand.TheVariants as hand
use Rattle.seq_turns.specs.declared.hand.ReleaseAt.TheVariants as release
use Rattle.seq_turns.specs.declared.hand.RecoveryAt.{RecoveryAt}
use Rattle.seq_turns.specs.Functions.{update}
use Rattle.seq_turns.specs.Machines.{Machine, Change, words_after}
use Rattle.seq_io.specs.Changes.Change.{Unchanged, To_block, To_word}
use Rattle.seq_turns.specs.Duties.{Duty, duty, tells_sent, takes, closes, goal, is_below, is_at, differs, may_send, after_duty, rests}
use Rattle.seq_turns.specs.Events.{comes_back, strikes, after_io}
use Rattle.seq_turns.proofs.Functions.{update_cases, copy_elsewhere}
use Rattle.seq_stands.specs.Locks.{lock_view, lock_grip, HandLocks, LocksStand}
use Rattle.seq_stands.proofs.Changes.{view_same}
use Rattle.seq_stands.proofs.Duties.{duty_leaves}
use Rattle.seq_stands.proofs.LockFrame.{LeftOf}
use Rattle.seq_stands.proofs.LockSeen.{locks_seen, hand_seen, deserted_seen}

-- A duty of an I/O element changes nothing, a block, or a word of its line.
module _ (d : MachineDesc) (m : Machine) (l : ℕ) (P : Change → Type 0) (none : P Unchanged) (block : (e n : ℕ) (c : Bool) (b : Block) → P (To_block e n c b)) (word : (n : ℕ) (c : Bool) (w : ℕ) → P (To_word (line_extent (shape_of d) l) n c w)) where
  abbrev pub Does : Duty → Type 0
  Does done = P done.change

  closes_does : Does (closes d m l)
  closes_does =
      cond_both (not (m.port l).closed) _ _ Does (λ _. none) (λ _.
      cond_both (is_at d m.copies l 1 false 0) _ _ Does (λ _. word 1 false 1) (λ _.
      cond_both (is_at d m.copies l 1 true 0) _ _ Does (λ _. word 1 true 1) (λ _. none)))

  takes_does : (at byte : ℕ) → Does (takes d m l at byte)
  takes_does at byte =
      cond_both (is_at d m.copies l 0 false at && differs d m.copies l false at byte) _ _ Does (λ _. block _ _ false _) (λ _.
      cond_both (is_at d m.copies l 0 true at && differs d m.copies l true at byte) _ _ Does (λ _. block _ _ true _) (λ _.
      cond_both (is_at d m.copies l 0 false at) _ _ Does (λ _. word 0 false (suc at)) (λ _.
      cond_both (is_at d m.copies l 0 true at) _ _ Does (λ _. word 0 true (suc at)) (λ _. none))))

  tells_does : Does (tells_sent d m l)
  tells_does =
      cond_both (is_below d m.copies l 2 false (goal d m l)) _ _ Does (λ _. word 2 false (goal d m l)) (λ _.
      cond_both (is_below d m.copies l 2 true (goal d m l)) _ _ Does (λ _. word 2 true (goal d m l)) (λ _.
      cond_both (nat_lt (m.port l).taken (m.port l).arrived) _ _ Does (λ _. takes_does (m.port l).taken (slice_index (m.port l).store (m.port l).taken)) (λ _. closes_does)))

  pub duty_does : Does (duty d m l)
  duty_does = cond_both (may_send d m l) _ _ Does (λ _. none) (λ _. tells_does)

-- so each lock word is as it was
duty_leaves_locks : (d : MachineDesc) (m : Machine) (l t : ℕ) → t < length d.segments → (f : ℕ → ℕ → Bool → ℕ) (c : Bool) → words_after (duty d m l).change f (segment_extent (shape_of d) t) 0 c ≡ f (segment_extent (shape_of d) t) 0 c
duty_leaves_locks d m l t inside f c = duty_does d m l (λ change. words_after change f (segment_extent (shape_of d) t) 0 c ≡ f (segment_extent (shape_of d) t) 0 c)
    refl (λ e n c' b. refl)
    (λ n c' w. copy_elsewhere f (line_extent (shape_of d) l) n c' w (segment_extent (shape_of d) t) 0 c (λ e. let x : ⊥ = omega (arith, inside, e) in x))

module _ (d : MachineDesc) (owner : ℕ → ℕ) (m : Machine) (locks : LocksStand d owner m) where
  -- an I/O element's turn
  pub io_keeps : (i : ℕ) → LocksStand d owner (after_io d m i)
  io_keeps i = cond_both (rests d m i) _ _ (LocksStand d owner) (λ _. locks) (λ _. after)
    where
      l : ℕ
      l = (m.io i).cursor

      n : Machine
      n = after_duty d i l (duty d m l) m

      views : (t : ℕ) → t < length d.segments → lock_view d n.copies t ≡ lock_view d m.copies t
      views t k = view_same d m.copies (duty d m l).change (segment_extent (shape_of d) t) (λ c. duty_leaves_locks d m l t k m.copies.word c)

      left : (q : ℕ) → q < length d.processes → LeftOf d m q → LeftOf d n q
      left q k (inl x) = inl (deserted_seen d owner m n refl (λ all. all) q (view_same d m.copies (duty d m l).change q (λ c. (duty_leaves d m l).word m.copies.word q c k)) x)
      left q k (inr x) = inr (record { processor = x.processor; at = x.at; hand = x.hand; uncleared = x.uncleared })

      after : LocksStand d owner (after_duty d i (m.io i).cursor (duty d m (m.io i).cursor) m)
      after = locks_seen d owner m n views (λ r t k. refl) left (λ all. all) (λ r k. hand_seen d owner m.copies n.copies views (m.hand r) k) locks

  -- the hand of a processor changes, but not what it has hold of, and it recovers what it recovered
  hand_keeps : (p : ℕ) (next : Hand) → ((t : ℕ) → lock_grip d next t ≡ lock_grip d (m.hand p) t) → ((at : RecoveryAt) → m.hand p ≡ hand.Recovering at → next ≡ hand.Recovering at)
      → (HandLocks d owner m.copies (m.hand p) → HandLocks d owner m.copies next) → LocksStand d owner (record m { hand = update m.hand p next })
  hand_keeps p next same recovers knows = locks_seen d owner m n (λ t l. refl)
      (λ r t l. update_cases (λ h. lock_grip d h t ≡ lock_grip d (m.hand r) t) m.hand p next r (λ e. same t ∙ ap (λ x. lock_grip d (m.hand x) t) (sym e)) (λ ne. refl))
      left (λ all. all)
      (λ r k. update_cases (HandLocks d owner m.copies) m.hand p next r (λ e. knows (subst (λ x. HandLocks d owner m.copies (m.hand x)) e k)) (λ ne. k)) locks
    where
      n : Machine
      n = record m { hand = update m.hand p next }

      left : (q : ℕ) → q < length d.processes → LeftOf d m q → LeftOf d (record m { hand = update m.hand p next }) q
      left q k (inl x) = inl (deserted_seen d owner m n refl (λ all. all) q refl x)
      left q k (inr x) = inr (record {
        processor = x.processor;
        at = x.at;
        hand = update_cases (λ h. h ≡ hand.Recovering x.at) m.hand p next x.processor (λ e. recovers x.at (ap m.hand (sym e) ∙ x.hand)) (λ ne. x.hand);
        uncleared = x.uncleared;
      })

  -- a processor that is down comes back
  pub back_keeps : (p : ℕ) → m.hand p ≡ hand.Down → LocksStand d owner (record m { hand = update m.hand p (comes_back (m.hand p)) })
  back_keeps p e = hand_keeps p (comes_back (m.hand p))
      (λ t. ap (λ h. lock_grip d (comes_back h) t) e ∙ sym (ap (λ h. lock_grip d h t) e))
      (λ at k. absurd (let i : hand.Down ≡ hand.Recovering at = sym e ∙ k in let c : ⊥ = cc in c))
      (λ k. subst (λ h. HandLocks d owner m.copies (comes_back h)) (sym e) tt)

  struck_grip : (half : Half) (reg mask : ℕ) (h : Hand) (t : ℕ) → lock_grip d (strikes half reg mask h) t ≡ lock_grip d h t
  struck_grip half reg mask hand.Down t = refl
  struck_grip half reg mask hand.Seek t = refl
  struck_grip half reg mask (hand.Claiming q c) t = refl
  struck_grip half reg mask (hand.Running r) t = refl
  struck_grip half reg mask (hand.Acquiring r s c) t = refl
  struck_grip half reg mask (hand.Flushing r c held f) t = refl
  struck_grip half reg mask (hand.Unlocking r c held (release.Shadow l)) t = refl
  struck_grip half reg mask (hand.Unlocking r c held (release.Primary l)) t = refl
  struck_grip half reg mask (hand.Leaving q l) t = refl
  struck_grip half reg mask (hand.Recovering r) t = refl

  struck_knows : (half : Half) (reg mask : ℕ) (h : Hand) → HandLocks d owner m.copies h → HandLocks d owner m.copies (strikes half reg mask h)
  struck_knows half reg mask hand.Down k = tt
  struck_knows half reg mask hand.Seek k = tt
  struck_knows half reg mask (hand.Claiming q c) k = tt
  struck_knows half reg mask (hand.Running r) k = record { claims = k.claims; kept = k.kept; even = k.even }
  struck_knows half reg mask (hand.Acquiring r s c) k = (record { claims = k.0.claims; kept = k.0.kept; even = k.0.even }, k.1)
  struck_knows half reg mask (hand.Flushing r c held f) k = (record { claims = k.0.claims; kept = k.0.kept; even = k.0.even }, k.1, k.2)
  struck_knows half reg mask (hand.Unlocking r c held (release.Shadow l)) k = (record { claims = k.0.claims; kept = k.0.kept; even = k.0.even }, k.1, k.2)
  struck_knows half reg mask (hand.Unlocking r c held (release.Primary l)) k = (record { claims = k.0.claims; kept = k.0.kept; even = k.0.even }, k.1, k.2)
  struck_knows half reg mask (hand.Leaving q l) k = tt
  struck_knows half reg mask (hand.Recovering r) k = k

  -- a half of a process is struck
  pub struck_keeps : (p : ℕ) (half : Half) (reg mask : ℕ) → LocksStand d owner (record m { hand = update m.hand p (strikes half reg mask (m.hand p)) })
  struck_keeps p half reg mask = hand_keeps p (strikes half reg mask (m.hand p)) (struck_grip half reg mask (m.hand p)) (λ at e. ap (strikes half reg mask) e) (struck_knows half reg mask (m.hand p))
