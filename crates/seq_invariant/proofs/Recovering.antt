-- The turns of a recovery that claim the word of a process that was left, or copy its blocks.
use Rattle.std.proofs.Common.{◌≡◌, ◌≢◌, ◌⊎◌, inl, inr, ℕ, ◌<◌, Bool, true, false, not, ◌&&◌, ◌==◌, None, suc, length, refl, ap, sym, ◌∙◌, subst}
use Rattle.std.proofs.lemmas.Bool.{cases_eq, false≢true}
use Rattle.seq_words.specs.declared.block.Block.{Block}
use Rattle.seq_words.specs.declared.description.MachineDesc.{MachineDesc}
use Rattle.seq_layout.specs.Shapes.{shape_of, segment_extent}
use Rattle.seq_layout.specs.Copies.{serves}
use Rattle.seq_cache.specs.Changes.{IsCache}
use Rattle.seq_image.specs.Flushing.{KeepsCopies}
use Rattle.seq_turns.specs.declared.hand.Hand.TheVariants as hand
use Rattle.seq_turns.specs.declared.hand.RecoveryAt.{RecoveryAt}
use Rattle.seq_turns.specs.Machines.{Machine, Move, after_move}
use Rattle.seq_turns.specs.Reading.{ruling, is_deserted}
use Rattle.seq_recover.specs.Reading.{names}
use Rattle.seq_turns.proofs.Functions.{update_same, update_other}
use Rattle.seq_stands.proofs.LockTurns.{OnlyOf}
use Rattle.seq_invariant.specs.BlockAreas.{hand_area, left_area}
use Rattle.seq_invariant.specs.BlockWorks.{Committed, committed_blocks}
use Rattle.seq_invariant.specs.BlockHands.{HandKnows}
use Rattle.seq_invariant.specs.BlockLeft.{way_of, HasToCopy, IsLeft, LeftKnows}
use Rattle.seq_invariant.specs.BlockStanding.{BlocksStand}
use Rattle.seq_invariant.proofs.BlockCopies.{holds_kept, holds_less}
use Rattle.seq_invariant.proofs.BlockFrame.{left_same}
use Rattle.seq_invariant.proofs.Kept.{IsQuiet, ruling_stays}
use Rattle.seq_invariant.proofs.LeftFrame.{Recovers, recovers_blocks}

-- A move of processor p, by which it has hold of process q as of a recovery, with something to copy or nothing more.
module _ (d : MachineDesc) (m : Machine) (p q : ℕ) (move : Move) (only : OnlyOf d q move.change) (now_its : (x : RecoveryAt) (y : ℕ) (forward : Bool) → m.hand p ≡ hand.Recovering x → HasToCopy x y forward → y ≡ q)
    (next_its : (x : RecoveryAt) (y : ℕ) (forward : Bool) → move.hand ≡ hand.Recovering x → HasToCopy x y forward → y ≡ q) where
  abbrev n : Machine
  n = after_move p move m

  pub back : (x : ℕ) (forward : Bool) → x ≢ q → IsLeft d n x forward → IsLeft d m x forward
  back x forward ne (inl h) =
      let same : ruling d n.copies x ≡ ruling d m.copies x = ruling_stays d m.copies q x move.change only.others h.inside ne in
      inl (record { inside = h.inside; deserted = ap (is_deserted m.incarnation) (sym same) ∙ h.deserted; way = ap way_of (sym same) ∙ h.way })
  back x forward ne (inr h) = inr (record { inside = h.inside; processor = h.processor; at = h.at; hand = go (cases_eq h.processor p); copies = h.copies })
    where
      go : (h.processor ≡ p) ⊎ (h.processor ≡ p → ⊥) → m.hand h.processor ≡ hand.Recovering h.at
      go (inl e) = absurd (ne (next_its h.at x forward (sym (update_same m.hand p move.hand) ∙ ap n.hand (sym e) ∙ h.hand) h.copies))
      go (inr other) = sym (update_other m.hand p move.hand h.processor other) ∙ h.hand

  pub on : (x : ℕ) (forward : Bool) → x ≢ q → IsLeft d m x forward → IsLeft d n x forward
  on x forward ne (inl h) =
      let same : ruling d n.copies x ≡ ruling d m.copies x = ruling_stays d m.copies q x move.change only.others h.inside ne in
      inl (record { inside = h.inside; deserted = ap (is_deserted m.incarnation) same ∙ h.deserted; way = ap way_of same ∙ h.way })
  on x forward ne (inr h) = inr (record {
    inside = h.inside;
    processor = h.processor;
    at = h.at;
    hand = update_other m.hand p move.hand h.processor (λ e. ne (now_its h.at x forward (ap m.hand (sym e) ∙ h.hand) h.copies)) ∙ h.hand;
    copies = h.copies;
  })

  -- its names stay, and so do its extents
  pub names_stay : (x t : ℕ) → names d n.copies x t false ≡ names d m.copies x t false
  names_stay x t = ap (λ w. serves (shape_of d) m.copies (segment_extent (shape_of d) t) false && (w == suc x)) (only.locks.word m.copies.word t false)

  pub area_on : (e : ℕ) → q < length d.processes → left_area d m.copies q e ≡ true → left_area d n.copies q e ≡ true
  area_on e there is = left_same d n.copies m.copies q there (λ u. sym (names_stay q u)) e is

  -- A move that writes a status word of the process.
  module _ (at : Committed) (owner : ℕ → ℕ) (st : BlocksStand d at m) (none : move.commit ≡ None) (cache : IsCache move.cache) (there : q < length d.processes) (quiet : IsQuiet d move.change) (before : (e : ℕ) → hand_area d (m.hand p) e ≡ false)
      (others : (r : ℕ) (x : RecoveryAt) (y : ℕ) (forward : Bool) → r ≢ p → m.hand r ≡ hand.Recovering x → HasToCopy x y forward → y ≢ q)
      (forward : Bool) (was : LeftKnows d at m.copies q forward) (is : IsLeft d n q forward) (one_way : (b : Bool) → IsLeft d n q b → b ≡ forward) (knows : HandKnows d at n.copies move.cache move.hand) where
    known : Recovers d at m p q move (λ e. false)
    known = record {
      none = none;
      cache = cache;
      before = before;
      block = λ e k c out. quiet.blocks m.copies.block e k c;
      are = record {
        whole = λ e k c. subst (λ (b : Block). length b.bytes ≡ 32) (sym (quiet.blocks m.copies.block e k c)) (st.blocks.whole e k c);
        nowhere = λ e k c out. quiet.blocks m.copies.block e k c ∙ st.blocks.nowhere e k c out;
      };
      hands = λ r e ne inside. refl;
      lefts = λ x e b ne left inside. refl;
      names = λ x t ne. names_stay x t;
      back = back;
      on = on;
      others = others;
      mine = λ b left. subst (λ b'. LeftKnows d at n.copies q b') (sym (one_way b left)) kept;
      knows = knows;
      extents = λ e b left inside. inr (inl (record { process = q; forward = forward; left = is; inside = area_on e there inside }));
      rests = λ e touched. absurd (false≢true touched);
    }
      where
        keeps : (area : ℕ → Bool) (shadow : Bool) → KeepsCopies (shape_of d) m.copies n.copies shadow area
        keeps area shadow = record { served = λ e inside serving. serving; block = λ e k inside serving. quiet.blocks m.copies.block e k shadow }

        kept : LeftKnows d at n.copies q forward
        kept = holds_less (shape_of d) n.copies (not forward) (left_area d m.copies q) (left_area d n.copies q) (committed_blocks d at) (left_same d m.copies n.copies q there (λ u. names_stay q u))
            (holds_kept (shape_of d) m.copies n.copies (not forward) (left_area d m.copies q) (committed_blocks d at) (keeps (left_area d m.copies q) (not forward)) was)

    pub word_blocks : BlocksStand d at n
    word_blocks = recovers_blocks d at m p q move (λ e. false) known st
