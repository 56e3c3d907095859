-- A unit that is copied to a memory keeps what stands of the blocks: while the memory is out nothing is seen of it, and once it is in
-- service each of its copies is what the other one holds.
use Rattle.std.proofs.Common.{◌≡◌, ◌≢◌, ◌⊎◌, inl, inr, ℕ, suc, ◌<◌, ◌≤◌, Bool, true, false, not, nat_le, slice_get, Option, Some, None, length, ap, sym, ◌∙◌, subst, arith}
use Rattle.std.proofs.lemmas.Bool.{cases_eq, cases_Bool, cond_both, cond-true, true≢false, false≢true, true_from_ne_false}
use Rattle.std.proofs.lemmas.Option.{slice_get_within}
use Rattle.std.proofs.Math.Nat.{mod-eq_of_lt}
use Rattle.seq_words.specs.Blocks.{zero_block}
use Rattle.seq_words.specs.Description.{IsDescription}
use Rattle.seq_words.specs.declared.block.Block.{Block}
use Rattle.seq_words.specs.declared.description.MachineDesc.{MachineDesc}
use Rattle.seq_memory.specs.States.{is_in_service}
use Rattle.seq_memory.specs.declared.element.State.{State}
use Rattle.seq_memory.specs.declared.element.State.TheVariants.{InService, Copying}
use Rattle.seq_layout.specs.Places.{memory_of, is_place, keeps}
use Rattle.seq_layout.specs.Shapes.{shape_of}
use Rattle.seq_layout.specs.Copies.{Copies, serves}
use Rattle.seq_layout.specs.Units.{units_of, extent_of}
use Rattle.seq_layout.specs.declared.units.Unit.{Unit as Part}
use Rattle.seq_layout.specs.declared.units.Unit.TheVariants.{Block as Of_block, Word as Of_word}
use Rattle.seq_layout.proofs.Apart.{keeps_copy, memory_in}
use Rattle.seq_layout.proofs.Sizes.{process_is_extent}
use Rattle.seq_layout.proofs.UnitParts.{unit_kept, block_listed}
use Rattle.seq_image.proofs.ImageBlocks.{place_of_test}
use Rattle.seq_turns.specs.Machines.{Machine, copies_after}
use Rattle.seq_turns.specs.Functions.{update}
use Rattle.seq_turns.specs.Reading.{is_amid, is_copied}
use Rattle.seq_turns.specs.Recoveries.{next_of, unit_taken, with_unit, unit_copied, copy_on}
use Rattle.seq_turns.specs.declared.hand.Hand.TheVariants as hand
use Rattle.seq_turns.specs.declared.hand.RecoveryAt.{RecoveryAt}
use Rattle.seq_turns.proofs.Functions.{update_same, update_other}
use Rattle.seq_stands.specs.Grips.{Kind, word}
use Rattle.seq_stands.specs.Words.{words_of, ruling, Ruled, WordsStand}
use Rattle.seq_stands.proofs.Copying.{places}
use Rattle.seq_stands.proofs.Numbers.{word_taken, same_processor, same_incarnation}
use Rattle.seq_stands.specs.Service.{IsEqual}
use Rattle.seq_stands.specs.Standing.{Stands}
use Rattle.seq_stands.proofs.Serviced.{copied_out, all_equal}
use Rattle.seq_invariant.specs.BlockWorks.{Committed}
use Rattle.seq_invariant.specs.BlockLeft.{IsLeft}
use Rattle.seq_invariant.specs.BlockStanding.{AreBlocks, BlocksStand}
use Rattle.seq_invariant.specs.BlockService.{ComeFrom, with_copies}
use Rattle.seq_invariant.proofs.BlockCopies.{either_block}
use Rattle.seq_invariant.proofs.BlockService.{service_keeps_blocks}
use Rattle.seq_lines.proofs.UnitsCopied.{blocks_kept, other_memory}
use Rattle.seq_invariant.proofs.Left.{deserted_word, left_all}

-- while a memory is out, no process is left
pub none_left_out : (d : MachineDesc) (m : Machine) → WordsStand (words_of d m) → (i : ℕ) → i < d.memories → is_in_service (m.copies.state i) ≡ false → (q : ℕ) (forward : Bool) → IsLeft d m q forward → ⊥
none_left_out d m st i inside out q forward is = true≢false (sym (left_all d m st q forward is i).0 ∙ ap (λ x. is_in_service (m.copies.state x)) (mod-eq_of_lt inside) ∙ out)

module _ (d : MachineDesc) (at : Committed) (m : Machine) (i : ℕ) (described : IsDescription d) (inside : i < d.memories) (is : is_copied (m.copies.state i) ≡ true) (calm : (p : ℕ) → is_amid (m.hand p) ≡ false) (stands : Stands d m) (st : BlocksStand d at m) where
  abbrev next : ℕ
  next = next_of (m.copies.state i)

  abbrev unit : Option Part
  unit = slice_get (units_of (shape_of d) i) (next_of (m.copies.state i))

  abbrev now : State → Copies
  now new = with_unit d m.copies i (next_of (m.copies.state i)) new

  two : 2 ≤ d.memories
  two = described.memories.low_at

  out : is_in_service (m.copies.state i) ≡ false
  out = copied_out (m.copies.state i) is

  kept : (x : Part) → slice_get (units_of (shape_of d) i) (next_of (m.copies.state i)) ≡ Some x → keeps d.memories i (extent_of x) ≡ true
  kept x e = unit_kept (shape_of d) i (next_of (m.copies.state i)) x e

  others : (j : ℕ) → j < d.memories → j ≢ i → is_in_service (m.copies.state j) ≡ true
  others j l ne = true_from_ne_false _ (λ f. ne (stands.service.one_out j i l inside f out))

  -- what isn't on the memory
  there : (new : State) (e n : ℕ) (c : Bool) → memory_of d.memories e c ≢ i → (now new).block e n c ≡ m.copies.block e n c
  there new e n c ne = blocks_kept d m.copies i unit kept e n c ne

  up_there : (new : State) (e : ℕ) (c : Bool) → memory_of d.memories e c ≢ i → serves (shape_of d) (now new) e c ≡ serves (shape_of d) m.copies e c
  up_there new e c ne = ap is_in_service (update_other m.copies.state i new (memory_of d.memories e c) ne)

  up_here : (new : State) (e : ℕ) (c : Bool) → memory_of d.memories e c ≡ i → serves (shape_of d) (now new) e c ≡ is_in_service new
  up_here new e c h = ap (λ x. is_in_service (update m.copies.state i new x)) h ∙ ap is_in_service (update_same m.copies.state i new)

  others_up : (e : ℕ) (c : Bool) → memory_of d.memories e c ≢ i → serves (shape_of d) m.copies e c ≡ true
  others_up e c ne = others (memory_of d.memories e c) (memory_in d.memories e c (omega (arith, two))) ne

  -- every block keeps its bytes
  taken_are : (u : Option Part) → AreBlocks d (copies_after (unit_taken d m.copies i u) m.copies)
  taken_are None = record { whole = st.blocks.whole; nowhere = st.blocks.nowhere }
  taken_are (Some (Of_word w)) = record { whole = st.blocks.whole; nowhere = st.blocks.nowhere }
  taken_are (Some (Of_block e n)) = record {
    whole = λ e' n' c. either_block (λ (x : Block). length x.bytes ≡ 32) m.copies.block e.0 n (copy_on d i e.0) (m.copies.block e.0 n (not (copy_on d i e.0))) e' n' c (λ _. st.blocks.whole e.0 n (not (copy_on d i e.0))) (st.blocks.whole e' n' c);
    nowhere = λ e' n' c none. either_block (λ x. x ≡ zero_block) m.copies.block e.0 n (copy_on d i e.0) (m.copies.block e.0 n (not (copy_on d i e.0))) e' n' c
        (λ part. st.blocks.nowhere e.0 n (not (copy_on d i e.0)) (ap (λ x. is_place (shape_of d).blocks x n) (sym part.0) ∙ ap (is_place (shape_of d).blocks e') (sym part.1) ∙ none)) (st.blocks.nowhere e' n' c none);
  }

  are : (new : State) → AreBlocks d (now new)
  are new = record { whole = (taken_are unit).whole; nowhere = (taken_are unit).nowhere }

  -- both copies of a block on the memory hold the same, once all its units are copied
  module _ (new : State) (whole : is_in_service new ≡ true → (k : ℕ) → k < length (units_of (shape_of d) i) → IsEqual (now new) (slice_get (units_of (shape_of d) i) k)) where
    even : (e n : ℕ) (c : Bool) → memory_of d.memories e c ≡ i → is_in_service new ≡ true → (now new).block e n c ≡ (now new).block e n (not c)
    even e n c h up = go (cases_Bool (is_place (shape_of d).blocks e n))
      where
        keeps_it : keeps d.memories i e ≡ true
        keeps_it = subst (λ x. keeps d.memories x e ≡ true) h (keeps_copy d.memories e c)

        each_way : (b : Bool) → (now new).block e n true ≡ (now new).block e n false → (now new).block e n b ≡ (now new).block e n (not b)
        each_way true same = same
        each_way false same = sym same

        go : (is_place (shape_of d).blocks e n ≡ true) ⊎ (is_place (shape_of d).blocks e n ≡ false) → (now new).block e n c ≡ (now new).block e n (not c)
        go (inl placed) =
            let place = place_of_test (shape_of d).blocks e n placed in
            let found = block_listed (shape_of d) i e n keeps_it place.extent_in place.part_in in
            each_way c (subst (IsEqual (now new)) found.1 (whole up found.0 (slice_get_within (units_of (shape_of d) i) found.0 _ found.1)))
        go (inr none) = (are new).nowhere e n c none ∙ sym ((are new).nowhere e n (not c) none)

    come : ComeFrom d m.copies (now new)
    come = record { each = λ e n c serving. go e n c serving (cases_eq (memory_of d.memories e c) i) }
      where
        go : (e n : ℕ) (c : Bool) → serves (shape_of d) (now new) e c ≡ true → (memory_of d.memories e c ≡ i) ⊎ (memory_of d.memories e c ≡ i → ⊥) →
            ((serves (shape_of d) m.copies e c ≡ true) × ((now new).block e n c ≡ m.copies.block e n c)) ⊎ ((serves (shape_of d) m.copies e (not c) ≡ true) × ((now new).block e n c ≡ m.copies.block e n (not c)))
        go e n c serving (inr ne) = inl (sym (up_there new e c ne) ∙ serving, there new e n c ne)
        go e n c serving (inl h) =
            let ne : memory_of d.memories e (not c) ≢ i = other_memory d e i c two h in
            inr (others_up e (not c) ne, even e n c h (sym (up_here new e c h) ∙ serving) ∙ there new e n (not c) ne)

    copied_blocks : ((q : ℕ) (forward : Bool) → IsLeft d (with_copies m (now new)) q forward → ⊥) → BlocksStand d at (with_copies m (now new))
    copied_blocks none = service_keeps_blocks d at m (now new) (record { hands = calm; left = none_left_out d m stands.words i inside out }) (record { hands = calm; left = none }) (are new) come st

  -- nobody recovers a process
  no_recovery : (r : ℕ) (x : RecoveryAt) → m.hand r ≡ hand.Recovering x → ⊥
  no_recovery r x e = true≢false (ap is_amid (sym e) ∙ calm r)

  pub unit_made : WordsStand (words_of d (unit_copied d m i)) → BlocksStand d at (unit_copied d m i)
  unit_made = cond_both (nat_le (length (units_of (shape_of d) i)) (suc next)) InService (Copying (suc next)) (λ new. WordsStand (words_of d (with_copies m (now new))) → BlocksStand d at (with_copies m (now new)))
      (λ t. λ st'. copied_blocks InService (λ _. all_equal d m m i inside is calm stands.service InService t) (back t st'))
      (λ _. λ st'. copied_blocks (Copying (suc next)) (λ up. absurd (false≢true up))
      (λ q forward h. none_left_out d (with_copies m (now (Copying (suc next)))) st' i inside (ap is_in_service (update_same m.copies.state i (Copying (suc next)))) q forward h))
    where
      -- with the memory in service, whom words name is whom they named
      back : nat_le (length (units_of (shape_of d) i)) (suc next) ≡ true → WordsStand (words_of d (with_copies m (now InService))) → (q : ℕ) (forward : Bool) → IsLeft d (with_copies m (now InService)) q forward → ⊥
      back t st' q forward (inr h) = no_recovery h.processor h.at h.hand
      back t st' q forward (inl h) =
          let x = deserted_word d (with_copies m (now InService)) st' q forward h in
          let first : ((words_of d (with_copies m (now InService))).view q).word1 ≡ ruling ((words_of d m).view q) =
          (places d m i next two out others stands.words (all_equal d m m i inside is calm stands.service InService t) calm q (process_is_extent d q h.inside)).first in
          let rules : ruling ((words_of d m).view q) ≡ word x.kind x.holder x.number = sym first ∙ sym (cond-true _ _ _ (x.all q).0) ∙ x.named in
          before x.kind x.holder x.number x.small x.stopped rules (stands.words.ruled q h.inside)
        where
          before : (k : Kind) (holder number : ℕ) → holder < 256 → number < m.incarnation holder → ruling ((words_of d m).view q) ≡ word k holder number → Ruled (words_of d m) q → ⊥
          before k holder number small stopped rules (inl free) = word_taken k holder number (sym rules ∙ free.free)
          before k holder number small stopped rules (inr (inr y)) = true≢false (sym (y.all i).0 ∙ ap (λ z. is_in_service (m.copies.state z)) (mod-eq_of_lt inside) ∙ out)
          before k holder number small stopped rules (inr (inl y)) =
              let says : word k holder number ≡ word y.kind y.holder (m.incarnation y.holder) = sym rules ∙ y.named in
              let one : holder ≡ y.holder = same_processor k y.kind holder y.holder number (m.incarnation y.holder) small y.small says in
              let time : number ≡ m.incarnation y.holder = same_incarnation k y.kind holder y.holder number (m.incarnation y.holder) small y.small says in
              let here : m.incarnation holder ≡ m.incarnation y.holder = ap m.incarnation one in
              let c : ⊥ = omega (arith, time, here, stopped) in c
