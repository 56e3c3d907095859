-- What an I/O element's duty changes fits, and so does the port after it.
use Rattle.std.proofs.Common.{◌≡◌, ◌≢◌, ◌⊎◌, inl, inr, ℕ, zero, suc, ◌+◌, ◌/◌, ◌%◌, ◌<◌, ◌≤◌, Bool, true, false, not, ◌&&◌, ◌||◌, ◌==◌, nat_lt, Option, Some, None, is_some, length, slice_index, refl, sym, ◌∙◌, subst, arith}
use Rattle.std.specs.Prelude.{slice_set}
use Rattle.std.proofs.lemmas.Bool.{cond_both, or_parts, eqb-false, ltb-true}
use Rattle.std.proofs.lemmas.List.{length-set}
use Rattle.seq_words.specs.Description.{line_count}
use Rattle.seq_words.specs.declared.description.MachineDesc.{MachineDesc}
use Rattle.seq_layout.specs.Shapes.{shape_of, line_extent}
use Rattle.seq_io.specs.declared.element.PortState.{PortState}
use Rattle.seq_turns.specs.Machines.{Machine, Change}
use Rattle.seq_io.specs.Changes.Change.{Unchanged, To_block, To_word}
use Rattle.seq_turns.specs.Reading.{copied_memory}
use Rattle.seq_turns.specs.Duties.{Duty, duty, tells_sent, takes, closes, goal, is_below, is_at, differs, may_send, rests}
use Rattle.seq_stands.specs.FitLines.{PortFits}
use Rattle.seq_stands.specs.FitBlocks.{BlocksFit}
use Rattle.seq_stands.proofs.FitChanged.{BlockFits, ChangeFits, line_change}

module _ (d : MachineDesc) (m : Machine) (l : ℕ) (blocks : BlocksFit d m.copies) (port : PortFits d (m.port l)) where
  -- what a duty changes, and how much the port has given up then
  pub record DutyFits (done : Duty) : Type 0 where
    pub change : ChangeFits d done.change
    pub taken : done.taken ≤ (m.port l).arrived

  nothing_fits : (done : Duty) → done.change ≡ Unchanged → done.taken ≡ (m.port l).taken → DutyFits done
  nothing_fits done a b = record { change = subst (ChangeFits d) (sym a) tt; taken = subst (λ x. x ≤ (m.port l).arrived) (sym b) port.taken }

  word_fits : (n : ℕ) (c : Bool) (w : ℕ) (done : Duty) → done.change ≡ To_word (line_extent (shape_of d) l) n c w → done.taken ≡ (m.port l).taken → (n ≡ 0 → w ≤ d.journal) → (n ≡ 1 → w ≤ 1) → DutyFits done
  word_fits n c w done a b count closed = record { change = subst (ChangeFits d) (sym a) (line_change d l n w count closed); taken = subst (λ x. x ≤ (m.port l).arrived) (sym b) port.taken }

  -- a byte of the journal
  journal_fits : (at : ℕ) (c : Bool) (byte : ℕ) (done : Duty) → done.change ≡ To_block (line_extent (shape_of d) l) (at / 32) c (record { bytes = slice_set (m.copies.block (line_extent (shape_of d) l) (at / 32) c).bytes (at % 32) byte }) → done.taken ≡ (m.port l).taken → DutyFits done
  journal_fits at c byte done a b = record {
    change = subst (ChangeFits d) (sym a) (record {
      whole = length-set (m.copies.block (line_extent (shape_of d) l) (at / 32) c).bytes (at % 32) byte ∙ blocks.whole (line_extent (shape_of d) l) (at / 32) c;
      context = λ low k. absurd (let x : ⊥ = omega (arith, low) in x);
    });
    taken = subst (λ x. x ≤ (m.port l).arrived) (sym b) port.taken;
  }

  closes_fits : DutyFits (closes d m l)
  closes_fits =
      cond_both (not (m.port l).closed) _ _ DutyFits (λ _. nothing_fits _ refl refl) (λ _.
      cond_both (is_at d m.copies l 1 false 0) _ _ DutyFits (λ _. word_fits 1 false 1 _ refl refl (λ e. absurd (let x : ⊥ = omega (arith, e) in x)) (λ _. omega arith)) (λ _.
      cond_both (is_at d m.copies l 1 true 0) _ _ DutyFits (λ _. word_fits 1 true 1 _ refl refl (λ e. absurd (let x : ⊥ = omega (arith, e) in x)) (λ _. omega arith)) (λ _. nothing_fits _ refl refl)))

  takes_fits : (at byte : ℕ) → at < (m.port l).arrived → DutyFits (takes d m l at byte)
  takes_fits at byte below =
      let count : suc at ≤ d.journal = omega (arith, below, port.arrived) in
      cond_both (is_at d m.copies l 0 false at && differs d m.copies l false at byte) _ _ DutyFits (λ _. journal_fits at false byte _ refl refl) (λ _.
      cond_both (is_at d m.copies l 0 true at && differs d m.copies l true at byte) _ _ DutyFits (λ _. journal_fits at true byte _ refl refl) (λ _.
      cond_both (is_at d m.copies l 0 false at) _ _ DutyFits (λ _. word_fits 0 false (suc at) _ refl refl (λ _. count) (λ e. absurd (let x : ⊥ = omega (arith, e) in x))) (λ _.
      cond_both (is_at d m.copies l 0 true at) _ _ DutyFits (λ _. word_fits 0 true (suc at) _ refl refl (λ _. count) (λ e. absurd (let x : ⊥ = omega (arith, e) in x))) (λ _. record { change = tt; taken = omega (arith, below) }))))

  tells_fits : DutyFits (tells_sent d m l)
  tells_fits =
      cond_both (is_below d m.copies l 2 false (goal d m l)) _ _ DutyFits (λ _. word_fits 2 false (goal d m l) _ refl refl (λ e. absurd (let x : ⊥ = omega (arith, e) in x)) (λ e. absurd (let x : ⊥ = omega (arith, e) in x))) (λ _.
      cond_both (is_below d m.copies l 2 true (goal d m l)) _ _ DutyFits (λ _. word_fits 2 true (goal d m l) _ refl refl (λ e. absurd (let x : ⊥ = omega (arith, e) in x)) (λ e. absurd (let x : ⊥ = omega (arith, e) in x))) (λ _.
      cond_both (nat_lt (m.port l).taken (m.port l).arrived) _ _ DutyFits (λ t. takes_fits (m.port l).taken (slice_index (m.port l).store (m.port l).taken) (ltb-true (m.port l).taken (m.port l).arrived t)) (λ _. closes_fits)))

  pub duty_fits : DutyFits (duty d m l)
  duty_fits = cond_both (may_send d m l) _ _ DutyFits (λ t. record { change = tt; taken = port.taken }) (λ _. tells_fits)

-- an element that doesn't rest serves a line
pub serves_line : (d : MachineDesc) (m : Machine) (i : ℕ) → rests d m i ≡ false → ((m.io i).cursor ≡ 0) ⊎ ((m.io i).cursor < line_count d) → (m.io i).cursor < line_count d
serves_line d m i works (inl none) =
    let some = eqb-false (line_count d) 0 (or_parts (line_count d == 0) (is_some (copied_memory d m.copies)) (or_parts (not (m.io i).up) (line_count d == 0 || is_some (copied_memory d m.copies)) works).1).0 in
    omega (arith, none, some)
serves_line d m i works (inr below) = below
