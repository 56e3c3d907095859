-- What is known of the units of a memory that is copied survives what happens elsewhere.
use Rattle.std.proofs.Common.{◌≡◌, ◌≢◌, ℕ, Bool, sym, ap, ◌∙◌, subst, arith}
use Rattle.seq_words.specs.declared.block.Block as block
use Rattle.seq_memory.specs.declared.element.State.{State}
use Rattle.seq_layout.specs.Shapes.{Shape}
use Rattle.seq_layout.specs.Copies.{Copies, with_block, with_word, with_state, failed}
use Rattle.seq_layout.specs.declared.extents.Extent.{Extent}
use Rattle.seq_layout.specs.declared.units.WordAt.{WordAt}
use Rattle.seq_layout.specs.declared.units.Unit.{Unit}
use Rattle.seq_layout.specs.declared.units.Unit.TheVariants.{Block, Word}
use Rattle.seq_layout.proofs.CopiesLaws.{memory_fails_alone, state_changes_alone}
use Rattle.seq_turns.specs.Recoveries.{next_of}
use Rattle.seq_reintegrate.specs.Stands.{IsBelow, AreEqualBelow, CopyingKnows}
use Rattle.seq_reintegrate.specs.Survive.{CopyingSurvives}
use Rattle.seq_reintegrate.proofs.Equal.{equal_in_state, equal_beside_block, equal_beside_word}

module _ (s : Shape) (i : ℕ) where
  block_survives : (p : Copies) (e : Extent) (n : ℕ) (c : Bool) (b : block.Block) → ¬ (IsBelow s i (next_of (p.state i)) (Block e n)) → CopyingKnows s p i → AreEqualBelow s (with_block p e.0 n c b) i (next_of (p.state i))
  block_survives p e n c b other known = record { each = λ u below. equal_beside_block p e.0 n c b u (known.each u below) (apart u below) }
    where
      apart : (u : Unit) → IsBelow s i (next_of (p.state i)) u → (x : Extent) → u ≡ Block x n → x.0 ≢ e.0
      apart u below x is same =
          let whole : ◌≡◌ {A = Extent} x e = λ j. record { 0 = same j } in
          other (subst (λ (v : Unit). IsBelow s i (next_of (p.state i)) v) (is ∙ ap (λ (y : Extent). Block y n) whole) below)

  word_survives : (p : Copies) (at : WordAt) (c : Bool) (w : ℕ) → ¬ (IsBelow s i (next_of (p.state i)) (Word at)) → CopyingKnows s p i → AreEqualBelow s (with_word p at.extent.0 at.word c w) i (next_of (p.state i))
  word_survives p at c w other known = record { each = λ u below. equal_beside_word p at.extent.0 at.word c w u (known.each u below) (apart u below) }
    where
      apart : (u : Unit) → IsBelow s i (next_of (p.state i)) u → (x : WordAt) → u ≡ Word x → x.word ≡ at.word → x.extent.0 ≢ at.extent.0
      apart u below x is number same =
          let whole : ◌≡◌ {A = WordAt} x at = λ j. record { extent = record { 0 = same j }; word = number j } in
          other (subst (λ (v : Unit). IsBelow s i (next_of (p.state i)) v) (is ∙ ap Word whole) below)

  state_survives : (p : Copies) (k : ℕ) (after : State) → k ≢ i → CopyingKnows s p i → CopyingKnows s (with_state p k after) i
  state_survives p k after ne known =
      let same : p.state i ≡ (with_state p k after).state i = sym ((state_changes_alone p k after).elsewhere i (λ h. ne (sym h))) in
      subst (λ (x : State). AreEqualBelow s (with_state p k after) i (next_of x)) same (record { each = λ u below. equal_in_state p k after u (known.each u below) })

  failure_survives : (p : Copies) → CopyingKnows s (failed s p i) i
  failure_survives p = record { each = λ u below. absurd (let none : next_of ((failed s p i).state i) ≡ 0 = ap next_of (memory_fails_alone s p i).down in let no : ⊥ = omega (arith, below.1, none) in no) }

  pub copying_survives : CopyingSurvives s i
  unfolding with_block with_word
  copying_survives = record { block = block_survives; word = word_survives; state = state_survives; failure = failure_survives }
