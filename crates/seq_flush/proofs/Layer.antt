-- What units leave that are written to copies of one kind.
use Rattle.std.proofs.Common.{◌≡◌, ◌⊎◌, ℕ, zero, suc, ◌<◌, Bool, true, false, ◌==◌, ◌&&◌, List, [], ◌∷◌, length, Option, Some, None, unwrap_or, inl, inr, arith, refl, sym, ◌∙◌, ap}
use Rattle.std.proofs.lemmas.Bool.{cases_Bool, and_parts, eqb-true, eq-eqb, false≢true}
use Rattle.seq_words.specs.declared.block.Block.{Block}
use Rattle.seq_memory.specs.States.{is_in_service}
use Rattle.seq_layout.specs.Places.{memory_of, IsSamePart}
use Rattle.seq_layout.specs.Shapes.{Shape}
use Rattle.seq_layout.specs.Copies.{Copies, serves, block_written}
use Rattle.seq_layout.proofs.CopiesWritten.{block_states, block_words, block_elsewhere}
use Rattle.seq_layout.proofs.Held.{serves_as_before}
use Rattle.seq_cache.specs.declared.change.Change.{Change}
use Rattle.seq_cache.specs.Changes.{changed}
use Rattle.seq_cache.proofs.Puts.{changed-cons}
use Rattle.seq_flush.specs.Turns.{unit_at, unit_written}
use Rattle.seq_flush.specs.Facts.{AreApart, Stands, all_written}
use Rattle.seq_flush.specs.Laws.{WritingIsOneLayer}
use Rattle.seq_flush.proofs.Standing.{all_stand}

-- a block that none of the units is of
pub kept_block : (s : Shape) (p : Copies) (c : Bool) (us : List Change) (e n : ℕ) (c' : Bool) → ((k : ℕ) → k < length us → ¬ (IsSamePart (unit_at us k).extent.0 (unit_at us k).place c e n c')) → (all_written s p c us).block e n c' ≡ p.block e n c'
unfolding all_written
kept_block s p c [] e n c' others = refl
kept_block s p c (u ∷ us) e n c' others =
    kept_block s (unit_written s p c u) c us e n c' (λ k inside. others (suc k) (omega arith)) ∙
    block_elsewhere s p u.extent.0 u.place c u.block e n c' (others 0 (omega arith))

pub all_states : (s : Shape) (p : Copies) (c : Bool) (us : List Change) → (all_written s p c us).state ≡ p.state
unfolding all_written
all_states s p c [] = refl
all_states s p c (u ∷ us) = all_states s (unit_written s p c u) c us ∙ block_states s p u.extent.0 u.place c u.block

all_words : (s : Shape) (p : Copies) (c : Bool) (us : List Change) → (all_written s p c us).word ≡ p.word
unfolding all_written
all_words s p c [] = refl
all_words s p c (u ∷ us) = all_words s (unit_written s p c u) c us ∙ block_words s p u.extent.0 u.place c u.block

-- a block whose copy isn't in service
out_block : (s : Shape) (p : Copies) (e n : ℕ) (c : Bool) (b : Block) (e' n' : ℕ) → serves s p e' c ≡ false → (block_written s p e n c b).block e' n' c ≡ p.block e' n' c
unfolding block_written
out_block s p e n c b e' n' out =
    elim (cases_Bool (serves s p e c)) [
      | inl served ↦ block_elsewhere s p e n c b e' n' c (λ same. false≢true (sym out ∙ (rw (sym same.extent) served)))
      | inr away ↦ rw away refl
    ]

kept_out : (s : Shape) (p : Copies) (c : Bool) (us : List Change) (e n : ℕ) → serves s p e c ≡ false → (all_written s p c us).block e n c ≡ p.block e n c
unfolding all_written
kept_out s p c [] e n out = refl
kept_out s p c (u ∷ us) e n out =
    let states = block_states s p u.extent.0 u.place c u.block in
    let still : serves s (unit_written s p c u) e c ≡ false = ap (λ states. is_in_service (states (memory_of s.memories e c))) states ∙ out in
    kept_out s (unit_written s p c u) c us e n still ∙ out_block s p u.extent.0 u.place c u.block e n out

-- the unit of a block among the units
record IsUnit (us : List Change) (e n k : ℕ) : Type 0 where
  inside : k < length us
  extent : (unit_at us k).extent.0 ≡ e
  place : (unit_at us k).place ≡ n
  block : changed us e n ≡ Some (unit_at us k).block

record HasNone (us : List Change) (e n : ℕ) : Type 0 where
  block : changed us e n ≡ None
  each : (k : ℕ) → k < length us → (unit_at us k).extent.0 ≡ e → (unit_at us k).place ≡ n → ⊥

first_unit : (u : Change) (us : List Change) (e n : ℕ) → (u.extent.0 == e && u.place == n) ≡ true → IsUnit (u ∷ us) e n 0
first_unit u us e n is =
    let parts = and_parts (u.extent.0 == e) (u.place == n) is in
    record { inside = omega arith; extent = eqb-true u.extent.0 e parts.0; place = eqb-true u.place n parts.1; block = changed-cons u us e n ∙ (rw is refl) }

later_unit : (u : Change) (us : List Change) (e n k : ℕ) → (u.extent.0 == e && u.place == n) ≡ false → IsUnit us e n k → IsUnit (u ∷ us) e n (suc k)
later_unit u us e n k other found = record { inside = omega (arith, found.inside); extent = found.extent; place = found.place; block = changed-cons u us e n ∙ (rw other found.block) }

no_unit : (u : Change) (us : List Change) (e n : ℕ) → (u.extent.0 == e && u.place == n) ≡ false → HasNone us e n → HasNone (u ∷ us) e n
no_unit u us e n other none = record { block = changed-cons u us e n ∙ (rw other none.block); each = each }
  where
    each : (k : ℕ) → k < length (u ∷ us) → (unit_at (u ∷ us) k).extent.0 ≡ e → (unit_at (u ∷ us) k).place ≡ n → ⊥
    each zero inside extent place = false≢true (sym other ∙ (rw (eq-eqb u.extent.0 e extent, eq-eqb u.place n place) refl))
    each (suc k) inside extent place = none.each k (omega arith) extent place

unit_or_none : (us : List Change) (e n : ℕ) → ((k : ℕ) × IsUnit us e n k) ⊎ HasNone us e n
unfolding changed
unit_or_none [] e n = inr (record { block = refl; each = λ k inside _ _. omega arith })
unit_or_none (u ∷ us) e n = elim (cases_Bool (u.extent.0 == e && u.place == n)) [
  | inl is ↦ inl (0, first_unit u us e n is)
  | inr other ↦ elim (unit_or_none us e n) [
    | inl (k, found) ↦ inl (suc k, later_unit u us e n k other found)
    | inr none ↦ inr (no_unit u us e n other none)
  ]
]

-- a copy in service, after all units are written: the unit of this block, else what it was
pub written_block : (s : Shape) (p : Copies) (c : Bool) (us : List Change) (e n : ℕ) → AreApart us → serves s p e c ≡ true → (all_written s p c us).block e n c ≡ unwrap_or (changed us e n) (p.block e n c)
written_block s p c us e n apart serving = elim (unit_or_none us e n) [
  | inl (k, found) ↦
      let stood : Stands s (all_written s p c us) c (unit_at us k) = (all_stand s p c us apart).each k found.inside in
      let served : serves s (all_written s p c us) e c ≡ true = serves_as_before s (all_written s p c us) p e c (sym (all_states s p c us)) serving in
      let there : (all_written s p c us).block e n c ≡ (unit_at us k).block = rw (found.extent, found.place) at (stood (rw found.extent served)) in
      there ∙ sym (ap (λ (o : Option Block). unwrap_or o (p.block e n c)) found.block)
  | inr none ↦
      kept_block s p c us e n c (λ k inside same. none.each k inside same.extent same.part)
      ∙ sym (ap (λ (o : Option Block). unwrap_or o (p.block e n c)) none.block)
]

pub writing_is_one_layer : WritingIsOneLayer
writing_is_one_layer s p c us = record {
  layer = λ apart e n serving. written_block s p c us e n apart serving;
  out = λ e n out. kept_out s p c us e n out;
  other_kind = λ e n c' other. kept_block s p c us e n c' (λ k inside same. other (sym same.copy));
  other_blocks = λ e n c' none. kept_block s p c us e n c' (λ k inside same. (none.each k inside).other same.extent same.part);
  words = all_words s p c us;
  states = all_states s p c us;
}
