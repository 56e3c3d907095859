-- What the states of a flush know survives what happens elsewhere.
use Rattle.std.proofs.Common.{ℕ, ◌-◌, ◌<◌, ◌≤◌, Bool, false, true, List, length, take, arith}
use Rattle.std.proofs.lemmas.List.{length-take-le, get_or-take}
use Rattle.seq_words.specs.declared.block.Block.{Block}
use Rattle.seq_layout.specs.Shapes.{Shape}
use Rattle.seq_layout.specs.Copies.{Copies, with_block, with_word, with_state, failed}
use Rattle.seq_layout.specs.Held.{Holds, HoldBoth, HoldsBlock, IsOther, Survives}
use Rattle.seq_layout.proofs.Held.{held_words_survive, held_blocks_survive}
use Rattle.seq_cache.specs.declared.change.Change.{Change}
use Rattle.seq_flush.specs.Turns.{no_change, units, unit_at}
use Rattle.seq_flush.specs.Facts.{Stand, Stands, IsNoUnit, status_at, MarkKnows, FirstKnows, SecondKnows, CloseKnows, ClosedKnows}
use Rattle.seq_flush.specs.Laws.{StandingSurvives, MarkSurvives, FirstSurvives, SecondSurvives, CloseSurvives, ClosedSurvives}

-- What the copies of units and of a status word hold is so afterwards.
pub record Keeps (s : Shape) (us : List Change) (pid : ℕ) (p q : Copies) : Type 0 where
  pub unit : (k : ℕ) → k < length us → (c : Bool) (b : Block) → HoldsBlock s p (unit_at us k).extent.0 (unit_at us k).place c b → HoldsBlock s q (unit_at us k).extent.0 (unit_at us k).place c b
  pub word : (c : Bool) (w : ℕ) → Holds s p (status_at pid) c w → Holds s q (status_at pid) c w

-- What is kept so survives.
pub kept_survives : (s : Shape) (us : List Change) (pid : ℕ) (Known : Copies → Type 0) → ((p q : Copies) → Keeps s us pid p q → Known p → Known q) → Survives s (IsNoUnit us) (IsOther pid 0) Known
kept_survives s us pid Known kept = record {
  block = λ p e n c b none. kept p (with_block p e n c b) (record {
    unit = λ k inside c' b'. (held_blocks_survive s (unit_at us k).extent.0 (unit_at us k).place c' b').block p e n c b (none.each k inside);
    word = λ c' w. (held_words_survive s (status_at pid) c' w).block p e n c b tt;
  });
  word = λ p e n c w other. kept p (with_word p e n c w) (record {
    unit = λ k inside c' b'. (held_blocks_survive s (unit_at us k).extent.0 (unit_at us k).place c' b').word p e n c w tt;
    word = λ c' w'. (held_words_survive s (status_at pid) c' w').word p e n c w other;
  });
  block_away = λ p e n c b away. kept p (with_block p e n c b) (record {
    unit = λ k inside c' b'. (held_blocks_survive s (unit_at us k).extent.0 (unit_at us k).place c' b').block_away p e n c b away;
    word = λ c' w. (held_words_survive s (status_at pid) c' w).block_away p e n c b away;
  });
  word_away = λ p e n c w away. kept p (with_word p e n c w) (record {
    unit = λ k inside c' b'. (held_blocks_survive s (unit_at us k).extent.0 (unit_at us k).place c' b').word_away p e n c w away;
    word = λ c' w'. (held_words_survive s (status_at pid) c' w').word_away p e n c w away;
  });
  failure = λ p m. kept p (failed s p m) (record {
    unit = λ k inside c' b'. (held_blocks_survive s (unit_at us k).extent.0 (unit_at us k).place c' b').failure p m;
    word = λ c' w. (held_words_survive s (status_at pid) c' w).failure p m;
  });
  state = λ p m after out. kept p (with_state p m after) (record {
    unit = λ k inside c' b'. (held_blocks_survive s (unit_at us k).extent.0 (unit_at us k).place c' b').state p m after out;
    word = λ c' w. (held_words_survive s (status_at pid) c' w).state p m after out;
  });
}

module _ (s : Shape) (us : List Change) (pid : ℕ) (p q : Copies) (keeps : Keeps s us pid p q) where
  pub stand_kept : (c : Bool) → Stand s p c us → Stand s q c us
  stand_kept c stood = record { each = λ k inside. keeps.unit k inside c (unit_at us k).block (stood.each k inside) }

  pub behind_kept : (c : Bool) (n : ℕ) → n ≤ length us → Stand s p c (take n us) → Stand s q c (take n us)
  behind_kept c n within stood = record { each = each }
    where
      each : (k : ℕ) → k < length (take n us) → Stands s q c (unit_at (take n us) k)
      each k inside =
          let few = length-take-le n us within in
          let same = get_or-take n us k no_change (omega (arith, few)) in
          rw same (keeps.unit k (omega (arith, few)) c (unit_at us k).block (rw same at (stood.each k inside)))

  pub both_kept : (v w : ℕ) → HoldBoth s p (status_at pid) v w → HoldBoth s q (status_at pid) v w
  both_kept v w both = record { primary = keeps.word false v both.primary; shadow = keeps.word true w both.shadow }

pub standing_survives : StandingSurvives
standing_survives s c us = record {
  block = λ p e n c' b none stood. record { each = λ k inside. (held_blocks_survive s (unit_at us k).extent.0 (unit_at us k).place c (unit_at us k).block).block p e n c' b (none.each k inside) (stood.each k inside) };
  word = λ p e n c' w any stood. record { each = λ k inside. (held_blocks_survive s (unit_at us k).extent.0 (unit_at us k).place c (unit_at us k).block).word p e n c' w any (stood.each k inside) };
  block_away = λ p e n c' b away stood. record { each = λ k inside. (held_blocks_survive s (unit_at us k).extent.0 (unit_at us k).place c (unit_at us k).block).block_away p e n c' b away (stood.each k inside) };
  word_away = λ p e n c' w away stood. record { each = λ k inside. (held_blocks_survive s (unit_at us k).extent.0 (unit_at us k).place c (unit_at us k).block).word_away p e n c' w away (stood.each k inside) };
  failure = λ p m stood. record { each = λ k inside. (held_blocks_survive s (unit_at us k).extent.0 (unit_at us k).place c (unit_at us k).block).failure p m (stood.each k inside) };
  state = λ p m after out stood. record { each = λ k inside. (held_blocks_survive s (unit_at us k).extent.0 (unit_at us k).place c (unit_at us k).block).state p m after out (stood.each k inside) };
}

pub mark_survives : MarkSurvives
mark_survives s changes f = kept_survives s (units f changes) f.pid.0 (λ p. MarkKnows s p f) (λ p q keeps knows. record {
  cursor = knows.cursor;
  begun = λ begun. keeps.word false _ (knows.begun begun);
})

pub first_survives : FirstSurvives
first_survives s changes f = kept_survives s (units f changes) f.pid.0 (λ p. FirstKnows s p changes f) (λ p q keeps knows. record {
  cursor = knows.cursor;
  primaries = behind_kept s (units f changes) f.pid.0 p q keeps false f.cursor knows.cursor knows.primaries;
  words = both_kept s (units f changes) f.pid.0 p q keeps _ _ knows.words;
})

pub second_survives : SecondSurvives
second_survives s changes f = kept_survives s (units f changes) f.pid.0 (λ p. SecondKnows s p changes f) (λ p q keeps knows. record {
  cursor = knows.cursor;
  primaries = stand_kept s (units f changes) f.pid.0 p q keeps false knows.primaries;
  shadows = behind_kept s (units f changes) f.pid.0 p q keeps true (f.cursor - 1) (omega (arith, knows.cursor)) knows.shadows;
  begins = λ begins. both_kept s (units f changes) f.pid.0 p q keeps _ _ (knows.begins begins);
  begun = λ begun. both_kept s (units f changes) f.pid.0 p q keeps _ _ (knows.begun begun);
})

pub close_survives : CloseSurvives
close_survives s changes f = kept_survives s (units f changes) f.pid.0 (λ p. CloseKnows s p changes f) (λ p q keeps knows. record {
  cursor = knows.cursor;
  primaries = stand_kept s (units f changes) f.pid.0 p q keeps false knows.primaries;
  shadows = stand_kept s (units f changes) f.pid.0 p q keeps true knows.shadows;
  begins = λ begins. both_kept s (units f changes) f.pid.0 p q keeps _ _ (knows.begins begins);
  begun = λ begun. both_kept s (units f changes) f.pid.0 p q keeps _ _ (knows.begun begun);
})

pub closed_survives : ClosedSurvives
closed_survives s changes f = kept_survives s (units f changes) f.pid.0 (λ p. ClosedKnows s p changes f) (λ p q keeps knows. record {
  primaries = stand_kept s (units f changes) f.pid.0 p q keeps false knows.primaries;
  shadows = stand_kept s (units f changes) f.pid.0 p q keeps true knows.shadows;
  words = both_kept s (units f changes) f.pid.0 p q keeps _ _ knows.words;
})
