-- What the states of a flush know after a turn, from what they knew before it.
use Rattle.std.proofs.Common.{◌≡◌, ◌≢◌, ℕ, ◌+◌, ◌-◌, ◌<◌, ◌≤◌, Bool, true, false, List, length, take, arith, refl, subst}
use Rattle.std.proofs.lemmas.List.{take_all}
use Rattle.seq_layout.specs.Shapes.{Shape}
use Rattle.seq_layout.specs.Copies.{Copies}
use Rattle.seq_layout.proofs.Held.{word_holds, both_by_shadow, both_by_primary, both_hold_still}
use Rattle.seq_status.specs.declared.status.Status.{Status}
use Rattle.seq_status.specs.declared.status.Status.TheVariants.{Run, Pass1, Pass2}
use Rattle.seq_status.specs.Words.{word_of}
use Rattle.seq_cache.specs.declared.change.Change.{Change}
use Rattle.seq_flush.specs.declared.stages.Mark.{Mark}
use Rattle.seq_flush.specs.declared.stages.First.{First}
use Rattle.seq_flush.specs.declared.stages.Second.{Second}
use Rattle.seq_flush.specs.declared.stages.Close.{Close}
use Rattle.seq_flush.specs.declared.flush.Flush.{Flush}
use Rattle.seq_flush.specs.Turns.{units, unit_at, unit_written, status_written, into_stage}
use Rattle.seq_flush.specs.Facts.{Stand, BothSay, AreApart, status_at, MarkKnows, FirstKnows, SecondKnows, CloseKnows, ClosedKnows}
use Rattle.seq_flush.proofs.Numbered.{length_units}
use Rattle.seq_flush.proofs.Standing.{primaries_stand, status_keeps, none_stand, one_more_stands}

-- a unit leaves both words
words_still : (s : Shape) (p : Copies) (pid : ℕ) (primary shadow : Status) (c : Bool) (u : Change) → BothSay s p pid primary shadow → BothSay s (unit_written s p c u) pid primary shadow
words_still s p pid primary shadow c u both =
    both_hold_still s p (status_at pid) (word_of primary) (word_of shadow) u.extent.0 u.place c u.block both

-- the two turns of Mark
pub mark_again : (s : Shape) (p : Copies) (self f : Flush Mark) → record self { cursor = 1 } ≡ f → MarkKnows s (status_written s p self.pid.0 false (Pass1 self.holder)) f
mark_again s p self f same =
    subst (λ (g : Flush Mark). MarkKnows s (status_written s p self.pid.0 false (Pass1 self.holder)) g) same
    (record { cursor = omega arith; begun = λ begun. word_holds s p (status_at self.pid.0) false (word_of (Pass1 self.holder)) })

pub mark_next : (s : Shape) (p : Copies) (changes : List Change) (self : Flush Mark) (f : Flush First) → self.cursor ≢ 0 → into_stage {T = First} self (record {}) ≡ f → MarkKnows s p self → FirstKnows s (status_written s p self.pid.0 true (Pass1 self.holder)) changes f
mark_next s p changes self f begun same knows =
    let q = status_written s p self.pid.0 true (Pass1 self.holder) in
    let word = word_of (Pass1 self.holder) in
    subst (λ (g : Flush First). FirstKnows s q changes g) same
    (record {
      cursor = omega arith;
      primaries = none_stand s q false (units self changes);
      words = both_by_shadow s p (status_at self.pid.0) word word (knows.begun begun);
    })

-- a unit's turn of the first pass
pub first_again : (s : Shape) (p : Copies) (changes : List Change) (self f : Flush First) → AreApart (units self changes) → self.cursor < length (units self changes) → record self { cursor = self.cursor + 1 } ≡ f → FirstKnows s p changes self → FirstKnows s (unit_written s p false (unit_at (units self changes) self.cursor)) changes f
first_again s p changes self f apart within same knows =
    let us = units self changes in
    subst (λ (g : Flush First). FirstKnows s (unit_written s p false (unit_at us self.cursor)) changes g) same
    (record {
      cursor = omega arith;
      primaries = one_more_stands s p false us self.cursor apart within knows.primaries;
      words = words_still s p self.pid.0 (Pass1 self.holder) (Pass1 self.holder) false (unit_at us self.cursor) knows.words;
    })

-- the commit
pub first_next : (s : Shape) (p : Copies) (changes : List Change) (self : Flush First) (f : Flush Second) → length (units self changes) ≤ self.cursor → into_stage {T = Second} self (record {}) ≡ f → FirstKnows s p changes self → SecondKnows s (status_written s p self.pid.0 false (Pass2 self.holder)) changes f
first_next s p changes self f done same knows =
    let us = units self changes in
    let all : take self.cursor us ≡ us = take_all self.cursor us done in
    let q = status_written s p self.pid.0 false (Pass2 self.holder) in
    subst (λ (g : Flush Second). SecondKnows s q changes g) same
    (record {
      cursor = omega arith;
      primaries = status_keeps s p false us self.pid.0 false (Pass2 self.holder) (subst (Stand s p false) all knows.primaries);
      shadows = none_stand s q true us;
      begins = λ begins. both_by_primary s p (status_at self.pid.0) (word_of (Pass2 self.holder)) (word_of (Pass1 self.holder)) knows.words.shadow;
      begun = λ begun. absurd (begun refl);
    })

-- the first turn of the second pass
pub second_begins : (s : Shape) (p : Copies) (changes : List Change) (self f : Flush Second) → self.cursor ≡ 0 → record self { cursor = 1 } ≡ f → SecondKnows s p changes self → SecondKnows s (status_written s p self.pid.0 true (Pass2 self.holder)) changes f
second_begins s p changes self f begins same knows =
    let us = units self changes in
    let word = word_of (Pass2 self.holder) in
    let q = status_written s p self.pid.0 true (Pass2 self.holder) in
    subst (λ (g : Flush Second). SecondKnows s q changes g) same
    (record {
      cursor = omega (arith, length_units self.pid.0 self.context changes);
      primaries = status_keeps s p false us self.pid.0 true (Pass2 self.holder) knows.primaries;
      shadows = none_stand s q true us;
      begins = λ none. absurd (omega arith);
      begun = λ begun. both_by_shadow s p (status_at self.pid.0) word word (knows.begins begins).primary;
    })

-- the shadows after a unit's turn of the second pass
one_more_shadow : (s : Shape) (p : Copies) (changes : List Change) (self : Flush Second) → AreApart (units self changes) → self.cursor ≢ 0 → SecondKnows s p changes self → Stand s (unit_written s p true (unit_at (units self changes) (self.cursor - 1))) true (take self.cursor (units self changes))
one_more_shadow s p changes self apart begun knows =
    let us = units self changes in
    let inside : self.cursor - 1 < length us = omega (arith, knows.cursor) in
    let number : self.cursor - 1 + 1 ≡ self.cursor = omega arith in
    subst (λ n. Stand s (unit_written s p true (unit_at us (self.cursor - 1))) true (take n us)) number
    (one_more_stands s p true us (self.cursor - 1) apart inside knows.shadows)

-- a unit's turn of the second pass
pub second_again : (s : Shape) (p : Copies) (changes : List Change) (self f : Flush Second) → AreApart (units self changes) → self.cursor ≢ 0 → self.cursor < length (units self changes) → record self { cursor = self.cursor + 1 } ≡ f → SecondKnows s p changes self → SecondKnows s (unit_written s p true (unit_at (units self changes) (self.cursor - 1))) changes f
second_again s p changes self f apart begun more same knows =
    let us = units self changes in
    let unit = unit_at us (self.cursor - 1) in
    let q = unit_written s p true unit in
    let number : self.cursor ≡ self.cursor + 1 - 1 = omega arith in
    subst (λ (g : Flush Second). SecondKnows s q changes g) same
    (record {
      cursor = omega arith;
      primaries = primaries_stand s p us unit knows.primaries;
      shadows = subst (λ n. Stand s q true (take n us)) number (one_more_shadow s p changes self apart begun knows);
      begins = λ none. absurd (omega arith);
      begun = λ _. words_still s p self.pid.0 (Pass2 self.holder) (Pass2 self.holder) true unit (knows.begun begun);
    })

-- its last turn
pub second_next : (s : Shape) (p : Copies) (changes : List Change) (self : Flush Second) (f : Flush Close) → AreApart (units self changes) → self.cursor ≢ 0 → length (units self changes) ≤ self.cursor → into_stage {T = Close} self (record {}) ≡ f → SecondKnows s p changes self → CloseKnows s (unit_written s p true (unit_at (units self changes) (self.cursor - 1))) changes f
second_next s p changes self f apart begun done same knows =
    let us = units self changes in
    let unit = unit_at us (self.cursor - 1) in
    let q = unit_written s p true unit in
    let all : take self.cursor us ≡ us = take_all self.cursor us done in
    subst (λ (g : Flush Close). CloseKnows s q changes g) same
    (record {
      cursor = omega arith;
      primaries = primaries_stand s p us unit knows.primaries;
      shadows = subst (Stand s q true) all (one_more_shadow s p changes self apart begun knows);
      begins = λ _. words_still s p self.pid.0 (Pass2 self.holder) (Pass2 self.holder) true unit (knows.begun begun);
      begun = λ begins. absurd (begins refl);
    })

-- the two turns of Close
pub close_again : (s : Shape) (p : Copies) (changes : List Change) (self f : Flush Close) → self.cursor ≡ 0 → record self { cursor = 1 } ≡ f → CloseKnows s p changes self → CloseKnows s (status_written s p self.pid.0 false (Run self.holder)) changes f
close_again s p changes self f begins same knows =
    let us = units self changes in
    let status = Run self.holder in
    let q = status_written s p self.pid.0 false status in
    subst (λ (g : Flush Close). CloseKnows s q changes g) same
    (record {
      cursor = omega arith;
      primaries = status_keeps s p false us self.pid.0 false status knows.primaries;
      shadows = status_keeps s p true us self.pid.0 false status knows.shadows;
      begins = λ none. absurd (omega arith);
      begun = λ _. both_by_primary s p (status_at self.pid.0) (word_of status) (word_of (Pass2 self.holder)) (knows.begins begins).shadow;
    })

pub close_next : (s : Shape) (p : Copies) (changes : List Change) (self : Flush Close) → self.cursor ≢ 0 → CloseKnows s p changes self → ClosedKnows s (status_written s p self.pid.0 true (Run self.holder)) changes self
close_next s p changes self begun knows =
    let us = units self changes in
    let status = Run self.holder in
    record {
      primaries = status_keeps s p false us self.pid.0 true status knows.primaries;
      shadows = status_keeps s p true us self.pid.0 true status knows.shadows;
      words = both_by_shadow s p (status_at self.pid.0) (word_of status) (word_of status) (knows.begun begun).primary;
    }
