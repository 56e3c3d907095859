-- The laws of flushes.
use Rattle.std.proofs.Common.{◌≡◌, ℕ, ◌+◌, ◌-◌, ◌<◌, ◌≤◌, Bool, true, false, leb, List, length, drop, arith, sym, ap, subst, inl, inr, ◌∙◌}
use Rattle.std.proofs.lemmas.Bool.{cases_Bool, leb-true, leb-false, cases_eq}
use Rattle.std.proofs.lemmas.List.{at_drop_more, drop_all}
use Rattle.seq_layout.specs.Shapes.{Shape}
use Rattle.seq_layout.specs.Copies.{Copies}
use Rattle.seq_status.specs.declared.step.Step.TheVariants.{Again, Next}
use Rattle.seq_cache.specs.declared.change.Change.{Change}
use Rattle.seq_flush.specs.declared.stages.Mark.{Mark}
use Rattle.seq_flush.specs.declared.stages.First.{First}
use Rattle.seq_flush.specs.declared.stages.Second.{Second}
use Rattle.seq_flush.specs.declared.stages.Close.{Close}
use Rattle.seq_flush.specs.declared.flush.Flush.{Flush}
use Rattle.seq_flush.specs.Turns.{no_change, units, unit_at, unit_written, into_stage, mark_turn, first_turn, second_turn, close_turn, taken_in_mark, taken_in_first}
use Rattle.seq_flush.specs.Facts.{MarkKnows, FirstKnows, all_written, left_of_first, left_of_second}
use Rattle.seq_flush.specs.Laws.{FirstWritesWhatIsLeft, SecondWritesWhatIsLeft, NothingIsLeft, AllWrittenStand, UnitsAreApart, MarkTurnsKnow, FirstTurnsKnow, SecondTurnsKnow, CloseTurnsKnow, TurnsAreCounted}
use Rattle.seq_flush.proofs.Numbered.{length_units, units_apart}
use Rattle.seq_flush.proofs.Standing.{all_stand}
use Rattle.seq_flush.proofs.Turned.{mark_primary_is, mark_shadow_is, commit_is, first_unit_is, second_word_is, second_unit_is, last_unit_is, close_primary_is, close_shadow_is}
use Rattle.seq_flush.proofs.Known.{mark_again, mark_next, first_again, first_next, second_begins, second_again, second_next, close_again, close_next}

-- what is left, with its first unit written, and with none left
left_less : (s : Shape) (p : Copies) (c : Bool) (us : List Change) (k : ℕ) → k < length us → all_written s p c (drop k us) ≡ all_written s (unit_written s p c (unit_at us k)) c (drop (k + 1) us)
unfolding all_written
left_less s p c us k inside = at_drop_more (all_written s p c) us k no_change inside

none_left : (s : Shape) (p : Copies) (c : Bool) (us : List Change) (k : ℕ) → length us ≤ k → all_written s p c (drop k us) ≡ p
unfolding all_written
none_left s p c us k past = ap (all_written s p c) (drop_all k us past)

pub first_writes_what_is_left : FirstWritesWhatIsLeft
first_writes_what_is_left s p changes f g again =
    elim (cases_Bool (leb (length (units f changes)) f.cursor)) [
      | inl done ↦
          let next : (first_turn s p changes f).step ≡ Next (into_stage f (record {})) = ap (λ t. t.step) (commit_is s p changes f done) in
          cc
      | inr more ↦
          let turned = first_unit_is s p changes f more in
          let step : (first_turn s p changes f).step ≡ Again (record f { cursor = f.cursor + 1 }) = ap (λ t. t.step) turned in
          let same : record f { cursor = f.cursor + 1 } ≡ g = cc in
          subst (λ (h : Flush First). left_of_first s (first_turn s p changes f).copies changes h ≡ left_of_first s p changes f) same
          (ap (λ t. all_written s t.copies false (drop (f.cursor + 1) (units f changes))) turned ∙
          sym (left_less s p false (units f changes) f.cursor (leb-false _ _ more)))
    ]

pub second_writes_what_is_left : SecondWritesWhatIsLeft
second_writes_what_is_left s p changes f g begun again =
    elim (cases_Bool (leb (length (units f changes)) f.cursor)) [
      | inl done ↦
          let next : (second_turn s p changes f).step ≡ Next (into_stage f (record {})) = ap (λ t. t.step) (last_unit_is s p changes f begun done) in
          cc
      | inr more ↦
          let turned = second_unit_is s p changes f begun more in
          let step : (second_turn s p changes f).step ≡ Again (record f { cursor = f.cursor + 1 }) = ap (λ t. t.step) turned in
          let same : record f { cursor = f.cursor + 1 } ≡ g = cc in
          let inside : f.cursor - 1 < length (units f changes) = omega (arith, leb-false _ _ more) in
          let number : f.cursor - 1 + 1 ≡ f.cursor + 1 - 1 = omega arith in
          subst (λ (h : Flush Second). left_of_second s (second_turn s p changes f).copies changes h ≡ left_of_second s p changes f) same
          (ap (λ t. all_written s t.copies true (drop (f.cursor + 1 - 1) (units f changes))) turned ∙
          sym (subst (λ n. left_of_second s p changes f ≡ all_written s (unit_written s p true (unit_at (units f changes) (f.cursor - 1))) true (drop n (units f changes))) number
          (left_less s p true (units f changes) (f.cursor - 1) inside)))
    ]

nothing_at_commit : (s : Shape) (p : Copies) (changes : List Change) (f : Flush First) (g : Flush Second) → (first_turn s p changes f).step ≡ Next g → left_of_first s p changes f ≡ p
nothing_at_commit s p changes f g next =
    elim (cases_Bool (leb (length (units f changes)) f.cursor)) [
      | inl done ↦ none_left s p false (units f changes) f.cursor (leb-true _ _ done)
      | inr more ↦
          let step : (first_turn s p changes f).step ≡ Again (record f { cursor = f.cursor + 1 }) = ap (λ t. t.step) (first_unit_is s p changes f more) in
          cc
    ]

nothing_at_the_end : (s : Shape) (p : Copies) (changes : List Change) (f : Flush Second) (g : Flush Close) → f.cursor ≤ length (units f changes) → (second_turn s p changes f).step ≡ Next g → (second_turn s p changes f).copies ≡ left_of_second s p changes f
nothing_at_the_end s p changes f g within next =
    elim (cases_eq f.cursor 0) [
      | inl begins ↦ let step : (second_turn s p changes f).step ≡ Again (record f { cursor = 1 }) = ap (λ t. t.step) (second_word_is s p changes f begins) in cc
      | inr begun ↦
          elim (cases_Bool (leb (length (units f changes)) f.cursor)) [
            | inl done ↦
                let us = units f changes in
                let past : length us ≤ f.cursor - 1 + 1 = omega (arith, leb-true _ _ done) in
                ap (λ t. t.copies) (last_unit_is s p changes f begun done) ∙
                sym (left_less s p true us (f.cursor - 1) (omega arith) ∙ none_left s (unit_written s p true (unit_at us (f.cursor - 1))) true us (f.cursor - 1 + 1) past)
            | inr more ↦
                let step : (second_turn s p changes f).step ≡ Again (record f { cursor = f.cursor + 1 }) = ap (λ t. t.step) (second_unit_is s p changes f begun more) in
                cc
          ]
    ]

pub nothing_is_left : NothingIsLeft
nothing_is_left s p changes = (nothing_at_commit s p changes, nothing_at_the_end s p changes)

pub all_written_stand : AllWrittenStand
all_written_stand = all_stand

pub units_are_apart : UnitsAreApart
units_are_apart s p context changes up places = units_apart s p context changes up places

-- Each turn takes what its state knows to what the next knows.
pub mark_turns_know : MarkTurnsKnow
mark_turns_know s p changes f knows =
    elim (cases_eq f.cursor 0) [
      | inl begins ↦
          let is = mark_primary_is s p f begins in
          let step : (mark_turn s p f).step ≡ Again (record f { cursor = 1 }) = ap (λ t. t.step) is in (
            λ g again. let same : record f { cursor = 1 } ≡ g = cc in rw is (mark_again s p f g same),
            λ g next. absurd (cc),
          )
      | inr begun ↦
          let is = mark_shadow_is s p f begun in
          let step : (mark_turn s p f).step ≡ Next (into_stage f (record {})) = ap (λ t. t.step) is in (
            λ g again. absurd (cc),
            λ g next. let same : into_stage {T = First} f (record {}) ≡ g = cc in rw is (mark_next s p changes f g begun same knows),
          )
    ]

pub first_turns_know : FirstTurnsKnow
first_turns_know s p changes f apart knows =
    elim (cases_Bool (leb (length (units f changes)) f.cursor)) [
      | inl done ↦
          let is = commit_is s p changes f done in
          let step : (first_turn s p changes f).step ≡ Next (into_stage f (record {})) = ap (λ t. t.step) is in (
            λ g again. absurd (cc),
            λ g next. let same : into_stage {T = Second} f (record {}) ≡ g = cc in rw is (first_next s p changes f g (leb-true _ _ done) same knows),
          )
      | inr more ↦
          let is = first_unit_is s p changes f more in
          let step : (first_turn s p changes f).step ≡ Again (record f { cursor = f.cursor + 1 }) = ap (λ t. t.step) is in (
            λ g again. let same : record f { cursor = f.cursor + 1 } ≡ g = cc in rw is (first_again s p changes f g apart (leb-false _ _ more) same knows),
            λ g next. absurd (cc),
          )
    ]

pub second_turns_know : SecondTurnsKnow
second_turns_know s p changes f apart knows =
    elim (cases_eq f.cursor 0) [
      | inl begins ↦
          let is = second_word_is s p changes f begins in
          let step : (second_turn s p changes f).step ≡ Again (record f { cursor = 1 }) = ap (λ t. t.step) is in (
            λ g again. let same : record f { cursor = 1 } ≡ g = cc in rw is (second_begins s p changes f g begins same knows),
            λ g next. absurd (cc),
          )
      | inr begun ↦
          elim (cases_Bool (leb (length (units f changes)) f.cursor)) [
            | inl done ↦
                let is = last_unit_is s p changes f begun done in
                let step : (second_turn s p changes f).step ≡ Next (into_stage f (record {})) = ap (λ t. t.step) is in (
                  λ g again. absurd (cc),
                  λ g next. let same : into_stage {T = Close} f (record {}) ≡ g = cc in rw is (second_next s p changes f g apart begun (leb-true _ _ done) same knows),
                )
            | inr more ↦
                let is = second_unit_is s p changes f begun more in
                let step : (second_turn s p changes f).step ≡ Again (record f { cursor = f.cursor + 1 }) = ap (λ t. t.step) is in (
                  λ g again. let same : record f { cursor = f.cursor + 1 } ≡ g = cc in rw is (second_again s p changes f g apart begun (leb-false _ _ more) same knows),
                  λ g next. absurd (cc),
                )
          ]
    ]

pub close_turns_know : CloseTurnsKnow
close_turns_know s p changes f knows =
    elim (cases_eq f.cursor 0) [
      | inl begins ↦
          let is = close_primary_is s p f begins in
          let step : (close_turn s p f).step ≡ Again (record f { cursor = 1 }) = ap (λ t. t.step) is in (
            λ g again. let same : record f { cursor = 1 } ≡ g = cc in rw is (close_again s p changes f g begins same knows),
            λ c next. absurd (cc),
          )
      | inr begun ↦
          let is = close_shadow_is s p f begun in
          let step : (close_turn s p f).step ≡ Next (record {}) = ap (λ t. t.step) is in (
            λ g again. absurd (cc),
            λ c next. rw is (close_next s p changes f begun knows),
          )
    ]

-- the turns that are taken up to the commit
mark_counts : (s : Shape) (p : Copies) (f : Flush Mark) → MarkKnows s p f →
    ((g : Flush Mark) → (mark_turn s p f).step ≡ Again g → taken_in_mark g ≡ taken_in_mark f + 1) ×
    ((g : Flush First) → (mark_turn s p f).step ≡ Next g → taken_in_first g ≡ taken_in_mark f + 1)
mark_counts s p f knows =
    elim (cases_eq f.cursor 0) [
      | inl begins ↦
          let step : (mark_turn s p f).step ≡ Again (record f { cursor = 1 }) = ap (λ t. t.step) (mark_primary_is s p f begins) in (
            λ g again. let same : record f { cursor = 1 } ≡ g = cc in subst (λ (h : Flush Mark). h.cursor ≡ f.cursor + 1) same (omega arith),
            λ g next. absurd (cc),
          )
      | inr begun ↦
          let step : (mark_turn s p f).step ≡ Next (into_stage f (record {})) = ap (λ t. t.step) (mark_shadow_is s p f begun) in (
            λ g again. absurd (cc),
            λ g next. let same : into_stage {T = First} f (record {}) ≡ g = cc in subst (λ (h : Flush First). h.cursor + 2 ≡ f.cursor + 1) same (omega (arith, knows.cursor)),
          )
    ]

first_counts : (s : Shape) (p : Copies) (changes : List Change) (f : Flush First) → FirstKnows s p changes f →
    ((g : Flush First) → (first_turn s p changes f).step ≡ Again g → taken_in_first g ≡ taken_in_first f + 1) ×
    ((g : Flush Second) → (first_turn s p changes f).step ≡ Next g → (taken_in_first f ≡ length (units f changes) + 2) × (10 ≤ taken_in_first f))
first_counts s p changes f knows =
    elim (cases_Bool (leb (length (units f changes)) f.cursor)) [
      | inl done ↦
          let step : (first_turn s p changes f).step ≡ Next (into_stage f (record {})) = ap (λ t. t.step) (commit_is s p changes f done) in
          let past = leb-true _ _ done in
          let all = length_units f.pid.0 f.context changes in (
            λ g again. absurd (cc),
            λ g next. (omega (arith, past, knows.cursor), omega (arith, past, all)),
          )
      | inr more ↦
          let step : (first_turn s p changes f).step ≡ Again (record f { cursor = f.cursor + 1 }) = ap (λ t. t.step) (first_unit_is s p changes f more) in (
            λ g again. let same : record f { cursor = f.cursor + 1 } ≡ g = cc in subst (λ (h : Flush First). h.cursor + 2 ≡ f.cursor + 2 + 1) same (omega arith),
            λ g next. absurd (cc),
          )
    ]

pub turns_are_counted : TurnsAreCounted
turns_are_counted s p changes = (mark_counts s p, first_counts s p changes)
