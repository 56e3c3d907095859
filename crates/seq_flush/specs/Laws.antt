-- The laws of flushes.
use Rattle.std.specs.Prelude.{◌≡◌, ◌≢◌, ℕ, ◌+◌, ◌≤◌, Bool, List, length, drop}
use Rattle.seq_words.specs.declared.block.Block.{Block}
use Rattle.seq_layout.specs.Shapes.{Shape}
use Rattle.seq_layout.specs.Copies.{Copies}
use Rattle.seq_layout.specs.Held.{IsOther, Survives, Any}
use Rattle.seq_status.specs.declared.step.Step.TheVariants.{Again, Next}
use Rattle.seq_cache.specs.Changes.{IsAscending}
use Rattle.seq_cache.specs.declared.change.Change.{Change}
use Rattle.seq_flush.specs.declared.stages.Mark.{Mark}
use Rattle.seq_flush.specs.declared.stages.First.{First}
use Rattle.seq_flush.specs.declared.stages.Second.{Second}
use Rattle.seq_flush.specs.declared.stages.Close.{Close}
use Rattle.seq_flush.specs.declared.stages.Closed.{Closed}
use Rattle.seq_flush.specs.declared.flush.Flush.{Flush}
use Rattle.seq_flush.specs.Units.{HavePlaces, units_of}
use Rattle.seq_flush.specs.Turns.{units, mark_turn, first_turn, second_turn, close_turn, taken_in_mark, taken_in_first}
use Rattle.seq_flush.specs.Facts.{Stand, MarkKnows, FirstKnows, SecondKnows, CloseKnows, ClosedKnows, AreApart, IsNoUnit, IsOneLayer, all_written, left_of_first, left_of_second}

-- A turn that writes a unit leaves the same copies to come: before it with that unit, after it without.
abbrev pub FirstWritesWhatIsLeft : Type 0
FirstWritesWhatIsLeft =
    (s : Shape) (p : Copies) (changes : List Change) (f g : Flush First) →
    (first_turn s p changes f).step ≡ Again g → left_of_first s (first_turn s p changes f).copies changes g ≡ left_of_first s p changes f

abbrev pub SecondWritesWhatIsLeft : Type 0
SecondWritesWhatIsLeft =
    (s : Shape) (p : Copies) (changes : List Change) (f g : Flush Second) →
    f.cursor ≢ 0 → (second_turn s p changes f).step ≡ Again g → left_of_second s (second_turn s p changes f).copies changes g ≡ left_of_second s p changes f

-- Nothing is left at the commit, nor after the last turn of the second pass.
abbrev pub NothingIsLeft : Type 0
NothingIsLeft =
    (s : Shape) (p : Copies) (changes : List Change) →
    ((f : Flush First) (g : Flush Second) → (first_turn s p changes f).step ≡ Next g → left_of_first s p changes f ≡ p) ×
    ((f : Flush Second) (g : Flush Close) → f.cursor ≤ length (units f changes) → (second_turn s p changes f).step ≡ Next g → (second_turn s p changes f).copies ≡ left_of_second s p changes f)

-- Units that are apart stand after all of them are written.
abbrev pub AllWrittenStand : Type 0
AllWrittenStand = (s : Shape) (p : Copies) (shadow : Bool) (us : List Change) → AreApart us → Stand s (all_written s p shadow us) shadow us

-- The units of a flush are apart.
abbrev pub UnitsAreApart : Type 0
UnitsAreApart =
    (s : Shape) (p : ℕ) (context : List Block) (changes : List Change) →
    IsAscending changes → HavePlaces s p changes → AreApart (units_of p context changes)

-- Units that are apart are so from any of them on.
abbrev pub RestIsApart : Type 0
RestIsApart = (us : List Change) (k : ℕ) → AreApart us → AreApart (drop k us)

-- What units leave that are written to the copies of one kind is one layer over what these held.
abbrev pub WritingIsOneLayer : Type 0
WritingIsOneLayer = (s : Shape) (p : Copies) (shadow : Bool) (us : List Change) → IsOneLayer s p (all_written s p shadow us) shadow us

-- The turns of each stage take what it knows to what the next state knows.
abbrev pub MarkTurnsKnow : Type 0
MarkTurnsKnow =
    (s : Shape) (p : Copies) (changes : List Change) (f : Flush Mark) → MarkKnows s p f →
    ((g : Flush Mark) → (mark_turn s p f).step ≡ Again g → MarkKnows s (mark_turn s p f).copies g) ×
    ((g : Flush First) → (mark_turn s p f).step ≡ Next g → FirstKnows s (mark_turn s p f).copies changes g)

abbrev pub FirstTurnsKnow : Type 0
FirstTurnsKnow =
    (s : Shape) (p : Copies) (changes : List Change) (f : Flush First) → AreApart (units f changes) → FirstKnows s p changes f →
    ((g : Flush First) → (first_turn s p changes f).step ≡ Again g → FirstKnows s (first_turn s p changes f).copies changes g) ×
    ((g : Flush Second) → (first_turn s p changes f).step ≡ Next g → SecondKnows s (first_turn s p changes f).copies changes g)

abbrev pub SecondTurnsKnow : Type 0
SecondTurnsKnow =
    (s : Shape) (p : Copies) (changes : List Change) (f : Flush Second) → AreApart (units f changes) → SecondKnows s p changes f →
    ((g : Flush Second) → (second_turn s p changes f).step ≡ Again g → SecondKnows s (second_turn s p changes f).copies changes g) ×
    ((g : Flush Close) → (second_turn s p changes f).step ≡ Next g → CloseKnows s (second_turn s p changes f).copies changes g)

abbrev pub CloseTurnsKnow : Type 0
CloseTurnsKnow =
    (s : Shape) (p : Copies) (changes : List Change) (f : Flush Close) → CloseKnows s p changes f →
    ((g : Flush Close) → (close_turn s p f).step ≡ Again g → CloseKnows s (close_turn s p f).copies changes g) ×
    ((c : Closed) → (close_turn s p f).step ≡ Next c → ClosedKnows s (close_turn s p f).copies changes f)

-- That units stand survives each write to a block that is none of them, to any word and to a copy that isn't in service, the
-- failure of a memory, and each change of a memory's state that puts nothing in service.
abbrev pub StandingSurvives : Type 0
StandingSurvives = (s : Shape) (shadow : Bool) (us : List Change) → Survives s (IsNoUnit us) Any (λ p. Stand s p shadow us)

-- What a state of a flush knows survives the same, but for a write to the status word of its process.
abbrev pub SurvivesOthers : {S : Type 0} → Shape → List Change → Flush S → (Copies → Type 0) → Type 0
SurvivesOthers s changes f Known = Survives s (IsNoUnit (units f changes)) (IsOther f.pid.0 0) Known

abbrev pub MarkSurvives : Type 0
MarkSurvives = (s : Shape) (changes : List Change) (f : Flush Mark) → SurvivesOthers s changes f (λ p. MarkKnows s p f)

abbrev pub FirstSurvives : Type 0
FirstSurvives = (s : Shape) (changes : List Change) (f : Flush First) → SurvivesOthers s changes f (λ p. FirstKnows s p changes f)

abbrev pub SecondSurvives : Type 0
SecondSurvives = (s : Shape) (changes : List Change) (f : Flush Second) → SurvivesOthers s changes f (λ p. SecondKnows s p changes f)

abbrev pub CloseSurvives : Type 0
CloseSurvives = (s : Shape) (changes : List Change) (f : Flush Close) → SurvivesOthers s changes f (λ p. CloseKnows s p changes f)

abbrev pub ClosedSurvives : Type 0
ClosedSurvives = (s : Shape) (changes : List Change) (f : Flush Close) → SurvivesOthers s changes f (λ p. ClosedKnows s p changes f)

-- Each turn of Mark and First is one more that is taken. At the commit they are two and one for each unit, so ten at least.
abbrev pub TurnsAreCounted : Type 0
TurnsAreCounted =
    (s : Shape) (p : Copies) (changes : List Change) →
    ((f : Flush Mark) → MarkKnows s p f →
    ((g : Flush Mark) → (mark_turn s p f).step ≡ Again g → taken_in_mark g ≡ taken_in_mark f + 1) ×
    ((g : Flush First) → (mark_turn s p f).step ≡ Next g → taken_in_first g ≡ taken_in_mark f + 1)) ×
    ((f : Flush First) → FirstKnows s p changes f →
    ((g : Flush First) → (first_turn s p changes f).step ≡ Again g → taken_in_first g ≡ taken_in_first f + 1) ×
    ((g : Flush Second) → (first_turn s p changes f).step ≡ Next g → (taken_in_first f ≡ length (units f changes) + 2) × (10 ≤ taken_in_first f)))
