-- Steps of several processes with areas apart, in any order.
use Rattle.std.specs.Prelude.{◌≡◌, ◌≢◌, ℕ, ◌+◌, Bool, true, false, ◌==◌, List, [], ◌∷◌, map, Some}
use Rattle.std.specs.List.{list_any}
use Rattle.seq_words.specs.Description.{IsDescription}
use Rattle.seq_words.specs.declared.description.MachineDesc.{MachineDesc}
use Rattle.seq_words.specs.declared.events.Entry.{Entry}
use Rattle.seq_flat.specs.declared.inputs.LineInput.{LineInput}
use Rattle.seq_flat.specs.declared.state.FlatState.{FlatState}
use Rattle.seq_flat.specs.declared.state.Rights.{Rights}
use Rattle.seq_flat.specs.State.{rights_of}
use Rattle.seq_flat.specs.Run.{run_from}
use Rattle.seq_runs.specs.Areas.{owns, HoldsWithin, Agree, OthersStay}
use Rattle.seq_runs.specs.Ahead.{IsAhead}

-- no segment is in both areas
abbrev pub AreApart : (ℕ → Bool) → (ℕ → Bool) → Type 0
AreApart one two = (s : ℕ) → one s ≡ true → two s ≡ false

-- the area of a process that locks give: the segments whose word names it. A word is 0 where its segment is free.
abbrev pub locked : (ℕ → ℕ) → ℕ → ℕ → Bool
locked word p s = word s == p + 1

-- locks keep areas apart
abbrev pub LocksKeepApart : Type 0
LocksKeepApart = (word : ℕ → ℕ) (p q : ℕ) → q ≢ p → AreApart (locked word p) (locked word q)

-- no line has two owners
abbrev pub HaveOneOwner : List Rights → Type 0
HaveOneOwner rights = (p q l : ℕ) → q ≢ p → owns rights p l ≡ true → owns rights q l ≡ false

-- the lines of a description have one owner
abbrev pub LinesHaveOneOwner : Type 0
LinesHaveOneOwner = (d : MachineDesc) → IsDescription d → HaveOneOwner (rights_of d)

-- what another process sees is the same, and it holds only segments of its area still
pub record IsUntouched (rights : List Rights) (area : ℕ → Bool) (q : ℕ) (f g : FlatState) : Type 0 where
  pub agree : Agree rights area q f g
  pub within : HoldsWithin area q f → HoldsWithin area q g

-- where only process p and its area changed, any other process with an area apart is untouched
abbrev pub OthersAreUntouched : Type 0
OthersAreUntouched =
    (rights : List Rights) (area other : ℕ → Bool) (p q : ℕ) (f g : FlatState) →
    HaveOneOwner rights → q ≢ p → AreApart area other → OthersStay rights area p f g → IsUntouched rights other q f g

-- p's steps to g and q's to h can both be taken, in either order, and lead to one state, which each has as it was there
pub record Meet (d : MachineDesc) (inputs : List LineInput) (one two : ℕ → Bool) (p q m n : ℕ) (g h : FlatState) : Type 0 where
  pub state : FlatState
  pub second : IsAhead d inputs two q n g state
  pub first : IsAhead d inputs one p m h state
  pub second_agrees : Agree (rights_of d) two q h state
  pub first_agrees : Agree (rights_of d) one p g state

-- steps of two processes with areas apart commute
abbrev pub StepsCommute : Type 0
StepsCommute =
    (d : MachineDesc) (inputs : List LineInput) (one two : ℕ → Bool) (p q m n : ℕ) (f g h : FlatState) →
    IsDescription d → q ≢ p → AreApart one two → IsAhead d inputs one p m f g → IsAhead d inputs two q n f h → Meet d inputs one two p q m n g h

-- whether a process is one of these
unfoldable pub among : List ℕ → ℕ → Bool
among ps q = list_any (λ p. p == q) ps

-- no process is there twice
abbrev pub AreDifferent : List ℕ → Type 0
AreDifferent [] = Unit {0}
AreDifferent (p ∷ ps) = (among ps p ≡ false) × AreDifferent ps

-- an entry for each of these processes
abbrev pub entries : (ℕ → ℕ) → List ℕ → List Entry
entries count ps = map (λ p. record { pid = record { 0 = p }; count = count p }) ps

-- each of these processes is ahead of f in its own area, by its own number of steps, at its own state
abbrev pub AreAhead : MachineDesc → List LineInput → (ℕ → ℕ → Bool) → (ℕ → ℕ) → (ℕ → FlatState) → FlatState → List ℕ → Type 0
AreAhead d inputs area count reached f ps = (p : ℕ) → among ps p ≡ true → IsAhead d inputs (area p) p (count p) f (reached p)

-- the runs along both orders lead to one state, which each process has as it reached it
pub record LeadToOne (d : MachineDesc) (inputs : List LineInput) (area : ℕ → ℕ → Bool) (count : ℕ → ℕ) (reached : ℕ → FlatState) (f : FlatState) (ps qs : List ℕ) : Type 0 where
  pub state : FlatState
  pub first : run_from d inputs f (entries count ps) ≡ Some state
  pub second : run_from d inputs f (entries count qs) ≡ Some state
  pub each : (p : ℕ) → among ps p ≡ true → Agree (rights_of d) (area p) p (reached p) state

-- The steps of any number of processes with areas apart can be taken in any order, and every order leads to one state.
abbrev pub AnyOrderLeadsToOne : Type 0
AnyOrderLeadsToOne =
    (d : MachineDesc) (inputs : List LineInput) (area : ℕ → ℕ → Bool) (count : ℕ → ℕ) (reached : ℕ → FlatState) (f : FlatState) (ps qs : List ℕ) →
    IsDescription d → ((p q : ℕ) → q ≢ p → AreApart (area p) (area q)) → AreAhead d inputs area count reached f ps →
    AreDifferent ps → AreDifferent qs → ((p : ℕ) → among qs p ≡ among ps p) → LeadToOne d inputs area count reached f ps qs
