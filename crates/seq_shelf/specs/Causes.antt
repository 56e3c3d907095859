-- When a call may answer an error.
use Rattle.std.specs.Prelude.{ℕ, ◌+◌, ◌-◌, ◌^◌, ◌≤◌, ◌⊎◌, min, Result, IsErrOf}
use Rattle.seq_shelf.specs.declared.shelf.LoadError.{LoadError}
use Rattle.seq_shelf.specs.declared.shelf.LoadError.TheVariants.{Failed, NoMemory}

-- a count after one more: it stands still at its type's end
abbrev pub one_more : ℕ → ℕ
one_more count = min (count + 1) (2 ^ 64 - 1)

-- the count rose, or stands at its type's end
abbrev pub Rose : ℕ → ℕ → Type 0
Rose before now = one_more before ≤ now

-- a count never falls, and this error comes only where it rose
pub record HasCause {T E : Type 0} (error : E) (before now : ℕ) (result : Result T E) : Type 0 where
  pub later : before ≤ now
  pub rose : IsErrOf result error → Rose before now

-- a load answers this error, unless it failed or memory was refused to it
abbrev pub AnswersUnlessFailed : {T : Type 0} → Result T LoadError → LoadError → Type 0
AnswersUnlessFailed result error = IsErrOf result error ⊎ IsErrOf result Failed ⊎ IsErrOf result NoMemory
