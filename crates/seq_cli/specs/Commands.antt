-- The commands, and what words say which.
use Rattle.std.specs.Prelude.{ℕ, Bool, false, not, ◌&&◌, ◌==◌, if◌then◌else◌, Option, Some, None, List, [], ◌∷◌, codes}
use Rattle.std.specs.Str.{bytes_eq}
use Rattle.seq_cli.specs.declared.command.Command.{Command as Given}
use Rattle.seq_cli.specs.declared.command.Command.TheVariants as given

-- a command with its names
pub data Command : Type 0 where
  -- run MACHINE SCHEDULE
  run : List ℕ → List ℕ → Command
  -- asm SOURCE IMAGE
  asm : List ℕ → List ℕ → Command
  -- list IMAGE
  list : List ℕ → Command

-- a word that isn't empty and doesn't begin with `-`
abbrev pub is_name : List ℕ → Bool
is_name [] = false
is_name (first ∷ rest) = not (first == 45)

-- a word with two names behind it
abbrev pub form_of_two : List ℕ → List ℕ → List ℕ → Option Command
form_of_two word first second =
    if bytes_eq word (codes "run") then Some (run first second)
    else if bytes_eq word (codes "asm") then Some (asm first second)
    else None

-- a word with one name behind it
abbrev pub form_of_one : List ℕ → List ℕ → Option Command
form_of_one word name = if bytes_eq word (codes "list") then Some (list name) else None

-- the command that words say, if any: so they have at most one form
abbrev pub form_of : List (List ℕ) → Option Command
form_of (word ∷ first ∷ second ∷ []) = if is_name first && is_name second then form_of_two word first second else None
form_of (word ∷ name ∷ []) = if is_name name then form_of_one word name else None
form_of words = None

-- a command of the code
abbrev pub command_of : Given → Command
command_of (given.Run machine schedule) = run machine.now schedule.now
command_of (given.Assemble source image) = asm source.now image.now
command_of (given.List image) = list image.now

-- the words are a command that makes no run
abbrev pub MakesNoRun : Option Command → Type 0
MakesNoRun None = ⊥
MakesNoRun (Some (run machine schedule)) = ⊥
MakesNoRun (Some (asm source image)) = Unit {0}
MakesNoRun (Some (list image)) = Unit {0}
