-- What the loading of the next file gives.
use Rattle.std.specs.Prelude.{◌≡◌, ◌≢◌, ◌⊎◌, ℕ, ◌+◌, Option, Some, None, Result, IfOk, List, [], ◌∷◌, ◌++◌, length}
use Rattle.seq_words.specs.declared.events.ReadError.{ReadError}
use Rattle.seq_words.specs.declared.events.ReadError.TheVariants as read
use Rattle.seq_words.specs.declared.description.MachineDesc.{MachineDesc}
use Rattle.seq_words.specs.declared.bytes.NoMemory.{NoMemory as OutOfMemory}
use Rattle.seq_shelf.specs.Told.{Map}
use Rattle.seq_report.specs.declared.status.Status.{Status}
use Rattle.seq_report.specs.declared.status.Status.TheVariants.{Done, Refused, ShelfFault, NoMemory}
use Rattle.seq_cli.specs.Files.{Opening, usage, file_fault, OpensFile}
use Rattle.seq_cli.specs.Parts.{part_fault, Completes}
use Rattle.seq_cli.specs.Endings.{Stops}
use Rattle.seq_cli.specs.Texts.{IsLineOf}

-- a status with which a loading ends: an early one, but not usage
abbrev pub EndsLoading : Status → Type 0
EndsLoading status = Stops (λ o. o ≢ usage) status

-- the status of a command that makes no run: all is done, or the loading or the store ends it
abbrev pub EndsStill : Status → Type 0
EndsStill status = (status ≡ Done) ⊎ EndsLoading status

-- the next file's content has a text that violates no rule, and this value; it is kept behind those before it
pub record Loads {A : Type 0} (fault : List ℕ → Option (ℕ × ℕ)) (Spelled : List ℕ → A → Type 0) (content : Option (List ℕ)) (before after : List (List ℕ)) (value : A) : Type 0 where
  pub text : List ℕ
  pub content_is : content ≡ Some text
  pub no_fault : file_fault fault text ≡ None
  pub spelled : Spelled text value
  pub kept : after ≡ before ++ text ∷ []

-- the file whose load failed, where a status of the loading of this file says so
abbrev pub failed_of : Status → ℕ → Option ℕ
failed_of ShelfFault file = Some file
failed_of status file = None

-- no text is read to a value
abbrev pub NoValue : List ℕ → Unit {0} → Type 0
NoValue text value = ⊥

abbrev pub NoNext : List (List ℕ) → Unit {0} → Opening → Type 0
NoNext files value o = ⊥

-- the next file, with this content, ends the loading with this status
abbrev pub LoadStops : Status → List (List ℕ) → (List ℕ → Option (ℕ × ℕ)) → Option (List ℕ) → Type 0
LoadStops status files fault content = Stops (OpensFile (failed_of status (length files)) files fault NoValue NoNext content) status

-- the same before its text is read
abbrev pub no_fault : List ℕ → Option (ℕ × ℕ)
no_fault text = None

abbrev pub TextStops : Status → List (List ℕ) → Option (List ℕ) → Type 0
TextStops status files content = LoadStops status files no_fault content

-- the status of a text that a reader gives no value
abbrev pub error_status : ℕ → ReadError → Status
error_status file (read.Refused place rule) = Refused file place rule
error_status file read.NoMemory = NoMemory

-- The parts from part n on are loaded: from a description and the files before to those after them.
abbrev pub PartsLoaded : Map → ℕ → List (List ℕ) → List (List ℕ) → MachineDesc → List (List ℕ) → MachineDesc → Type 0
PartsLoaded map n [] before d after e = (after ≡ before) × (e ≡ d)
PartsLoaded map n ([] ∷ names) before d after e = PartsLoaded map (n + 1) names before d after e
PartsLoaded map n ((b ∷ bytes) ∷ names) before d after e =
    (files : List (List ℕ)) × (c : MachineDesc) × Loads (part_fault d n) (Completes d n) (map (b ∷ bytes)) before files c × PartsLoaded map (n + 1) names files c after e

-- After some parts were loaded, the file of the next one ends the loading with this status, and the text is the line of that file.
pub record PartsStop (map : Map) (names : List (List ℕ)) (before : List (List ℕ)) (d : MachineDesc) (status : Status) (text : Result (List ℕ) OutOfMemory) : Type 0 where
  pub front : List (List ℕ)
  pub name : List ℕ
  pub rest : List (List ℕ)
  pub split : names ≡ front ++ name ∷ rest
  pub files : List (List ℕ)
  pub desc : MachineDesc
  pub loaded : PartsLoaded map 0 front before d files desc
  pub named : name ≢ []
  pub stops : LoadStops status files (part_fault desc (length front)) (map name)
  pub line : IfOk text (IsLineOf status name)
