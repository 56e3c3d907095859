-- The files that are loaded, one after another: each has its number in that order, which is how many were loaded before it.
use Rattle.std.specs.Prelude.{◌≡◌, ℕ, Bool, true, false, ◌==◌, if◌then◌else◌, nat_lt, Option, Some, None, List, [], ◌∷◌, ◌++◌, length}
use Rattle.seq_words.specs.declared.description.MachineDesc.{MachineDesc}
use Rattle.seq_loader.specs.declared.image.Image.{Image}
use Rattle.seq_schedule.specs.declared.script.Item.{Item}

pub data Opening : Type 0 where
  -- the words are no form of a command
  usage : Opening
  -- there is no file with this number
  absent : ℕ → Opening
  -- a file's first violated rule: the file's number, the place, the rule
  refused : ℕ → ℕ → ℕ → Opening
  -- the load of a file fails
  faulty : Opening
  -- a run of these items on this machine, with the contents of all files that were loaded, in their order
  ready : MachineDesc → List Item → List (List ℕ) → Opening
  -- this image is made of a source, and stored
  made : Image → Opening
  -- this image is listed
  listed : Image → Opening

-- the most bytes of a file
abbrev pub file_limit : ℕ
file_limit = 268435456

-- place and number of a file's first violated rule: rule 1 above the limit, else its grammar's
abbrev pub file_fault : (List ℕ → Option (ℕ × ℕ)) → List ℕ → Option (ℕ × ℕ)
file_fault fault text = if nat_lt file_limit (length text) then Some (file_limit, 1) else fault text

-- What the next file asks for: by the contents of those before it, its grammar (the first violated rule of a text, and its
-- values), what comes next, and its content.
abbrev pub OpensText : {A : Type 0} → List (List ℕ) → Option (ℕ × ℕ) → List ℕ → (A → Type 0) → (List (List ℕ) → A → Opening → Type 0) → Opening → Type 0
OpensText files (Some fault) text Spelled next o = o ≡ refused (length files) fault.0 fault.1
OpensText {A} files None text Spelled next o = (value : A) × Spelled value × next (files ++ text ∷ []) value o

abbrev pub OpensContent : {A : Type 0} → List (List ℕ) → (List ℕ → Option (ℕ × ℕ)) → (List ℕ → A → Type 0) → (List (List ℕ) → A → Opening → Type 0) → Option (List ℕ) → Opening → Type 0
OpensContent files fault Spelled next None o = o ≡ absent (length files)
OpensContent files fault Spelled next (Some text) o = OpensText files (file_fault fault text) text (Spelled text) next o

-- whether the load of the file with this number fails, where at most one does
abbrev pub fails : Option ℕ → ℕ → Bool
fails None file = false
fails (Some failed) file = failed == file

abbrev pub OpensLoad : {A : Type 0} → Bool → List (List ℕ) → (List ℕ → Option (ℕ × ℕ)) → (List ℕ → A → Type 0) → (List (List ℕ) → A → Opening → Type 0) → Option (List ℕ) → Opening → Type 0
OpensLoad true files fault Spelled next content o = o ≡ faulty
OpensLoad false files fault Spelled next content o = OpensContent files fault Spelled next content o

abbrev pub OpensFile : {A : Type 0} → Option ℕ → List (List ℕ) → (List ℕ → Option (ℕ × ℕ)) → (List ℕ → A → Type 0) → (List (List ℕ) → A → Opening → Type 0) → Option (List ℕ) → Opening → Type 0
OpensFile failed files fault Spelled next content o = OpensLoad (fails failed (length files)) files fault Spelled next content o
