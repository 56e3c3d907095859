-- The names of the files that a command loads, in the order in which it loads them.
use Rattle.std.specs.Prelude.{◌≡◌, ◌⊎◌, ℕ, Option, Some, None, List, [], ◌∷◌, ◌++◌, slice_get}
use Rattle.seq_shelf.specs.Told.{Map}
use Rattle.seq_manifest.specs.declared.draft.Draft.{Draft}
use Rattle.seq_manifest.specs.Drafts.{Describes}
use Rattle.seq_report.specs.declared.status.Status.{Status}
use Rattle.seq_report.specs.declared.status.Status.TheVariants.{Refused, Absent}
use Rattle.seq_cli.specs.Commands.{Command, run, asm, list}
use Rattle.seq_cli.specs.Parts.{names_of}

-- the names that are those of files: an empty one stands for none
abbrev pub filled : List (List ℕ) → List (List ℕ)
filled [] = []
filled ([] ∷ names) = filled names
filled ((b ∷ bytes) ∷ names) = (b ∷ bytes) ∷ filled names

-- the files of a run: the machine's, those of the parts of its draft, the schedule's
abbrev pub run_names : List ℕ → List ℕ → Draft → List (List ℕ)
run_names machine schedule draft = machine ∷ filled (names_of draft) ++ schedule ∷ []

-- the machine's file describes this draft
abbrev pub DescribedBy : Map → List ℕ → Draft → Type 0
DescribedBy map machine draft = (text : List ℕ) × (map machine ≡ Some text) × Describes text draft

-- A command's files have these names, from the first on. A run's are known behind the machine's where that file describes a draft.
abbrev pub AreNames : Map → Option Command → List (List ℕ) → Type 0
AreNames map None names = names ≡ []
AreNames map (Some (run machine schedule)) names = (names ≡ machine ∷ []) ⊎ ((draft : Draft) × DescribedBy map machine draft × (names ≡ run_names machine schedule draft))
AreNames map (Some (asm source image)) names = names ≡ source ∷ []
AreNames map (Some (list image)) names = names ≡ image ∷ []

-- The file of a command that has this number, counted from 0, has this name.
pub record IsNamed (map : Map) (form : Option Command) (file : ℕ) (name : List ℕ) : Type 0 where
  pub names : List (List ℕ)
  pub are_names : AreNames map form names
  pub there : slice_get names file ≡ Some name

-- the same of the file that a status is about, where it is about one
abbrev pub NamesFile : Map → Option Command → Status → List ℕ → Type 0
NamesFile map form (Refused file place rule) name = IsNamed map form file name
NamesFile map form (Absent file) name = IsNamed map form file name
NamesFile map form _ name = Unit {0}
