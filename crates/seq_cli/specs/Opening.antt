-- What the words and the files ask for: an answer before any run, or a run.
use Rattle.std.specs.Prelude.{◌≡◌, ◌⊎◌, ℕ, Bool, true, false, Option, Some, None, List, [], length}
use Rattle.seq_words.specs.declared.description.MachineDesc.{MachineDesc}
use Rattle.seq_shelf.specs.Told.{Map}
use Rattle.seq_loader.specs.declared.image.Image.{Image}
use Rattle.seq_loader.specs.Image.{Spells}
use Rattle.seq_loader.specs.Faults.{first_fault as image_fault}
use Rattle.seq_manifest.specs.declared.draft.Draft.{Draft}
use Rattle.seq_manifest.specs.Drafts.{Describes}
use Rattle.seq_manifest.specs.Faults.{first_fault as description_fault}
use Rattle.seq_schedule.specs.declared.forms.Gate.TheVariants.{Built}
use Rattle.seq_schedule.specs.declared.script.Item.{Item}
use Rattle.seq_schedule.specs.Rules.{first_fault as schedule_fault, items_of}
use Rattle.seq_asm.specs.Assembled.{Makes}
use Rattle.seq_asm.specs.Rules.{first_fault as source_fault}
use Rattle.seq_cli.specs.Commands.{Command, run, asm, list, form_of}
use Rattle.seq_cli.specs.Files.{Opening, usage, faulty, ready, made, listed, fails, OpensFile}
use Rattle.seq_cli.specs.Parts.{names_of, OpensParts}

-- the items of a schedule
abbrev pub Schedules : List ℕ → List Item → Type 0
Schedules text items = items ≡ items_of Built text

-- the files in their order: the machine, its parts, the schedule
abbrev pub OpensItems : MachineDesc → List (List ℕ) → List Item → Opening → Type 0
OpensItems d files items o = o ≡ ready d items files

abbrev pub OpensSchedule : Map → Option ℕ → List ℕ → List (List ℕ) → MachineDesc → Opening → Type 0
OpensSchedule map failed schedule files d o = OpensFile failed files (schedule_fault Built d) Schedules (OpensItems d) (map schedule) o

abbrev pub OpensMachine : Map → Option ℕ → List ℕ → List (List ℕ) → Draft → Opening → Type 0
OpensMachine map failed schedule files draft o = OpensParts map failed 0 (names_of draft) files draft.desc (OpensSchedule map failed schedule) o

-- the image of a source, and its store, which may fail like the load of a file behind the source
abbrev pub OpensStore : Bool → Image → Opening → Type 0
OpensStore true i o = o ≡ faulty
OpensStore false i o = o ≡ made i

abbrev pub OpensSource : Option ℕ → List (List ℕ) → Image → Opening → Type 0
OpensSource failed files i o = OpensStore (fails failed (length files)) i o

-- an image to be listed
abbrev pub OpensListing : List (List ℕ) → Image → Opening → Type 0
OpensListing files i o = o ≡ listed i

abbrev pub OpensForm : Map → Option ℕ → Option Command → Opening → Type 0
OpensForm map failed None o = o ≡ usage
OpensForm map failed (Some (run machine schedule)) o = OpensFile failed [] description_fault Describes (OpensMachine map failed schedule) (map machine) o
OpensForm map failed (Some (asm source image)) o = OpensFile failed [] source_fault Makes (OpensSource failed) (map source) o
OpensForm map failed (Some (list image)) o = OpensFile failed [] image_fault Spells OpensListing (map image) o

-- With these words, these files on the shelf, and the load or the store of this file failing, where one does, this is asked for.
abbrev pub Opens : List (List ℕ) → Map → Option ℕ → Opening → Type 0
Opens words map failed o = OpensForm map failed (form_of words) o

-- A run of items on a machine is asked for.
pub record AsksRun (Asked : Opening → Type 0) : Type 0 where
  pub desc : MachineDesc
  pub items : List Item
  pub files : List (List ℕ)
  pub asked : Asked (ready desc items files)

-- An image is asked for, to be stored or to be listed.
pub record AsksImage (Asked : Opening → Type 0) : Type 0 where
  pub image : Image
  pub asked : Asked (made image) ⊎ Asked (listed image)
