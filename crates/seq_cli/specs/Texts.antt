-- The text that a command prints, by the status with which it ended before it printed.
use Rattle.std.specs.Prelude.{◌≡◌, ℕ, ◌<◌, Bool, false, true, Option, Some, None, List, ◌++◌, length, map, take, get_or, codes}
use Rattle.seq_words.specs.Description.{line_count}
use Rattle.seq_words.specs.Masks.{has_bit}
use Rattle.seq_words.specs.declared.description.MachineDesc.{MachineDesc}
use Rattle.seq_flat.specs.Run.{flat_run}
use Rattle.seq_flat.specs.declared.state.FlatState.{FlatState}
use Rattle.seq_lines.specs.Arrivals.{arrived}
use Rattle.seq_shelf.specs.Told.{LineView, ChronicleView, Map}
use Rattle.seq_schedule.specs.declared.script.Item.{Item}
use Rattle.seq_loader.specs.declared.image.Image.{Image}
use Rattle.seq_loader.specs.Image.{Spells}
use Rattle.seq_list.specs.Listing.{listing}
use Rattle.seq_report.specs.Texts.{is_single, single_line, report_text, assembled_text}
use Rattle.seq_report.specs.declared.status.Status.{Status}
use Rattle.seq_report.specs.declared.status.Status.TheVariants.{Done, Usage, Refused, Absent, MachineCheck, OutOfTurns, ShelfFault, SinkFault, ChronicleFault, LineFault, NoMemory}
use Rattle.seq_course.specs.Course.{machine_after}
use Rattle.seq_course.specs.Made.{Takes}
use Rattle.seq_course.specs.declared.ending.Ending.{Ending}
use Rattle.seq_cli.specs.Commands.{Command, run, asm, list}
use Rattle.seq_cli.specs.Endings.{status_of}
use Rattle.seq_cli.specs.Names.{NamesFile}
use Rattle.seq_cli.specs.Stored.{StoresImage}
use Rattle.seq_cli.specs.Top.{RunFor}

-- the forms of the commands
abbrev pub usage_text : List ℕ
usage_text =
    codes "usage:\n"
    ++ codes "sequoia run MACHINE SCHEDULE\n"
    ++ codes "sequoia asm SOURCE IMAGE\n"
    ++ codes "sequoia list IMAGE\n"

-- ---- the only line of a command that ends with one of its files

-- by the file's name
pub record IsLineOf (status : Status) (name text : List ℕ) : Type 0 where
  pub single : is_single status ≡ true
  pub text_is : text ≡ single_line status name

-- with the name that the file has among those of the command, where the shelf tells its files
pub record IsLine (form : Option Command) (told : Option Map) (status : Status) (text : List ℕ) : Type 0 where
  pub name : List ℕ
  pub named : (m : Map) → told ≡ Some m → NamesFile m form status name
  pub line : IsLineOf status name text

-- ---- the report of a run

-- how many bytes each line of the machine has accepted
abbrev pub accepted_on : MachineDesc → List LineView → List ℕ
accepted_on d lines = map (λ line. line.count) (take (line_count d) lines)

-- the mask has a bit for each of the lines that is hung up
abbrev pub IsHungMask : ℕ → List Bool → Type 0
IsHungMask mask marks = (l : ℕ) → l < 16 → has_bit mask l ≡ get_or marks l false

-- The report of a run of these items: the history of the machine after the events that were made, and how each process stands in the
-- flat run along it, with what arrived in them.
pub record IsReport (d : MachineDesc) (items : List Item) (status : Status) (before after : ChronicleView) (old new : List LineView) (marks : List Bool) (text : List ℕ) : Type 0 where
  pub ending : Ending
  pub status_is : status ≡ status_of ending
  pub takes : Takes d items ending before after old new
  pub state : FlatState
  pub flat : flat_run d (arrived d takes.events) (machine_after d takes.events).history ≡ Some state
  pub hung : ℕ
  pub hung_is : IsHungMask hung marks
  pub text_is : text ≡ report_text status state (machine_after d takes.events).history (accepted_on d new) hung

-- of the run that is asked for
pub record IsReportAsked (form : Option Command) (told : Option Map) (status : Status) (before after : ChronicleView) (old new : List LineView) (marks : List Bool) (text : List ℕ) : Type 0 where
  pub asks : RunFor form told
  pub report : IsReport asks.desc asks.items status before after old new marks text

-- ---- where an image is done

-- how many bytes the image has that was made of the source and stored
pub record IsAssembled (source image : List ℕ) (told left : Option Map) (text : List ℕ) : Type 0 where
  pub made : Image
  pub stores : StoresImage source image told left made
  pub text_is : text ≡ assembled_text (length made.bytes)

-- the listing of the bytes of the image that the file holds
pub record IsListing (name : List ℕ) (told : Option Map) (text : List ℕ) : Type 0 where
  pub image : Image
  pub holds : (m : Map) → told ≡ Some m → (file : List ℕ) × (m name ≡ Some file) × Spells file image
  pub text_is : text ≡ listing 0 image.bytes

-- ---- all texts

-- The text of a command that is done.
abbrev pub IsDoneText : Option Command → Option Map → Option Map → (List ℕ → Type 0) → List ℕ → Type 0
IsDoneText None told left Reported text = ⊥
IsDoneText (Some (run machine schedule)) told left Reported text = Reported text
IsDoneText (Some (asm source image)) told left Reported text = IsAssembled source image told left text
IsDoneText (Some (list image)) told left Reported text = IsListing image told text

-- The text of a command that ended with this status before it printed: by its files before and after, and by what a report is. There
-- is none for want of memory.
abbrev pub IsText : Option Command → Option Map → Option Map → (Status → List ℕ → Type 0) → Status → List ℕ → Type 0
IsText form told left Reported Usage text = text ≡ usage_text
IsText form told left Reported (Refused file place rule) text = IsLine form told (Refused file place rule) text
IsText form told left Reported (Absent file) text = IsLine form told (Absent file) text
IsText form told left Reported ShelfFault text = IsLine form told ShelfFault text
IsText form told left Reported Done text = IsDoneText form told left (Reported Done) text
IsText form told left Reported (MachineCheck line stopped cause) text = Reported (MachineCheck line stopped cause) text
IsText form told left Reported (OutOfTurns line) text = Reported (OutOfTurns line) text
IsText form told left Reported (LineFault line) text = Reported (LineFault line) text
IsText form told left Reported ChronicleFault text = Reported ChronicleFault text
IsText form told left Reported SinkFault text = ⊥
IsText form told left Reported NoMemory text = ⊥

-- of a command that makes no run
abbrev pub NoReport : Status → List ℕ → Type 0
NoReport status text = ⊥
