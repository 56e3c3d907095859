-- What the run of what was loaded did, by the status with which it ended before it printed.
use Rattle.std.specs.Prelude.{◌≡◌, ◌⊎◌, ℕ, Bool, true, Some, List, []}
use Rattle.seq_words.specs.declared.description.MachineDesc.{MachineDesc}
use Rattle.seq_words.specs.declared.events.Entry.{Entry}
use Rattle.seq_flat.specs.Run.{flat_run}
use Rattle.seq_flat.specs.declared.state.FlatState.{FlatState}
use Rattle.seq_shelf.specs.Told.{LineView, ChronicleView}
use Rattle.seq_shelf.specs.Rows.{AllAccept}
use Rattle.seq_schedule.specs.declared.script.Item.{Item}
use Rattle.seq_machine.specs.declared.hardware.Hardware.{Hardware}
use Rattle.seq_course.specs.Made.{Takes}
use Rattle.seq_course.specs.declared.ending.Ending.{Ending}
use Rattle.seq_retell.specs.Shown.{inputs_shown}
use Rattle.seq_report.specs.Texts.{is_reported, report_text}
use Rattle.seq_report.specs.declared.status.Status.{Status}
use Rattle.seq_report.specs.declared.status.Status.TheVariants.{NoMemory}
use Rattle.seq_cli.specs.Endings.{status_of}
use Rattle.seq_cli.specs.Texts.{IsHungMask, accepted_on}

-- memory was wanting before the first event
pub record IsWanting (status : Status) (before after : ChronicleView) (old new : List LineView) : Type 0 where
  pub status_is : status ≡ NoMemory
  pub chronicle : after ≡ before
  pub bytes : AllAccept old new (λ l. [])

-- the course of these items ended as the status says
pub record HasRun (d : MachineDesc) (items : List Item) (status : Status) (before after : ChronicleView) (old new : List LineView) : Type 0 where
  pub ending : Ending
  pub status_is : status ≡ status_of ending
  pub takes : Takes d items ending before after old new

-- one of these
abbrev pub RunsOrWants : MachineDesc → List Item → Status → ChronicleView → ChronicleView → List LineView → List LineView → Type 0
RunsOrWants d items status before after old new = IsWanting status before after old new ⊎ HasRun d items status before after old new

-- The report of a run on this hardware, with its history: each process stands as in the flat run along it.
pub record Reports (status : Status) (h : Hardware) (history : List Entry) (lines : List LineView) (marks : List Bool) (text : List ℕ) : Type 0 where
  pub reported : is_reported status ≡ true
  pub state : FlatState
  pub flat : flat_run h.desc (inputs_shown h.ports) history ≡ Some state
  pub hung : ℕ
  pub hung_is : IsHungMask hung marks
  pub text_is : text ≡ report_text status state history (accepted_on h.desc lines) hung
