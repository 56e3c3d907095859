-- What printed texts have and tell.
use Rattle.std.specs.Prelude.{◌≡◌, ℕ, ◌^◌, ◌<◌, true, List, [], ◌∷◌, ◌++◌}
use Rattle.seq_words.specs.declared.kinds.Element.{Element}
use Rattle.seq_words.specs.declared.kinds.Element.TheVariants as elements
use Rattle.seq_words.specs.declared.kinds.Blocker.{Blocker}
use Rattle.seq_words.specs.declared.kinds.Blocker.TheVariants as blockers
use Rattle.seq_words.specs.declared.events.Entry.{Entry}
use Rattle.seq_flat.specs.declared.state.FlatState.{FlatState}
use Rattle.seq_report.specs.declared.status.Status.{Status}
use Rattle.seq_report.specs.declared.status.Status.TheVariants.{MachineCheck, OutOfTurns, LineFault}
use Rattle.seq_report.specs.Texts.{is_reported, is_single, single_line, report_text, assembled_text}

-- the text ends with the end of a line
pub record EndsLine (text : List ℕ) : Type 0 where
  pub front : List ℕ
  pub parts : text ≡ front ++ 10 ∷ []

abbrev pub ReportsEndLines : Type 0
ReportsEndLines = (status : Status) (f : FlatState) (history : List Entry) (sent : List ℕ) (hung : ℕ) → EndsLine (report_text status f history sent hung)

abbrev pub SinglesEndLines : Type 0
SinglesEndLines = (status : Status) (name : List ℕ) → is_single status ≡ true → EndsLine (single_line status name)

abbrev pub AssembledEndsLine : Type 0
AssembledEndsLine = (bytes : ℕ) → EndsLine (assembled_text bytes)

-- the numbers in a status fit 64 bits
abbrev pub ElementFits : Element → Type 0
ElementFits (elements.Processor p) = p.0 < 2 ^ 64
ElementFits (elements.Memory m) = m.0 < 2 ^ 64
ElementFits (elements.Io i) = i.0 < 2 ^ 64

abbrev pub BlockerFits : Blocker → Type 0
BlockerFits (blockers.Memory m) = m.0 < 2 ^ 64
BlockerFits (blockers.Process p) = p.0 < 2 ^ 64

abbrev pub StatusFits : Status → Type 0
StatusFits (MachineCheck line stopped cause) = (line < 2 ^ 64) × ElementFits stopped × BlockerFits cause
StatusFits (OutOfTurns line) = line < 2 ^ 64
StatusFits (LineFault line) = line.0 < 2 ^ 64
StatusFits _ = Unit {0}

-- a report tells its status: reports of two statuses differ, whatever else they tell
abbrev pub ReportsTellStatus : Type 0
ReportsTellStatus =
    (s t : Status) (f g : FlatState) (history other : List Entry) (sent accepted : List ℕ) (hung marks : ℕ) → is_reported s ≡ true → is_reported t ≡ true → StatusFits s → StatusFits t → report_text s f history sent hung ≡ report_text t g other accepted marks → s ≡ t
