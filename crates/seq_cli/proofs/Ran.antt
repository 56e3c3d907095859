-- What the run of what was loaded did, up to the printing, and its report.
use Rattle.std.proofs.Common.{◌≡◌, inl, inr, true, Bool, ℕ, Option, Some, None, List, Result, Ok, Err, sym, subst}
use Rattle.std.specs.Prelude.{IfOk}
use Rattle.std.proofs.lemmas.Bool.{false≢true}
use Rattle.seq_words.specs.Description.{IsDescription}
use Rattle.seq_words.specs.declared.bytes.NoMemory.{NoMemory}
use Rattle.seq_words.specs.declared.description.MachineDesc.{MachineDesc}
use Rattle.seq_shelf.specs.Causes.{Rose}
use Rattle.seq_shelf.specs.Rows.{line_at}
use Rattle.seq_shelf.specs.Told.{LineView, ChronicleView, ShelfView, Map}
use Rattle.seq_schedule.specs.declared.script.Item.{Item}
use Rattle.seq_schedule.specs.Faultless.{AreFaultless}
use Rattle.seq_course.specs.Done.{CoursesCheckUncovered}
use Rattle.seq_report.specs.Texts.{is_reported}
use Rattle.seq_report.specs.declared.status.Status.{Status}
use Rattle.seq_report.specs.declared.status.Status.TheVariants.{Done, Usage, Refused, Absent, MachineCheck, OutOfTurns, ShelfFault, SinkFault, ChronicleFault, LineFault, NoMemory as Wanting}
use Rattle.seq_cli.specs.Commands.{run}
use Rattle.seq_cli.specs.Files.{ready}
use Rattle.seq_cli.specs.Opening.{OpensForm, AsksRun}
use Rattle.seq_cli.specs.Endings.{EndsFaultless}
use Rattle.seq_cli.specs.Running.{IsWanting, HasRun, RunsOrWants}
use Rattle.seq_cli.specs.Texts.{IsReport, IsReportAsked, IsText}
use Rattle.seq_cli.specs.Top.{RunFor, Idle, Ended}
use Rattle.seq_cli.proofs.Courses.{idle_releases, run_for, run_releases, run_finishes, run_answers, run_checks, run_completes, run_is_no_usage, run_is_no_shelf_fault, chronicle_rose, line_rose}
use Rattle.seq_cli.proofs.Deterministic.{same_items, same_machine}

-- a report is the text of its status
report_is_text : (machine schedule : List ℕ) (told left : Option Map) (Reported : Status → List ℕ → Type 0) (status : Status) (text : List ℕ) → is_reported status ≡ true → Reported status text → IsText (Some (run machine schedule)) told left Reported status text
report_is_text machine schedule told left Reported Done text is h = h
report_is_text machine schedule told left Reported (MachineCheck line x b) text is h = h
report_is_text machine schedule told left Reported (OutOfTurns line) text is h = h
report_is_text machine schedule told left Reported (LineFault l) text is h = h
report_is_text machine schedule told left Reported ChronicleFault text is h = h
report_is_text machine schedule told left Reported Usage text is h = absurd (false≢true is)
report_is_text machine schedule told left Reported (Refused file place rule) text is h = absurd (false≢true is)
report_is_text machine schedule told left Reported (Absent file) text is h = absurd (false≢true is)
report_is_text machine schedule told left Reported ShelfFault text is h = absurd (false≢true is)
report_is_text machine schedule told left Reported SinkFault text is h = absurd (false≢true is)
report_is_text machine schedule told left Reported Wanting text is h = absurd (false≢true is)

no_form : (machine schedule : List ℕ) → Some (run machine schedule) ≡ None → ⊥
no_form machine schedule e = cc

-- memory was wanting before the first event
wanting_ended : (machine schedule : List ℕ) (status : Status) (shelf left : ShelfView) (before after : ChronicleView) (old new : List LineView) → IsWanting status before after old new → left.told ≡ shelf.told → Ended (Some (run machine schedule)) status shelf left before after old new
wanting_ended machine schedule status shelf left before after old new wants same =
    subst (λ (s : Status). Ended (Some (run machine schedule)) s shelf left before after old new) (sym wants.status_is) so
  where
    nothing : Idle (Some (run machine schedule)) Wanting before after old new
    nothing = record { still = inl tt; chronicle = wants.chronicle; bytes = wants.bytes }

    so : Ended (Some (run machine schedule)) Wanting shelf left before after old new
    so = record {
      released = idle_releases (Some (run machine schedule)) shelf.told Wanting before after old new nothing;
      runs = inl nothing;
      finished = inl nothing;
      usage = (λ e. absurd cc, λ none. absurd (no_form machine schedule none));
      answers = λ m told. record { failed = None; answers = tt };
      shelf_fault = λ e. absurd cc;
      chronicle_fault = λ e. absurd cc;
      line_fault = λ l e. absurd cc;
      check = λ line x b e. absurd cc;
      leaves = same;
    }

module _ (law : CoursesCheckUncovered) (machine schedule : List ℕ) (d : MachineDesc) (items : List Item) (files : List (List ℕ)) (described : IsDescription d) (faultless : AreFaultless d items) (status : Status) (shelf left : ShelfView) (before after : ChronicleView) (old new : List LineView)
    (asked : (m : Map) → shelf.told ≡ Some m → OpensForm m None (Some (run machine schedule)) (ready d items files)) where
  asks : RunFor (Some (run machine schedule)) shelf.told
  asks = run_for (Some (run machine schedule)) shelf.told d items files asked described

  course_ended : HasRun d items status before after old new → left.told ≡ shelf.told → Ended (Some (run machine schedule)) status shelf left before after old new
  unfolding asks
  course_ended ran same = record {
    released = run_releases (Some (run machine schedule)) shelf.told status asks ran.ending before after old new ran.status_is faultless ran.takes;
    runs = inr (record { asks = asks; ending = ran.ending; status_is = ran.status_is; takes = ran.takes });
    finished = inr (run_finishes (Some (run machine schedule)) shelf.told status asks ran.ending before after old new ran.status_is faultless ran.takes);
    usage = (λ e. absurd (run_is_no_usage status ran.ending ran.status_is e), λ none. absurd (no_form machine schedule none));
    answers = λ m told. record {
      failed = None;
      answers = run_answers (OpensForm m None (Some (run machine schedule))) status ran.ending ran.status_is (record { desc = d; items = items; files = files; asked = asked m told });
    };
    shelf_fault = λ e. absurd (run_is_no_shelf_fault status ran.ending ran.status_is e);
    chronicle_fault = chronicle_rose status d items ran.ending before after old new ran.status_is ran.takes;
    line_fault = λ l. line_rose status d items ran.ending before after old new l ran.status_is ran.takes;
    check = run_checks law (Some (run machine schedule)) shelf.told status asks ran.ending before after old new ran.status_is faultless ran.takes;
    leaves = same;
  }

  pub run_ended : RunsOrWants d items status before after old new → left.told ≡ shelf.told → Ended (Some (run machine schedule)) status shelf left before after old new
  run_ended (inl wants) same = wanting_ended machine schedule status shelf left before after old new wants same
  run_ended (inr ran) same = course_ended ran same

  pub ran_faultless : (m : Map) → shelf.told ≡ Some m → (asks : AsksRun (OpensForm m None (Some (run machine schedule)))) → (Rose before.faults after.faults → ⊥) → ((l : ℕ) → Rose (line_at old l).faults (line_at new l).faults → ⊥)
      → RunsOrWants d items status before after old new → EndsFaultless asks.desc asks.items status
  ran_faultless m told other chronicle line (inl wants) = inr (inl wants.status_is)
  ran_faultless m told other chronicle line (inr ran) =
      run_completes law status d items ran.ending before after old new described faultless ran.status_is ran.takes other.desc other.items
      (same_machine (Some (run machine schedule)) m d items files (asked m told) other) (same_items (Some (run machine schedule)) m d items files (asked m told) other) chronicle line

  -- its report is its text
  pub ran_text : (marks : List Bool) (text : Result (List ℕ) NoMemory) → IfOk text (λ t. (is_reported status ≡ true) × IsReport d items status before after old new marks t)
      → IfOk text (IsText (Some (run machine schedule)) shelf.told left.told (λ s. IsReportAsked (Some (run machine schedule)) shelf.told s before after old new marks) status)
  unfolding asks
  ran_text marks (Err none) h = tt
  ran_text marks (Ok text) h =
      report_is_text machine schedule shelf.told left.told (λ s. IsReportAsked (Some (run machine schedule)) shelf.told s before after old new marks) status text h.0 (record { asks = asks; report = h.1 })
