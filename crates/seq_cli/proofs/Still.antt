-- What a command did that makes no run, or whose files ended it, up to the printing.
use Rattle.std.proofs.Common.{◌≡◌, inl, inr, ℕ, Option, Some, None, List, refl, sym, subst, ◌∙◌}
use Rattle.seq_words.specs.declared.kinds.Blocker.{Blocker}
use Rattle.seq_words.specs.declared.kinds.Element.{Element}
use Rattle.seq_words.specs.declared.names.LineNo.{LineNo}
use Rattle.seq_shelf.specs.Causes.{Rose}
use Rattle.seq_shelf.specs.Told.{LineView, ChronicleView, ShelfView, Map}
use Rattle.seq_report.specs.declared.status.Status.{Status}
use Rattle.seq_report.specs.declared.status.Status.TheVariants.{Done, Usage, MachineCheck, ShelfFault, ChronicleFault, LineFault}
use Rattle.seq_cli.specs.Commands.{Command, run, MakesNoRun}
use Rattle.seq_cli.specs.Opening.{OpensForm}
use Rattle.seq_cli.specs.Endings.{moment_of, Answers, Stops}
use Rattle.seq_cli.specs.Loads.{EndsLoading, EndsStill}
use Rattle.seq_cli.specs.Stored.{Leaves}
use Rattle.seq_cli.specs.Top.{IsStill, Idle, Ended}
use Rattle.seq_cli.proofs.Openings.{ends_at_all}
use Rattle.seq_cli.proofs.Courses.{idle, idle_releases, loading_is_still}

still_is_no_usage : (status : Status) → EndsStill status → status ≡ Usage → ⊥
still_is_no_usage status (inl done) e = let never : Done ≡ Usage = sym done ∙ e in absurd cc
still_is_no_usage status (inr ends) e = subst EndsLoading e ends refl

still_is_no_chronicle_fault : (status : Status) → EndsStill status → status ≡ ChronicleFault → ⊥
still_is_no_chronicle_fault status (inl done) e = let never : Done ≡ ChronicleFault = sym done ∙ e in absurd cc
still_is_no_chronicle_fault status (inr ends) e = subst EndsLoading e ends

still_is_no_line_fault : (status : Status) (l : LineNo) → EndsStill status → status ≡ LineFault l → ⊥
still_is_no_line_fault status l (inl done) e = let never : Done ≡ LineFault l = sym done ∙ e in absurd cc
still_is_no_line_fault status l (inr ends) e = subst EndsLoading e ends

still_is_no_check : (status : Status) (line : ℕ) (x : Element) (b : Blocker) → EndsStill status → status ≡ MachineCheck line x b → ⊥
still_is_no_check status line x b (inl done) e = let never : Done ≡ MachineCheck line x b = sym done ∙ e in absurd cc
still_is_no_check status line x b (inr ends) e = subst EndsLoading e ends

module _ (status : Status) (shelf left : ShelfView) (before : ChronicleView) (old : List LineView) where
  -- no event was made
  still_so : (form : Option Command) → IsStill form status → EndsStill status → (form ≡ None → ⊥) → (status ≡ ShelfFault → Rose shelf.faults left.faults)
      → ((m : Map) → shelf.told ≡ Some m → (failed : Option ℕ) × Answers (OpensForm m failed form) status) → Leaves form status shelf.told left.told → Ended form status shelf left before before old old
  still_so form still ends some cause answers leaves =
      let nothing : Idle form status before before old old = idle form status before old still in
      record {
        released = idle_releases form shelf.told status before before old old nothing;
        runs = inl nothing;
        finished = inl nothing;
        usage = (λ e. absurd (still_is_no_usage status ends e), λ none. absurd (some none));
        answers = λ m told. let found = answers m told in record { failed = found.0; answers = found.1 };
        shelf_fault = cause;
        chronicle_fault = λ e. absurd (still_is_no_chronicle_fault status ends e);
        line_fault = λ l e. absurd (still_is_no_line_fault status l ends e);
        check = λ line x b e. absurd (still_is_no_check status line x b ends e);
        leaves = leaves;
      }

  pub still_ended : (form : Option Command) → MakesNoRun form → EndsStill status → (status ≡ ShelfFault → Rose shelf.faults left.faults)
      → ((m : Map) → shelf.told ≡ Some m → (failed : Option ℕ) × Answers (OpensForm m failed form) status) → Leaves form status shelf.told left.told → Ended form status shelf left before before old old
  still_ended form none ends cause answers leaves = still_so form (inr none) ends (λ e. subst MakesNoRun e none) cause answers leaves

  pub loading_ended : (machine schedule : List ℕ) → EndsLoading status → (status ≡ ShelfFault → Rose shelf.faults left.faults)
      → ((m : Map) → shelf.told ≡ Some m → (failed : Option ℕ) × Stops (OpensForm m failed (Some (run machine schedule))) status) → left.told ≡ shelf.told → Ended (Some (run machine schedule)) status shelf left before before old old
  loading_ended machine schedule ends cause stops same =
      still_so (Some (run machine schedule)) (loading_is_still (Some (run machine schedule)) status ends) (inr ends) (λ e. absurd cc) cause
      (λ m told. let found = stops m told in (found.0, ends_at_all (OpensForm m found.0 (Some (run machine schedule))) (moment_of status) found.1)) same

-- words that are no form
pub usage_ended : (shelf : ShelfView) (before : ChronicleView) (old : List LineView) → Ended None Usage shelf shelf before before old old
usage_ended shelf before old =
    let nothing : Idle None Usage before before old old = idle None Usage before old (inl tt) in
    record {
      released = idle_releases None shelf.told Usage before before old old nothing;
      runs = inl nothing;
      finished = inl nothing;
      usage = (λ e. refl, λ e. refl);
      answers = λ m told. record { failed = None; answers = refl };
      shelf_fault = λ e. absurd cc;
      chronicle_fault = λ e. absurd cc;
      line_fault = λ l e. absurd cc;
      check = λ line x b e. absurd cc;
      leaves = refl;
    }

-- of the same form
pub ended_as : (form other : Option Command) (status : Status) (shelf left : ShelfView) (before after : ChronicleView) (old new : List LineView) → form ≡ other → Ended other status shelf left before after old new → Ended form status shelf left before after old new
ended_as form other status shelf left before after old new is h = subst (λ (f : Option Command). Ended f status shelf left before after old new) (sym is) h
