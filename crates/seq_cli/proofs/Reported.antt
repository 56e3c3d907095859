-- The report of a run: what is kept for it is the machine's history and what arrived, and the flat run along it is defined.
use Rattle.std.proofs.Common.{◌≡◌, ◌≤◌, Bool, true, ℕ, Some, List, length, take, Result, Ok, Err, sym, ap, ◌∙◌, subst}
use Rattle.std.specs.Prelude.{IfOk}
use Rattle.std.proofs.lemmas.List.{take_all, length-map}
use Rattle.std.proofs.lemmas.List.FromFn.{length-map-range_with_len}
use Rattle.seq_words.specs.declared.bytes.NoMemory.{NoMemory}
use Rattle.seq_words.specs.Description.{IsDescription, line_count}
use Rattle.seq_words.specs.declared.description.MachineDesc.{MachineDesc}
use Rattle.seq_words.specs.declared.events.Entry.{Entry}
use Rattle.seq_words.specs.declared.events.Event.{Event}
use Rattle.seq_flat.specs.Run.{flat_run}
use Rattle.seq_flat.specs.declared.inputs.LineInput.{LineInput}
use Rattle.seq_flat.specs.declared.state.FlatState.{FlatState}
use Rattle.seq_lines.specs.Arrivals.{arrived_on, arrived}
use Rattle.seq_shelf.specs.Outlets.{views, marks}
use Rattle.seq_shelf.specs.Told.{LineView, ChronicleView}
use Rattle.seq_shelf.specs.declared.line.Outlet.{Outlet}
use Rattle.seq_schedule.specs.declared.script.Item.{Item}
use Rattle.seq_schedule.specs.Faultless.{AreFaultless}
use Rattle.seq_machine.specs.declared.hardware.Hardware.{Hardware}
use Rattle.seq_machine.specs.declared.hardware.Stop.{Stop}
use Rattle.seq_machine.specs.declared.hardware.Stop.TheVariants as stop
use Rattle.seq_retell.specs.Keeping.{Keeping}
use Rattle.seq_retell.specs.Shown.{input_shown, inputs_shown}
use Rattle.seq_course.specs.Course.{machine_after, ComesTo}
use Rattle.seq_course.specs.Made.{up_to, EndsWith, TakesTelling}
use Rattle.seq_course.specs.Done.{RightAfter}
use Rattle.seq_course.specs.declared.ending.Ending.{Ending}
use Rattle.seq_course.specs.declared.ending.Ending.TheVariants as course
use Rattle.seq_recount.specs.Rooms.{entries_for, HistoryFits, PassesFit, EndsFit, StopsFit, NextsFit}
use Rattle.seq_report.specs.Texts.{is_reported, report_text}
use Rattle.seq_report.specs.declared.status.Status.{Status}
use Rattle.seq_cli.specs.Endings.{status_of}
use Rattle.seq_cli.specs.Running.{Reports}
use Rattle.seq_cli.specs.Texts.{accepted_on, IsReport}
use Rattle.seq_cli.proofs.Courses.{right_after}

-- ---- there is room for the history, however the course ended

module _ (passes_fit : PassesFit) (ends_fit : EndsFit) (stops_fit : StopsFit) (nexts_fit : NextsFit) (d : MachineDesc) (items : List Item) where
  stop_fits : (line : ℕ) (made : List Event) (event : Event) (reason : Stop) → ComesTo d items line made event → HistoryFits d items (up_to made event reason)
  stop_fits line made event (stop.Check x b) comes = nexts_fit d items line made event comes
  stop_fits line made event (stop.Line l) comes = stops_fit d items line made event comes
  stop_fits line made event stop.Chronicle comes = stops_fit d items line made event comes
  stop_fits line made event stop.NoMemory comes = stops_fit d items line made event comes

  history_fits : (es : List Event) (ending : Ending) (before after : ChronicleView) (old new : List LineView) → EndsWith d items es before after old new ending → HistoryFits d items es
  history_fits es course.Done before after old new ends = passes_fit d items es ends
  history_fits es (course.OutOfTurns line) before after old new ends = ends_fit d items line es ends
  history_fits es (course.Stopped line reason) before after old new ends =
      subst (λ (made : List Event). HistoryFits d items made) (sym ends.events_are) (stop_fits line ends.made ends.event reason ends.comes)

  pub all_kept : (room : ℕ) (kept : List Entry) (es : List Event) (ending : Ending) (before after : ChronicleView) (old new : List LineView) → room ≡ entries_for d items → kept ≡ take room (machine_after d es).history → EndsWith d items es before after old new ending → kept ≡ (machine_after d es).history
  all_kept room kept es ending before after old new is first ends =
      let fits : length (machine_after d es).history ≤ room = subst (λ n. length (machine_after d es).history ≤ n) (sym is) (history_fits es ending before after old new ends) in
      first ∙ take_all room (machine_after d es).history fits

-- ---- the flat run that is told again

module _ (d : MachineDesc) (h : Hardware) (entries : List Entry) (es : List Event) (same : h.desc ≡ d) (shown : inputs_shown h.ports ≡ arrived d es) (all : entries ≡ (machine_after d es).history) where
  told_run : flat_run h.desc (inputs_shown h.ports) entries ≡ flat_run d (arrived d es) (machine_after d es).history
  told_run =
      ap (λ (x : MachineDesc). flat_run x (inputs_shown h.ports) entries) same
      ∙ ap (λ (inputs : List LineInput). flat_run d inputs entries) shown
      ∙ ap (λ (history : List Entry). flat_run d (arrived d es) history) all

  run_is_told : RightAfter d es → (f : FlatState) × (flat_run h.desc (inputs_shown h.ports) entries ≡ Some f)
  run_is_told right = (right.0, told_run ∙ right.1)

  told_flat : (f : FlatState) → flat_run h.desc (inputs_shown h.ports) entries ≡ Some f → flat_run d (arrived d es) (machine_after d es).history ≡ Some f
  told_flat f is = sym told_run ∙ is

-- ---- what a course leaves for its report

module _ (passes_fit : PassesFit) (ends_fit : EndsFit) (stops_fit : StopsFit) (nexts_fit : NextsFit) (d : MachineDesc) (items : List Item) (described : IsDescription d) (faultless : AreFaultless d items)
    (h : Hardware) (kept : Keeping) (ending : Ending) (before after : ChronicleView) (old new : List LineView)
    (same : h.desc ≡ d) (room : kept.room ≡ entries_for d items) (left : TakesTelling d items ending before after old new h kept) (entries : List Entry) (are : entries ≡ kept.entries) where
  all : entries ≡ (machine_after d left.takes.events).history
  all = are ∙ all_kept passes_fit ends_fit stops_fit nexts_fit d items kept.room kept.entries left.takes.events ending before after old new room left.tells.entries left.takes.ends

  -- there is a port for each line
  pub ports_counted : length h.ports ≡ line_count h.desc
  ports_counted =
      sym (length-map h.ports input_shown) ∙ ap length left.tells.inputs
      ∙ length-map-range_with_len (λ l. arrived_on l left.takes.events) 0 (line_count d) ∙ ap line_count (sym same)

  -- the history that was kept is a flat run
  pub its_run : (f : FlatState) × (flat_run h.desc (inputs_shown h.ports) entries ≡ Some f)
  its_run = run_is_told d h entries left.takes.events same left.tells.inputs all (right_after d items left.takes.events ending before after old new described faultless left.takes.ends)

  module _ (status : Status) (is : status ≡ status_of ending) (marks : List Bool) where
    its_report : (text : List ℕ) → Reports status h entries new marks text → (is_reported status ≡ true) × IsReport d items status before after old new marks text
    its_report text report = (
      report.reported,
      record {
        ending = ending;
        status_is = is;
        takes = left.takes;
        state = report.state;
        flat = told_flat d h entries left.takes.events same left.tells.inputs all report.state report.flat;
        hung = report.hung;
        hung_is = report.hung_is;
        text_is =
            report.text_is ∙ ap (λ (history : List Entry). report_text status report.state history (accepted_on h.desc new) report.hung) all
            ∙ ap (λ (x : MachineDesc). report_text status report.state (machine_after d left.takes.events).history (accepted_on x new) report.hung) same;
      },
    )

    pub reported : (text : Result (List ℕ) NoMemory) → IfOk text (Reports status h entries new marks) → IfOk text (λ t. (is_reported status ≡ true) × IsReport d items status before after old new marks t)
    reported (Err none) report = tt
    reported (Ok text) report = its_report text report

-- of a row of outlets, seen as a slice
pub seen_whole : {I : Type 0} {D : I → Type 0} (line : (x : I) × D x → LineView) (slice outlets : List (Outlet I D)) (status : Status) (h : Hardware) (entries : List Entry) (text : Result (List ℕ) NoMemory) → slice ≡ outlets
    → IfOk text (Reports status h entries (views line slice) (marks slice)) → IfOk text (Reports status h entries (views line outlets) (marks outlets))
seen_whole {I} {D} line slice outlets status h entries text e report = subst (λ (o : List (Outlet I D)). IfOk text (Reports status h entries (views line o) (marks o))) e report

-- of the machine and the items that were loaded
pub as_loaded : (begun d : MachineDesc) (made items : List Item) (ending : Ending) (before after : ChronicleView) (old new : List LineView) (h : Hardware) (kept : Keeping) → begun ≡ d → made ≡ items → TakesTelling begun made ending before after old new h kept → TakesTelling d items ending before after old new h kept
as_loaded begun d made items ending before after old new h kept is are left =
    subst (λ (x : MachineDesc). TakesTelling x items ending before after old new h kept) is (subst (λ (xs : List Item). TakesTelling begun xs ending before after old new h kept) are left)
