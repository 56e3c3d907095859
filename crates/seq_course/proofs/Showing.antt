-- What is left for a report: the entries that are kept, and at the ports just what arrived, also where an event ends the run.
use Rattle.std.proofs.Common.{◌≡◌, inl, inr, ℕ, Bool, false, ◌||◌, List, [], ◌∷◌, ◌++◌, map, Some, refl, sym, ◌∙◌, ap}
use Rattle.std.specs.List.{list_any, range_with_len}
use Rattle.std.specs.Prelude.{slice_index_or}
use Rattle.seq_words.specs.Description.{IsDescription, line_count}
use Rattle.seq_words.specs.declared.description.MachineDesc.{MachineDesc}
use Rattle.seq_words.specs.declared.events.Event.{Event}
use Rattle.seq_words.specs.declared.events.Event.TheVariants as event
use Rattle.seq_words.specs.declared.kinds.Element.{Element}
use Rattle.seq_shelf.specs.Told.{LineView, ChronicleView}
use Rattle.seq_io.specs.declared.element.PortState.{PortState}
use Rattle.seq_turns.specs.Machines.{Machine}
use Rattle.seq_turns.specs.Events.{stopping}
use Rattle.seq_lines.specs.Arrivals.{bytes_of, closes, bytes_on, arrived}
use Rattle.seq_machine.specs.declared.hardware.Hardware.{Hardware}
use Rattle.seq_machine.specs.declared.hardware.Stop.{Stop}
use Rattle.seq_machine.specs.declared.hardware.Stop.TheVariants as stop
use Rattle.seq_machine.specs.Plain.{empty_port, IsHardware}
use Rattle.seq_machine.specs.Checking.{EndsFor}
use Rattle.seq_retell.specs.Shown.{inputs_shown}
use Rattle.seq_ports.specs.Inputs.{AreThose}
use Rattle.seq_ports.proofs.Inputs.{ports_show_arrivals}
use Rattle.seq_course.specs.Course.{machine_after}
use Rattle.seq_course.specs.Made.{up_to, Tells}
use Rattle.seq_course.specs.Making.{Scene, LedTo, IsAfter, HaltsAt}
use Rattle.seq_course.proofs.Events.{tells_up_to}
use Rattle.seq_course.proofs.Going.{GoWell, well_allowed}

-- ---- an event that stops an element brings nothing to a line

brings_nothing : (d : MachineDesc) (m : Machine) (e : Event) (x : Element) (l : ℕ) → stopping d m e ≡ Some x → (bytes_of l e ≡ []) × (closes l e ≡ false)
brings_nothing d m (event.Input line byte) x l is = absurd (let c : ⊥ = cc in c)
brings_nothing d m (event.Close line) x l is = absurd (let c : ⊥ = cc in c)
brings_nothing d m (event.Processor p) x l is = (refl, refl)
brings_nothing d m (event.Io i) x l is = (refl, refl)
brings_nothing d m (event.Fail y) x l is = (refl, refl)
brings_nothing d m (event.Repair y) x l is = (refl, refl)
brings_nothing d m (event.Upset p half reg mask) x l is = (refl, refl)
brings_nothing d m (event.Hangup line) x l is = (refl, refl)

bytes_stay : (l : ℕ) (e : Event) (es : List Event) → bytes_of l e ≡ [] → bytes_on l (es ++ e ∷ []) ≡ bytes_on l es
unfolding bytes_on
bytes_stay l e [] none = ap (λ (bytes : List ℕ). bytes ++ []) none
bytes_stay l e (x ∷ es) none = ap (λ (bytes : List ℕ). bytes_of l x ++ bytes) (bytes_stay l e es none)

closed_stays : (l : ℕ) (e : Event) (es : List Event) → closes l e ≡ false → list_any (closes l) (es ++ e ∷ []) ≡ list_any (closes l) es
closed_stays l e [] none = ap (λ (closed : Bool). closed || false) none
closed_stays l e (x ∷ es) none = ap (λ (closed : Bool). closes l x || closed) (closed_stays l e es none)

-- so what has arrived stays
arrived_stays : (d : MachineDesc) (m : Machine) (es : List Event) (e : Event) (x : Element) → stopping d m e ≡ Some x → arrived d es ≡ arrived d (es ++ e ∷ [])
arrived_stays d m es e x is =
    let bytes : (l : ℕ) → bytes_on l es ≡ bytes_on l (es ++ e ∷ []) = λ l. sym (bytes_stay l e es (brings_nothing d m e x l is).0) in
    let closed : (l : ℕ) → list_any (closes l) es ≡ list_any (closes l) (es ++ e ∷ []) = λ l. sym (closed_stays l e es (brings_nothing d m e x l is).1) in
    λ i. map (λ l. record { bytes = bytes l i; closed = closed l i }) (range_with_len 0 (line_count d))

module _ (d : MachineDesc) (es : List Event) (e : Event) (old new : List LineView) (before after : ChronicleView) where
  arrived_up_to : (s : Stop) → EndsFor d (machine_after d es) e old new before after s → arrived d es ≡ arrived d (up_to es e s)
  arrived_up_to (stop.Check x b) (inl checked) = arrived_stays d (machine_after d es) es e x checked.0
  arrived_up_to (stop.Check x b) (inr (inl stops)) = absurd stops.stops
  arrived_up_to (stop.Check x b) (inr (inr stops)) = absurd stops.stops
  arrived_up_to (stop.Line l) ends = refl
  arrived_up_to stop.Chronicle ends = refl
  arrived_up_to stop.NoMemory ends = refl

-- ---- the ports of the hardware

module _ (d : MachineDesc) (es now : List Event) (h : Hardware) (after : IsAfter d now h) (same : (machine_after d now).port ≡ (machine_after d es).port) where
  abbrev none : PortState
  none = empty_port h.desc

  -- they are those of the machine after es, where what was made besides leaves the ports
  port_is : (l : ℕ) → slice_index_or h.ports l none ≡ (machine_after d es).port l
  port_is l = ap (λ (m : Machine). m.port l) after.machine ∙ ap (λ (port : ℕ → PortState). port l) same

  are_those : AreThose d es h.ports none
  are_those = record { many = after.hardware.ports ∙ ap (λ (x : MachineDesc). line_count x) after.described; same = λ l there. port_is l }

  ports_show : IsDescription d → GoWell d es → inputs_shown h.ports ≡ arrived d es
  ports_show described well = ports_show_arrivals d es h.ports none described (well_allowed d es well) are_those

-- ---- what is left

module _ (d : MachineDesc) (described : IsDescription d) (begun now : Scene) (es : List Event) where
  pub led_tells : GoWell d es → LedTo d begun es now → IsHardware now.hardware → Tells d es now.hardware now.kept
  led_tells well led hardware =
      let after : IsAfter d es now.hardware = record { hardware = hardware; described = led.machine.described; machine = led.machine.machine } in
      record { entries = led.kept; inputs = ports_show d es es now.hardware after refl described well }

  pub halted_tells : (e : Event) (s : Stop) → GoWell d es → HaltsAt d begun es e now s → Tells d (up_to es e s) now.hardware now.kept
  halted_tells e s well halts =
      let same = tells_up_to d es e begun.lines now.lines begun.chronicle now.chronicle s halts.ends in
      record {
        entries = halts.kept;
        inputs = ports_show d es (up_to es e s) now.hardware halts.after same.ports described well ∙ arrived_up_to d es e begun.lines now.lines begun.chronicle now.chronicle s halts.ends;
      }
