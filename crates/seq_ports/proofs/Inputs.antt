-- The ports show just what has arrived.
use Rattle.std.proofs.Common.{◌≡◌, ℕ, ◌<◌, ◌≤◌, List, get_or, length, take, sym, ap, ◌∙◌, arith}
use Rattle.std.proofs.lemmas.List.{ext_get_or, get_or-take, get_or-map, length-take-le, length-map}
use Rattle.std.proofs.lemmas.List.FromFn.{length-map-range_with_len, get_or-map-range_with_len}
use Rattle.std.proofs.lemmas.Option.{get_or_from_slice_get}
use Rattle.seq_words.specs.Description.{line_count}
use Rattle.seq_words.specs.declared.description.MachineDesc.{MachineDesc}
use Rattle.seq_words.specs.declared.events.Event.{Event}
use Rattle.seq_flat.specs.declared.inputs.LineInput.{LineInput}
use Rattle.seq_flat.specs.State.{no_input, input_at}
use Rattle.seq_io.specs.declared.element.PortState.{PortState}
use Rattle.seq_lines.specs.Arrivals.{arrived_on, arrived}
use Rattle.seq_lines.specs.Lines.{PortStands}
use Rattle.seq_turns.specs.Machines.{Machine}
use Rattle.seq_turns.specs.Events.{run}
use Rattle.seq_invariant.specs.Gives.{at_first}
use Rattle.seq_invariant.specs.Holds.{AllHolds}
use Rattle.seq_invariant.proofs.Start.{runs_hold}
use Rattle.seq_retell.specs.Shown.{input_shown, inputs_shown}
use Rattle.seq_ports.specs.Inputs.{PortsShowArrivals}

-- ---- one port

bytes_shown : (d : MachineDesc) (port : PortState) (input : LineInput) → PortStands d port input → take port.arrived port.store ≡ input.bytes
bytes_shown d port input stands =
    let size : length port.store ≡ d.journal = stands.size in
    let room : port.arrived ≤ d.journal = stands.room in
    let many : length (take port.arrived port.store) ≡ port.arrived = length-take-le port.arrived port.store (omega arith) in
    let each : (i : ℕ) → i < length (take port.arrived port.store) → get_or (take port.arrived port.store) i 0 ≡ get_or input.bytes i 0 =
    λ i lt. (let there : i < port.arrived = omega (arith, many, lt) in get_or-take port.arrived port.store i 0 there ∙ sym (get_or_from_slice_get input.bytes i (get_or port.store i 0) 0 (stands.bytes i there)))
    in
    ext_get_or 0 (take port.arrived port.store) input.bytes (many ∙ stands.arrived) each

port_shown : (d : MachineDesc) (port : PortState) (input : LineInput) → PortStands d port input → input_shown port ≡ input
port_shown d port input stands =
    let bytes : take port.arrived port.store ≡ input.bytes = bytes_shown d port input stands in
    let closed = stands.closed in
    λ i. record { bytes = bytes i; closed = closed i }

-- ---- all ports

line_shown : (d : MachineDesc) (es : List Event) (m : Machine) → AllHolds d es m → (l : ℕ) → l < line_count d → input_shown (m.port l) ≡ arrived_on l es
line_shown d es m all l there =
    port_shown d (m.port l) (input_at (arrived d es) l) (all.holds.lines.line l there).port
    ∙ get_or-map-range_with_len (λ l. arrived_on l es) 0 (line_count d) l l no_input there (omega arith)

all_shown : (d : MachineDesc) (es : List Event) (ports : List PortState) (none : PortState) → length ports ≡ line_count d → ((l : ℕ) → l < line_count d → input_shown (get_or ports l none) ≡ arrived_on l es) → inputs_shown ports ≡ arrived d es
all_shown d es ports none many each =
    let here : length (inputs_shown ports) ≡ length ports = length-map ports input_shown in
    let there : length (arrived d es) ≡ line_count d = length-map-range_with_len (λ l. arrived_on l es) 0 (line_count d) in
    ext_get_or no_input (inputs_shown ports) (arrived d es) (here ∙ many ∙ sym there)
    (λ l lt. (let inside : l < line_count d = omega (arith, here, many, lt) in let at : l < length ports = omega (arith, here, lt) in
    get_or-map input_shown ports l none no_input at ∙ each l inside ∙ sym (get_or-map-range_with_len (λ l. arrived_on l es) 0 (line_count d) l l no_input inside (omega arith))))

pub ports_show_arrivals : PortsShowArrivals
ports_show_arrivals d es ports none described ok are =
    let all : AllHolds d es (run d es (at_first d)) = runs_hold d es described ok in
    all_shown d es ports none are.many (λ l there. ap input_shown (are.same l there) ∙ line_shown d es (run d es (at_first d)) all l there)
