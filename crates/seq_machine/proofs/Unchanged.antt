-- What is outside stays as it is where nothing is asked of it, and what an event keeps is kept whatever the outside.
use Rattle.std.proofs.Common.{◌≡◌, ℕ, ◌+◌, Bool, false, List, [], ◌∷◌, length, get_or, replicate, Option, Some, None, refl, sym, subst, arith, append-nil, add-zero}
use Rattle.std.proofs.lemmas.List.{length-replicate}
use Rattle.seq_words.specs.declared.description.MachineDesc.{MachineDesc}
use Rattle.seq_words.specs.declared.events.Entry.{Entry}
use Rattle.seq_words.specs.declared.events.Event.{Event}
use Rattle.seq_words.specs.declared.events.Event.TheVariants as event
use Rattle.seq_words.specs.declared.kinds.Element.TheVariants as element
use Rattle.seq_shelf.specs.Told.{Grows, LineView}
use Rattle.seq_shelf.specs.Rows.{AllAccept, line_at}
use Rattle.seq_kernel.specs.declared.outcomes.Note.{Note}
use Rattle.seq_kernel.specs.declared.outcomes.Note.TheVariants as note
use Rattle.seq_turns.specs.Machines.{Machine, Turn}
use Rattle.seq_turns.specs.Machines.Turn.{Moves, Looks, Copies_unit, Stops}
use Rattle.seq_turns.specs.Allowed.{Allowed}
use Rattle.seq_turns.specs.Events.{after_turn}
use Rattle.seq_stands.specs.Fit.{Fit}
use Rattle.seq_machine.specs.declared.hardware.Hardware.{Hardware}
use Rattle.seq_machine.specs.Plain.{Outside, machine_of, IsOutside}
use Rattle.seq_machine.specs.Built.{IsBuilt}
use Rattle.seq_machine.specs.Happening.{entries_in, IsCommitted}

-- a list that gets nothing
pub grows_same : {A : Type 0} → (o : Option (List A)) → Grows o o []
grows_same None = tt
grows_same (Some xs) = sym (append-nil xs)

-- lines that get nothing
pub accept_same : (lines : List LineView) (bytes : ℕ → List ℕ) → ((l : ℕ) → bytes l ≡ []) → AllAccept lines lines bytes
accept_same lines bytes none = record {
  number = refl;
  each = λ l. record {
    told = subst (λ (b : List ℕ). Grows (line_at lines l).told (line_at lines l).told b) (sym (none l)) (grows_same (line_at lines l).told);
    count = subst (λ (b : List ℕ). (line_at lines l).count ≡ (line_at lines l).count + length b) (sym (none l)) (sym (add-zero (line_at lines l).count));
    faults = omega arith;
    refusals = omega arith;
  };
}

-- a note that tells an entry is that of a commit
pub commits_told : (n : Note) (e : Entry) → e ∷ [] ≡ entries_in n → IsCommitted n
commits_told (note.Committed pid count) e is = tt
commits_told note.Nothing e is = absurd (let x : ⊥ = cc in x)
commits_told note.Held e is = absurd (let x : ⊥ = cc in x)
commits_told (note.Looked pid) e is = absurd (let x : ⊥ = cc in x)
commits_told (note.Ran pid) e is = absurd (let x : ⊥ = cc in x)
commits_told (note.Found pid cause) e is = absurd (let x : ⊥ = cc in x)
commits_told note.Moved e is = absurd (let x : ⊥ = cc in x)
commits_told (note.Copied me) e is = absurd (let x : ⊥ = cc in x)
commits_told (note.Sent line byte) e is = absurd (let x : ⊥ = cc in x)
commits_told (note.Taken line) e is = absurd (let x : ⊥ = cc in x)
commits_told (note.Stopped element) e is = absurd (let x : ⊥ = cc in x)
commits_told note.Made e is = absurd (let x : ⊥ = cc in x)

-- a turn of a processor sends nothing, and hangs no line up
pub turn_sends_none : (d : MachineDesc) (m : Machine) (p : ℕ) (t : Turn) → ((after_turn d m p t).sent ≡ m.sent) × ((after_turn d m p t).hung ≡ m.hung)
turn_sends_none d m p (Moves move) = (refl, refl)
turn_sends_none d m p (Looks next move) = (refl, refl)
turn_sends_none d m p (Copies_unit i) = (refl, refl)
turn_sends_none d m p Stops = (refl, refl)

-- the outside that these lines show
abbrev pub shown_by : List LineView → List Bool → Outside
shown_by lines marks = record { history = []; sent = λ l. replicate (line_at lines l).count 0; hung = λ l. get_or marks l false }

pub is_shown : (lines : List LineView) (marks : List Bool) → IsOutside lines marks (shown_by lines marks)
is_shown lines marks = record { accepted = λ l inside. length-replicate (line_at lines l).count 0; hung = λ l inside. refl }

-- bounds say nothing of the outside
pub fit_anywhere : (d : MachineDesc) (h : Hardware) (o o' : Outside) → Fit d (machine_of h o) → Fit d (machine_of h o')
fit_anywhere d h o o' is = record { states = is.states; words = is.words; blocks = is.blocks; processors = is.processors; ports = is.ports; cursors = is.cursors }

pub allowed_anywhere : (d : MachineDesc) (h : Hardware) (o o' : Outside) (e : Event) → IsBuilt e → Allowed d (machine_of h o) e → Allowed d (machine_of h o') e
allowed_anywhere d h o o' (event.Processor p) built ok = ok
allowed_anywhere d h o o' (event.Io i) built ok = ok
allowed_anywhere d h o o' (event.Input l byte) built ok = ok
allowed_anywhere d h o o' (event.Close l) built ok = ok
allowed_anywhere d h o o' (event.Fail (element.Processor p)) built ok = ok
allowed_anywhere d h o o' (event.Fail (element.Memory i)) built ok = record { memory = ok.memory; up = ok.up }
allowed_anywhere d h o o' (event.Fail (element.Io i)) built ok = ok
allowed_anywhere d h o o' (event.Repair (element.Processor p)) built ok = ok
allowed_anywhere d h o o' (event.Repair (element.Memory i)) built ok = record { memory = ok.memory; down = ok.down }
allowed_anywhere d h o o' (event.Repair (element.Io i)) built ok = ok
allowed_anywhere d h o o' (event.Upset p half reg mask) built ok = record { processor = ok.processor; first_register = ok.first_register; last_register = ok.last_register; other = ok.other }
allowed_anywhere d h o o' (event.Hangup l) built ok = absurd built
