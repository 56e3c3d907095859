-- What a state keeps of the events behind it.
use Rattle.std.specs.Prelude.{◌≡◌, ℕ, Bool, true, false, not, ◌&&◌, ◌||◌, nat_lt, if◌then◌else◌, List, [], ◌∷◌, get_or}
use Rattle.seq_words.specs.declared.kinds.Element.{Element}
use Rattle.seq_words.specs.declared.kinds.Element.TheVariants as elements
use Rattle.seq_words.specs.declared.events.Event.{Event}
use Rattle.seq_words.specs.declared.events.Event.TheVariants as events
use Rattle.seq_words.specs.declared.description.MachineDesc.{MachineDesc}
use Rattle.seq_words.specs.Names.{has_name}
use Rattle.seq_schedule.specs.declared.known.Trouble.{Trouble}
use Rattle.seq_schedule.specs.declared.known.Trouble.TheVariants.{Over, Failed, Upset, Mended}
use Rattle.seq_schedule.specs.declared.known.Known.{Known}
use Rattle.seq_schedule.specs.declared.outs.OutState.{OutState}
use Rattle.seq_schedule.specs.Known.{fresh}
use Rattle.seq_schedule.specs.Outs.{fails, upsets, is_failed, has_failed_last, is_mended, turns_needed, first_count, second_count, is_out, are_out_together}

-- the element that an event stops, puts to work, strikes or gives a turn has a name
abbrev pub names_element : Event → Bool
names_element (events.Processor p) = has_name (elements.Processor p)
names_element (events.Io i) = has_name (elements.Io i)
names_element (events.Fail e) = has_name e
names_element (events.Repair e) = has_name e
names_element (events.Upset p half reg mask) = has_name (elements.Processor p)
names_element (events.Input l byte) = true
names_element (events.Close l) = true
names_element (events.Hangup l) = true

-- a count that stops at a bound
unfoldable pub at_most : ℕ → ℕ → ℕ
at_most most n = if nat_lt n most then n else most

abbrev pub trouble_by : Bool → Bool → Bool → Trouble
trouble_by out mended failed = if out then (if mended then Mended else if failed then Failed else Upset) else Over

abbrev pub known_of : MachineDesc → List Event → Element → Known
known_of d events e = record {
  trouble = trouble_by (is_out d events e) (is_mended e events) (has_failed_last e events);
  failed = is_failed e events;
  first = at_most (turns_needed d) (first_count events e);
  second = at_most (turns_needed d) (second_count d events e);
}

-- the entry of an element
abbrev pub told : OutState → Element → Known
told s (elements.Processor p) = get_or s.processors p.0 fresh
told s (elements.Memory m) = get_or s.memories m.0 fresh
told s (elements.Io i) = get_or s.ios i.0 fresh

-- after none of the events so far was a memory out together with another or with a processor
abbrev pub is_covered : MachineDesc → List Event → Bool
is_covered d [] = true
is_covered d (x ∷ earlier) = not (are_out_together d (x ∷ earlier)) && is_covered d earlier

-- The state keeps these events of the machine, listed the newest first.
pub record Keeps (d : MachineDesc) (events : List Event) (s : OutState) : Type 0 where
  pub processors : s.processor_count ≡ d.processors
  pub memories : s.memory_count ≡ d.memories
  pub ios : s.io_count ≡ d.ios
  pub needed : s.needed ≡ turns_needed d
  pub known : (e : Element) → has_name e ≡ true → told s e ≡ known_of d events e
  pub covered : s.covered ≡ is_covered d events

-- the same before outs end by the newest event
abbrev pub unsettled_of : MachineDesc → Event → List Event → Element → Known
unsettled_of d x earlier e = record {
  trouble = trouble_by (fails e x || upsets e x || is_out d earlier e) (is_mended e (x ∷ earlier)) (has_failed_last e (x ∷ earlier));
  failed = is_failed e (x ∷ earlier);
  first = at_most (turns_needed d) (first_count (x ∷ earlier) e);
  second = at_most (turns_needed d) (second_count d (x ∷ earlier) e);
}

pub record Unsettled (d : MachineDesc) (x : Event) (earlier : List Event) (s : OutState) : Type 0 where
  pub processors : s.processor_count ≡ d.processors
  pub memories : s.memory_count ≡ d.memories
  pub ios : s.io_count ≡ d.ios
  pub needed : s.needed ≡ turns_needed d
  pub known : (e : Element) → has_name e ≡ true → told s e ≡ unsettled_of d x earlier e
  pub covered : s.covered ≡ is_covered d earlier
