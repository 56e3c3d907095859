-- When an element is out, and which events are covered. Events are listed the newest first.
use Rattle.std.specs.Prelude.{◌≡◌, ℕ, ◌+◌, ◌*◌, ◌/◌, Bool, true, false, not, ◌&&◌, ◌||◌, nat_le, if◌then◌else◌, List, [], ◌∷◌, ◌++◌, length, sum, count_by}
use Rattle.seq_words.specs.Description.{line_count}
use Rattle.seq_words.specs.declared.kinds.Element.{Element}
use Rattle.seq_words.specs.declared.kinds.Element.TheVariants as elements
use Rattle.seq_words.specs.declared.events.Event.{Event}
use Rattle.seq_words.specs.declared.events.Event.TheVariants as events
use Rattle.seq_words.specs.declared.description.MachineDesc.{MachineDesc}
use Rattle.seq_layout.specs.Shapes.{blocks_of}
use Rattle.seq_schedule.specs.Rules.{same_element}
use Rattle.seq_schedule.specs.Below.{each_below, some_below, count_below}

-- a processor, a memory and an I/O element, by its number
abbrev pub processor : ℕ → Element
processor p = elements.Processor (record { 0 = p })

abbrev pub memory : ℕ → Element
memory m = elements.Memory (record { 0 = m })

abbrev pub io : ℕ → Element
io i = elements.Io (record { 0 = i })

-- ---- what an event is to an element

abbrev pub fails : Element → Event → Bool
fails e (events.Fail f) = same_element e f
fails e _ = false

abbrev pub repairs : Element → Event → Bool
repairs e (events.Repair f) = same_element e f
repairs e _ = false

abbrev pub upsets : Element → Event → Bool
upsets e (events.Upset p half reg mask) = same_element e (elements.Processor p)
upsets e _ = false

abbrev pub is_turn_of : Element → Event → Bool
is_turn_of e (events.Processor p) = same_element e (elements.Processor p)
is_turn_of e (events.Io i) = same_element e (elements.Io i)
is_turn_of e _ = false

-- the failure, the repair or the upset of any element
abbrev pub disturbs : Event → Bool
disturbs (events.Fail e) = true
disturbs (events.Repair e) = true
disturbs (events.Upset p half reg mask) = true
disturbs _ = false

-- ---- failures and repairs

-- the element is failed: it isn't repaired since it failed
abbrev pub is_failed : Element → List Event → Bool
is_failed e [] = false
is_failed e (x ∷ earlier) = fails e x || not (repairs e x) && is_failed e earlier

-- of its failures and upsets the last is a failure
abbrev pub has_failed_last : Element → List Event → Bool
has_failed_last e [] = false
has_failed_last e (x ∷ earlier) = fails e x || not (upsets e x) && has_failed_last e earlier

-- it was repaired after such a failure, with no later failure or upset
abbrev pub is_mended : Element → List Event → Bool
is_mended e [] = false
is_mended e (x ∷ earlier) = not (fails e x || upsets e x) && (repairs e x && has_failed_last e earlier || is_mended e earlier)

-- ---- counts of turns

-- K: after so many turns of each a memory is copied
abbrev pub turns_needed : MachineDesc → ℕ
turns_needed d = 8 * (sum (blocks_of d) + length d.processes + length d.segments + line_count d + d.cache + 8) * (length d.processes + 1)

abbrev pub half_needed : MachineDesc → ℕ
half_needed d = turns_needed d / 2

-- the events since the last failure, repair or upset of any element
abbrev pub undisturbed : List Event → List Event
undisturbed [] = []
undisturbed (x ∷ earlier) = if disturbs x then [] else x ∷ undisturbed earlier

-- the first count of an element
abbrev pub first_count : List Event → Element → ℕ
first_count events e = count_by (is_turn_of e) (undisturbed events)

-- some processor or I/O element isn't failed, and each that isn't has this count
abbrev pub someone_works : MachineDesc → List Event → Bool
someone_works d events = some_below (λ p. not (is_failed (processor p) events)) d.processors || some_below (λ i. not (is_failed (io i) events)) d.ios

abbrev pub each_has : MachineDesc → List Event → (Element → ℕ) → ℕ → Bool
each_has d events count n =
    each_below (λ p. is_failed (processor p) events || nat_le n (count (processor p))) d.processors
    && each_below (λ i. is_failed (io i) events || nat_le n (count (io i))) d.ios

abbrev pub have_reached : MachineDesc → List Event → (Element → ℕ) → ℕ → Bool
have_reached d events count n = someone_works d events && each_has d events count n

-- the undisturbed events since the moment at which all first counts had reached half of K
abbrev pub since_half : MachineDesc → List Event → List Event
since_half d [] = []
since_half d (x ∷ earlier) = if not (disturbs x) && have_reached d earlier (first_count earlier) (half_needed d) then x ∷ since_half d earlier else []

-- the second count of an element
abbrev pub second_count : MachineDesc → List Event → Element → ℕ
second_count d events e = count_by (is_turn_of e) (since_half d events)

-- ---- out and covered

-- the counts are met that end an out: for a processor both, else the first ones
abbrev pub are_met : MachineDesc → List Event → Element → Bool
are_met d events (elements.Processor p) = have_reached d events (first_count events) (turns_needed d) && have_reached d events (second_count d events) (half_needed d)
are_met d events (elements.Memory m) = have_reached d events (first_count events) (turns_needed d)
are_met d events (elements.Io i) = have_reached d events (first_count events) (turns_needed d)

-- The element is out: from a failure or an upset of it until it is mended and the counts are met.
abbrev pub is_out : MachineDesc → List Event → Element → Bool
is_out d [] e = false
is_out d (x ∷ earlier) e = fails e x || upsets e x || is_out d earlier e && not (is_mended e (x ∷ earlier) && are_met d (x ∷ earlier) e)

-- a memory is out together with another memory or with a processor: two memories are, or one and a processor
abbrev pub are_out_together : MachineDesc → List Event → Bool
are_out_together d events =
    let memories = count_below (λ m. is_out d events (memory m)) d.memories in
    nat_le 2 memories || nat_le 1 memories && nat_le 1 (count_below (λ p. is_out d events (processor p)) d.processors)

-- after none of the events was it so
pub record IsCovered (d : MachineDesc) (events : List Event) : Type 0 where
  pub each : (later earlier : List Event) → events ≡ later ++ earlier → are_out_together d earlier ≡ false
