-- The first rule that a schedule violates, with its line from 1.
use Rattle.std.specs.Prelude.{ℕ, ◌+◌, ◌*◌, Bool, true, false, not, ◌&&◌, ◌||◌, ◌==◌, nat_lt, if◌then◌else◌, Option, Some, None, List, [], ◌∷◌, ◌++◌, length}
use Rattle.std.specs.List.{list_any, sum_by}
use Rattle.seq_words.specs.declared.names.Pe.{Pe}
use Rattle.seq_words.specs.declared.names.LineNo.{LineNo}
use Rattle.seq_words.specs.declared.half.Half.{Half}
use Rattle.seq_words.specs.declared.half.Half.TheVariants.{A, B}
use Rattle.seq_words.specs.declared.kinds.Element.{Element}
use Rattle.seq_words.specs.declared.kinds.Element.TheVariants as elements
use Rattle.seq_words.specs.declared.events.Event.{Event}
use Rattle.seq_words.specs.declared.events.Event.TheVariants as events
use Rattle.seq_words.specs.declared.description.MachineDesc.{MachineDesc}
use Rattle.seq_words.specs.Masks.{has_bit}
use Rattle.seq_text.specs.Lines.{lines_of}
use Rattle.seq_text.specs.Words.{words_of}
use Rattle.seq_schedule.specs.declared.script.Script.{Script}
use Rattle.seq_schedule.specs.declared.script.Script.TheVariants as scripts
use Rattle.seq_schedule.specs.declared.script.Item.{Item}
use Rattle.seq_schedule.specs.declared.forms.Gate.{Gate}
use Rattle.seq_schedule.specs.declared.lines.Said.{Said}
use Rattle.seq_schedule.specs.declared.lines.Said.TheVariants.{Passed, Unbuilt, NoForm, Malformed, Says}
use Rattle.seq_schedule.specs.Limits.{most_lines, most_turns}
use Rattle.seq_schedule.specs.Said.{said}

-- ---- what is in the description

-- the element is one of the machine's
abbrev pub is_element : MachineDesc → Element → Bool
is_element d (elements.Processor p) = nat_lt p.0 d.processors
is_element d (elements.Memory m) = nat_lt m.0 d.memories
is_element d (elements.Io i) = nat_lt i.0 d.ios

-- some process owns the line
abbrev pub is_line : MachineDesc → LineNo → Bool
is_line d l = nat_lt l.0 16 && list_any (λ p. has_bit p.lines l.0) d.processes

-- rule 32: an element or a line isn't in the description
abbrev pub is_absent_event : MachineDesc → Event → Bool
is_absent_event d (events.Processor p) = not (is_element d (elements.Processor p))
is_absent_event d (events.Io i) = not (is_element d (elements.Io i))
is_absent_event d (events.Input l byte) = not (is_line d l)
is_absent_event d (events.Close l) = not (is_line d l)
is_absent_event d (events.Fail e) = not (is_element d e)
is_absent_event d (events.Repair e) = not (is_element d e)
is_absent_event d (events.Upset p h r mask) = not (is_element d (elements.Processor p))
is_absent_event d (events.Hangup l) = not (is_line d l)

abbrev pub is_absent : MachineDesc → Script → Bool
is_absent d (scripts.One e) = is_absent_event d e
is_absent d (scripts.Bytes l bytes) = not (is_line d l)
is_absent d (scripts.Turns e n) = not (is_element d e)
is_absent d (scripts.Rounds n) = false
is_absent d (scripts.Finish n) = false

-- ---- what a list of scripts has done, the newest first

abbrev pub same_element : Element → Element → Bool
same_element (elements.Processor p) (elements.Processor q) = p.0 == q.0
same_element (elements.Memory m) (elements.Memory n) = m.0 == n.0
same_element (elements.Io i) (elements.Io j) = i.0 == j.0
same_element _ _ = false

abbrev pub same_half : Half → Half → Bool
same_half A A = true
same_half A B = false
same_half B A = false
same_half B B = true

abbrev pub other_half : Half → Half
other_half A = B
other_half B = A

abbrev pub fails : Element → Script → Bool
fails e (scripts.One (events.Fail f)) = same_element e f
fails e _ = false

abbrev pub repairs : Element → Script → Bool
repairs e (scripts.One (events.Repair f)) = same_element e f
repairs e _ = false

abbrev pub strikes : Pe → Half → Script → Bool
strikes p h (scripts.One (events.Upset q k r mask)) = same_half h k && (p.0 == q.0)
strikes p h _ = false

abbrev pub closes : LineNo → Script → Bool
closes l (scripts.One (events.Close k)) = l.0 == k.0
closes l _ = false

abbrev pub hangs : LineNo → Script → Bool
hangs l (scripts.One (events.Hangup k)) = l.0 == k.0
hangs l _ = false

-- how many bytes arrive on the line
abbrev pub bytes_on : LineNo → Script → ℕ
bytes_on l (scripts.Bytes k bytes) = if l.0 == k.0 then length bytes else 0
bytes_on l _ = 0

abbrev pub turns_of_event : Event → ℕ
turns_of_event (events.Processor p) = 1
turns_of_event (events.Io i) = 1
turns_of_event _ = 0

-- how many turns are made, where a `finish` makes all its rounds
abbrev pub turns_in : MachineDesc → Script → ℕ
turns_in d (scripts.One e) = turns_of_event e
turns_in d (scripts.Bytes l bytes) = 0
turns_in d (scripts.Turns e n) = n
turns_in d (scripts.Rounds n) = n * (d.processors + d.ios)
turns_in d (scripts.Finish n) = n * (d.processors + d.ios)

-- the element is failed: it isn't repaired since it failed
abbrev pub is_failed : Element → List Script → Bool
is_failed e [] = false
is_failed e (s ∷ earlier) = fails e s || not (repairs e s) && is_failed e earlier

-- the half was struck since the processor's last repair
abbrev pub is_struck : Pe → Half → List Script → Bool
is_struck p h [] = false
is_struck p h (s ∷ earlier) = strikes p h s || not (repairs (elements.Processor p) s) && is_struck p h earlier

-- What a schedule has done so far, as far as later lines depend on it.
pub record Past : Type 0 where
  pub failed : Element → Bool
  pub struck : Pe → Half → Bool
  pub closed : LineNo → Bool
  pub hung : LineNo → Bool
  pub arrived : LineNo → ℕ
  pub turns : ℕ

abbrev pub past : MachineDesc → List Script → Past
past d before = record {
  failed = λ e. is_failed e before;
  struck = λ p h. is_struck p h before;
  closed = λ l. list_any (closes l) before;
  hung = λ l. list_any (hangs l) before;
  arrived = λ l. sum_by (bytes_on l) before;
  turns = sum_by (turns_in d) before;
}

-- ---- the rules of one line

-- Rules 34 and 35 of a strike: the processor is failed, or its other half was struck.
abbrev pub upset_rule : Past → Pe → Half → Option ℕ
upset_rule p pe h =
    if p.failed (elements.Processor pe) then Some 34
    else if p.struck pe (other_half h) then Some 35
    else None

-- Rules 33 to 36 and 38 of a line with one event. 33: what is failed fails, or what isn't is repaired. 36: a closed
-- line is closed. 38: a line that is hung up is hung up.
abbrev pub event_rule : Past → Event → Option ℕ
event_rule p (events.Processor pe) = None
event_rule p (events.Io io) = None
event_rule p (events.Input l byte) = None
event_rule p (events.Close l) = if p.closed l then Some 36 else None
event_rule p (events.Fail e) = if p.failed e then Some 33 else None
event_rule p (events.Repair e) = if p.failed e then None else Some 33
event_rule p (events.Upset pe h r mask) = upset_rule p pe h
event_rule p (events.Hangup l) = if p.hung l then Some 38 else None

-- Rules 36 and 37 of an input: the line is closed, or more bytes arrive than its journal has.
abbrev pub input_rule : MachineDesc → Past → LineNo → ℕ → Option ℕ
input_rule d p l count =
    if p.closed l then Some 36
    else if nat_lt d.journal (p.arrived l + count) then Some 37
    else None

-- the rules 33 to 38
abbrev pub state_rule : MachineDesc → Past → Script → Option ℕ
state_rule d p (scripts.One e) = event_rule p e
state_rule d p (scripts.Bytes l bytes) = input_rule d p l (length bytes)
state_rule d p (scripts.Turns e n) = None
state_rule d p (scripts.Rounds n) = None
state_rule d p (scripts.Finish n) = None

-- the first rule, if one is violated, and else the other
abbrev pub first_of : Option ℕ → Option ℕ → Option ℕ
first_of None later = later
first_of (Some rule) later = Some rule

-- rule 39 of the turns so far
abbrev pub turns_rule : MachineDesc → Past → Script → Option ℕ
turns_rule d p s = if nat_lt most_turns (p.turns + turns_in d s) then Some 39 else None

-- the least rule that a script violates
unfoldable pub rule_of : MachineDesc → Past → Script → Option ℕ
rule_of d p s = if is_absent d s then Some 32 else first_of (state_rule d p s) (turns_rule d p s)

-- rule 39 of the line's number
abbrev pub place_rule : ℕ → Option ℕ
place_rule place = if nat_lt most_lines place then Some 39 else None

-- The least rule that a line violates. Rule 0: it isn't built yet. 30: it is none of the forms. 31: a number, the
-- hexadecimal digits or a mask are malformed.
unfoldable pub line_rule : MachineDesc → Past → ℕ → Said → Option ℕ
line_rule d p place Passed = place_rule place
line_rule d p place Unbuilt = Some 0
line_rule d p place NoForm = Some 30
line_rule d p place Malformed = Some 31
line_rule d p place (Says s) = first_of (rule_of d p s) (place_rule place)

-- ---- a whole text

-- the scripts up to a line, the newest first
abbrev pub with_said : List Script → Said → List Script
with_said before Passed = before
with_said before Unbuilt = before
with_said before NoForm = before
with_said before Malformed = before
with_said before (Says s) = s ∷ before

-- a violated rule at this place, or else what comes later
abbrev pub fault_or : ℕ → Option ℕ → Option (ℕ × ℕ) → Option (ℕ × ℕ)
fault_or place (Some rule) later = Some (place, rule)
fault_or place None later = later

-- the first violated rule of the lines from this place on, with its place
unfoldable pub fault_from : Gate → MachineDesc → ℕ → List Script → List (List ℕ) → Option (ℕ × ℕ)
fault_from gate d place before [] = None
fault_from gate d place before (line ∷ lines) =
    let here = said gate (words_of line) in
    fault_or place (line_rule d (past d before) place here) (fault_from gate d (place + 1) (with_said before here) lines)

-- the first violated rule of a text, with its place, where only what the gate lets through is taken
abbrev pub first_fault : Gate → MachineDesc → List ℕ → Option (ℕ × ℕ)
first_fault gate d text = fault_from gate d 1 [] (lines_of text)

-- what a line adds to the items
abbrev pub item_at : ℕ → Said → List Item
item_at place Passed = []
item_at place Unbuilt = []
item_at place NoForm = []
item_at place Malformed = []
item_at place (Says s) = (record { line = place; script = s }) ∷ []

-- the items of the lines from this place on
unfoldable pub items_from : Gate → ℕ → List (List ℕ) → List Item
items_from gate place [] = []
items_from gate place (line ∷ lines) = item_at place (said gate (words_of line)) ++ items_from gate (place + 1) lines

-- the items of a text: what its lines say that aren't passed over, each with its line's number
abbrev pub items_of : Gate → List ℕ → List Item
items_of gate text = items_from gate 1 (lines_of text)
