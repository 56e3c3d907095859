-- How what a schedule has done is kept in tables.
use Rattle.std.specs.Prelude.{◌+◌, Bool, true, false, List, replicate, length, slice_set, get_or}
use Rattle.seq_words.specs.declared.names.Pe.{Pe}
use Rattle.seq_words.specs.declared.half.Half.{Half}
use Rattle.seq_words.specs.declared.half.Half.TheVariants.{A, B}
use Rattle.seq_words.specs.declared.kinds.Element.{Element}
use Rattle.seq_words.specs.declared.kinds.Element.TheVariants as elements
use Rattle.seq_words.specs.declared.events.Event.{Event}
use Rattle.seq_words.specs.declared.events.Event.TheVariants as events
use Rattle.seq_words.specs.declared.description.MachineDesc.{MachineDesc}
use Rattle.seq_schedule.specs.declared.script.Script.{Script}
use Rattle.seq_schedule.specs.declared.script.Script.TheVariants as scripts
use Rattle.seq_schedule.specs.declared.tally.Tally.{Tally}
use Rattle.seq_schedule.specs.declared.lines.Said.{Said}
use Rattle.seq_schedule.specs.declared.lines.Said.TheVariants.{Passed, Unbuilt, NoForm, Malformed, Says}
use Rattle.seq_schedule.specs.Rules.{Past, turns_in}

-- nothing is done yet
abbrev pub no_tally : Tally
no_tally = record {
  failed_processors = replicate 8 false;
  failed_memories = replicate 8 false;
  failed_ios = replicate 4 false;
  struck_a = replicate 8 false;
  struck_b = replicate 8 false;
  closed = replicate 16 false;
  hung = replicate 16 false;
  arrived = replicate 16 0;
  turns = 0;
}

-- the entry of an element, in the tables of processors, memories and I/O elements
abbrev pub element_in : List Bool → List Bool → List Bool → Element → Bool
element_in processors memories ios (elements.Processor p) = get_or processors p.0 false
element_in processors memories ios (elements.Memory m) = get_or memories m.0 false
element_in processors memories ios (elements.Io i) = get_or ios i.0 false

abbrev pub told_failed : Tally → Element → Bool
told_failed t e = element_in t.failed_processors t.failed_memories t.failed_ios e

-- the entry of a half, in the tables of the halves a and b
abbrev pub half_in : List Bool → List Bool → Pe → Half → Bool
half_in a b p A = get_or a p.0 false
half_in a b p B = get_or b p.0 false

abbrev pub told_struck : Tally → Pe → Half → Bool
told_struck t p h = half_in t.struck_a t.struck_b p h

-- what the tables tell
abbrev pub told : Tally → Past
told t = record {
  failed = λ e. told_failed t e;
  struck = λ p h. told_struck t p h;
  closed = λ l. get_or t.closed l.0 false;
  hung = λ l. get_or t.hung l.0 false;
  arrived = λ l. get_or t.arrived l.0 0;
  turns = t.turns;
}

abbrev pub with_failed : Tally → Element → Bool → Tally
with_failed t (elements.Processor p) failed = record t { failed_processors = slice_set t.failed_processors p.0 failed }
with_failed t (elements.Memory m) failed = record t { failed_memories = slice_set t.failed_memories m.0 failed }
with_failed t (elements.Io i) failed = record t { failed_ios = slice_set t.failed_ios i.0 failed }

abbrev pub with_struck : Tally → Pe → Half → Tally
with_struck t p A = record t { struck_a = slice_set t.struck_a p.0 true }
with_struck t p B = record t { struck_b = slice_set t.struck_b p.0 true }

-- no half of a repaired processor is struck
abbrev pub mended : Tally → Element → Tally
mended t (elements.Processor p) = record t {
  failed_processors = slice_set t.failed_processors p.0 false;
  struck_a = slice_set t.struck_a p.0 false;
  struck_b = slice_set t.struck_b p.0 false;
}
mended t (elements.Memory m) = with_failed t (elements.Memory m) false
mended t (elements.Io i) = with_failed t (elements.Io i) false

abbrev pub after_event : Tally → Event → Tally
after_event t (events.Processor p) = t
after_event t (events.Io i) = t
after_event t (events.Input l byte) = t
after_event t (events.Close l) = record t { closed = slice_set t.closed l.0 true }
after_event t (events.Fail e) = with_failed t e true
after_event t (events.Repair e) = mended t e
after_event t (events.Upset p h r mask) = with_struck t p h
after_event t (events.Hangup l) = record t { hung = slice_set t.hung l.0 true }

abbrev pub after_state : Tally → Script → Tally
after_state t (scripts.One e) = after_event t e
after_state t (scripts.Bytes l bytes) = record t { arrived = slice_set t.arrived l.0 (get_or t.arrived l.0 0 + length bytes) }
after_state t (scripts.Turns e n) = t
after_state t (scripts.Rounds n) = t
after_state t (scripts.Finish n) = t

-- the tables after a script
unfoldable pub after : MachineDesc → Tally → Script → Tally
after d t s = record (after_state t s) { turns = t.turns + turns_in d s }

-- the same after a line
abbrev pub after_said : MachineDesc → Tally → Said → Tally
after_said d t Passed = t
after_said d t Unbuilt = t
after_said d t NoForm = t
after_said d t Malformed = t
after_said d t (Says s) = after d t s
