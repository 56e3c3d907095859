-- The items of a schedule, made one after the other.
use Rattle.std.proofs.Common.{◌≡◌, ℕ, ◌+◌, ◌<◌, ◌≤◌, Bool, true, false, List, [], ◌∷◌, ◌++◌, length, take, drop, get_or, refl, sym, ◌∙◌, ap, subst, arith}
use Rattle.std.specs.List.{sum_by}
use Rattle.std.proofs.lemmas.List.{take_all}
use Rattle.std.proofs.lemmas.List.Sums.{sum_by-drop_more}
use Rattle.seq_words.specs.Description.{IsDescription, line_count}
use Rattle.seq_words.specs.declared.description.MachineDesc.{MachineDesc}
use Rattle.seq_words.specs.declared.events.Event.{Event}
use Rattle.seq_schedule.specs.declared.script.Script.{Script}
use Rattle.seq_schedule.specs.declared.script.Item.{Item}
use Rattle.seq_schedule.specs.Scripted.{round_of}
use Rattle.seq_schedule.specs.Faultless.{AreFaultless}
use Rattle.seq_machine.specs.declared.hardware.Stop.{Stop}
use Rattle.seq_machine.specs.Making.{IsReadyFor}
use Rattle.seq_machine.specs.Starting.{machine_at_start}
use Rattle.seq_course.specs.Course.{machine_after, made_by, Passes, EndsAt, ComesTo}
use Rattle.seq_course.specs.Room.{most_of}
use Rattle.seq_course.specs.Made.{up_to, TakesTelling}
use Rattle.seq_course.specs.Making.{Scene, LedTo, MayCome, Stays, all_of, MakesScript, BreaksScript, MayBegin}
use Rattle.seq_course.specs.declared.ending.Ending.TheVariants.{Done, OutOfTurns, Stopped}
use Rattle.seq_course.proofs.Scenes.{ready_less, stays_here, stays_on}
use Rattle.seq_course.proofs.Runs.{unchecked_rest}
use Rattle.seq_course.proofs.Lists.{next_at, split_at}
use Rattle.seq_course.proofs.Scripting.{all_may, all_few}
use Rattle.seq_course.proofs.Allowed.{next_may_make, next_is_few, passes_on}
use Rattle.seq_course.proofs.Going.{all_go_well, end_goes_well, is_next}
use Rattle.seq_course.proofs.Showing.{led_tells, halted_tells}

-- so much room these items take at most
abbrev pub room_of : MachineDesc → List Item → ℕ
room_of d items = sum_by (λ i. most_of d i.script) items

-- the items up to index i are made
pub record ItemsMade (d : MachineDesc) (items : List Item) (i : ℕ) (begun now : Scene) : Type 0 where
  pub events : List Event
  pub passes : Passes d [] (take i items) events
  pub led : LedTo d begun events now
  pub ready : IsReadyFor (room_of d (drop i items)) now.hardware
  pub lines : line_count d ≤ length now.lines
  pub stays : Stays begun now

pub none_made : (items : List Item) (a : Scene) → MayBegin items a → ItemsMade a.hardware.desc items 0 a a
unfolding Passes
none_made items a may = record { events = []; passes = refl; led = may.led; ready = may.ready; lines = may.lines; stays = stays_here a }

pub as_said : (s : Script) (x y : Bool) (a b : Scene) → x ≡ y → MakesScript s x a b → MakesScript s y a b
as_said s x y a b e makes = subst (λ (on : Bool). MakesScript s on a b) e makes

pub round_here : (d : MachineDesc) (items : List Item) (i : ℕ) (begun now : Scene) (round : List Event) → ItemsMade d items i begun now → round ≡ round_of d → round ≡ round_of now.hardware.desc
round_here d items i begun now round made is = is ∙ ap (λ (x : MachineDesc). round_of x) (sym made.led.machine.described)

module _ (d : MachineDesc) (described : IsDescription d) (items : List Item) (faultless : AreFaultless d items) (i : ℕ) (item : Item) (inside : i < length items) (is : get_or items i item ≡ item) (begun now : Scene) (made : ItemsMade d items i begun now) where
  split : items ≡ take i items ++ item ∷ drop (i + 1) items
  split = split_at items i item item inside is

  faultless_here : AreFaultless d (take i items ++ item ∷ drop (i + 1) items)
  faultless_here = subst (λ (l : List Item). AreFaultless d l) split faultless

  few : length (all_of d item.script) ≤ most_of d item.script
  few = all_few d made.events item.script (λ k has. next_is_few d (take i items) (drop (i + 1) items) item made.events k described faultless_here made.passes has)

  room_left : room_of d (drop i items) ≡ most_of d item.script + room_of d (drop (i + 1) items)
  room_left = sum_by-drop_more (λ (x : Item). most_of d x.script) items i item inside ∙ ap (λ (x : Item). most_of d x.script + room_of d (drop (i + 1) items)) is

  desc_is : now.hardware.desc ≡ d
  desc_is = made.led.machine.described

  -- the next item's script may be made
  pub next_may : MayCome (all_of now.hardware.desc item.script) now
  next_may = subst (λ (x : MachineDesc). MayCome (all_of x item.script) now) (sym desc_is) (record {
    ready = ready_less (room_of d (drop i items)) (length (all_of d item.script)) now.hardware (omega (arith, few, room_left)) made.ready;
    lines = (let lines = made.lines in let same = ap (λ (x : MachineDesc). line_count x) desc_is in omega (arith, lines, same));
    desc = d;
    begun = begun;
    made = made.events;
    led = made.led;
    allowed = all_may d (machine_after d made.events) item.script (λ k. next_may_make d (take i items) (drop (i + 1) items) item made.events k described faultless_here made.passes);
  })

  -- it is made, and the next one follows
  module _ (new : Scene) where
    ready_then : (on : Bool) → MakesScript item.script on now new → IsReadyFor (room_of d (drop (i + 1) items)) new.hardware
    ready_then on makes =
        let fits : length (all_of now.hardware.desc item.script) + room_of d (drop (i + 1) items) ≤ room_of d (drop i items) =
        (let same = ap (λ (x : MachineDesc). length (all_of x item.script)) desc_is in omega (arith, few, room_left, same))
        in
        makes.keeps.ready (room_of d (drop (i + 1) items)) (ready_less (room_of d (drop i items)) (length (all_of now.hardware.desc item.script) + room_of d (drop (i + 1) items)) now.hardware fits made.ready)

    pub item_made : MakesScript item.script true now new → ItemsMade d items (i + 1) begun new
    item_made makes =
        let on = makes.made d begun made.events made.led in
        record {
          events = made.events ++ made_by d item.script on.rounds;
          passes = subst (λ (l : List Item). Passes d [] l (made.events ++ made_by d item.script on.rounds)) (sym (next_at items i item item inside is))
              (passes_on d (take i items) item made.events (made.events ++ made_by d item.script on.rounds) made.passes (record { rounds = on.rounds; made = on.made; after_is = refl; unchecked = unchecked_rest d made.events (made_by d item.script on.rounds) (machine_at_start d) on.led.unchecked; goes_on = on.ends }));
          led = on.led;
          ready = ready_then true makes;
          lines = (let lines = made.lines in let number = makes.keeps.number in omega (arith, lines, number));
          stays = stays_on begun now new made.stays makes.keeps.stays;
        }

    -- it runs out of turns
    pub out_of_turns : MakesScript item.script false now new → TakesTelling d items (OutOfTurns item.line) begun.chronicle new.chronicle begun.lines new.lines new.hardware new.kept
    out_of_turns makes =
        let off = makes.made d begun made.events made.led in
        let events : List Event = made.events ++ made_by d item.script off.rounds in
        let ends : EndsAt d items item.line events = record {
          front = take i items;
          item = item;
          back = drop (i + 1) items;
          split = split;
          line_is = refl;
          before = made.events;
          passes = made.passes;
          rounds = off.rounds;
          made = off.made;
          after_is = refl;
          unchecked = unchecked_rest d made.events (made_by d item.script off.rounds) (machine_at_start d) off.led.unchecked;
          runs_out = off.ends;
        } in
        record {
          takes = record { events = events; ends = ends; released = off.led.released };
          tells = led_tells d described begun new events (end_goes_well d described items faultless item.line events ends) off.led (ready_then false makes).ready.hardware;
        }

    -- one of its events ends the run
    pub stopped_at : (stop : Stop) → BreaksScript item.script now new stop → TakesTelling d items (Stopped item.line stop) begun.chronicle new.chronicle begun.lines new.lines new.hardware new.kept
    stopped_at stop breaks =
        let in_script = breaks.halts d begun made.events made.led in
        let among = in_script.among in
        let before : List Event = made.events ++ among.part in
        let comes : ComesTo d items item.line before among.event = record {
          front = take i items;
          item = item;
          back = drop (i + 1) items;
          split = split;
          line_is = refl;
          before = made.events;
          passes = made.passes;
          rounds = in_script.rounds;
          made = in_script.made;
          part = among.part;
          rest = among.rest;
          parts = among.parts;
          after_is = refl;
          unchecked = unchecked_rest d made.events among.part (machine_at_start d) among.halts.unchecked;
        } in
        record {
          takes = record {
            events = up_to before among.event stop;
            ends = record { made = before; event = among.event; comes = comes; ends = among.halts.ends; events_are = refl };
            released = among.halts.released;
          };
          tells = halted_tells d described begun new before among.event stop (is_next d described items faultless item.line before among.event comes).well among.halts;
        }

-- all are made
pub all_made : (d : MachineDesc) (described : IsDescription d) (items : List Item) (faultless : AreFaultless d items) (i : ℕ) (begun now : Scene)
    → length items ≤ i → ItemsMade d items i begun now → TakesTelling d items Done begun.chronicle now.chronicle begun.lines now.lines now.hardware now.kept
all_made d described items faultless i begun now past made =
    let passes : Passes d [] items made.events = subst (λ (l : List Item). Passes d [] l made.events) (take_all i items past) made.passes in
    record {
      takes = record { events = made.events; ends = passes; released = made.led.released };
      tells = led_tells d described begun now made.events (all_go_well d described items faultless made.events passes) made.led made.ready.ready.hardware;
    }
