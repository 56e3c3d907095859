-- The next item of a faultless schedule may be made, and there is room for all of them.
use Rattle.std.proofs.Common.{ℕ, ◌+◌, ◌≤◌, ◌^◌, List, [], ◌∷◌, ◌++◌, length}
use Rattle.std.specs.List.{sum_by}
use Rattle.seq_words.specs.Description.{IsDescription}
use Rattle.seq_words.specs.declared.description.MachineDesc.{MachineDesc}
use Rattle.seq_words.specs.declared.events.Event.{Event}
use Rattle.seq_schedule.specs.declared.script.Item.{Item}
use Rattle.seq_schedule.specs.Faultless.{AreFaultless}
use Rattle.seq_machine.specs.Making.{MayMake}
use Rattle.seq_course.specs.Course.{machine_after, HasMade, made_by, GoesOnTo, Passes}
use Rattle.seq_course.specs.Room.{most_of}
use Rattle.seq_course.proofs.Passing.{passes_one_more, follow_head, next_leads, follows}
use Rattle.seq_course.proofs.Rooms.{script_few, few_in_all}

-- its events may be made, one after the other
pub next_may_make : (d : MachineDesc) (front back : List Item) (i : Item) (es : List Event) (k : ℕ) → IsDescription d → AreFaultless d (front ++ i ∷ back) → Passes d [] front es → MayMake d (made_by d i.script k) (machine_after d es)
next_may_make d front back i es k described faultless passes = (next_leads d described es i back (follows d described front (i ∷ back) es faultless passes) k).may

-- they are no more than the most
pub next_is_few : (d : MachineDesc) (front back : List Item) (i : Item) (es : List Event) (k : ℕ) → IsDescription d → AreFaultless d (front ++ i ∷ back) → Passes d [] front es → HasMade d es i.script k → length (made_by d i.script k) ≤ most_of d i.script
next_is_few d front back i es k described faultless passes made =
    let f = follows d described front (i ∷ back) es faultless passes in
    script_few d f.before es i.script k described (follow_head d f.before i back f.follow) made

-- there is room for the most of all items
pub all_are_few : (d : MachineDesc) (items : List Item) → IsDescription d → AreFaultless d items → 1 + sum_by (λ i. most_of d i.script) items ≤ 2 ^ 47
all_are_few d items described faultless = few_in_all d items faultless

-- an item more is passed
pub passes_on : (d : MachineDesc) (front : List Item) (i : Item) (es next : List Event) → Passes d [] front es → GoesOnTo d es i.script next → Passes d [] (front ++ i ∷ []) next
passes_on d front i es next passes goes = passes_one_more d front i es next passes goes
