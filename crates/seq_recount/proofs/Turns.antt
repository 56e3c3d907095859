-- How many turns of processors the items of a schedule make.
use Rattle.std.proofs.Common.{◌≡◌, ℕ, zero, suc, ◌+◌, ◌*◌, ◌≤◌, List, [], ◌∷◌, ◌++◌, length, map, refl, ap, ◌∙◌, arith}
use Rattle.std.specs.List.{range_with_len}
use Rattle.std.proofs.Math.Nat.{suc-mul, mul-le-mul_left, mul-le-mul_right}
use Rattle.std.proofs.lemmas.List.FromFn.{length-map-range_with_len}
use Rattle.std.proofs.lemmas.List.Sums.{sum_by-cons, sum_by-append}
use Rattle.seq_words.specs.declared.names.LineNo.{LineNo}
use Rattle.seq_words.specs.declared.kinds.Element.{Element}
use Rattle.seq_words.specs.declared.kinds.Element.TheVariants as elements
use Rattle.seq_words.specs.declared.events.Event.{Event}
use Rattle.seq_words.specs.declared.events.Event.TheVariants as events
use Rattle.seq_words.specs.declared.description.MachineDesc.{MachineDesc}
use Rattle.seq_schedule.specs.declared.script.Script.{Script}
use Rattle.seq_schedule.specs.declared.script.Script.TheVariants as scripts
use Rattle.seq_schedule.specs.declared.script.Item.{Item}
use Rattle.seq_schedule.specs.Scripted.{turn_of, times, round_of, events_in}
use Rattle.seq_schedule.specs.Rules.{turns_of_event, turns_in}
use Rattle.seq_stands.specs.Counts.{turns_in as taken}
use Rattle.seq_course.specs.Course.{HasMade, made_by, Passes, EndsAt, ComesTo}
use Rattle.seq_recount.specs.Rooms.{turns_of}

-- ---- lists of events

taken-cons : (e : Event) (es : List Event) → taken (e ∷ es) ≡ taken (e ∷ []) + taken es
taken-cons (events.Processor p) es = omega arith
taken-cons (events.Io i) es = omega arith
taken-cons (events.Input l byte) es = omega arith
taken-cons (events.Close l) es = omega arith
taken-cons (events.Fail e) es = omega arith
taken-cons (events.Repair e) es = omega arith
taken-cons (events.Upset p half reg mask) es = omega arith
taken-cons (events.Hangup l) es = omega arith

pub taken-append : (xs ys : List Event) → taken (xs ++ ys) ≡ taken xs + taken ys
taken-append [] ys = omega arith
taken-append (e ∷ xs) ys =
    let all : taken (e ∷ (xs ++ ys)) ≡ taken (e ∷ []) + taken (xs ++ ys) = taken-cons e (xs ++ ys) in
    let front : taken (e ∷ xs) ≡ taken (e ∷ []) + taken xs = taken-cons e xs in
    let rest : taken (xs ++ ys) ≡ taken xs + taken ys = taken-append xs ys in
    omega arith

-- an event is a turn of a processor only where it counts as a turn
pub one_taken : (e : Event) → taken (e ∷ []) ≤ turns_of_event e
one_taken (events.Processor p) = omega arith
one_taken (events.Io i) = omega arith
one_taken (events.Input l byte) = omega arith
one_taken (events.Close l) = omega arith
one_taken (events.Fail e) = omega arith
one_taken (events.Repair e) = omega arith
one_taken (events.Upset p half reg mask) = omega arith
one_taken (events.Hangup l) = omega arith

one_at_most : (e : Event) → taken (e ∷ []) ≤ 1
one_at_most (events.Processor p) = omega arith
one_at_most (events.Io i) = omega arith
one_at_most (events.Input l byte) = omega arith
one_at_most (events.Close l) = omega arith
one_at_most (events.Fail e) = omega arith
one_at_most (events.Repair e) = omega arith
one_at_most (events.Upset p half reg mask) = omega arith
one_at_most (events.Hangup l) = omega arith

taken_few : (es : List Event) → taken es ≤ length es
taken_few [] = omega arith
taken_few (e ∷ es) =
    let all : taken (e ∷ es) ≡ taken (e ∷ []) + taken es = taken-cons e es in
    let one : taken (e ∷ []) ≤ 1 = one_at_most e in
    let rest : taken es ≤ length es = taken_few es in
    omega arith

taken-times : (n : ℕ) (es : List Event) → taken (times n es) ≡ n * taken es
unfolding times
taken-times zero es = omega arith
taken-times (suc n) es =
    let all : taken (es ++ times n es) ≡ taken es + taken (times n es) = taken-append es (times n es) in
    let rest : taken (times n es) ≡ n * taken es = taken-times n es in
    let more : suc n * taken es ≡ taken es + n * taken es = omega (arith, suc-mul n (taken es)) in
    omega arith

-- ---- scripts

turn_taken : (e : Element) → taken (turn_of e) ≤ 1
turn_taken (elements.Processor p) = omega arith
turn_taken (elements.Memory m) = omega arith
turn_taken (elements.Io i) = omega arith

round_taken : (d : MachineDesc) → taken (round_of d) ≤ d.processors + d.ios
unfolding round_of
round_taken d =
    let processors : List Event = map (λ n. events.Processor (record { 0 = n })) (range_with_len 0 d.processors) in
    let ios : List Event = map (λ n. events.Io (record { 0 = n })) (range_with_len 0 d.ios) in
    let all : taken (processors ++ ios) ≡ taken processors + taken ios = taken-append processors ios in
    let few : taken processors ≤ length processors = taken_few processors in
    let many : length processors ≡ d.processors = length-map-range_with_len (λ n. events.Processor (record { 0 = n })) 0 d.processors in
    let few_ios : taken ios ≤ length ios = taken_few ios in
    let many_ios : length ios ≡ d.ios = length-map-range_with_len (λ n. events.Io (record { 0 = n })) 0 d.ios in
    omega arith

turns_taken : (n : ℕ) (e : Element) → taken (times n (turn_of e)) ≤ n
turns_taken n e =
    let all : taken (times n (turn_of e)) ≡ n * taken (turn_of e) = taken-times n (turn_of e) in
    let few : n * taken (turn_of e) ≤ n * 1 = mul-le-mul_left n (turn_taken e) in
    omega arith

rounds_taken : (d : MachineDesc) (n k : ℕ) → k ≤ n → taken (times k (round_of d)) ≤ n * (d.processors + d.ios)
rounds_taken d n k le =
    let all : taken (times k (round_of d)) ≡ k * taken (round_of d) = taken-times k (round_of d) in
    let few : k * taken (round_of d) ≤ k * (d.processors + d.ios) = mul-le-mul_left k (round_taken d) in
    let most : k * (d.processors + d.ios) ≤ n * (d.processors + d.ios) = mul-le-mul_right (d.processors + d.ios) le in
    omega arith

bytes_taken : (l : LineNo) (bytes : List ℕ) → taken (map (λ byte. events.Input l byte) bytes) ≡ 0
bytes_taken l [] = refl
bytes_taken l (byte ∷ bytes) = bytes_taken l bytes

pub script_taken : (d : MachineDesc) (es : List Event) (s : Script) (k : ℕ) → HasMade d es s k → taken (made_by d s k) ≤ turns_in d s
unfolding events_in
script_taken d es (scripts.One e) k made = one_taken e
script_taken d es (scripts.Bytes l bytes) k made = let none : taken (map (λ byte. events.Input l byte) bytes) ≡ 0 = bytes_taken l bytes in omega arith
script_taken d es (scripts.Turns e n) k made = turns_taken n e
script_taken d es (scripts.Rounds n) k made = rounds_taken d n n (omega arith)
script_taken d es (scripts.Finish n) k made = rounds_taken d n k made.most

-- ---- items

passes_from : (d : MachineDesc) (from es : List Event) (items : List Item) → Passes d from items es → taken es ≤ taken from + turns_of d items
unfolding Passes
passes_from d from es [] passes = let same : taken es ≡ taken from = ap taken passes in omega arith
passes_from d from es (i ∷ items) passes =
    let here : taken (made_by d i.script passes.1.rounds) ≤ turns_in d i.script = script_taken d from i.script passes.1.rounds passes.1.made in
    let next : taken passes.0 ≡ taken from + taken (made_by d i.script passes.1.rounds) = ap taken passes.1.after_is ∙ taken-append from (made_by d i.script passes.1.rounds) in
    let rest : taken es ≤ taken passes.0 + turns_of d items = passes_from d passes.0 es items passes.2 in
    let all : turns_of d (i ∷ items) ≡ turns_in d i.script + turns_of d items = sum_by-cons (λ (i : Item). turns_in d i.script) i items in
    omega arith

pub passes_taken : (d : MachineDesc) (items : List Item) (es : List Event) → Passes d [] items es → taken es ≤ turns_of d items
passes_taken d items es passes = let all : taken es ≤ 0 + turns_of d items = passes_from d [] es items passes in omega arith

-- the items before one, and that one
front_taken : (d : MachineDesc) (items front back : List Item) (i : Item) (before made : List Event) → items ≡ front ++ i ∷ back → taken before ≤ turns_of d front → taken made ≤ turns_in d i.script → taken before + taken made ≤ turns_of d items
front_taken d items front back i before made split few more =
    let parts : turns_of d items ≡ turns_of d front + turns_of d (i ∷ back) = ap (turns_of d) split ∙ sum_by-append (λ (i : Item). turns_in d i.script) front (i ∷ back) in
    let all : turns_of d (i ∷ back) ≡ turns_in d i.script + turns_of d back = sum_by-cons (λ (i : Item). turns_in d i.script) i back in
    omega arith

pub ends_taken : (d : MachineDesc) (items : List Item) (line : ℕ) (es : List Event) → EndsAt d items line es → taken es ≤ turns_of d items
ends_taken d items line es ends =
    let made : List Event = made_by d ends.item.script ends.rounds in
    let all : taken es ≡ taken ends.before + taken made = ap taken ends.after_is ∙ taken-append ends.before made in
    let few : taken ends.before + taken made ≤ turns_of d items = front_taken d items ends.front ends.back ends.item ends.before made ends.split (passes_taken d ends.front ends.before ends.passes) (script_taken d ends.before ends.item.script ends.rounds ends.made) in
    omega arith

-- with the event that comes next
pub stops_taken : (d : MachineDesc) (items : List Item) (line : ℕ) (es : List Event) (e : Event) → ComesTo d items line es e → taken es + taken (e ∷ []) ≤ turns_of d items
stops_taken d items line es e comes =
    let made : List Event = made_by d comes.item.script comes.rounds in
    let all : taken es ≡ taken comes.before + taken comes.part = ap taken comes.after_is ∙ taken-append comes.before comes.part in
    let parts : taken made ≡ taken comes.part + taken (e ∷ comes.rest) = ap taken comes.parts ∙ taken-append comes.part (e ∷ comes.rest) in
    let next : taken (e ∷ comes.rest) ≡ taken (e ∷ []) + taken comes.rest = taken-cons e comes.rest in
    let few : taken comes.before + taken made ≤ turns_of d items = front_taken d items comes.front comes.back comes.item comes.before made comes.split (passes_taken d comes.front comes.before comes.passes) (script_taken d comes.before comes.item.script comes.rounds comes.made) in
    omega arith
