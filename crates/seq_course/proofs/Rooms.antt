-- How many events a script makes at most, and all scripts of a schedule.
use Rattle.std.proofs.Common.{◌≡◌, ℕ, zero, suc, ◌+◌, ◌*◌, ◌≤◌, ◌^◌, None, ltb, List, [], ◌∷◌, ◌++◌, length, map, length-append, refl, ap, ◌∙◌, arith}
use Rattle.std.specs.List.{sum_by, range_with_len}
use Rattle.std.proofs.Math.Nat.{suc-mul, mul-le-mul_left, mul-le-mul_right}
use Rattle.std.proofs.lemmas.Bool.{ltb-false}
use Rattle.std.proofs.lemmas.List.{length-map}
use Rattle.std.proofs.lemmas.List.FromFn.{length-map-range_with_len}
use Rattle.std.proofs.lemmas.List.Sums.{sum_by-cons}
use Rattle.seq_words.specs.Description.{IsDescription}
use Rattle.seq_words.specs.declared.names.LineNo.{LineNo}
use Rattle.seq_words.specs.declared.kinds.Element.{Element}
use Rattle.seq_words.specs.declared.kinds.Element.TheVariants as elements
use Rattle.seq_words.specs.declared.events.Event.{Event}
use Rattle.seq_words.specs.declared.events.Event.TheVariants as events
use Rattle.seq_words.specs.declared.description.MachineDesc.{MachineDesc}
use Rattle.seq_schedule.specs.declared.script.Script.{Script}
use Rattle.seq_schedule.specs.declared.script.Script.TheVariants as scripts
use Rattle.seq_schedule.specs.declared.script.Item.{Item}
use Rattle.seq_schedule.specs.Limits.{most_turns}
use Rattle.seq_schedule.specs.Scripted.{turn_of, times, round_of, events_in}
use Rattle.seq_schedule.specs.Rules.{Past, past, input_rule, turns_in, rule_of}
use Rattle.seq_schedule.specs.Faultless.{FollowRules, AreFaultless}
use Rattle.seq_schedule.proofs.Ranges.{state_none, cond-none, turns_there}
use Rattle.seq_course.specs.Course.{HasMade, made_by}
use Rattle.seq_course.specs.Room.{most_of}

-- ---- one script

length-times : (n : ℕ) (es : List Event) → length (times n es) ≡ n * length es
unfolding times
length-times zero es = omega arith
length-times (suc n) es =
    let rest : length (times n es) ≡ n * length es = length-times n es in
    let both : length (es ++ times n es) ≡ length es + length (times n es) = length-append es (times n es) in
    let more : suc n * length es ≡ length es + n * length es = omega (arith, suc-mul n (length es)) in
    omega arith

length-round : (d : MachineDesc) → length (round_of d) ≡ d.processors + d.ios
unfolding round_of
length-round d =
    let processors = length-map-range_with_len (λ k. events.Processor (record { 0 = k })) 0 d.processors in
    let ios = length-map-range_with_len (λ k. events.Io (record { 0 = k })) 0 d.ios in
    length-append (map (λ k. events.Processor (record { 0 = k })) (range_with_len 0 d.processors)) (map (λ k. events.Io (record { 0 = k })) (range_with_len 0 d.ios)) ∙ cc

one_turn : (e : Element) → length (turn_of e) ≤ 1
one_turn (elements.Processor p) = omega arith
one_turn (elements.Memory m) = omega arith
one_turn (elements.Io i) = omega arith

turns_few : (n : ℕ) (e : Element) → length (times n (turn_of e)) ≤ n + 65536
turns_few n e =
    let is : length (times n (turn_of e)) ≡ n * length (turn_of e) = length-times n (turn_of e) in
    let few : n * length (turn_of e) ≤ n * 1 = mul-le-mul_left n (one_turn e) in
    omega arith

rounds_few : (d : MachineDesc) (n k : ℕ) → k ≤ n → length (times k (round_of d)) ≤ n * (d.processors + d.ios) + 65536
rounds_few d n k le =
    let is : length (times k (round_of d)) ≡ k * (d.processors + d.ios) = length-times k (round_of d) ∙ ap (λ x. k * x) (length-round d) in
    let few : k * (d.processors + d.ios) ≤ n * (d.processors + d.ios) = mul-le-mul_right (d.processors + d.ios) le in
    omega arith

-- the journal takes all bytes, and has at most 65,536
bytes_fit : (d : MachineDesc) (p : Past) (l : LineNo) (count : ℕ) → input_rule d p l count ≡ None → p.arrived l + count ≤ d.journal
bytes_fit d p l count none = ltb-false _ _ (cond-none (ltb d.journal (p.arrived l + count)) 37 None (cond-none (p.closed l) 36 _ none).1).0

bytes_few : (d : MachineDesc) (before : List Script) (l : LineNo) (bytes : List ℕ) → IsDescription d → rule_of d (past d before) (scripts.Bytes l bytes) ≡ None → length bytes ≤ 65536
bytes_few d before l bytes described none =
    let room : (past d before).arrived l + length bytes ≤ d.journal = bytes_fit d (past d before) l (length bytes) (state_none d (past d before) (scripts.Bytes l bytes) none) in
    let most : d.journal ≤ 65536 = described.journal.between.high_at in
    omega arith

pub script_few : (d : MachineDesc) (before : List Script) (es : List Event) (s : Script) (k : ℕ) → IsDescription d → rule_of d (past d before) s ≡ None → HasMade d es s k → length (made_by d s k) ≤ most_of d s
unfolding events_in
script_few d before es (scripts.One e) k described none made = omega arith
script_few d before es (scripts.Bytes l bytes) k described none made =
    let few : length bytes ≤ 65536 = bytes_few d before l bytes described none in
    let is : length (map (λ byte. events.Input l byte) bytes) ≡ length bytes = length-map bytes (λ byte. events.Input l byte) in
    omega arith
script_few d before es (scripts.Turns e n) k described none made = turns_few n e
script_few d before es (scripts.Rounds n) k described none made = rounds_few d n n (omega arith)
script_few d before es (scripts.Finish n) k described none made = rounds_few d n k made.most

-- ---- all scripts

turns_few_from : (d : MachineDesc) (before : List Script) (items : List Item) → FollowRules d before items → sum_by (turns_in d) before ≤ most_turns → sum_by (turns_in d) before + sum_by (λ (i : Item). turns_in d i.script) items ≤ most_turns
unfolding FollowRules
turns_few_from d before [] follow le = omega arith
turns_few_from d before (i ∷ items) follow le =
    let here : sum_by (turns_in d) before + turns_in d i.script ≤ 200000000 = turns_there d (past d before) i.script follow.0 in
    let now : sum_by (turns_in d) (i.script ∷ before) ≡ turns_in d i.script + sum_by (turns_in d) before = sum_by-cons (turns_in d) i.script before in
    let rest : sum_by (turns_in d) (i.script ∷ before) + sum_by (λ (i : Item). turns_in d i.script) items ≤ most_turns = turns_few_from d (i.script ∷ before) items follow.1 (omega arith) in
    let more : sum_by (λ (i : Item). turns_in d i.script) (i ∷ items) ≡ turns_in d i.script + sum_by (λ (i : Item). turns_in d i.script) items = sum_by-cons (λ (i : Item). turns_in d i.script) i items in
    omega arith

most_in_all : (d : MachineDesc) (items : List Item) → sum_by (λ (i : Item). most_of d i.script) items ≡ sum_by (λ (i : Item). turns_in d i.script) items + length items * 65536
most_in_all d [] = refl
most_in_all d (i ∷ items) =
    let most : sum_by (λ (i : Item). most_of d i.script) (i ∷ items) ≡ most_of d i.script + sum_by (λ (i : Item). most_of d i.script) items = sum_by-cons (λ (i : Item). most_of d i.script) i items in
    let turns : sum_by (λ (i : Item). turns_in d i.script) (i ∷ items) ≡ turns_in d i.script + sum_by (λ (i : Item). turns_in d i.script) items = sum_by-cons (λ (i : Item). turns_in d i.script) i items in
    let rest : sum_by (λ (i : Item). most_of d i.script) items ≡ sum_by (λ (i : Item). turns_in d i.script) items + length items * 65536 = most_in_all d items in
    omega arith

pub few_in_all : (d : MachineDesc) (items : List Item) → AreFaultless d items → 1 + sum_by (λ i. most_of d i.script) items ≤ 2 ^ 47
few_in_all d items faultless =
    let turns : sum_by (turns_in d) [] + sum_by (λ (i : Item). turns_in d i.script) items ≤ most_turns = turns_few_from d [] items faultless.follow (omega arith) in
    let none : sum_by (turns_in d) [] ≡ 0 = refl in
    let most : sum_by (λ (i : Item). most_of d i.script) items ≡ sum_by (λ (i : Item). turns_in d i.script) items + length items * 65536 = most_in_all d items in
    let few : length items ≤ 1000000 = faultless.few in
    omega arith
