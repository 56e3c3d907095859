-- The turns of a faultless schedule are few.
use Rattle.std.proofs.Common.{◌≡◌, ℕ, ◌+◌, ◌<◌, ◌≤◌, List, [], ◌∷◌, length, take, get_or, sym, ap, ◌∙◌, arith}
use Rattle.std.specs.List.{sum_by}
use Rattle.std.proofs.lemmas.List.Sums.{sum_by-cons, sum_by_more, sum_by-take-le}
use Rattle.seq_words.specs.declared.description.MachineDesc.{MachineDesc}
use Rattle.seq_schedule.specs.declared.script.Script.{Script}
use Rattle.seq_schedule.specs.declared.script.Item.{Item}
use Rattle.seq_schedule.specs.Rules.{past, turns_in}
use Rattle.seq_schedule.specs.Faultless.{FollowRules, AreFaultless}
use Rattle.seq_schedule.proofs.Ranges.{turns_there}
use Rattle.seq_recount.specs.Rooms.{turns_of}

few_behind : (d : MachineDesc) (before : List Script) (items : List Item) → FollowRules d before items → sum_by (turns_in d) before ≤ 200000000 → sum_by (turns_in d) before + turns_of d items ≤ 200000000
unfolding FollowRules
few_behind d before [] follow few = omega (arith, few)
few_behind d before (i ∷ items) follow few =
    let there : sum_by (turns_in d) before + turns_in d i.script ≤ 200000000 = turns_there d (past d before) i.script follow.0 in
    let with : sum_by (turns_in d) (i.script ∷ before) ≡ turns_in d i.script + sum_by (turns_in d) before = sum_by-cons (turns_in d) i.script before in
    let all : turns_of d (i ∷ items) ≡ turns_in d i.script + turns_of d items = sum_by-cons (λ (j : Item). turns_in d j.script) i items in
    let rest : sum_by (turns_in d) (i.script ∷ before) + turns_of d items ≤ 200000000 = few_behind d (i.script ∷ before) items follow.1 (omega arith) in
    omega arith

pub turns_are_few : (d : MachineDesc) (items : List Item) → AreFaultless d items → turns_of d items ≤ 200000000
turns_are_few d items faultless = let all : 0 + turns_of d items ≤ 200000000 = few_behind d [] items faultless.follow (omega arith) in omega arith

-- those of the first items, with the next one
pub one_more : (d : MachineDesc) (items : List Item) (n : ℕ) (item : Item) → n < length items → item ≡ get_or items n item → turns_of d (take (n + 1) items) ≡ turns_of d (take n items) + turns_in d item.script
one_more d items n item below is =
    sum_by_more (λ (j : Item). turns_in d j.script) items n item below ∙ ap (λ (j : Item). turns_of d (take n items) + turns_in d j.script) (sym is)

pub first_few : (d : MachineDesc) (items : List Item) (n : ℕ) → AreFaultless d items → turns_of d (take n items) ≤ 200000000
first_few d items n faultless =
    let part : turns_of d (take n items) ≤ turns_of d items = sum_by-take-le (λ (j : Item). turns_in d j.script) items n in
    omega (arith, part, turns_are_few d items faultless)
