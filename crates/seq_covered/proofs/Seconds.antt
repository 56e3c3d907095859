-- Second counts, and that the turns that end an out are enough for all recoveries.
use Rattle.std.proofs.Common.{◌≡◌, ℕ, suc, ◌+◌, ◌*◌, ◌≤◌, Bool, true, false, not, ◌&&◌, cond, if◌then◌else◌, length, sum, List, [], ◌∷◌, count_by, ap, ◌∙◌, mul-add, mul_assoc, mul_comm, mul-one, mul-le-mul_left, subst, arith}
use Rattle.std.proofs.lemmas.List.Sums.{sum_by-cons}
use Rattle.seq_words.specs.Description.{line_count}
use Rattle.seq_words.specs.declared.kinds.Element.{Element}
use Rattle.seq_words.specs.declared.events.Event.{Event}
use Rattle.seq_words.specs.declared.description.MachineDesc.{MachineDesc}
use Rattle.seq_layout.specs.Shapes.{blocks_of}
use Rattle.seq_stands.specs.CountLeft.{most_left}
use Rattle.seq_schedule.specs.Outs.{is_turn_of, disturbs, turns_needed, half_needed, first_count, have_reached, since_half, second_count}
use Rattle.seq_covered.specs.Bound.{RecoveriesTakeAHalf}

-- the first counts have reached half of the turns that are needed, and the event disturbs nothing
abbrev pub goes_on : MachineDesc → Event → List Event → Bool
goes_on d x xs = not (disturbs x) && have_reached d xs (first_count xs) (half_needed d)

abbrev counted : MachineDesc → Event → List Event → Element → Bool → ℕ
counted d x xs e b = count_by (is_turn_of e) (if b then x ∷ since_half d xs else [])

pub second_anew : (d : MachineDesc) (x : Event) (xs : List Event) (e : Element) → goes_on d x xs ≡ false → second_count d (x ∷ xs) e ≡ 0
second_anew d x xs e f = ap (counted d x xs e) f

pub second_on : (d : MachineDesc) (x : Event) (xs : List Event) (e : Element) → goes_on d x xs ≡ true → second_count d (x ∷ xs) e ≡ cond (is_turn_of e x) 1 0 + second_count d xs e
second_on d x xs e t = ap (counted d x xs e) t ∙ sum_by-cons (λ (y : Event). cond (is_turn_of e y) 1 0) x (since_half d xs)

-- ---- enough turns

abbrev parts : MachineDesc → ℕ
parts d = sum (blocks_of d) + length d.processes + length d.segments + line_count d + d.cache + 8

times : (n r q : ℕ) → r ≤ q → 2 * (n * r) ≤ 2 * q * (n + 1)
times n r q few =
    let more = mul-le-mul_left n few in
    let sum = mul-add (2 * q) n 1 in
    let group = mul_assoc 2 q n in
    let turn = mul_comm q n in
    let once = mul-one (2 * q) in
    omega (arith, more, sum, group, turn, once)

pub recoveries_take_a_half : RecoveriesTakeAHalf
recoveries_take_a_half d described =
    let some = described.processes.low_at in
    let few : suc (most_left d) ≤ 4 * parts d = omega (arith, some) in
    let twice = times (length d.processes) (suc (most_left d)) (4 * parts d) few in
    let same : 2 * (4 * parts d) ≡ 8 * parts d = omega arith in
    let all : 2 * (length d.processes * suc (most_left d)) ≤ turns_needed d = subst (λ k. 2 * (length d.processes * suc (most_left d)) ≤ k * (length d.processes + 1)) same twice in
    omega (arith, all)
