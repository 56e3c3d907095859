-- The turns that end an out are enough for operations and for units.
use Rattle.std.proofs.Common.{ℕ, zero, suc, ◌+◌, ◌*◌, ◌≤◌, length, sum, mul-add, mul-suc, mul-one, arith}
use Rattle.seq_words.specs.Description.{IsDescription, line_count}
use Rattle.seq_words.specs.declared.description.MachineDesc.{MachineDesc}
use Rattle.seq_layout.specs.Shapes.{shape_of, blocks_of}
use Rattle.seq_layout.specs.Units.{units_of}
use Rattle.seq_layout.proofs.UnitParts.{units_are_few}
use Rattle.seq_stands.specs.CountLeft.{most_left}
use Rattle.seq_schedule.specs.Outs.{turns_needed}
use Rattle.seq_covered.specs.Memories.{OperationsTakeAQuarter, UnitsTakeAHalf}

-- for one process or more
twice : (a n : ℕ) → 1 ≤ n → 2 * a ≤ a * (n + 1)
twice a zero some = absurd (let no : ⊥ = omega (arith, some) in no)
twice a (suc n) some =
    let sum = mul-add a (suc n) 1 in
    let more = mul-suc a n in
    let once = mul-one a in
    omega (arith, sum, more, once)

-- the sum of which the needed turns are at least sixteen times as many
abbrev parts : MachineDesc → ℕ
parts d = sum (blocks_of d) + length d.processes + length d.segments + line_count d + d.cache + 8

sixteen : (d : MachineDesc) → IsDescription d → 2 * (8 * parts d) ≤ turns_needed d
sixteen d described = twice (8 * parts d) (length d.processes) described.processes.low_at

pub operations_take_a_quarter : OperationsTakeAQuarter
operations_take_a_quarter d described = let enough = sixteen d described in omega (arith, enough)

pub units_take_a_half : UnitsTakeAHalf
units_take_a_half d i described =
    let few = units_are_few d i in
    let enough = sixteen d described in
    omega (arith, few, enough)

-- an operation, all units and one turn more
pub all_copied_in_time : (d : MachineDesc) (i : ℕ) → IsDescription d → most_left d + suc (length (units_of (shape_of d) i)) ≤ turns_needed d
all_copied_in_time d i described =
    let quarter = operations_take_a_quarter d described in
    let half = units_take_a_half d i described in
    omega (arith, quarter, half)
