use Rattle.std.proofs.Common.{◌≡◌, ◌≤◌, length, arith}
use Rattle.seq_layout.proofs.FreshMemories.{are_fresh, fresh_served}
use Rattle.seq_layout.proofs.layout.Layout.memories.Goals as goal

pub returns-clause-fresh : goal.returns-clause-fresh
returns-clause-fresh c =
    let two : 2 ≤ c.args.self.now.memories = omega (arith, c.memory_count-memory-end.ensures.count, c.memory_count-memory-end.ensures.enough) in
    let count : length c.loop-memory.elements ≡ c.args.self.now.memories = omega (arith, c.loop-memory.invariant.count, c.memory_count-memory-end.ensures.count) in
    are_fresh c.args.self.now _ two count (λ i inside. c.loop-memory.invariant.each i (omega (arith, c.memory_count-memory-end.ensures.count)))

pub returns-clause-served : goal.returns-clause-served
returns-clause-served c =
    let two : 2 ≤ c.args.self.now.memories = omega (arith, c.memory_count-memory-end.ensures.count, c.memory_count-memory-end.ensures.enough) in
    let count : length c.loop-memory.elements ≡ c.args.self.now.memories = omega (arith, c.loop-memory.invariant.count, c.memory_count-memory-end.ensures.count) in
    fresh_served c.args.self.now _ two count (λ i inside. c.loop-memory.invariant.each i (omega (arith, c.memory_count-memory-end.ensures.count)))
