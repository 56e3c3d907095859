use Rattle.seq_layout.specs.Copies.{copies}
use Rattle.seq_start.proofs.Begun.{both_hold}
use Rattle.seq_start.proofs.memories.put.Goals as goal

pub returns-clause-holds : goal.returns-clause-holds
returns-clause-holds c = λ o is h.
    both_hold c.args.layout.now (copies c.args.layout.now c.args.memories.now) (copies c.args.layout.now c.write_block.new.memories) (copies c.args.layout.now c.write_block-2.new.memories)
    o c.args.extent.0 c.args.n c.args.block.now c.write_block.ensures.written c.write_block-2.ensures.written is h
