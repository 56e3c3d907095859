use Rattle.std.proofs.Common.{◌+◌, arith}
use Rattle.seq_layout.specs.Copies.{copies}
use Rattle.seq_recover.specs.Reading.{recovered_blocks}
use Rattle.seq_recover.proofs.Listed.{few_blocks, past_is}
use Rattle.seq_recover.proofs.copying.Recovery+Copying.is_last.Goals as goal

pub overflow_add-self : goal.overflow_add-self
overflow_add-self c = omega (arith, c.requires.needs.cursor, few_blocks c.args.desc.now c.requires.description)

pub returns : goal.returns
returns c =
    let blocks = recovered_blocks c.args.desc.now (copies c.args.layout.now c.args.memories.now) c.args.self.now.pid.0 in
    past_is c.block_at.result blocks (c.args.self.now.cursor + 1) c.is_none.result c.block_at.ensures.block c.is_none.ensures
