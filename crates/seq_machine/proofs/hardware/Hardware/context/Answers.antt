use Rattle.std.proofs.Common.{◌≡◌, sym, ◌∙◌}
use Rattle.seq_layout.specs.Contexts.{context_blocks, HasLengths}
use Rattle.seq_turns.proofs.Read.{first_contexts_are_read}
use Rattle.seq_lines.proofs.Going.{same_context}
use Rattle.seq_machine.specs.Settling.{held_copies}
use Rattle.seq_machine.proofs.hardware.Hardware.context.Goals as goal

pub returns-clause-same : goal.returns-clause-same
returns-clause-same c =
    let is = c.unwrap.ensures in
    let lengths : HasLengths c.unwrap.result = rw is at c.blocks_to_context.ensures.lengths in
    let blocks : context_blocks c.unwrap.result ≡ c.context_blocks.result = rw is at c.blocks_to_context.ensures.blocks in
    sym (first_contexts_are_read c.args.self.now.desc (held_copies c.args.self.now) c.args.pid.0 c.unwrap.result (record { registers = lengths.registers; reads = lengths.reads; writes = lengths.writes }) (blocks ∙ c.context_blocks.ensures))

pub returns-clause-value : goal.returns-clause-value
returns-clause-value c = returns-clause-same c ∙ sym (same_context c.args.self.now.desc (held_copies c.args.self.now) c.args.pid.0)
