use Rattle.std.proofs.Common.{◌≡◌, map, sym, ◌∙◌, subst}
use Rattle.std.specs.List.{range_with_len}
use Rattle.seq_layout.specs.Shapes.{Shape}
use Rattle.seq_layout.specs.Places.{IsPlace}
use Rattle.seq_layout.specs.Copies.{copies, first_block}
use Rattle.seq_layout.specs.Contexts.{context_blocks, HasLengths}
use Rattle.seq_layout.proofs.Sizes.{process_has_context}
use Rattle.seq_turns.proofs.Read.{first_contexts_are_read}
use Rattle.seq_machine.proofs.claims.context_of.Goals as goal

pub context_blocks-requires-clause-places : goal.context_blocks-requires-clause-places
context_blocks-requires-clause-places c k lt = subst (λ (s : Shape). IsPlace s.blocks c.args.pid.0 k) (sym c.requires.layout) (process_has_context c.args.desc.now c.args.pid.0 k c.requires.process lt)

pub returns-clause-value : goal.returns-clause-value
returns-clause-value c =
    let is = c.unwrap.ensures in
    let lengths : HasLengths c.unwrap.result = rw is at c.blocks_to_context.ensures.lengths in
    let held : context_blocks c.unwrap.result ≡ c.context_blocks.result = rw is at c.blocks_to_context.ensures.blocks in
    let read = subst (λ (s : Shape). context_blocks c.unwrap.result ≡ map (first_block s (copies c.args.layout.now c.args.memories.now) c.args.pid.0) (range_with_len 0 8)) c.requires.layout (held ∙ c.context_blocks.ensures) in
    sym (first_contexts_are_read c.args.desc.now (copies c.args.layout.now c.args.memories.now) c.args.pid.0 c.unwrap.result (record { registers = lengths.registers; reads = lengths.reads; writes = lengths.writes }) read)
