use Rattle.std.proofs.Common.{◌≤◌, ap, ◌∙◌, arith}
use Rattle.seq_layout.specs.Copies.{Copies, copies}
use Rattle.seq_layout.proofs.CopiesWritten.{block_states, word_states}
use Rattle.seq_kernel_tests.proofs.CallMachines.{AreSmall, small_block, small_word}
use Rattle.seq_kernel_tests.proofs.tests.set_copy.Goals as goal

pub returns-clause-small : goal.returns-clause-small
returns-clause-small c =
    let s = c.args.layout.now in
    let closed : c.args.closed ≤ 32 = omega (arith, c.requires.closed) in
    let first : AreSmall (copies s c.write_block.new.memories) = rw c.write_block.ensures.written (small_block _ _ _ _ _ _ c.requires.small) in
    let second : AreSmall (copies s c.write_block-2.new.memories) = rw c.write_block-2.ensures.written (small_block _ _ _ _ _ _ first) in
    let third : AreSmall (copies s c.write_block-3.new.memories) = rw c.write_block-3.ensures.written (small_block _ _ _ _ _ _ second) in
    let fourth : AreSmall (copies s c.write_word.new.memories) = rw c.write_word.ensures.written (small_word _ _ _ _ _ _ c.requires.arrived third) in
    let fifth : AreSmall (copies s c.write_word-2.new.memories) = rw c.write_word-2.ensures.written (small_word _ _ _ _ _ _ closed fourth) in
    rw c.write_word-3.ensures.written (small_word _ _ _ _ _ _ c.requires.sent fifth)

pub returns-clause-state : goal.returns-clause-state
returns-clause-state c =
    let state = λ (p : Copies). p.state in
    ap state c.write_word-3.ensures.written ∙ word_states _ _ _ _ _ _
    ∙ ap state c.write_word-2.ensures.written ∙ word_states _ _ _ _ _ _
    ∙ ap state c.write_word.ensures.written ∙ word_states _ _ _ _ _ _
    ∙ ap state c.write_block-3.ensures.written ∙ block_states _ _ _ _ _ _
    ∙ ap state c.write_block-2.ensures.written ∙ block_states _ _ _ _ _ _
    ∙ ap state c.write_block.ensures.written ∙ block_states _ _ _ _ _ _
