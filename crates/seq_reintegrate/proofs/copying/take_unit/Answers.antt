use Rattle.std.proofs.Common.{◌≡◌, not, nat_eq, sym, ap, ◌∙◌}
use Rattle.seq_layout.specs.Copies.{copies, with_block, with_word}
use Rattle.seq_layout.specs.Units.{copy_on}
use Rattle.seq_layout.specs.declared.units.Unit.{Unit}
use Rattle.seq_turns.specs.Machines.{copies_after}
use Rattle.seq_reintegrate.specs.Taken.{taken_from}
use Rattle.seq_reintegrate.proofs.Equal.{block_set, word_set}
use Rattle.seq_reintegrate.proofs.copying.take_unit.Goals as goal

pub returns-in-Block-clause-copies : goal.returns-in-Block-clause-copies
returns-in-Block-clause-copies c =
    let s = c.args.layout.now in
    let p = copies s c.args.memories.now in
    let e = c.in-Block.extent.0 in
    let n = c.in-Block.n in
    let shadow : c.ne-shadow.result ≡ copy_on s.memories c.args.m.0 e = c.ne-shadow.ensures ∙ ap (λ k. not (nat_eq k c.args.m.0)) c.memory.ensures.memory in
    let block = c.read_block.ensures.block ∙ ap (λ b. p.block e n (not b)) shadow in
    c.set_block.ensures.set ∙ (λ i. with_block p e n (shadow i) (block i)) ∙
    block_set p e n (copy_on s.memories c.args.m.0 e) (p.block e n (not (copy_on s.memories c.args.m.0 e))) ∙
    ap (λ (u : Unit). copies_after (taken_from s.memories p c.args.m.0 u) p) (sym c.in-Block.is)

pub returns-in-Word-clause-copies : goal.returns-in-Word-clause-copies
returns-in-Word-clause-copies c =
    let s = c.args.layout.now in
    let p = copies s c.args.memories.now in
    let e = c.in-Word.at.extent.0 in
    let n = c.in-Word.at.word in
    let shadow : c.ne-shadow-in-Word.result ≡ copy_on s.memories c.args.m.0 e = c.ne-shadow-in-Word.ensures ∙ ap (λ k. not (nat_eq k c.args.m.0)) c.memory-in-Word.ensures.memory in
    let word = c.read_word-word.ensures ∙ ap (λ b. p.word e n (not b)) shadow in
    c.set_word.ensures.set ∙ (λ i. with_word p e n (shadow i) (word i)) ∙
    word_set p e n (copy_on s.memories c.args.m.0 e) (p.word e n (not (copy_on s.memories c.args.m.0 e))) ∙
    ap (λ (u : Unit). copies_after (taken_from s.memories p c.args.m.0 u) p) (sym c.in-Word.is)
