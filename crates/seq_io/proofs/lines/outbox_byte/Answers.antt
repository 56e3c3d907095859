use Rattle.std.proofs.Common.{◌≡◌, ℕ, ◌+◌, ◌*◌, ◌/◌, ◌%◌, ◌<◌, ap, ◌∙◌, arith}
use Rattle.seq_words.specs.declared.names.Pid.{Pid}
use Rattle.seq_io.specs.Lines.{owner}
use Rattle.seq_io.proofs.lines.outbox_byte.Goals as goal

pub first_block-block-requires-clause-place : goal.first_block-block-requires-clause-place
first_block-block-requires-clause-place c =
    let pid = λ (found : Pid × ℕ). found.0.0 in
    let number = λ (found : Pid × ℕ). found.1 in
    let extent : c.process.result.0 ≡ (owner c.args.layout.now c.args.line.0).0.0 = c.process.ensures ∙ ap pid c.owner-own.ensures.value in
    let index : c.owner-own.result.1 ≡ (owner c.args.layout.now c.args.line.0).1 = ap number c.owner-own.ensures.value in
    let within : c.args.index % 256 / 32 < 8 = omega arith in
    rw (extent, index) (c.requires.wired.outbox c.args.line.0 (c.args.index % 256 / 32) c.requires.line within)
