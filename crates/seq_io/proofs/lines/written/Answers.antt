use Rattle.std.proofs.Common.{◌≡◌, ℕ, ap, ◌∙◌, lit<}
use Rattle.seq_words.specs.declared.names.Pid.{Pid}
use Rattle.seq_io.specs.Lines.{owner}
use Rattle.seq_io.proofs.lines.written.Goals as goal

pub first_block-block-requires-clause-place : goal.first_block-block-requires-clause-place
first_block-block-requires-clause-place c =
    let pid = λ (found : Pid × ℕ). found.0.0 in
    let extent : c.process.result.0 ≡ (owner c.args.layout.now c.args.line.0).0.0 = c.process.ensures ∙ ap pid c.owner-index.ensures.value in
    rw extent (c.requires.wired.context c.args.line.0 5 c.requires.line (lit< tt))
