use Rattle.std.proofs.Common.{sym, ◌∙◌, ap, ◌∷◌}
use Rattle.seq_text.specs.Lines.{lines_of}
use Rattle.seq_text.proofs.Cuts.{lines_of-more, lines_of-last}
use Rattle.seq_text.proofs.lines.next_line.Goals as goal

pub returns-in-None-clause-lines : goal.returns-in-None-clause-lines
returns-in-None-clause-lines c = lines_of-last c.args.text.now c.cut_at.result.0.now c.requires (c.cut_at.ensures.whole c.in-None.is) (rw c.in-None.is at c.cut_at.ensures.parts)

pub returns-in-Some-clause-lines : goal.returns-in-Some-clause-lines
returns-in-Some-clause-lines c =
    let more = lines_of-more c.args.text.now c.cut_at.result.0.now c.in-Some.rest.now (rw c.in-Some.is at c.cut_at.ensures.parts) in
    more ∙ ap (λ line. line ∷ lines_of c.in-Some.rest.now) (sym c.without_return.ensures)
