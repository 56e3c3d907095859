use Rattle.std.proofs.Common.{sym, ◌∙◌, ap, take, drop, arith}
use Rattle.seq_text.proofs.Cuts.{words_of-cut, words_of-none, word_end-some}
use Rattle.seq_text.proofs.words.first_word.Goals as goal

pub returns-in_err-start-clause-words : goal.returns-in_err-start-clause-words
returns-in_err-start-clause-words c = rw c.from_residual.ensures (words_of-none c.args.line.now (sym c.in_err-start.ensures.value))

pub returns-clause-words : goal.returns-clause-words
returns-clause-words c = words_of-cut c.args.line.now c.split_at.result.1.now _ _ c.in_ok-start.start c.blank.result (sym c.in_ok-start.ensures.value) c.split_at.ensures.back c.blank.ensures.value (c.split_at-2.ensures.front ∙ ap (λ n. take n c.split_at.result.1.now) c.unwrap_or-end.ensures) (c.split_at-2.ensures.back ∙ ap (λ n. drop n c.split_at.result.1.now) c.unwrap_or-end.ensures)

pub returns-clause-shorter : goal.returns-clause-shorter
returns-clause-shorter c =
    let some = word_end-some c.args.line.now c.split_at.result.1.now c.in_ok-start.start c.blank.result (sym c.in_ok-start.ensures.value) c.split_at.ensures.back c.blank.ensures.value in
    omega (arith, some)
