use Rattle.std.proofs.Common.{sym}
use Rattle.seq_manifest.proofs.Lines.{kept_some, on_ok_both}
use Rattle.seq_manifest.proofs.Taken.{rule_of-line, taken_line}
use Rattle.seq_manifest.proofs.parts.Parts.take_line.Goals as goal

pub returns-clause-rule : goal.returns-clause-rule
returns-clause-rule c = λ rule e. rule_of-line c.args.self.now _ _ _ c.in-Some.ensures.words (sym c.if-is_comment.ensures) c.in-Some-said.ensures rule (λ s kept. c.take.ensures.rule s rule kept e)

pub returns-clause-none : goal.returns-clause-none
returns-clause-none c =
    let s = kept_some _ _ c.in-Some-said.ensures in
    on_ok_both c.take.result (c.take.ensures.none s.0 s.2) c.take.ensures.taken (λ h t. (taken_line c.args.self.now c.take.new.self _ _ _ s.0 c.requires c.in-Some.ensures.words (sym c.if-is_comment.ensures) s.1 s.2 h t).none)

pub returns-clause-said : goal.returns-clause-said
returns-clause-said c =
    let s = kept_some _ _ c.in-Some-said.ensures in
    on_ok_both c.take.result (c.take.ensures.none s.0 s.2) c.take.ensures.taken (λ h t. (taken_line c.args.self.now c.take.new.self _ _ _ s.0 c.requires c.in-Some.ensures.words (sym c.if-is_comment.ensures) s.1 s.2 h t).said)

pub returns-clause-parts : goal.returns-clause-parts
returns-clause-parts c =
    let s = kept_some _ _ c.in-Some-said.ensures in
    on_ok_both c.take.result (c.take.ensures.none s.0 s.2) c.take.ensures.taken (λ h t. (taken_line c.args.self.now c.take.new.self _ _ _ s.0 c.requires c.in-Some.ensures.words (sym c.if-is_comment.ensures) s.1 s.2 h t).parts)
