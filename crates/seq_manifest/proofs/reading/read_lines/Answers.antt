use Rattle.std.proofs.Common.{sym, ap, Err}
use Rattle.std.proofs.lemmas.Bool.{eqb-true}
use Rattle.seq_manifest.proofs.Errors.{refused_at, refused_is}
use Rattle.seq_manifest.proofs.Texts.{reading_starts, reading_goes, reading_stops, stopped_at_end, ended, IsEnded-from}
use Rattle.seq_manifest.proofs.Whole.{Describes-from}
use Rattle.seq_manifest.proofs.reading.read_lines.Goals as goal

pub lines-init : goal.lines-init
lines-init c = reading_starts c.args.text.now c.new-parts.result c.new-parts.ensures

pub lines-preserved : goal.lines-preserved
lines-preserved c = reading_goes c.args.text.now c.next_line.result.0.now c.lines.rest.now c.next_line.result.1.now c.lines.parts c.take_line.new.self c.lines.place c.lines.invariant c.next_line.ensures.lines c.next_line.ensures.shorter c.in-Ok.ensures.none c.in-Ok.ensures.said c.in-Ok.ensures.parts

pub returns-in-Err-clause-refused : goal.returns-in-Err-clause-refused
returns-in-Err-clause-refused c = λ place rule e. refused_at c.in-Err.error c.at.result c.lines.place place rule _ c.at.ensures e (λ r f. reading_stops c.args.text.now c.next_line.result.0.now c.lines.rest.now c.next_line.result.1.now c.lines.parts c.lines.place r c.lines.invariant c.next_line.ensures.lines (c.in-Err.ensures.rule r (ap Err f)))

pub draft-requires-clause-full : goal.draft-requires-clause-full
draft-requires-clause-full c = (IsEnded-from c.lines.parts c.lines.invariant.parts (sym c.in-None.ensures)).seven

pub returns-in-Some-clause-refused : goal.returns-in-Some-clause-refused
returns-in-Some-clause-refused c = λ place rule e. refused_is c.lines.place c.in-Some.rule place rule _ (stopped_at_end c.args.text.now c.lines.rest.now c.lines.parts c.lines.place c.in-Some.rule c.lines.invariant (eqb-true _ _ (sym c.lines-test.ensures)) c.in-Some.ensures) e

pub returns-in-None-clause-value : goal.returns-in-None-clause-value
returns-in-None-clause-value c = Describes-from c.args.text.now c.lines.rest.now c.lines.parts c.draft.result c.lines.place c.lines.invariant (eqb-true _ _ (sym c.lines-test.ensures)) c.in-None.ensures c.draft.ensures

pub returns-in-None-clause-none : goal.returns-in-None-clause-none
returns-in-None-clause-none c = ended c.args.text.now c.lines.rest.now c.lines.parts c.lines.place c.lines.invariant (eqb-true _ _ (sym c.lines-test.ensures)) c.in-None.ensures
