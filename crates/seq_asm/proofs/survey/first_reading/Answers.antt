use Rattle.std.proofs.Common.{sym}
use Rattle.std.proofs.lemmas.Bool.{eqb-true}
use Rattle.seq_asm.proofs.Surveying.{IsRead, no_labels, survey_starts, survey_stops, survey_goes, survey_ends, survey_labels, survey_past}
use Rattle.seq_asm.proofs.Answers.{refused_at}
use Rattle.seq_asm.proofs.Stands.{stands_here, noted_here}
use Rattle.seq_asm.proofs.survey.first_reading.Goals as goal

pub lines-init : goal.lines-init
lines-init c = survey_starts c.args.text.now c.new-labels.result c.none-past.result (no_labels c.new-labels.result c.new-labels.ensures.empty) c.none-past.ensures

pub returns-in-Some-clause-refused : goal.returns-in-Some-clause-refused
returns-in-Some-clause-refused c = λ place rule e.
    let read : IsRead c.args.text.now c.lines.labels c.lines.past c.lines.place c.lines.rest.now c.next_line.result.0.now c.next_line.result.1.now c.read_line-read.result.said c.label_stands-stands.result = record {
      reading = c.lines.invariant;
      cut = c.next_line.ensures.lines;
      shorter = c.next_line.ensures.shorter;
      said_is = c.read_line-read.ensures.said;
      stands_is = stands_here c.lines.labels _ _ c.label_stands-stands.result c.label_stands-stands.ensures c.read_line-read.ensures.label;
    } in
    refused_at c.lines.place c.in-Some.rule place rule _ (survey_stops c.args.text.now c.lines.labels c.lines.past c.lines.place c.lines.rest.now c.next_line.result.0.now c.next_line.result.1.now c.read_line-read.result.said c.label_stands-stands.result c.in-Some.rule read (sym c.in-Some.ensures)) e

pub lines-preserved : goal.lines-preserved
lines-preserved c =
    let read : IsRead c.args.text.now c.lines.labels c.lines.past c.lines.place c.lines.rest.now c.next_line.result.0.now c.next_line.result.1.now c.read_line-read.result.said c.label_stands-stands.result = record {
      reading = c.lines.invariant;
      cut = c.next_line.ensures.lines;
      shorter = c.next_line.ensures.shorter;
      said_is = c.read_line-read.ensures.said;
      stands_is = stands_here c.lines.labels _ _ c.label_stands-stands.result c.label_stands-stands.ensures c.read_line-read.ensures.label;
    } in
    survey_goes c.args.text.now c.lines.labels c.note_label.new.labels c.lines.past c.after-past.result c.lines.place c.lines.rest.now c.next_line.result.0.now c.next_line.result.1.now c.read_line-read.result.said c.label_stands-stands.result read (sym c.in_default.ensures)
    (noted_here c.lines.labels c.note_label.new.labels c.lines.past.end _ _ c.in-Ok.ensures c.read_line-read.ensures.label)
    c.after-past.ensures.end c.after-past.ensures.entry c.after-past.ensures.size

pub returns-clause-none : goal.returns-clause-none
returns-clause-none c = survey_ends c.args.text.now c.lines.labels c.lines.past c.lines.place c.lines.rest.now c.lines.invariant (eqb-true _ _ (sym c.lines-test.ensures))

pub returns-clause-labels : goal.returns-clause-labels
returns-clause-labels c = survey_labels c.args.text.now c.lines.labels c.lines.past c.lines.place c.lines.rest.now c.lines.invariant (eqb-true _ _ (sym c.lines-test.ensures))

pub returns-clause-past : goal.returns-clause-past
returns-clause-past c = survey_past c.args.text.now c.lines.labels c.lines.past c.lines.place c.lines.rest.now c.lines.invariant (eqb-true _ _ (sym c.lines-test.ensures))
