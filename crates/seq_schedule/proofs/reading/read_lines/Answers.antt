use Rattle.std.proofs.Common.{◌≡◌, sym, ap, Err}
use Rattle.seq_words.specs.declared.events.ReadError.TheVariants.{NoMemory}
use Rattle.std.proofs.lemmas.Bool.{eqb-true}
use Rattle.seq_schedule.proofs.Texts.{reading_starts, reading_goes, reading_stops, reading_takes, reading_ends, reading_items}
use Rattle.seq_schedule.proofs.Answers.{refused_here}
use Rattle.seq_schedule.proofs.reading.read_lines.Goals as goal

pub lines-init : goal.lines-init
lines-init c = reading_starts c.args.gate c.args.desc.now c.args.text.now _ _ c.new.ensures c.new-2.ensures

pub lines-preserved : goal.lines-preserved
lines-preserved c = reading_goes c.args.gate c.args.desc.now c.args.text.now c.next_line.result.0.now c.lines.rest.now c.next_line.result.1.now c.lines.reader.tally c.take_line.new.self.tally c.lines.reader.items c.take_line.new.self.items c.lines.place c.requires c.lines.invariant c.next_line.ensures.lines c.next_line.ensures.shorter c.in-Ok.ensures.none c.in-Ok.ensures.tally c.in-Ok.ensures.items

pub returns-in-Err-clause-refused : goal.returns-in-Err-clause-refused
returns-in-Err-clause-refused c = λ place rule e.
    refused_here c.in-Err.error c.lines.place place rule _ _ (λ at r f. c.in-Err.ensures.refused at r (ap Err f))
    (λ r some. reading_stops c.args.gate c.args.desc.now c.args.text.now c.next_line.result.0.now c.lines.rest.now c.next_line.result.1.now c.lines.reader.tally c.lines.reader.items c.lines.place r c.requires c.lines.invariant c.next_line.ensures.lines some) e

pub returns-clause-items : goal.returns-clause-items
returns-clause-items c = reading_items c.args.gate c.args.desc.now c.args.text.now c.lines.rest.now c.lines.reader.tally c.lines.reader.items c.lines.place c.lines.invariant (eqb-true _ _ (sym c.lines-test.ensures))

pub returns-clause-none : goal.returns-clause-none
returns-clause-none c = reading_ends c.args.gate c.args.desc.now c.args.text.now c.lines.rest.now c.lines.reader.tally c.lines.reader.items c.lines.place c.lines.invariant (eqb-true _ _ (sym c.lines-test.ensures))

pub returns-in-Err-clause-memory : goal.returns-in-Err-clause-memory
returns-in-Err-clause-memory c = λ e.
    let refused : c.in-Err.error ≡ NoMemory = cc in
    reading_takes c.args.gate c.args.desc.now c.args.text.now c.next_line.result.0.now c.lines.rest.now c.next_line.result.1.now c.lines.reader.tally c.lines.reader.items c.lines.place c.lines.invariant c.next_line.ensures.lines (c.in-Err.ensures.memory (ap Err refused))
