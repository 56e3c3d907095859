use Rattle.std.proofs.Common.{ℕ, List, Option, Some, None, sym, subst}
use Rattle.seq_shelf.specs.Outlets.{views, marks}
use Rattle.seq_report.specs.declared.status.Status.{Status}
use Rattle.seq_report.specs.declared.status.Status.TheVariants.{Usage}
use Rattle.seq_cli.specs.Commands.{Command, command_of}
use Rattle.seq_cli.specs.Opening.{OpensForm, AsksRun}
use Rattle.seq_cli.specs.Endings.{EndsFaultless}
use Rattle.seq_cli.specs.Printing.{Ends}
use Rattle.seq_cli.specs.Texts.{IsReportAsked, IsText}
use Rattle.seq_cli.specs.Top.{Ended}
use Rattle.seq_cli.proofs.Printed.{call_ends, fault_rises, faultless_result}
use Rattle.seq_cli.proofs.Still.{usage_ended}
use Rattle.seq_cli.proofs.top.sequoia.Goals as goal

pub returns-in-Some-clause-ended : goal.returns-in-Some-clause-ended
returns-in-Some-clause-ended g c =
    let told = (g.S.Shelf.shelf c.args.shelf.now).told in
    let left = (g.S.Shelf.shelf c.carry_out-answer.new.shelf).told in
    let before = g.C.Chronicle.chronicle c.args.chronicle.now in
    let after = g.C.Chronicle.chronicle c.carry_out-answer.new.chronicle in
    let old = views (λ z. (goal.Line-dyn g z).line z.1) c.args.lines.now.items in
    let new = views (λ z. (goal.Line-dyn g z).line z.1) c.carry_out-answer.new.lines.items in
    let Text : Option Command → Status → List ℕ → Type 0 = λ form. IsText form told left (λ status. IsReportAsked form told status before after old new (marks c.carry_out-answer.new.lines.items)) in
    let form = Some (command_of c.in-Some.command) in
    let Holds : Option Command → Status → Type 0 = λ form status. Ended form status (g.S.Shelf.shelf c.args.shelf.now) (g.S.Shelf.shelf c.carry_out-answer.new.shelf) before after old new in
    subst (λ (f : Option Command). Ends c.print.result (Holds f) (Text f) (g.K.Sink.sink c.args.sink.now).told (g.K.Sink.sink c.print.new.sink).told) (sym c.in-Some.ensures)
    (call_ends c.carry_out-answer.result.status c.print.result c.carry_out-answer.result.text (Holds form) (Text form) (g.K.Sink.sink c.args.sink.now).told (g.K.Sink.sink c.print.new.sink).told
    (λ t h. h) (λ t h. h) c.carry_out-answer.ensures.text c.print.ensures.printed c.print.ensures.became c.carry_out-answer.ensures.ended)

pub returns-in-Some-clause-complete : goal.returns-in-Some-clause-complete
returns-in-Some-clause-complete g c = λ m there asks shelf chronicle line sink.
    let told = (g.S.Shelf.shelf c.args.shelf.now).told in
    let left = (g.S.Shelf.shelf c.carry_out-answer.new.shelf).told in
    let before = g.C.Chronicle.chronicle c.args.chronicle.now in
    let after = g.C.Chronicle.chronicle c.carry_out-answer.new.chronicle in
    let old = views (λ z. (goal.Line-dyn g z).line z.1) c.args.lines.now.items in
    let new = views (λ z. (goal.Line-dyn g z).line z.1) c.carry_out-answer.new.lines.items in
    let Text : Option Command → Status → List ℕ → Type 0 = λ form. IsText form told left (λ status. IsReportAsked form told status before after old new (marks c.carry_out-answer.new.lines.items)) in
    let form = Some (command_of c.in-Some.command) in
    let done = subst (λ (f : Option Command). (a : AsksRun (OpensForm m None f)) → EndsFaultless a.desc a.items c.carry_out-answer.result.status) (sym c.in-Some.ensures)
    (λ a. c.carry_out-answer.ensures.complete m there a shelf chronicle line) asks in
    faultless_result asks.desc asks.items c.carry_out-answer.result.status c.print.result _ c.print.ensures.became
    (fault_rises c.carry_out-answer.result.status c.print.result c.carry_out-answer.result.text (λ s. Unit {0}) (Text form) (g.K.Sink.sink c.args.sink.now).told (g.K.Sink.sink c.print.new.sink).told
    (λ t h. h) (λ t h. h) c.carry_out-answer.ensures.text c.print.ensures.printed c.print.ensures.fault) sink done

pub returns-in-None-clause-ended : goal.returns-in-None-clause-ended
returns-in-None-clause-ended g c =
    let shelf = g.S.Shelf.shelf c.args.shelf.now in
    let chronicle = g.C.Chronicle.chronicle c.args.chronicle.now in
    let lines = views (λ z. (goal.Line-dyn g z).line z.1) c.args.lines.now.items in
    subst (λ (f : Option Command). Ends c.print_usage.result (λ status. Ended f status shelf shelf chronicle chronicle lines lines) (IsText f shelf.told shelf.told (λ status. IsReportAsked f shelf.told status chronicle chronicle lines lines (marks c.args.lines.now.items))) (g.K.Sink.sink c.args.sink.now).told (g.K.Sink.sink c.print_usage.new.sink).told) (sym c.in-None.ensures)
    (record { status = Usage; became = c.print_usage.ensures.became; holds = usage_ended shelf chronicle lines; printed = c.print_usage.ensures.printed })
