use Rattle.std.proofs.Common.{Option, Some, ℕ, subst, sym}
use Rattle.seq_asm.specs.Rules.{first_fault as source_fault}
use Rattle.seq_report.specs.declared.status.Status.{Status}
use Rattle.seq_cli.specs.Commands.{asm}
use Rattle.seq_cli.specs.Opening.{OpensForm}
use Rattle.seq_cli.specs.Endings.{Stops}
use Rattle.seq_cli.proofs.Naming.{source_named, line_named}
use Rattle.seq_cli.proofs.Storing.{source_stops, store_stops}
use Rattle.seq_cli.proofs.images.assemble_file.Goals as goal

pub returns-in-Err-clause-err : goal.returns-in-Err-clause-err
returns-in-Err-clause-err g c = λ m told.
    subst (λ (s : Status). (failed : Option ℕ) × Stops (OpensForm m failed (Some (asm c.args.source.now c.args.name.now))) s) (sym c.ended_by.ensures.status)
    (source_stops m c.args.source.now c.args.name.now c.in-Err.status (c.in-Err.ensures.err m told))

pub returns-in-Err-Failed-clause-err : goal.returns-in-Err-Failed-clause-err
returns-in-Err-Failed-clause-err g c = λ m told.
    let found = c.in-Ok.ensures.ok m told in
    subst (λ (s : Status). (failed : Option ℕ) × Stops (OpensForm m failed (Some (asm c.args.source.now c.args.name.now))) s) (sym c.ended_by-in-Err-Failed.ensures.status)
    (store_stops m c.args.source.now c.args.name.now found.0 c.in-Ok.image found.1)

pub returns-in-Err-clause-line : goal.returns-in-Err-clause-line
returns-in-Err-clause-line g c =
    line_named (Some (asm c.args.source.now c.args.name.now)) (g.S.Shelf.shelf c.args.shelf.now).told c.in-Err.status c.ended_by.result.status c.args.source.now c.ended_by.result.text c.ended_by.ensures.status
    (λ m told. source_named m c.args.source.now c.args.name.now c.in-Err.status source_fault (m c.args.source.now) (c.in-Err.ensures.err m told)) c.ended_by.ensures.line

pub returns-in-Err-Failed-clause-line : goal.returns-in-Err-Failed-clause-line
returns-in-Err-Failed-clause-line g c =
    line_named (Some (asm c.args.source.now c.args.name.now)) (g.S.Shelf.shelf c.args.shelf.now).told _ c.ended_by-in-Err-Failed.result.status c.args.name.now c.ended_by-in-Err-Failed.result.text c.ended_by-in-Err-Failed.ensures.status (λ m told. tt) c.ended_by-in-Err-Failed.ensures.line
