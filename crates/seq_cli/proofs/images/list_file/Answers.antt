use Rattle.std.proofs.Common.{Option, Some, ℕ, subst, sym}
use Rattle.seq_loader.specs.Faults.{first_fault as image_fault}
use Rattle.seq_report.specs.declared.status.Status.{Status}
use Rattle.seq_cli.specs.Commands.{list}
use Rattle.seq_cli.specs.Opening.{OpensForm}
use Rattle.seq_cli.specs.Endings.{Stops}
use Rattle.seq_cli.proofs.Naming.{image_named, line_named}
use Rattle.seq_cli.proofs.Storing.{image_stops}
use Rattle.seq_cli.proofs.images.list_file.Goals as goal

pub returns-in-Err-clause-err : goal.returns-in-Err-clause-err
returns-in-Err-clause-err g c = λ m told.
    subst (λ (s : Status). (failed : Option ℕ) × Stops (OpensForm m failed (Some (list c.args.name.now))) s) (sym c.ended_by.ensures.status)
    (image_stops m c.args.name.now c.in-Err.status (c.in-Err.ensures.err m told))

pub returns-in-Err-clause-line : goal.returns-in-Err-clause-line
returns-in-Err-clause-line g c =
    line_named (Some (list c.args.name.now)) (g.S.Shelf.shelf c.args.shelf.now).told c.in-Err.status c.ended_by.result.status c.args.name.now c.ended_by.result.text c.ended_by.ensures.status
    (λ m told. image_named m c.args.name.now c.in-Err.status image_fault (m c.args.name.now) (c.in-Err.ensures.err m told)) c.ended_by.ensures.line
