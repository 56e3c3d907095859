use Rattle.seq_cli.proofs.Storing.{listed_answers}
use Rattle.seq_cli.proofs.images.list_command.Goals as goal

pub returns-in-Ok-clause-answers : goal.returns-in-Ok-clause-answers
returns-in-Ok-clause-answers g c = λ m told.
    let found = c.in-Ok.ensures.ok m told in
    listed_answers m c.args.name.now found.0 found.1
