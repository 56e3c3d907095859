use Rattle.seq_cli.proofs.Storing.{made_answers}
use Rattle.seq_cli.proofs.images.assemble_command.Goals as goal

pub returns-clause-answers : goal.returns-clause-answers
returns-clause-answers g c = λ m told. made_answers m c.args.source.now c.args.name.now c.in-Ok.image (c.in-Ok.ensures.ok m told)
