use Rattle.seq_cli.proofs.Storing.{source_loaded}
use Rattle.seq_cli.proofs.images.load_source.Goals as goal

pub returns-in-Ok-assemble-clause-ok : goal.returns-in-Ok-assemble-clause-ok
returns-in-Ok-assemble-clause-ok g c = λ m told.
    let found = c.in-Ok.ensures.found m told in
    source_loaded (m c.args.name.now) c.in-Ok.text c.as_slice.result.now c.in-Ok-assemble.image found.0 found.1 c.as_slice.ensures c.in-Ok-assemble.ensures.none c.in-Ok-assemble.ensures.image
