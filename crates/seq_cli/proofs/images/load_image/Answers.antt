use Rattle.std.proofs.Common.{ap, Err}
use Rattle.seq_cli.proofs.Storing.{image_loaded, image_unread}
use Rattle.seq_cli.proofs.images.load_image.Goals as goal

pub returns-in-Ok-read_image-clause-ok : goal.returns-in-Ok-read_image-clause-ok
returns-in-Ok-read_image-clause-ok g c = λ m told.
    let found = c.in-Ok.ensures.found m told in
    image_loaded (m c.args.name.now) c.in-Ok.text c.as_slice.result.now c.in-Ok-read_image.image found.0 found.1 c.as_slice.ensures c.in-Ok-read_image.ensures.value

pub returns-clause-err : goal.returns-clause-err
returns-clause-err g c = λ m told.
    let found = c.in-Ok.ensures.found m told in
    image_unread (m c.args.name.now) c.new-files.result c.in-Ok.text c.as_slice.result.now c.in-Err-read_image.error c.unread.result c.new-files.ensures found.0 found.1 c.as_slice.ensures c.unread.ensures.value
    (λ place rule e. (c.in-Err-read_image.ensures.refused place rule).0 (ap Err e))
