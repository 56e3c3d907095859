use Rattle.seq_samples.proofs.Described.{two_images-is}
use Rattle.seq_samples.proofs.two_images.Goals as goal

pub returns-clause-described : goal.returns-clause-described
returns-clause-described c =
    rw (c.machine.ensures, c.in-Ok-vec.ensures.items, c.in-Ok.ensures.items, c.process.ensures, c.process-2.ensures, c.segment.ensures, c.segment-2.ensures, c.segment-3.ensures, c.segment-4.ensures)
    (two_images-is c.args.size c.args.image c.args.other_size c.args.other c.requires.size c.requires.image c.requires.other_size c.requires.other)
