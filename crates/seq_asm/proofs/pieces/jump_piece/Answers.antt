use Rattle.seq_asm.proofs.Targets.{jump_made}
use Rattle.seq_asm.proofs.pieces.jump_piece.Goals as goal

pub returns-clause-piece : goal.returns-clause-piece
returns-clause-piece c = jump_made c.args.at c.args.address c.args.rd c.in-Ok.offset c.word_of.result c.in-Ok.ensures.fits c.in-Ok.ensures.leads c.word_of.ensures
