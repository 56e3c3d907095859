use Rattle.seq_asm.proofs.Targets.{branch_in_range, branch_made}
use Rattle.seq_asm.proofs.pieces.branch_piece.Goals as goal

pub word_of-requires : goal.word_of-requires
word_of-requires c = branch_in_range c.args.name c.args.rs1 c.args.rs2 c.in-Ok.offset c.instruction.result c.requires.word c.in-Ok.ensures.fits c.instruction.ensures

pub returns-clause-piece : goal.returns-clause-piece
returns-clause-piece c = branch_made c.args.at c.args.address c.args.name c.args.rs1 c.args.rs2 c.in-Ok.offset c.instruction.result c.word_of.result c.in-Ok.ensures.fits c.in-Ok.ensures.leads c.instruction.ensures c.word_of.ensures
