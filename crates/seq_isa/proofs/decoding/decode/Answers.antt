use Rattle.seq_isa.proofs.Agreed.{found_from_decode_of}
use Rattle.seq_isa.proofs.Ranges.{ranges_found}
use Rattle.seq_isa.proofs.decoding.decode.Goals as goal

pub returns-clause-in_range : goal.returns-clause-in_range
returns-clause-in_range c =
    let stands = found_from_decode_of c.args.word c.row.result c.row.ensures in
    ranges_found c.args.word c.row.result c.ranges.word.fits stands
