use Rattle.seq_list.proofs.Shortest.{digits_put}
use Rattle.seq_list.proofs.digits.+put_hexadecimal.Goals as goal

pub returns : goal.returns
returns t c = digits_put _ _ _ _ _ _ c.if-number-lt16.false c.ranges.number.fits c.in_ok-put_hexadecimal.ensures c.last_digit-2.ensures c.push-2.ensures.ok
