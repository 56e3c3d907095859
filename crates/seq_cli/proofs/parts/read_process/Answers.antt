use Rattle.std.proofs.Common.{ap, Err}
use Rattle.seq_cli.proofs.Openings.{err_is}
use Rattle.seq_cli.proofs.parts.read_process.Goals as goal

pub returns-in-Err-clause-refused : goal.returns-in-Err-clause-refused
returns-in-Err-clause-refused c = λ place rule e. (c.in-Err.ensures.refused place rule).0 (ap Err (err_is _ _ e))
