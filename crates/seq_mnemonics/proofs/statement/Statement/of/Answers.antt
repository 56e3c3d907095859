use Rattle.std.proofs.Common.{IfSome, sym, subst}
use Rattle.seq_mnemonics.specs.Ranges.{OperandsFit}
use Rattle.seq_mnemonics.proofs.Fitting.{statement_fits}
use Rattle.seq_mnemonics.proofs.statement.Statement.of.Goals as goal

pub returns-clause-fit : goal.returns-clause-fit
returns-clause-fit c h = subst (λ o. IfSome o OperandsFit) (sym c.row.ensures) (statement_fits c.args.instr h)
