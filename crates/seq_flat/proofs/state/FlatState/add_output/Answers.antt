use Rattle.std.proofs.Common.{◌∙◌, ap}
use Rattle.std.proofs.lemmas.Result.{on_err_weaker}
use Rattle.seq_flat.specs.State.{with_line}
use Rattle.seq_flat.proofs.CallCases.{line_put_back}
use Rattle.seq_flat.proofs.state.FlatState.add_output.Goals as goal

pub returns-clause-err : goal.returns-clause-err
returns-clause-err c =
    on_err_weaker c.append.result
    (λ same. ap (λ output. with_line c.args.self.now c.args.line (record c.at_mut.result.now { output = output })) same ∙ line_put_back c.args.self.now c.args.line c.at_mut.result.now c.at_mut.ensures.value)
    c.append.ensures.err
