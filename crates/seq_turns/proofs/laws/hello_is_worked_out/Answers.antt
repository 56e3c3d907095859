use Rattle.seq_turns.proofs.Hello.{hello_runs, hello_is_done}
use Rattle.seq_turns.proofs.laws.hello_is_worked_out.Goals as goal

pub returns : goal.returns
returns c = record { runs = hello_runs; done = hello_is_done }
