use Rattle.seq_lines.proofs.Going.{goes_on_where_enabled, quiet_by_process}
use Rattle.seq_lines.proofs.settled.processes_go_on.Goals as goal

pub returns-clause-each : goal.returns-clause-each
returns-clause-each c = goes_on_where_enabled

pub returns-clause-all : goal.returns-clause-all
returns-clause-all c = quiet_by_process
