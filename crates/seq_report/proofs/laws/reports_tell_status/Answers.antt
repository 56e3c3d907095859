use Rattle.seq_report.proofs.Told.{reports_tell_status}
use Rattle.seq_report.proofs.laws.reports_tell_status.Goals as goal

pub returns : goal.returns
returns c = reports_tell_status
