use Rattle.seq_report.proofs.Ends.{reports_end_lines, singles_end_lines, assembled_ends_line}
use Rattle.seq_report.proofs.laws.texts_end_lines.Goals as goal

pub returns : goal.returns
returns c = record { reports = reports_end_lines; singles = singles_end_lines; assembled = assembled_ends_line }
