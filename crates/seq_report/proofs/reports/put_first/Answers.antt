use Rattle.seq_report.proofs.reports.put_first.Goals as goal

pub returns-in-OutOfTurns : goal.returns-in-OutOfTurns
returns-in-OutOfTurns c = rw (c.in-OutOfTurns.is, ← c.from.ensures) c.put_numbered_line.ensures

pub returns-in-ChronicleFault : goal.returns-in-ChronicleFault
returns-in-ChronicleFault c = rw c.in-ChronicleFault.is c.append-in-ChronicleFault.ensures.ok
