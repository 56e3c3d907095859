use Rattle.std.proofs.Common.{sym, ◌∙◌}
use Rattle.seq_kernel.specs.Views.{seen}
use Rattle.seq_lines.proofs.Ecalls.{calls_by_ecall, calls_nothing}
use Rattle.seq_machine.specs.Settling.{first_blocks}
use Rattle.seq_machine.proofs.hardware.Hardware.calls.Goals as goal

pub returns-in-Some : goal.returns-in-Some
returns-in-Some c =
    let h = c.args.self.now in
    c.is_ecall.ensures ∙ sym (calls_by_ecall c.args.regs.now (seen h.desc c.args.pid.0 c.args.owned (first_blocks h)) c.in-Some.word (sym c.in-Some.ensures))

pub returns-in-None : goal.returns-in-None
returns-in-None c =
    let h = c.args.self.now in
    sym (calls_nothing c.args.regs.now (seen h.desc c.args.pid.0 c.args.owned (first_blocks h)) (sym c.in-None.ensures))
