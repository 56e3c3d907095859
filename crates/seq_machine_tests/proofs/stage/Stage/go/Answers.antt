use Rattle.std.proofs.Common.{◌≡◌, ℕ, suc, ◌+◌, true, sym, ◌∙◌, subst, arith}
use Rattle.seq_machine.specs.declared.hardware.Hardware.{Hardware}
use Rattle.seq_machine.specs.Ready.{IsReady}
use Rattle.seq_machine.proofs.Readiness.{goes_on}
use Rattle.seq_machine_tests.proofs.stage.Stage.go.Goals as goal

pub returns-in-Ok : goal.returns-in-Ok
returns-in-Ok g c goes =
    let next : suc c.args.self.now.made ≡ c.args.self.now.made + 1 = omega arith in
    let allowed : c.allows.result ≡ true = cc in
    subst (λ (n : ℕ). IsReady n c.event.new.self) next (
    goes_on c.args.self.now.made c.args.self.now.hardware c.event.new.self c.args.event _ _ c.requires (c.allows.ensures.built allowed) (c.allows.ensures.allowed allowed)
    c.event.ensures.hardware c.event.ensures.desc c.in-Ok.ensures.fit c.in-Ok.ensures.machine
    )

pub returns-in-Err : goal.returns-in-Err
returns-in-Err g c goes =
    let same = c.is_check-self.ensures c.args.self.now.hardware c.event.new.self goes c.in-Err.ensures.stays in
    subst (λ (h : Hardware). IsReady c.args.self.now.made h) (sym same) c.requires
