-- The machine is ready for the next event, unless its run has ended.
use Rattle.std.proofs.Common.{◌≡◌, false}
use Rattle.seq_machine.specs.Ready.{IsReady}
use Rattle.seq_machine_tests.proofs.tests.take_order.Given as goal

abbrev pub invariant-loop-event : goal.invariant-loop-event
invariant-loop-event g l = l.stage.ended ≡ false → IsReady l.stage.made l.stage.hardware
