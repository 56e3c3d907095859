-- All memories so far but this one are in service.
use Rattle.std.proofs.Common.{◌≡◌, ◌≢◌, ℕ, ◌<◌, true}
use Rattle.seq_memory.specs.States.{is_in_service}
use Rattle.seq_layout.specs.Copies.{copies}
use Rattle.seq_reintegrate.proofs.tests.others_serve.Given as goal

abbrev pub invariant-loop-at : goal.invariant-loop-at
invariant-loop-at l = (j : ℕ) → j < l.at → j ≢ l.m.0 → is_in_service ((copies l.layout l.memories).state j) ≡ true
