use Rattle.std.proofs.Common.{◌≡◌, ℕ, ◌<◌, false, length}
use Rattle.seq_shelf.specs.Outlets.{views, marks}
use Rattle.seq_turns.specs.Duties.{written}
use Rattle.seq_machine.specs.Plain.{Outside, IsOutside}
use Rattle.seq_machine.specs.Settling.{held_copies}
use Rattle.seq_machine.proofs.hardware.Hardware.all_sent.Given as goal

abbrev pub invariant-loop-l : goal.invariant-loop-l
invariant-loop-l g l = (o : Outside) → IsOutside (views (λ z. (goal.Line-dyn g z).line z.1) l.fn.lines.items) (marks l.fn.lines.items) o → (k : ℕ) → k < l.l → o.hung k ≡ false → length (o.sent k) ≡ written l.fn.self.desc (held_copies l.fn.self) k
