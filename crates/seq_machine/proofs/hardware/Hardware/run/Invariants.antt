use Rattle.std.proofs.Common.{◌≡◌, ℕ, ◌+◌, length, drop}
use Rattle.seq_shelf.specs.Outlets.{views, marks}
use Rattle.seq_machine.specs.Plain.{Outside, IsOutside}
use Rattle.seq_machine.specs.Ready.{IsReady}
use Rattle.seq_machine.specs.Making.{MayMakeAll}
use Rattle.seq_machine.proofs.Making.{LeadsTo}
use Rattle.seq_machine.proofs.hardware.Hardware.run.Given as goal

abbrev pub invariant-loop-event : goal.invariant-loop-event
invariant-loop-event g l = record {
  ready : (n : ℕ) → IsReady n l.fn.self → IsReady (n + l.event-index) l.self;
  may : MayMakeAll (drop l.event-index l.events) l.self (views (λ z. (goal.Line-dyn g z).line z.1) l.lines.items) (marks l.lines.items);
  leads : (o : Outside) → IsOutside (views (λ z. (goal.Line-dyn g z).line z.1) l.fn.lines.items) (marks l.fn.lines.items) o → LeadsTo l.fn.self.desc (drop l.event-index l.events) l.events l.fn.self l.self (views (λ z. (goal.Line-dyn g z).line z.1) l.lines.items) (marks l.lines.items) o;
  hung : marks l.lines.items ≡ marks l.fn.lines.items;
  number : length l.lines.items ≡ length l.fn.lines.items;
  desc : l.self.desc ≡ l.fn.self.desc;
}
