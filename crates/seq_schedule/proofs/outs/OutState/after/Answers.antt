use Rattle.std.proofs.Common.{arith}
use Rattle.seq_schedule.proofs.OutStates.{IsSmall, advanced, settled_keeps}
use Rattle.seq_schedule.proofs.outs.OutState.after.Goals as goal

pub returns : goal.returns
returns c d events keeps =
    let small : IsSmall d = record {
      processors = omega (arith, c.args.self.now.few_processors, keeps.processors);
      memories = omega (arith, c.args.self.now.few_memories, keeps.memories);
      ios = omega (arith, c.args.self.now.few_ios, keeps.ios);
    } in
    settled_keeps d small c.advance.new.self c.settle.new.self c.args.event.now events
    (advanced d small c.args.self.now c.advance.new.self c.args.event.now events keeps c.advance.ensures) c.settle.ensures
