use Rattle.seq_kernel_tests.proofs.CallMachines.{struck_aligned}
use Rattle.seq_kernel_tests.proofs.tests.struck.Goals as goal

pub returns : goal.returns
returns c = λ d processes segments quantum journal.
    let base = c.running-r.ensures.running d processes segments quantum journal in
    let bounds = base.within in
    record {
      within = record {
        process = bounds.process;
        aligned = rw c.strike.ensures (struck_aligned c.running-r.result.pair c.args.half c.args.reg 4 c.running-r.ensures.first c.running-r.ensures.second);
        held = bounds.held;
        positions = record { reads = bounds.positions.reads; writes = bounds.positions.writes };
        reads = bounds.reads;
        writes = bounds.writes;
        steps = bounds.steps;
        used = bounds.used;
      };
      live = base.live;
      left = base.left;
    }
