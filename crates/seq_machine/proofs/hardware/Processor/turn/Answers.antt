use Rattle.std.proofs.Common.{sym, ap}
use Rattle.std.specs.Prelude.{slice_index}
use Rattle.seq_layout.specs.Copies.{copies}
use Rattle.seq_turns.specs.Processors.{deserted}
use Rattle.seq_machine.specs.Here.{here, among}
use Rattle.seq_machine.specs.Processors.{hand_left}
use Rattle.seq_machine.proofs.Recovering.{seeks_cache}
use Rattle.seq_machine.proofs.Tied.{runs_cursor}
use Rattle.seq_machine.proofs.hardware.Processor.turn.Goals as goal

pub returns-in-Seek-clause-processor : goal.returns-in-Seek-clause-processor
returns-in-Seek-clause-processor c =
    let d = c.args.desc.now in
    let cache = c.args.self.now.cache in
    let m = among (copies c.args.layout.now c.args.memories.now) cache (slice_index c.args.incarnations.now) c.args.cursor.now in
    rw c.in-Seek.is (λ j. record { hand = ap hand_left (c.seek.ensures.turned cache) j; cache = sym (seeks_cache d m c.args.pe.0 (deserted d m)) j })

pub returns-in-Running-clause-cursor : goal.returns-in-Running-clause-cursor
returns-in-Running-clause-cursor c =
    let m = here (copies c.args.layout.now c.args.memories.now) c.args.self.now.cache (slice_index c.args.incarnations.now c.args.pe.0) in
    rw c.in-Running.is (sym (runs_cursor c.args.desc.now m c.args.pe.0 c.args.cursor.now c.in-Running.field-0))
