use Rattle.std.proofs.lemmas.Option.{get_or_from_slice_get}
use Rattle.seq_flat.specs.State.{no_process}
use Rattle.seq_flat.proofs.PlainEffects.{put_together}
use Rattle.seq_flat.proofs.state.FlatState.execute.Goals as goal

pub returns-clause-state : goal.returns-clause-state
returns-clause-state c =
    let same = get_or_from_slice_get c.args.self.now.processes c.args.pid.0 c.at_mut-process.result.now no_process c.at_mut-process.ensures.value in
    put_together c.args.self.now c.args.pid.0 c.at_mut-process.result.now c.execute.new.process c.execute.new.segments c.execute.result same c.execute.ensures.process c.execute.ensures.segments
