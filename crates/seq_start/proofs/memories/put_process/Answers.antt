use Rattle.std.proofs.lemmas.Option.{get_or_from_slice_get}
use Rattle.seq_words.specs.Description.{no_process}
use Rattle.seq_layout.specs.Copies.{copies}
use Rattle.seq_start.proofs.Begun.{process_put}
use Rattle.seq_start.proofs.memories.put_process.Goals as goal

pub returns-clause-holds : goal.returns-clause-holds
returns-clause-holds c =
    process_put c.args.desc.now c.args.layout.now (copies c.args.layout.now c.args.memories.now) (copies c.args.layout.now c.put_context.new.memories) (copies c.args.layout.now c.put_bytes.new.memories)
    c.args.pid.0 c.process-extent.result.0 c.at-process.result.now c.as_slice-bytes.result.now c.requires.described c.requires.process
    (get_or_from_slice_get c.args.desc.now.processes c.args.pid.0 c.at-process.result.now no_process c.at-process.ensures) c.process-extent.ensures c.as_slice-bytes.ensures
    c.put_context.ensures.holds c.put_bytes.ensures.holds c.requires.holds
