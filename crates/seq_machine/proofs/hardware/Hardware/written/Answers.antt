use Rattle.std.proofs.Common.{ℕ, ◌∙◌, ap}
use Rattle.std.specs.Prelude.{slice_index}
use Rattle.seq_words.specs.declared.names.Pid.{Pid}
use Rattle.seq_layout.specs.declared.context.Context.{Context}
use Rattle.seq_turns.specs.Reading.{context_of}
use Rattle.seq_machine.specs.Settling.{held_copies}
use Rattle.seq_machine.proofs.Wiring.{has_owner, owner_found, found_owns}
use Rattle.seq_machine.proofs.hardware.Hardware.written.Goals as goal

pub owner-index-requires : goal.owner-index-requires
owner-index-requires c = has_owner c.args.self.now c.args.line.0 c.requires.hardware c.requires.line

pub context-requires-clause-process : goal.context-requires-clause-process
context-requires-clause-process c = (found_owns c.args.self.now c.args.line.0 c.owner-index.result c.requires.hardware c.owner-index.ensures).process

pub bounds-context-index : goal.bounds-context-index
bounds-context-index c = (found_owns c.args.self.now c.args.line.0 c.owner-index.result c.requires.hardware c.owner-index.ensures).few

pub returns : goal.returns
returns c =
    let h = c.args.self.now in
    ap (λ (x : Context). slice_index x.writes c.owner-index.result.1) c.context.ensures.same
    ∙ ap (λ (o : Pid × ℕ). slice_index (context_of h.desc (held_copies h) o.0.0).writes o.1) (owner_found h c.args.line.0 c.owner-index.result c.requires.hardware c.owner-index.ensures)
