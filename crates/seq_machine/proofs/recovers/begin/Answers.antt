use Rattle.std.proofs.Common.{◌≡◌, ap, ◌∙◌}
use Rattle.seq_layout.specs.Shapes.{Shape}
use Rattle.seq_layout.specs.Copies.{copies}
use Rattle.seq_cache.specs.Changes.{Changes}
use Rattle.seq_ruling.specs.Ruling as ruling_word
use Rattle.seq_recover.specs.declared.recovery.Claimed.{Claimed}
use Rattle.seq_recover.specs.declared.recovery.Recovery.{Recovery}
use Rattle.seq_turns.specs.Machines.{copies_after}
use Rattle.seq_turns.specs.Reading.{ruling, goes_forward}
use Rattle.seq_turns.specs.Recoveries.{begins, claimed_move}
use Rattle.seq_machine.specs.Here.{here}
use Rattle.seq_machine.proofs.Recovering.{claimed_row}
use Rattle.seq_machine.proofs.recovers.begin.Goals as goal

pub turn-requires-clause-needs : goal.turn-requires-clause-needs
turn-requires-clause-needs c = rw c.start-recovery.ensures (record { process = c.requires.process; incarnation = c.requires.incarnation })

pub returns-clause-row : goal.returns-clause-row
returns-clause-row c =
    let p = copies c.args.layout.now c.args.memories.now in
    let d = c.args.desc.now in
    let i = c.args.incarnation in
    let forward : c.goes_forward-forward.result ≡ goes_forward (ruling d p c.args.pid.0) =
    c.goes_forward-forward.ensures ∙ ap goes_forward (c.ruling.ensures.status ∙ ap (λ (s : Shape). ruling_word.ruling s p c.args.pid.0) c.requires.layout) in
    let is : (cache : Changes) → c.start-recovery.result ≡ begins (here p cache i) c.args.pe.0 c.args.pid.0 (goes_forward (ruling d p c.args.pid.0)) =
    λ cache. c.start-recovery.ensures ∙ ap (begins (here p cache i) c.args.pe.0 c.args.pid.0) forward in
    let row = claimed_row d p (copies c.args.layout.now c.turn.new.memories) c.after_claimed.result c.start-recovery.result c.turn.result c.turn.ensures.copies c.turn.ensures.step c.after_claimed.ensures in
    record {
      hands = λ m k. row.hands (here p (m.cache k) i) c.args.pe.0 ∙ ap (λ (r : Recovery Claimed). (claimed_move d (here p (m.cache k) i) c.args.pe.0 r).hand) (is (m.cache k));
      copies = λ m k. row.copies (here p (m.cache k) i) c.args.pe.0 ∙ ap (λ (r : Recovery Claimed). copies_after (claimed_move d (here p (m.cache k) i) c.args.pe.0 r).change p) (is (m.cache k));
    }
