use Rattle.std.proofs.Common.{◌≡◌, subst, sym}
use Rattle.seq_layout.specs.Shapes.{Shape}
use Rattle.seq_layout.specs.Copies.{Copies, copies}
use Rattle.seq_recover.specs.declared.recovery.Closing.{Closing}
use Rattle.seq_recover.specs.declared.recovery.Recovery.{Recovery}
use Rattle.seq_recover.specs.Stands.{AllServe, ClosingKnows, RecoveredKnows}
use Rattle.seq_recover.proofs.Cleared.{closing_knows, recovered_knows}
use Rattle.seq_recover.proofs.closing.Recovery+Closing.turn.Goals as goal

pub returns-then-self-eq0-clause-closing : goal.returns-then-self-eq0-clause-closing
returns-then-self-eq0-clause-closing c r is serve knows =
    let d = c.args.desc.now in
    let p = copies c.args.layout.now c.args.memories.now in
    let serve' = subst (λ (s : Shape). AllServe s p) c.requires.layout serve in
    let same : ◌≡◌ {A = Recovery Closing} (record c.args.self { cursor = 1 }) r = cc in
    subst (λ (x : Recovery Closing). ClosingKnows d (copies c.args.layout.now c.write_status.new.memories) x) same
    (subst (λ (x : Copies). ClosingKnows d x (record c.args.self { cursor = 1 })) (sym c.write_status.ensures.copies) (closing_knows d p c.args.self serve' knows))

pub returns-else-self-eq0-clause-recovered : goal.returns-else-self-eq0-clause-recovered
returns-else-self-eq0-clause-recovered c r is serve knows =
    let d = c.args.desc.now in
    let p = copies c.args.layout.now c.args.memories.now in
    let serve' = subst (λ (s : Shape). AllServe s p) c.requires.layout serve in
    subst (λ (x : Copies). RecoveredKnows d x c.args.self.pid.0) (sym c.write_status-else-self-eq0.ensures.copies) (recovered_knows d p c.args.self serve' knows c.if-self-eq0.false)
