use Rattle.std.proofs.Common.{◌≡◌, ◌+◌, ◌≤◌, length, sym, ◌∙◌, subst, arith}
use Rattle.std.proofs.lemmas.Bool.{leb-true}
use Rattle.seq_layout.specs.Shapes.{Shape}
use Rattle.seq_layout.specs.Copies.{Copies, copies}
use Rattle.seq_recover.specs.declared.recovery.Copying.{Copying}
use Rattle.seq_recover.specs.declared.recovery.Locks.{Locks}
use Rattle.seq_recover.specs.declared.recovery.Recovery.{Recovery}
use Rattle.seq_recover.specs.Reading.{recovered_blocks}
use Rattle.seq_recover.specs.Turns.{into_stage}
use Rattle.seq_recover.specs.Stands.{AllServe, IsAreaEqual, CopyingKnows, LocksKnows}
use Rattle.seq_recover.proofs.Listed.{few_blocks}
use Rattle.seq_recover.proofs.Equal.{copying_knows, area_equal}
use Rattle.seq_recover.proofs.copying.Recovery+Copying.turn.Goals as goal

pub overflow_add-result : goal.overflow_add-result
overflow_add-result c = omega (arith, c.requires.needs.cursor, few_blocks c.args.desc.now c.requires.description)

pub returns-then-last-clause-locks : goal.returns-then-last-clause-locks
returns-then-last-clause-locks c r is serve knows =
    let d = c.args.desc.now in
    let p = copies c.args.layout.now c.args.memories.now in
    let serve' = subst (λ (s : Shape). AllServe s p) c.requires.layout serve in
    let blocks = recovered_blocks d p c.args.self.pid.0 in
    let done : length blocks ≤ c.args.self.cursor + 1 = leb-true _ _ (sym c.is_last-last.ensures ∙ c.if-last.true) in
    let same : ◌≡◌ {A = Recovery Locks} (into_stage c.args.self (record {})) r = cc in
    subst (λ (x : Recovery Locks). LocksKnows d (copies c.args.layout.now c.copy_next.new.memories) x) same
    (record {
      area = subst (λ (x : Copies). IsAreaEqual d x c.args.self.pid.0) (sym c.copy_next.ensures.copies) (area_equal d p c.args.self serve' knows done);
      behind = λ k lt. absurd (let none : ⊥ = omega (arith, lt) in none);
    })

pub returns-else-last-clause-copying : goal.returns-else-last-clause-copying
returns-else-last-clause-copying c r is serve knows =
    let d = c.args.desc.now in
    let p = copies c.args.layout.now c.args.memories.now in
    let serve' = subst (λ (s : Shape). AllServe s p) c.requires.layout serve in
    let same : ◌≡◌ {A = Recovery Copying} (record c.args.self { cursor = c.args.self.cursor + 1 }) r = cc in
    subst (λ (x : Recovery Copying). CopyingKnows d (copies c.args.layout.now c.copy_next.new.memories) x) same
    (subst (λ (x : Copies). CopyingKnows d x (record c.args.self { cursor = c.args.self.cursor + 1 })) (sym c.copy_next.ensures.copies) (copying_knows d p c.args.self serve' knows))
