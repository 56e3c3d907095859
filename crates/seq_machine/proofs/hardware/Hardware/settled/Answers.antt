use Rattle.std.proofs.Common.{sym, ◌∙◌}
use Rattle.std.proofs.lemmas.Bool.{false≢true}
use Rattle.seq_machine.specs.Plain.{machine_of}
use Rattle.seq_machine.specs.Starting.{no_outside}
use Rattle.seq_machine.proofs.Settleable.{settled_given}
use Rattle.seq_machine.proofs.hardware.Hardware.settled.Goals as goal
use Rattle.seq_machine.proofs.hardware.Hardware.settled.Goals.{then-all_calm, else-all_calm}

pub all_calm-requires-clause-readable : goal.all_calm-requires-clause-readable
all_calm-requires-clause-readable g c = settled_given c.args.self.now.desc (machine_of c.args.self.now no_outside) c.requires.hardware.described c.requires.fit

pub is_quiet-requires-clause-readable : goal.is_quiet-requires-clause-readable
is_quiet-requires-clause-readable g c = settled_given c.args.self.now.desc (machine_of c.args.self.now no_outside) c.requires.hardware.described c.requires.fit

pub all_sent-requires-clause-readable : goal.all_sent-requires-clause-readable
all_sent-requires-clause-readable g c = settled_given c.args.self.now.desc (machine_of c.args.self.now no_outside) c.requires.hardware.described c.requires.fit

pub returns-then-is_quiet : goal.returns-then-is_quiet
returns-then-is_quiet g c o is = elim c.if-all_calm.branch [
  | then-all_calm w ↦ (
    (λ sent. record { calm = (c.all_calm.ensures o).0 w.if-all_calm.true; quiet = (w.is_quiet.ensures o).0 (sym w.value-is ∙ c.if-is_quiet.true); sent = (c.all_sent.ensures o is).0 sent }),
    (λ settled. (c.all_sent.ensures o is).1 settled.sent),
  )
  | else-all_calm w ↦ absurd (false≢true (sym w.if-all_calm.false ∙ sym w.value-is ∙ c.if-is_quiet.true))
]

pub returns-else-is_quiet : goal.returns-else-is_quiet
returns-else-is_quiet g c o is = elim c.if-all_calm.branch [
  | then-all_calm w ↦ (
    (λ value. absurd (false≢true (sym c.if-is_quiet.false ∙ value))),
    (λ settled. w.value-is ∙ (w.is_quiet.ensures o).1 settled.quiet),
  )
  | else-all_calm w ↦ (
    (λ value. absurd (false≢true (sym c.if-is_quiet.false ∙ value))),
    (λ settled. absurd (false≢true (sym w.if-all_calm.false ∙ (c.all_calm.ensures o).1 settled.calm))),
  )
]
