use Rattle.std.proofs.Common.{◌∙◌, ap}
use Rattle.seq_words.specs.declared.kinds.Element.TheVariants.{Memory}
use Rattle.seq_kernel.specs.declared.outcomes.Note.TheVariants.{Stopped}
use Rattle.seq_machine.specs.Checking.{answered}
use Rattle.seq_machine.proofs.Failing.{memory_failed}
use Rattle.seq_machine.proofs.hardware.Hardware.fail_memory.Goals as goal

pub returns-clause-happens : goal.returns-clause-happens
returns-clause-happens c o = memory_failed c.args.self.now c.requires.hardware o c.args.me.0 c.fail.new.memories c.fail.ensures.fails

pub returns-clause-answer : goal.returns-clause-answer
returns-clause-answer c o = c.answered.ensures ∙ ap (answered (Stopped (Memory c.args.me)) (Memory c.args.me)) (c.blocker-blocker.ensures o)
