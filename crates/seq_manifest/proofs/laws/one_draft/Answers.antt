use Rattle.seq_manifest.proofs.Exists.{exists}
use Rattle.seq_manifest.proofs.Faultless.{no_fault}
use Rattle.seq_manifest.proofs.Unique.{one}
use Rattle.seq_manifest.proofs.laws.one_draft.Goals as goal

pub returns-clause-some : goal.returns-clause-some
returns-clause-some c = λ text e. exists text e

pub returns-clause-none : goal.returns-clause-none
returns-clause-none c = λ text d h. no_fault text d h

pub returns-clause-one : goal.returns-clause-one
returns-clause-one c = λ text d e h k. one text d e h k
