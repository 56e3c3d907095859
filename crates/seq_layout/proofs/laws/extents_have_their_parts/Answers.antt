use Rattle.seq_layout.proofs.Sizes.{process_has_context}
use Rattle.seq_layout.proofs.laws.extents_have_their_parts.Goals as goal

pub returns-clause-context : goal.returns-clause-context
returns-clause-context c = process_has_context
