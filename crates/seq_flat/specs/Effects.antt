-- What a core's effect makes of the lists of the flat state. Every store that is inside fits.
use Rattle.std.specs.Prelude.{ℕ, List}
use Rattle.seq_isa.specs.Meaning.{Outcome, moves, call, trap}
use Rattle.seq_rv32.specs.declared.effects.Effect.{Effect}
use Rattle.seq_rv32.specs.declared.effects.Effect.TheVariants as effect
use Rattle.seq_flat.specs.declared.state.ProcessState.{ProcessState}
use Rattle.seq_flat.specs.declared.state.SegmentState.{SegmentState}
use Rattle.seq_flat.specs.declared.state.FlatState.{FlatState}
use Rattle.seq_flat.specs.Step.{process_moved, segments_next, moved}

-- the effect of an outcome
abbrev pub plain_effect : Outcome → Effect
plain_effect (moves wrote store next) = effect.Next wrote store next
plain_effect call = effect.Call
plain_effect (trap cause) = effect.Trap cause

-- the process, the segments and the whole state after an effect
abbrev pub process_after : ProcessState → Effect → ProcessState
process_after q (effect.Next wrote store next) = process_moved q wrote store next
process_after q effect.Call = q
process_after q (effect.Trap cause) = q
process_after q effect.Full = q

abbrev pub segments_after_effect : List SegmentState → Effect → List SegmentState
segments_after_effect segments (effect.Next wrote store next) = segments_next segments store
segments_after_effect segments effect.Call = segments
segments_after_effect segments (effect.Trap cause) = segments
segments_after_effect segments effect.Full = segments

abbrev pub state_after_effect : FlatState → ℕ → Effect → FlatState
state_after_effect f p (effect.Next wrote store next) = moved f p wrote store next
state_after_effect f p effect.Call = f
state_after_effect f p (effect.Trap cause) = f
state_after_effect f p effect.Full = f
