-- The states of memory elements.
use Rattle.std.specs.Prelude.{ℕ, Bool, true, false, replicate}
use Rattle.seq_words.specs.Blocks.{zero_block}
use Rattle.seq_memory.specs.declared.element.State.{State}
use Rattle.seq_memory.specs.declared.element.State.TheVariants.{InService, Down, Stale, Copying}
use Rattle.seq_memory.specs.declared.element.MemoryElement.{MemoryElement}

abbrev pub is_in_service : State → Bool
is_in_service InService = true
is_in_service Down = false
is_in_service Stale = false
is_in_service (Copying next) = false

-- it is repaired, and not in service yet: what it lost is being copied back
abbrev pub is_returning : State → Bool
is_returning InService = false
is_returning Down = false
is_returning Stale = true
is_returning (Copying next) = true

-- an element with so many blocks and words, all zero
abbrev pub empty_element : State → ℕ → ℕ → MemoryElement
empty_element state blocks words = record { state = state; blocks = replicate blocks zero_block; words = replicate words 0 }
