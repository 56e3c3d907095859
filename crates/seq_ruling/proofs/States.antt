-- The state of a memory's element.
use Rattle.std.proofs.Common.{◌≡◌, ℕ, slice_get, Some, ap, sym}
use Rattle.std.proofs.lemmas.Option.{get_or_from_slice_get}
use Rattle.seq_memory.specs.declared.element.MemoryElement.{MemoryElement}
use Rattle.seq_memory.specs.declared.element.Memories.{Memories}
use Rattle.seq_layout.specs.Shapes.{Shape}
use Rattle.seq_layout.specs.Copies.{no_element, copies}

pub state_is : (s : Shape) (m : Memories) (k : ℕ) (element : MemoryElement) → slice_get m.elements k ≡ Some element → (copies s m).state k ≡ element.state
unfolding copies
state_is s m k element found = ap (λ (x : MemoryElement). x.state) (get_or_from_slice_get m.elements k element no_element found)
