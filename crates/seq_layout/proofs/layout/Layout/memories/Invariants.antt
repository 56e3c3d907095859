use Rattle.std.proofs.Common.{◌≡◌, ℕ, ◌<◌, length, get_or}
use Rattle.seq_layout.specs.Copies.{no_element, fresh_element}
use Rattle.seq_layout.proofs.layout.Layout.memories.Given as goal

abbrev pub invariant-loop-memory : goal.invariant-loop-memory
invariant-loop-memory l = record {
  count : length l.elements ≡ l.memory;
  each : (i : ℕ) → i < l.memory → get_or l.elements i no_element ≡ fresh_element l.self i;
}
