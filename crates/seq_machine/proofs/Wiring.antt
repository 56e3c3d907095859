-- Lines of the hardware have owners and ports.
use Rattle.std.proofs.Common.{◌≡◌, ℕ, ◌<◌, Some, length, slice_get, arith, sym, subst}
use Rattle.std.proofs.lemmas.List.FromFn.{length-map-range_with_len}
use Rattle.std.proofs.lemmas.Option.{get_or_from_slice_get}
use Rattle.seq_words.specs.Description.{line_count}
use Rattle.seq_words.specs.declared.names.Pid.{Pid}
use Rattle.seq_layout.specs.Shapes.{Shape, shape_of, owner_from, Owns}
use Rattle.seq_layout.proofs.Owners.{entry_owns}
use Rattle.seq_turns.specs.Duties.{owner}
use Rattle.seq_machine.specs.declared.hardware.Hardware.{Hardware}
use Rattle.seq_machine.specs.Plain.{IsHardware}

pub has_owner : (h : Hardware) (l : ℕ) → IsHardware h → l < line_count h.desc → l < length h.layout.owners
has_owner h l is below = subst (λ (s : Shape). l < length s.owners) (sym is.layout) (let n = length-map-range_with_len (owner_from 0 h.desc.processes) 0 (line_count h.desc) in omega (arith, n, below))

pub owner_found : (h : Hardware) (l : ℕ) (found : Pid × ℕ) → IsHardware h → slice_get h.layout.owners l ≡ Some found → found ≡ owner h.desc l
owner_found h l found is e = sym (get_or_from_slice_get (shape_of h.desc).owners l found (record { 0 = 0 }, 0) (subst (λ (s : Shape). slice_get s.owners l ≡ Some found) is.layout e))

pub found_owns : (h : Hardware) (l : ℕ) (found : Pid × ℕ) → IsHardware h → slice_get h.layout.owners l ≡ Some found → Owns h.desc l found.0.0 found.1
found_owns h l found is e = entry_owns h.desc l found is.described (subst (λ (s : Shape). slice_get s.owners l ≡ Some found) is.layout e)
