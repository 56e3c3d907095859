-- The flat address map. A process has its private bytes from address 0 on, and each segment s that it holds from address
-- 0x40000000 + 0x10000 * s on. Every other address is outside.
use Rattle.std.specs.Prelude.{ℕ, ◌+◌, ◌-◌, ◌*◌, ◌/◌, ◌%◌, ◌&&◌, if◌then◌else◌, nat_lt, Option, Some, None, length, count_ones}
use Rattle.seq_words.specs.Masks.{has_bit}
use Rattle.seq_words.specs.Description.{process_of, segment_of}
use Rattle.seq_words.specs.declared.description.MachineDesc.{MachineDesc}
use Rattle.seq_words.specs.declared.description.ProcessDesc.{ProcessDesc}
use Rattle.seq_layout.specs.declared.extents.Extent.{Extent}

-- the bytes of context and of outboxes that stand before the private bytes of a process
abbrev pub before_private : ProcessDesc → ℕ
before_private p = 256 + 256 * count_ones p.lines

-- the byte of a segment, for a process that holds it
abbrev pub mapped_shared : MachineDesc → ℕ → ℕ → ℕ → Option (Extent × ℕ)
mapped_shared d held s offset = if (nat_lt s (length d.segments) && has_bit held s) && nat_lt offset (segment_of d s).size then Some (record { 0 = length d.processes + s }, offset) else None

-- the extent of an address and the byte's number in it, for process p that holds these segments
unfoldable pub mapped : MachineDesc → ℕ → ℕ → ℕ → Option (Extent × ℕ)
mapped d p held a =
    if nat_lt a (process_of d p).size then Some (record { 0 = p }, before_private (process_of d p) + a)
    else if nat_lt a 0x40000000 then None
    else mapped_shared d held ((a - 0x40000000) / 0x10000) ((a - 0x40000000) % 0x10000)
