-- The names of elements and halves in texts.
use Rattle.std.specs.Prelude.{ℕ, ◌+◌, ◌-◌, Bool, ◌&&◌, ◌==◌, nat_le, nat_lt, if◌then◌else◌, codes, slice_index, Option, Some, None, List, length}
use Rattle.std.specs.Str.{bytes_eq}
use Rattle.seq_words.specs.declared.half.Half.{Half}
use Rattle.seq_words.specs.declared.half.Half.TheVariants.{A, B}
use Rattle.seq_words.specs.declared.kinds.Element.{Element}
use Rattle.seq_words.specs.declared.kinds.Element.TheVariants.{Processor, Memory, Io}

-- the digit of a number below so many
abbrev pub is_digit_below : ℕ → ℕ → Bool
is_digit_below most digit = nat_le 48 digit && nat_lt digit (48 + most)

-- a letter for the kind, and the digit of the number: processors and memories have numbers below 8, I/O elements below 4
abbrev pub element_with : ℕ → ℕ → Option Element
element_with kind digit =
    if kind == 112 && is_digit_below 8 digit then Some (Processor (record { 0 = digit - 48 }))
    else if kind == 109 && is_digit_below 8 digit then Some (Memory (record { 0 = digit - 48 }))
    else if kind == 105 && is_digit_below 4 digit then Some (Io (record { 0 = digit - 48 }))
    else None

-- the element that a word names: p0 to p7, m0 to m7, i0 to i3
unfoldable pub element_named : List ℕ → Option Element
element_named word = if length word == 2 then element_with (slice_index word 0) (slice_index word 1) else None

-- an element that has a name
abbrev pub has_name : Element → Bool
has_name (Processor p) = nat_lt p.0 8
has_name (Memory m) = nat_lt m.0 8
has_name (Io i) = nat_lt i.0 4

-- the half that a word names
abbrev pub half_named : List ℕ → Option Half
half_named word =
    if bytes_eq word (codes "a") then Some A
    else if bytes_eq word (codes "b") then Some B
    else None
