-- What directives say.
use Rattle.std.specs.Prelude.{ℕ, ◌^◌, ℤ, pos, negsuc, if◌then◌else◌, codes, Option, Some, None, List, [], ◌∷◌}
use Rattle.std.specs.Str.{bytes_eq}
use Rattle.seq_source.specs.declared.items.Item.TheVariants.{Word, Byte, Space, Align, Entry, Size}
use Rattle.seq_source.specs.declared.items.Said.{Said}
use Rattle.seq_source.specs.declared.items.Said.TheVariants.{BadOperands, OutOfRange, Says}
use Rattle.seq_source.specs.declared.directives.Directive.{Directive}
use Rattle.seq_source.specs.declared.directives.Directive.TheVariants as directives
use Rattle.seq_source.specs.Names.{is_label}
use Rattle.seq_source.specs.Numbers.{number_written, wrapped}
use Rattle.seq_source.specs.Operands.{operands_in}
use Rattle.seq_source.specs.Forms.{with_one, given, in_range, alone_said}

-- the directive that a word is
abbrev pub directive_named : List ℕ → Option Directive
directive_named word =
    if bytes_eq word (codes ".word") then Some directives.Word
    else if bytes_eq word (codes ".byte") then Some directives.Byte
    else if bytes_eq word (codes ".space") then Some directives.Space
    else if bytes_eq word (codes ".align") then Some directives.Align
    else if bytes_eq word (codes ".entry") then Some directives.Entry
    else if bytes_eq word (codes ".size") then Some directives.Size
    else None

-- the number of exactly one operand
abbrev pub number_in : List (List ℕ) → Option ℤ
number_in (v ∷ []) = number_written v
number_in _ = None

-- .word v
abbrev pub word_said : ℤ → Said
word_said z = in_range (wrapped (2 ^ 31) z) (λ n. Word n)

-- .byte v
abbrev pub byte_said : ℤ → Said
byte_said z = in_range (wrapped 128 z) (λ n. Byte n)

-- .space n
abbrev pub space_said : ℤ → Said
space_said (pos n) = Says (Space n)
space_said (negsuc n) = OutOfRange

-- .size n: whether it is a size is looked at when the whole source is read
abbrev pub size_said : ℤ → Said
size_said (pos n) = Says (Size n)
size_said (negsuc n) = Says (Size 0)

-- .entry LABEL
abbrev pub entry_said : List ℕ → Said
entry_said name = if is_label name then Says Entry else BadOperands

-- what a directive with these operands says
unfoldable pub directive_said : Directive → List ℕ → Said
directive_said directives.Word text = given (number_in (operands_in text)) word_said
directive_said directives.Byte text = given (number_in (operands_in text)) byte_said
directive_said directives.Space text = given (number_in (operands_in text)) space_said
directive_said directives.Align text = alone_said Align text
directive_said directives.Entry text = with_one entry_said (operands_in text)
directive_said directives.Size text = given (number_in (operands_in text)) size_said
