-- What a line's word and operands say.
use Rattle.std.specs.Prelude.{ℕ, ◌<◌, ◌==◌, if◌then◌else◌, Option, Some, None, List, length}
use Rattle.std.specs.List.{after_last}
use Rattle.seq_isa.specs.InRange.{InRange}
use Rattle.seq_mnemonics.specs.declared.names.Mnemonic.{Mnemonic}
use Rattle.seq_mnemonics.specs.Names.{mnemonic_of}
use Rattle.seq_mnemonics.specs.Statements.{instruction_of}
use Rattle.seq_source.specs.declared.items.Item.TheVariants.{Instruction, Branch, Jump}
use Rattle.seq_source.specs.declared.items.Said.{Said}
use Rattle.seq_source.specs.declared.items.Said.TheVariants.{Nothing, UnknownWord, Says}
use Rattle.seq_source.specs.declared.directives.Directive.{Directive}
use Rattle.seq_source.specs.Cuts.{without_front}
use Rattle.seq_source.specs.Directives.{directive_named, directive_said}
use Rattle.seq_source.specs.Instructions.{instruction_said}

-- what a word of this name says: an instruction, a directive, or nothing that is known
abbrev pub said_as : Option Mnemonic → Option Directive → List ℕ → Said
said_as (Some name) directive text = instruction_said name text
said_as None (Some directive) text = directive_said directive text
said_as None None text = UnknownWord

-- what a word with these operands says
unfoldable pub said : List ℕ → List ℕ → Said
said word text = if length word == 0 then Nothing else said_as (mnemonic_of word) (directive_named word) text

-- the last operand, which is a label where the line is a branch or `jal` to a label, or an `.entry`
unfoldable pub last_operand : List ℕ → List ℕ
last_operand text = without_front (after_last (λ byte. byte == 44) text)

-- what is said has a word: its registers, and its other operands as far as they are read, are in their ranges
abbrev pub HasWord : Said → Type 0
HasWord (Says (Instruction s)) = InRange (instruction_of s)
HasWord (Says (Branch name rs1 rs2)) = (rs1 < 32) × (rs2 < 32)
HasWord (Says (Jump rd)) = rd < 32
HasWord _ = Unit {0}
