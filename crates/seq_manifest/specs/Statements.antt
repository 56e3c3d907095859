-- What a line of a description says.
use Rattle.std.specs.Prelude.{ℕ, Bool, true, ◌&&◌, ◌==◌, nat_le, if◌then◌else◌, codes, slice_index, Option, Some, None, List, [], ◌∷◌, length}
use Rattle.std.specs.List.{slice_split}
use Rattle.std.specs.Option.{option_map}
use Rattle.std.specs.Str.{bytes_eq, is_utf8}
use Rattle.seq_text.specs.Numbers.{number_of}
use Rattle.seq_manifest.specs.declared.heading.Heading.{Heading}
use Rattle.seq_manifest.specs.declared.heading.Heading.TheVariants.{Version, Processors, Memories, Ios, Cache, Quantum, Journal}

-- A line that isn't passed over says one of these: one of the seven first lines, with its number; a segment, with its
-- size and the name of its file, which is empty for none; a process, with the name of its file, its lines and its
-- segments.
pub data Statement : Type 0 where
  heading : Heading → ℕ → Statement
  segment : ℕ → List ℕ → Statement
  process : List ℕ → List ℕ → List ℕ → Statement

-- a line without words, or whose first word begins with `#`
abbrev pub is_passed_over : List (List ℕ) → Bool
is_passed_over [] = true
is_passed_over (word ∷ words) = slice_index word 0 == 35

-- the first line that begins with this word
abbrev pub heading_named : List ℕ → Option Heading
heading_named word =
    if bytes_eq word (codes "sequoia") then Some Version
    else if bytes_eq word (codes "processors") then Some Processors
    else if bytes_eq word (codes "memories") then Some Memories
    else if bytes_eq word (codes "ios") then Some Ios
    else if bytes_eq word (codes "cache") then Some Cache
    else if bytes_eq word (codes "quantum") then Some Quantum
    else if bytes_eq word (codes "journal") then Some Journal
    else None

-- the name of a file: 1 to 255 bytes of UTF-8
abbrev pub is_file : List ℕ → Bool
is_file word = nat_le 1 (length word) && nat_le (length word) 255 && is_utf8 word

-- words that are all numbers
abbrev pub cons_number : Option ℕ → Option (List ℕ) → Option (List ℕ)
cons_number (Some n) (Some ns) = Some (n ∷ ns)
cons_number (Some n) None = None
cons_number None ns = None

abbrev pub numbers_of : List (List ℕ) → Option (List ℕ)
numbers_of [] = Some []
numbers_of (word ∷ words) = cons_number (number_of word) (numbers_of words)

-- a list: `-` for none, or numbers between commas
unfoldable pub list_of : List ℕ → Option (List ℕ)
list_of word = if bytes_eq word (codes "-") then Some [] else numbers_of (slice_split (λ byte. byte == 44) word)

-- WORD NUMBER
abbrev pub heading_said : Option Heading → Option ℕ → Option Statement
heading_said (Some h) (Some n) = Some (heading h n)
heading_said (Some h) None = None
heading_said None n = None

unfoldable pub first_line_said : List ℕ → List ℕ → List (List ℕ) → Option Statement
first_line_said key number [] = heading_said (heading_named key) (number_of number)
first_line_said key number (word ∷ words) = None

-- segment SIZE [FILE]
unfoldable pub segment_said : List ℕ → List (List ℕ) → Option Statement
segment_said size [] = option_map (λ n. segment n []) (number_of size)
segment_said size (file ∷ []) = if is_file file then option_map (λ n. segment n file) (number_of size) else None
segment_said size (file ∷ word ∷ words) = None

-- process FILE lines LIST segments LIST
abbrev pub lists_said : List ℕ → Option (List ℕ) → Option (List ℕ) → Option Statement
lists_said file (Some lines) (Some segments) = Some (process file lines segments)
lists_said file (Some lines) None = None
lists_said file None segments = None

unfoldable pub process_said : List ℕ → List (List ℕ) → Option Statement
process_said file (first ∷ lines ∷ second ∷ segments ∷ []) =
    if is_file file && bytes_eq first (codes "lines") && bytes_eq second (codes "segments")
    then lists_said file (list_of lines) (list_of segments) else None
process_said file _ = None

-- what a line with these words says, if it is one of the forms
unfoldable pub said : List (List ℕ) → Option Statement
said (key ∷ word ∷ words) =
    if bytes_eq key (codes "process") then process_said word words
    else if bytes_eq key (codes "segment") then segment_said word words
    else first_line_said key word words
said _ = None
