-- Where a line is cut: into its label, a word, the operands and a comment.
use Rattle.std.specs.Prelude.{ℕ, ◌-◌, Bool, not, ◌&&◌, ◌==◌, nat_lt, if◌then◌else◌, Option, Some, None, List, length, take, drop}
use Rattle.std.specs.List.{position_or_len, suffix_len, before_first, after_first}
use Rattle.seq_text.specs.Words.{is_blank}
use Rattle.seq_source.specs.Names.{is_label}

-- what is left without the blanks at the beginning
abbrev pub without_front : List ℕ → List ℕ
without_front line = drop (position_or_len (λ byte. not (is_blank byte)) line) line

-- what is left without the blanks at the end
abbrev pub without_back : List ℕ → List ℕ
without_back line = take (length line - suffix_len (λ byte. is_blank byte) line) line

-- what stands before the comment, which begins with the first `#`, without the blanks at both ends
unfoldable pub said_of : List ℕ → List ℕ
said_of line = without_back (without_front (before_first (λ byte. byte == 35) line))

-- a label stands before the first colon
abbrev pub has_label : List ℕ → Bool
has_label said = nat_lt (position_or_len (λ byte. byte == 58) said) (length said) && is_label (before_first (λ byte. byte == 58) said)

-- the label of a line, if there is one
unfoldable pub label_in : List ℕ → Option (List ℕ)
label_in said = if has_label said then Some (before_first (λ byte. byte == 58) said) else None

-- what stands behind the label
unfoldable pub behind_label : List ℕ → List ℕ
behind_label said = if has_label said then without_front (after_first (λ byte. byte == 58) said) else said

-- the word of an instruction or directive: what stands before the first blank; it is empty where the line has none
unfoldable pub word_in : List ℕ → List ℕ
word_in rest = before_first (λ byte. is_blank byte) rest

-- what follows the word and at least one blank
unfoldable pub tail_in : List ℕ → List ℕ
tail_in rest = without_front (drop (position_or_len (λ byte. is_blank byte) rest) rest)

-- the same of a whole line
abbrev pub label_of : List ℕ → Option (List ℕ)
label_of line = label_in (said_of line)

abbrev pub word_of : List ℕ → List ℕ
word_of line = word_in (behind_label (said_of line))

abbrev pub tail_of : List ℕ → List ℕ
tail_of line = tail_in (behind_label (said_of line))
