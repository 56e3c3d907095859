-- What a line of a schedule says.
use Rattle.std.specs.Prelude.{ℕ, Bool, true, false, ◌==◌, if◌then◌else◌, codes, slice_index, Option, Some, None, List, [], ◌∷◌, drop, take}
use Rattle.std.specs.Option.{option_map}
use Rattle.std.specs.Str.{bytes_eq}
use Rattle.seq_words.specs.declared.names.Pe.{Pe}
use Rattle.seq_words.specs.declared.names.LineNo.{LineNo}
use Rattle.seq_words.specs.declared.half.Half.{Half}
use Rattle.seq_words.specs.declared.kinds.Element.{Element}
use Rattle.seq_words.specs.declared.kinds.Element.TheVariants as elements
use Rattle.seq_words.specs.declared.events.Event.TheVariants as events
use Rattle.seq_words.specs.Names.{element_named, half_named}
use Rattle.seq_schedule.specs.declared.script.Script.{Script}
use Rattle.seq_schedule.specs.declared.script.Script.TheVariants as scripts
use Rattle.seq_schedule.specs.declared.forms.Form.{Form}
use Rattle.seq_schedule.specs.declared.forms.Form.TheVariants as forms
use Rattle.seq_schedule.specs.declared.forms.Gate.{Gate}
use Rattle.seq_schedule.specs.declared.lines.Said.{Said}
use Rattle.seq_schedule.specs.declared.lines.Said.TheVariants.{Passed, Unbuilt, NoForm, Malformed, Says}
use Rattle.seq_schedule.specs.Limits.{most_times}
use Rattle.seq_schedule.specs.Forms.{form_named, is_taken}
use Rattle.seq_schedule.specs.Numbers.{number_within, line_named, mask_of, bytes_of}

-- a form with so many words behind its first
abbrev pub with_one : (List ℕ → Said) → List (List ℕ) → Said
with_one say (a ∷ []) = say a
with_one say _ = NoForm

abbrev pub with_two : (List ℕ → List ℕ → Said) → List (List ℕ) → Said
with_two say (a ∷ b ∷ []) = say a b
with_two say _ = NoForm

abbrev pub with_four : (List ℕ → List ℕ → List ℕ → List ℕ → Said) → List (List ℕ) → Said
with_four say (a ∷ b ∷ c ∷ d ∷ []) = say a b c d
with_four say _ = NoForm

-- a script, or none where a number, the digits or a mask are malformed
abbrev pub said_by : Option Script → Said
said_by None = Malformed
said_by (Some s) = Says s

-- turn E
abbrev pub turn_of : Option Element → Said
turn_of None = NoForm
turn_of (Some (elements.Processor p)) = Says (scripts.One (events.Processor p))
turn_of (Some (elements.Memory m)) = NoForm
turn_of (Some (elements.Io i)) = Says (scripts.One (events.Io i))

unfoldable pub turn_said : List ℕ → Said
turn_said e = turn_of (element_named e)

-- turns E n
abbrev pub turns_of : Option Element → Option ℕ → Said
turns_of None n = NoForm
turns_of (Some (elements.Processor p)) n = said_by (option_map (λ n. scripts.Turns (elements.Processor p) n) n)
turns_of (Some (elements.Memory m)) n = NoForm
turns_of (Some (elements.Io i)) n = said_by (option_map (λ n. scripts.Turns (elements.Io i) n) n)

unfoldable pub turns_said : List ℕ → List ℕ → Said
turns_said e n = turns_of (element_named e) (number_within 1 most_times n)

-- round n
unfoldable pub round_said : List ℕ → Said
round_said n = said_by (option_map (λ n. scripts.Rounds n) (number_within 1 most_times n))

-- finish n
unfoldable pub finish_said : List ℕ → Said
finish_said n = said_by (option_map (λ n. scripts.Finish n) (number_within 1 most_times n))

-- input l HEX
abbrev pub input_of : Option LineNo → Option (List ℕ) → Said
input_of None bytes = Malformed
input_of (Some l) None = Malformed
input_of (Some l) (Some bytes) = Says (scripts.Bytes l bytes)

unfoldable pub input_said : List ℕ → List ℕ → Said
input_said l hex = input_of (line_named l) (bytes_of hex)

-- close l
unfoldable pub close_said : List ℕ → Said
close_said l = said_by (option_map (λ l. scripts.One (events.Close l)) (line_named l))

-- hangup l
unfoldable pub hangup_said : List ℕ → Said
hangup_said l = said_by (option_map (λ l. scripts.One (events.Hangup l)) (line_named l))

-- fail E
abbrev pub fail_of : Option Element → Said
fail_of None = NoForm
fail_of (Some e) = Says (scripts.One (events.Fail e))

unfoldable pub fail_said : List ℕ → Said
fail_said e = fail_of (element_named e)

-- repair E
abbrev pub repair_of : Option Element → Said
repair_of None = NoForm
repair_of (Some e) = Says (scripts.One (events.Repair e))

unfoldable pub repair_said : List ℕ → Said
repair_said e = repair_of (element_named e)

-- upset pK H R 0xMASK
abbrev pub strike_of : Pe → Half → Option ℕ → Option ℕ → Said
strike_of p h None mask = Malformed
strike_of p h (Some r) None = Malformed
strike_of p h (Some r) (Some mask) = Says (scripts.One (events.Upset p h r mask))

abbrev pub upset_of : Option Element → Option Half → Option ℕ → Option ℕ → Said
upset_of None h r mask = NoForm
upset_of (Some (elements.Memory m)) h r mask = NoForm
upset_of (Some (elements.Io i)) h r mask = NoForm
upset_of (Some (elements.Processor p)) None r mask = NoForm
upset_of (Some (elements.Processor p)) (Some h) r mask = strike_of p h r mask

unfoldable pub upset_said : List ℕ → List ℕ → List ℕ → List ℕ → Said
upset_said p h r mask =
    if bytes_eq (take 2 mask) (codes "0x")
    then upset_of (element_named p) (half_named h) (number_within 1 32 r) (mask_of (drop 2 mask)) else NoForm

-- what the words behind the first say in a line of this form
unfoldable pub form_said : Form → List (List ℕ) → Said
form_said forms.Turn words = with_one turn_said words
form_said forms.Turns words = with_two turns_said words
form_said forms.Round words = with_one round_said words
form_said forms.Finish words = with_one finish_said words
form_said forms.Input words = with_two input_said words
form_said forms.Close words = with_one close_said words
form_said forms.Fail words = with_one fail_said words
form_said forms.Repair words = with_one repair_said words
form_said forms.Upset words = with_four upset_said words
form_said forms.Hangup words = with_one hangup_said words

-- the same where the form is taken
abbrev pub taken_said : Gate → Option Form → List (List ℕ) → Said
taken_said gate None words = NoForm
taken_said gate (Some form) words = if is_taken gate form then form_said form words else Unbuilt

-- A line is passed over where it has no word, or its first word begins with `#`.
unfoldable pub said : Gate → List (List ℕ) → Said
said gate [] = Passed
said gate (key ∷ words) = if slice_index key 0 == 35 then Passed else taken_said gate (form_named key) words

-- the bytes of an input are said
abbrev pub says_bytes : Said → Bool
says_bytes (Says (scripts.Bytes l bytes)) = true
says_bytes _ = false
