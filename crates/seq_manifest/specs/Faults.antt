-- The first rule that a text violates, with its line from 1.
use Rattle.std.specs.Prelude.{ℕ, zero, suc, ◌+◌, ◌%◌, Bool, true, false, not, ◌&&◌, ◌||◌, ◌==◌, nat_lt, nat_le, if◌then◌else◌, List, [], ◌∷◌, ◌++◌, length, Option, Some, None, count_by}
use Rattle.std.specs.List.{list_any}
use Rattle.seq_text.specs.Lines.{lines_of}
use Rattle.seq_text.specs.Words.{words_of}
use Rattle.seq_manifest.specs.declared.heading.Heading.{Heading}
use Rattle.seq_manifest.specs.declared.heading.Heading.TheVariants.{Version, Processors, Memories, Ios, Cache, Quantum, Journal}
use Rattle.seq_manifest.specs.Statements.{Statement, heading, segment, process, is_passed_over, said}

abbrev pub is_segment : Statement → Bool
is_segment (heading h n) = false
is_segment (segment size file) = true
is_segment (process file lines segments) = false

abbrev pub is_process : Statement → Bool
is_process (heading h n) = false
is_process (segment size file) = false
is_process (process file lines segments) = true

abbrev pub is_in : List ℕ → ℕ → Bool
is_in ns n = list_any (λ m. m == n) ns

abbrev pub owns : ℕ → Statement → Bool
owns l (heading h n) = false
owns l (segment size file) = false
owns l (process file lines segments) = is_in lines l

-- some process of these owns line l
unfoldable pub is_owned : List Statement → ℕ → Bool
is_owned before l = list_any (owns l) before

-- how many of the first lines stand before this one
abbrev pub place_of : Heading → ℕ
place_of Version = 0
place_of Processors = 1
place_of Memories = 2
place_of Ios = 3
place_of Cache = 4
place_of Quantum = 5
place_of Journal = 6

-- rule 11: behind these statements this one stands out of order, or is one too many
unfoldable pub is_misplaced : List Statement → Statement → Bool
is_misplaced before (heading h n) = not (length before == place_of h)
is_misplaced before (segment size file) = nat_lt (length before) 7 || list_any is_process before || nat_le 16 (count_by is_segment before)
is_misplaced before (process file lines segments) = nat_lt (length before) 7 || nat_le 16 (count_by is_process before)

-- from the first number to the second, both included, and a multiple of the third
abbrev pub is_within : ℕ → ℕ → ℕ → ℕ → Bool
is_within least most unit n = nat_le least n && nat_le n most && (n % unit == 0)

abbrev pub is_allowed : Heading → ℕ → Bool
is_allowed Version n = is_within 1 1 1 n
is_allowed Processors n = is_within 1 8 1 n
is_allowed Memories n = is_within 2 8 1 n
is_allowed Ios n = is_within 1 4 1 n
is_allowed Cache n = is_within 16 256 1 n
is_allowed Quantum n = is_within 1 10000 1 n
is_allowed Journal n = is_within 32 65536 32 n

-- rule 12: a number is out of its limits
unfoldable pub is_out_of_limits : Statement → Bool
is_out_of_limits (heading h n) = not (is_allowed h n)
is_out_of_limits (segment size file) = not (is_within 32 16384 32 size)
is_out_of_limits (process file lines segments) = false

-- each number is below the next
abbrev pub is_ascending : List ℕ → Bool
is_ascending [] = true
is_ascending (m ∷ []) = true
is_ascending (m ∷ n ∷ ns) = nat_lt m n && is_ascending (n ∷ ns)

-- rule 13: a list doesn't ascend, there are more than four lines, or a line is owned already
unfoldable pub is_badly_listed : List Statement → Statement → Bool
is_badly_listed before (heading h n) = false
is_badly_listed before (segment size file) = false
is_badly_listed before (process file lines segments) =
    not (is_ascending lines) || not (is_ascending segments) || nat_lt 4 (length lines) || list_any (is_owned before) lines

-- rule 14: a segment isn't there, or a line is above 15
unfoldable pub is_absent : List Statement → Statement → Bool
is_absent before (heading h n) = false
is_absent before (segment size file) = false
is_absent before (process file lines segments) =
    list_any (λ s. nat_le (count_by is_segment before) s) segments || list_any (λ l. nat_le 16 l) lines

-- the least rule that a line violates behind these statements
abbrev pub rule_of : List Statement → Option Statement → Option ℕ
rule_of before None = Some 10
rule_of before (Some s) =
    if is_misplaced before s then Some 11
    else if is_out_of_limits s then Some 12
    else if is_badly_listed before s then Some 13
    else if is_absent before s then Some 14
    else None

abbrev pub line_rule : List Statement → List (List ℕ) → Option ℕ
line_rule before words = if is_passed_over words then None else rule_of before (said words)

-- the statements up to this line
abbrev pub with_said : List Statement → Option Statement → List Statement
with_said before None = before
with_said before (Some s) = before ++ s ∷ []

abbrev pub with_line : List Statement → List (List ℕ) → List Statement
with_line before words = if is_passed_over words then before else with_said before (said words)

-- some number below n passes the test
unfoldable pub some_below : ℕ → (ℕ → Bool) → Bool
some_below zero test = false
some_below (suc n) test = some_below n test || test n

-- some line has no owner, and one above it has one
unfoldable pub has_gap : List Statement → Bool
has_gap before = some_below 16 (λ l. not (is_owned before l) && some_below 16 (λ above. nat_lt l above && is_owned before above))

-- Rules at the end of the text. Rule 11: it ends before a process. Rule 15: a line below the greatest has no owner.
abbrev pub end_rule : List Statement → Option ℕ
end_rule before = if not (list_any is_process before) then Some 11 else if has_gap before then Some 15 else None

-- a violated rule at this place, or else what comes later
abbrev pub fault_or : ℕ → Option ℕ → Option (ℕ × ℕ) → Option (ℕ × ℕ)
fault_or place (Some rule) later = Some (place, rule)
fault_or place None later = later

-- the first violated rule of the lines from this place on, with its place
unfoldable pub fault_from : ℕ → List Statement → List (List ℕ) → Option (ℕ × ℕ)
fault_from place before [] = fault_or place (end_rule before) None
fault_from place before (line ∷ lines) =
    fault_or place (line_rule before (words_of line)) (fault_from (place + 1) (with_line before (words_of line)) lines)

-- the first violated rule of a text, with its place
abbrev pub first_fault : List ℕ → Option (ℕ × ℕ)
first_fault text = fault_from 1 [] (lines_of text)
