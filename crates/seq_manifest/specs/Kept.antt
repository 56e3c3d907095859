-- What the reader keeps of a statement: numbers that are too large for every limit as one, and lists as masks.
use Rattle.std.specs.Prelude.{ℕ, ◌+◌, ◌^◌, max, nat_lt, if◌then◌else◌, List, length, fold, bit_or}
use Rattle.seq_text.specs.Numbers.{capped}
use Rattle.seq_manifest.specs.declared.heading.Heading.{Heading}
use Rattle.seq_manifest.specs.declared.lists.NumberList.{NumberList}
use Rattle.seq_manifest.specs.declared.statement.Statement.{Statement as Stated}
use Rattle.seq_manifest.specs.declared.statement.Statement.TheVariants as stated
use Rattle.seq_manifest.specs.Statements.{Statement, heading, segment, process}
use Rattle.seq_manifest.specs.Faults.{is_ascending}

-- the mask with the bits of these numbers, of those that are below 16
abbrev pub with_bit : ℕ → ℕ → ℕ
with_bit mask n = if nat_lt n 16 then bit_or mask (2 ^ n) else mask

unfoldable pub mask_of : List ℕ → ℕ
mask_of ns = fold with_bit 0 ns

-- one above the greatest number
abbrev pub above : ℕ → ℕ → ℕ
above end n = max end (capped n + 1)

unfoldable pub end_of : List ℕ → ℕ
end_of ns = fold above 0 ns

abbrev pub kept_list : List ℕ → NumberList
kept_list ns = record { count = length ns; ascends = is_ascending ns; mask = mask_of ns; end = end_of ns }

pub data Kept : Type 0 where
  kept_heading : Heading → ℕ → Kept
  kept_segment : ℕ → List ℕ → Kept
  kept_process : List ℕ → NumberList → NumberList → Kept

abbrev pub kept : Statement → Kept
kept (heading h n) = kept_heading h (capped n)
kept (segment size file) = kept_segment (capped size) file
kept (process file lines segments) = kept_process file (kept_list lines) (kept_list segments)

-- the same of what the reader has
abbrev pub seen : Stated → Kept
seen (stated.Heading h n) = kept_heading h n
seen (stated.Segment size file) = kept_segment size file.now
seen (stated.Process file lines segments) = kept_process file.now lines segments
