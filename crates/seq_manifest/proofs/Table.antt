-- The rules again, over what is kept of a statement: so the reader tries them.
use Rattle.std.specs.Prelude.{Bool, false, not, ◌||◌, ◌&&◌, ◌==◌, nat_lt, nat_le, List, length, count_by}
use Rattle.std.specs.List.{list_any}
use Rattle.seq_words.specs.Masks.{has_bit}
use Rattle.seq_manifest.specs.Statements.{Statement}
use Rattle.seq_manifest.specs.Faults.{is_segment, is_process, is_owned, place_of, is_within, is_allowed, some_below}
use Rattle.seq_manifest.specs.Kept.{Kept, kept_heading, kept_segment, kept_process}

abbrev pub kept_misplaced : List Statement → Kept → Bool
kept_misplaced before (kept_heading h n) = not (length before == place_of h)
kept_misplaced before (kept_segment size file) = nat_lt (length before) 7 || list_any is_process before || nat_le 16 (count_by is_segment before)
kept_misplaced before (kept_process file lines segments) = nat_lt (length before) 7 || nat_le 16 (count_by is_process before)

abbrev pub kept_out : Kept → Bool
kept_out (kept_heading h n) = not (is_allowed h n)
kept_out (kept_segment size file) = not (is_within 32 16384 32 size)
kept_out (kept_process file lines segments) = false

abbrev pub kept_badly : List Statement → Kept → Bool
kept_badly before (kept_heading h n) = false
kept_badly before (kept_segment size file) = false
kept_badly before (kept_process file lines segments) =
    not lines.ascends || not segments.ascends || nat_lt 4 lines.count || some_below 16 (λ l. has_bit lines.mask l && is_owned before l)

abbrev pub kept_absent : List Statement → Kept → Bool
kept_absent before (kept_heading h n) = false
kept_absent before (kept_segment size file) = false
kept_absent before (kept_process file lines segments) = nat_lt (count_by is_segment before) segments.end || nat_lt 16 lines.end
