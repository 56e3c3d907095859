-- How what is kept of a statement is taken.
use Rattle.std.specs.Prelude.{◌≡◌, ◌≤◌, ◌<◌, ◌^◌, ℕ, ◌+◌, Bool, true, ◌⊎◌, List, [], ◌∷◌, ◌++◌, length, count_by}
use Rattle.std.specs.List.{list_all, zip, AllByRecursion}
use Rattle.seq_words.specs.Masks.{has_bit}
use Rattle.seq_manifest.specs.declared.parts.Parts.{Parts}
use Rattle.seq_manifest.specs.Statements.{is_file}
use Rattle.seq_manifest.specs.Drafts.{headings, IsSegmentDraft, IsProcessDraft}
use Rattle.seq_manifest.specs.Faults.{is_allowed}
use Rattle.seq_manifest.specs.Kept.{Kept, kept_heading, kept_segment, kept_process}

-- the parts with what was kept
abbrev pub with_kept : Parts → Kept → Parts
with_kept p (kept_heading h n) = record p { numbers = p.numbers ++ n ∷ [] }
with_kept p (kept_segment size file) = record p {
  segments = p.segments ++ record { size = size; first = [] } ∷ [];
  firsts = p.firsts ++ file ∷ [];
}
with_kept p (kept_process file lines segments) = record p {
  processes = p.processes ++ record { size = 0; entry = 0; image = []; lines = lines.mask; grants = segments.mask } ∷ [];
  images = p.images ++ file ∷ [];
}

-- its number has at most 32 bits
abbrev pub IsSmall : Kept → Type 0
IsSmall (kept_heading h n) = n < 2 ^ 32
IsSmall (kept_segment size file) = size < 2 ^ 32
IsSmall (kept_process file lines segments) = Unit {0}

-- each first line that was read is within its limits
abbrev pub are_allowed : List ℕ → Bool
are_allowed numbers = list_all (λ part. is_allowed part.0 part.1) (zip headings numbers)

-- What holds of the parts while lines are taken.
pub record IsParts (p : Parts) : Type 0 where
  pub numbers : length p.numbers ≤ 7
  pub allowed : are_allowed p.numbers ≡ true
  pub first : 0 < length p.segments + length p.processes → length p.numbers ≡ 7
  pub segments : length p.segments ≤ 16
  pub each_segment : AllByRecursion IsSegmentDraft p.segments
  pub firsts : length p.firsts ≡ length p.segments
  pub each_first : AllByRecursion (λ name. (name ≡ []) ⊎ (is_file name ≡ true)) p.firsts
  pub processes : length p.processes ≤ 16
  pub each_process : AllByRecursion (IsProcessDraft (length p.segments)) p.processes
  pub images : length p.images ≡ length p.processes
  pub each_image : AllByRecursion (λ name. is_file name ≡ true) p.images
  pub apart : (l : ℕ) → count_by (λ q. has_bit q.lines l) p.processes ≤ 1
