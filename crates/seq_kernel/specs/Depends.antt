-- What a process shows, and what its turn comes to, depends on its own extent, on the segments that it holds and on its lines.
use Rattle.std.specs.Prelude.{◌≡◌, ℕ, ◌<◌, Bool, true, length}
use Rattle.seq_words.specs.Masks.{has_bit}
use Rattle.seq_words.specs.declared.description.MachineDesc.{MachineDesc}
use Rattle.seq_words.specs.declared.names.Seg.{Seg}
use Rattle.seq_flat.specs.declared.state.FlatState.{FlatState}
use Rattle.seq_layout.specs.Shapes.{shape_of}
use Rattle.seq_layout.specs.Copies.{Copies, first_block}
use Rattle.seq_process.specs.declared.running.Running.{Running}
use Rattle.seq_cache.specs.Changes.{Changes}
use Rattle.seq_kernel.specs.declared.outcomes.Outcome.TheVariants.{Claim}
use Rattle.seq_kernel.specs.Views.{Blocks, seen, read_by}
use Rattle.seq_kernel.specs.Calls.{lines_of, line_word, journal_byte, call_of}
use Rattle.seq_kernel.specs.Steps.{step_of}
use Rattle.seq_kernel.specs.Shown.{Shows}
use Rattle.seq_kernel.specs.Areas.{AreAlike, AreWhole, in_area, HoldsAmong, AgreeOn}

-- A process that shows a flat state over some blocks shows it over all that are alike in its area.
abbrev pub ShownByTheArea : Type 0
ShownByTheArea =
    (d : MachineDesc) (g : FlatState) (segments : ℕ → Bool) (o o' : Blocks) (r : Running) →
    r.pid.0 < length d.processes → HoldsAmong r segments → AreWhole o' → AreAlike (in_area d r.pid.0 segments) o o' → Shows d g o r → Shows d g o' r

-- It shows all flat states that agree on the area.
abbrev pub ShowsAllThatAgree : Type 0
ShowsAllThatAgree =
    (d : MachineDesc) (g g' : FlatState) (segments : ℕ → Bool) (o : Blocks) (r : Running) →
    r.pid.0 < length d.processes → HoldsAmong r segments → AgreeOn d r.pid.0 segments g g' → Shows d g o r → Shows d g' o r

-- It sees the same bytes in all blocks that are alike in its area.
abbrev pub SeenInTheArea : Type 0
SeenInTheArea =
    (d : MachineDesc) (segments : ℕ → Bool) (o o' : Blocks) (r : Running) →
    r.pid.0 < length d.processes → HoldsAmong r segments → AreAlike (in_area d r.pid.0 segments) o o' → seen d r.pid.0 r.held o ≡ seen d r.pid.0 r.held o'

-- Memories are alike for a process: their first copies in its own extent and in the segments that it holds, the words of its
-- lines, and the bytes in its lines' journals.
pub record AreAlikeFor (d : MachineDesc) (r : Running) (p p' : Copies) : Type 0 where
  pub blocks : AreAlike (in_area d r.pid.0 (has_bit r.held)) (first_block (shape_of d) p) (first_block (shape_of d) p')
  pub words : (l n : ℕ) → has_bit (lines_of d r) l ≡ true → line_word d p l n ≡ line_word d p' l n
  pub journal : (l k : ℕ) → has_bit (lines_of d r) l ≡ true → k < line_word d p l 0 → journal_byte d p l k ≡ journal_byte d p' l k

-- Over all memories that are alike for it, its turn comes to the same, with the same process and the same cache afterwards.
abbrev pub TurnsDependOnTheArea : Type 0
TurnsDependOnTheArea =
    (d : MachineDesc) (p p' : Copies) (r : Running) (c : Changes) →
    r.pid.0 < length d.processes → AreAlikeFor d r p p' → step_of d p r c ≡ step_of d p' r c

-- So does a kernel call.
abbrev pub CallsDependOnTheArea : Type 0
CallsDependOnTheArea =
    (d : MachineDesc) (p p' : Copies) (r : Running) (c : Changes) →
    r.pid.0 < length d.processes → AreAlikeFor d r p p' → call_of d p r c ≡ call_of d p' r c

-- A turn that acquires a segment does so over all memories in which the process sees the same, whatever its lines hold.
abbrev pub ClaimsDependOnWhatIsSeen : Type 0
ClaimsDependOnWhatIsSeen =
    (d : MachineDesc) (p p' : Copies) (r : Running) (c : Changes) (t : Seg) →
    seen d r.pid.0 r.held (read_by d p c) ≡ seen d r.pid.0 r.held (read_by d p' c) → (step_of d p r c).outcome ≡ Claim t → (step_of d p' r c).outcome ≡ Claim t
