-- The first processor that is marked is the first that is amid an operation.
use Rattle.std.proofs.Common.{◌≡◌, ℕ, zero, suc, ◌<◌, Bool, cond, List, length, Some, None, refl, ap, ◌∙◌, arith}
use Rattle.seq_words.specs.declared.description.MachineDesc.{MachineDesc}
use Rattle.seq_ruling.specs.Lowest.{lowest, or_else}
use Rattle.seq_turns.specs.Machines.{Machine}
use Rattle.seq_turns.specs.Reading.{is_amid}
use Rattle.seq_turns.specs.Processors.{someone_amid}
use Rattle.seq_reintegrate.specs.Gate.{is_marked, ShowAmid}

-- two tests that agree below n
lowest_same : (f g : ℕ → Bool) (n : ℕ) → ((j : ℕ) → j < n → f j ≡ g j) → lowest f n ≡ lowest g n
unfolding lowest
lowest_same f g zero same = refl
lowest_same f g (suc n) same = λ i. or_else (lowest_same f g n (λ j lt. same j (omega (arith, lt))) i) (cond (same n (omega arith) i) (Some n) None)

pub marked_first : (d : MachineDesc) (m : Machine) (hands : List Bool) → ShowAmid d m hands → lowest (is_marked hands) (length hands) ≡ someone_amid d m
marked_first d m hands show = ap (lowest (is_marked hands)) show.count ∙ lowest_same (is_marked hands) (λ r. is_amid (m.hand r)) d.processors show.each
