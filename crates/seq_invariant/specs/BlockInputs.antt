-- More input arrives, a half is struck, a commit is written down.
use Rattle.std.specs.Prelude.{◌≡◌, ℕ, Bool, List}
use Rattle.seq_words.specs.declared.description.MachineDesc.{MachineDesc}
use Rattle.seq_words.specs.declared.half.Half.{Half}
use Rattle.seq_flat.specs.declared.inputs.LineInput.{LineInput}
use Rattle.seq_flat.specs.declared.state.FlatState.{FlatState}
use Rattle.seq_flat.specs.Laws.{MoreInput}
use Rattle.seq_layout.specs.Copies.{Copies}
use Rattle.seq_cache.specs.Changes.{Changes}
use Rattle.seq_runs.specs.Histories.{and_then}
use Rattle.seq_turns.specs.declared.hand.Hand.{Hand}
use Rattle.seq_turns.specs.Allowed.{MayStrike}
use Rattle.seq_turns.specs.Machines.{Machine}
use Rattle.seq_turns.specs.Events.{strikes}
use Rattle.seq_invariant.specs.BlockWorks.{Committed, with_commit, Commits}
use Rattle.seq_invariant.specs.BlockHands.{HandKnows}
use Rattle.seq_invariant.specs.BlockStanding.{IsCommitted}

-- the same with more input
abbrev pub with_inputs : Committed → List LineInput → Committed
with_inputs at inputs = record at { inputs = inputs }

abbrev pub InputsKeep : Type 0
InputsKeep =
    (d : MachineDesc) (at : Committed) (now : List LineInput) (p : Copies) (c : Changes) (h : Hand) →
    MoreInput at.inputs now → HandKnows d at p c h → HandKnows d (with_inputs at now) p c h

abbrev pub StrikesKeep : Type 0
StrikesKeep =
    (d : MachineDesc) (at : Committed) (p : Copies) (c : Changes) (h : Hand) (half : Half) (reg mask : ℕ) →
    MayStrike half h → HandKnows d at p c h → HandKnows d at p c (strikes half reg mask h)

-- The history with the entry of a commit is that of what is committed then.
abbrev pub CommitsAreWritten : Type 0
CommitsAreWritten =
    (d : MachineDesc) (at : Committed) (segments : ℕ → Bool) (q n : ℕ) (g : FlatState) (m m' : Machine) →
    IsCommitted d at m → Commits d at segments q n g → m'.history ≡ and_then m.history q n → IsCommitted d (with_commit at q g) m'
