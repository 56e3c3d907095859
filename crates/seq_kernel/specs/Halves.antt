-- The halves of a running process: those of which none is struck are equal, and a strike leaves what the process shows.
use Rattle.std.specs.Prelude.{◌≡◌, ◌≢◌, ℕ, Some, None}
use Rattle.seq_words.specs.declared.description.MachineDesc.{MachineDesc}
use Rattle.seq_words.specs.declared.half.Half.{Half}
use Rattle.seq_flat.specs.declared.state.FlatState.{FlatState}
use Rattle.seq_pair.specs.Halves.{other_half, struck}
use Rattle.seq_pair.specs.Turns.{IsAligned, unstruck}
use Rattle.seq_layout.specs.Copies.{Copies}
use Rattle.seq_process.specs.declared.running.Running.{Running}
use Rattle.seq_cache.specs.Changes.{Changes}
use Rattle.seq_kernel.specs.Views.{Blocks}
use Rattle.seq_kernel.specs.Calls.{granted}
use Rattle.seq_kernel.specs.Steps.{step_of}
use Rattle.seq_kernel.specs.Shown.{Shows}

-- halves of which none is struck are equal
abbrev pub HalvesAgree : Running → Type 0
HalvesAgree r = r.pair.struck ≡ None → r.pair.a ≡ r.pair.b

-- A process keeps its halves: the struck one stays the struck one, equal halves stay equal, and so do those of which none is
-- struck.
pub record KeepsHalves (r after : Running) : Type 0 where
  pub struck : after.pair.struck ≡ r.pair.struck
  pub equal : r.pair.a ≡ r.pair.b → after.pair.a ≡ after.pair.b
  pub agree : HalvesAgree r → HalvesAgree after

-- every turn, and every acquire that is granted, keeps them
abbrev pub TurnsKeepHalves : Type 0
TurnsKeepHalves =
    (d : MachineDesc) (p : Copies) (r : Running) (c : Changes) →
    KeepsHalves r (step_of d p r c).running × ((t : ℕ) → KeepsHalves r (granted r t))

-- a running process whose half is struck
abbrev pub struck_at : Running → Half → ℕ → ℕ → Running
struck_at r half reg mask = record r { pair = struck r.pair half reg mask }

-- What a strike leaves: the half that isn't struck, with its pc in order, halves that agree, and all that the process shows.
pub record StrikeLeaves (d : MachineDesc) (r after : Running) : Type 0 where
  pub unstruck : unstruck after.pair ≡ unstruck r.pair
  pub aligned : IsAligned r.pair.struck r.pair.a r.pair.b → IsAligned after.pair.struck after.pair.a after.pair.b
  pub agree : HalvesAgree after
  pub shows : (f : FlatState) (o : Blocks) → Shows d f o r → Shows d f o after

-- a strike at a half, where the other isn't struck, leaves these
abbrev pub StrikesLeaveWhatIsShown : Type 0
StrikesLeaveWhatIsShown =
    (d : MachineDesc) (r : Running) (half : Half) (reg mask : ℕ) →
    HalvesAgree r → r.pair.struck ≢ Some (other_half half) → StrikeLeaves d r (struck_at r half reg mask)
