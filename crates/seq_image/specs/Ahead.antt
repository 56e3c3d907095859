-- A process is ahead of a flat state: since its last checkpoint it has taken steps, which are not committed. Its changes lie over
-- the image of that state, so nothing here speaks of memories, but where a turn is taken.
use Rattle.std.specs.Prelude.{◌≡◌, ℕ, ◌+◌, ◌<◌, ◌||◌, ◌==◌, Bool, true, List, [], Some, None, length, ◌≢◌}
use Rattle.seq_words.specs.Masks.{has_bit}
use Rattle.seq_words.specs.Description.{IsDescription}
use Rattle.seq_words.specs.declared.description.MachineDesc.{MachineDesc}
use Rattle.seq_flat.specs.declared.inputs.LineInput.{LineInput}
use Rattle.seq_flat.specs.declared.state.End.TheVariants.{Live}
use Rattle.seq_flat.specs.declared.state.FlatState.{FlatState}
use Rattle.seq_flat.specs.State.{start, process_at, segment_at}
use Rattle.seq_flat.specs.Run.{steps}
use Rattle.seq_flat.specs.Laws.{MoreInput}
use Rattle.seq_words.specs.declared.half.Half.{Half}
use Rattle.seq_pair.specs.Halves.{other_half, struck}
use Rattle.seq_layout.specs.Shapes.{shape_of}
use Rattle.seq_layout.specs.Copies.{Copies, first_block}
use Rattle.seq_process.specs.declared.running.Running.{Running}
use Rattle.seq_cache.specs.Changes.{Changes, IsCache}
use Rattle.seq_flush.specs.Facts.{all_written}
use Rattle.seq_kernel.specs.declared.outcomes.Outcome.TheVariants.{Claim}
use Rattle.seq_kernel.specs.Views.{Blocks}
use Rattle.seq_kernel.specs.Calls.{lines_of, granted}
use Rattle.seq_kernel.specs.Steps.{step_of}
use Rattle.seq_kernel.specs.Bounds.{IsRunning, AreReadable}
use Rattle.seq_kernel.specs.Kept.{AreOwn, keeps_segments}
use Rattle.seq_kernel.specs.Shown.{HoldsInput}
use Rattle.seq_flat.specs.Reached.{IsFlat, IsReached}
use Rattle.seq_kernel.specs.Refinement.{takes_step, AsksFor}
use Rattle.seq_kernel.specs.Halves.{HalvesAgree}
use Rattle.seq_image.specs.Images.{image}
use Rattle.seq_image.specs.Areas.{AreAlike, in_area, owned_by, CopyHolds, AgreeOn}
use Rattle.seq_image.specs.Flushing.{with_units, flushed, MayFlush}
use Rattle.seq_image.specs.Starting.{taken_up}
use Rattle.seq_image.specs.Begun.{no_commits}
use Rattle.seq_image.specs.Depends.{AreWhole, HoldsAmong}

-- these changes lie over the image of a flat state
abbrev pub over_image : MachineDesc → FlatState → (ℕ → ℕ) → Changes → Blocks
over_image d f commits c = with_units c.changes (image d f commits)

-- The process has taken its steps since the checkpoint from flat state f, and may be flushed in the state that they lead to.
pub record IsAhead (d : MachineDesc) (inputs : List LineInput) (f : FlatState) (commits : ℕ → ℕ) (segments : ℕ → Bool) (r : Running) (c : Changes) : Type 0 where
  pub state : FlatState
  pub steps : steps d inputs r.pid.0 r.steps f ≡ Some state
  pub flush : MayFlush d state segments (over_image d f commits c) r c
  pub among : HoldsAmong r segments
  pub cache : IsCache c
  pub counts : r.commits ≡ commits r.pid.0

-- It runs on: it lives and has steps left, and the segments of its area are those that it holds.
pub record RunsAhead (d : MachineDesc) (inputs : List LineInput) (f : FlatState) (commits : ℕ → ℕ) (segments : ℕ → Bool) (r : Running) (c : Changes) : Type 0 where
  pub ahead : IsAhead d inputs f commits segments r c
  pub running : IsRunning d r
  pub own : AreOwn d r c.changes
  pub held : (t : ℕ) → t < length d.segments → segments t ≡ has_bit r.held t

-- A processor reads for this process: every extent has a copy in service, every block its bytes, the first copies hold the image
-- of the flat state in its area, and the journals of its lines the input.
pub record ReadsImage (d : MachineDesc) (inputs : List LineInput) (f : FlatState) (commits : ℕ → ℕ) (segments : ℕ → Bool) (p : Copies) (r : Running) : Type 0 where
  pub readable : AreReadable d p
  pub whole : AreWhole (first_block (shape_of d) p)
  pub image : AreAlike (in_area d r.pid.0 segments) (first_block (shape_of d) p) (image d f commits)
  pub input : (l : ℕ) → has_bit (lines_of d r) l ≡ true → HoldsInput d p inputs l

-- A process that is taken up from the image, and lives, runs ahead by no step.
abbrev pub TakenUpRunsAhead : Type 0
TakenUpRunsAhead =
    (d : MachineDesc) (inputs : List LineInput) (f : FlatState) (commits : ℕ → ℕ) (capacity q : ℕ) →
    IsDescription d → IsReached d f → q < length d.processes → (process_at f q).end ≡ Live → IsCache (record { capacity = capacity; changes = [] }) →
    RunsAhead d inputs f commits (owned_by f q) (taken_up d f q (commits q)) (record { capacity = capacity; changes = [] })

-- A turn that takes a step keeps the process ahead; and it runs on where it gives up no segment, lives and has steps left.
abbrev pub TurnsStayAhead : Type 0
TurnsStayAhead =
    (d : MachineDesc) (inputs : List LineInput) (f : FlatState) (commits : ℕ → ℕ) (segments : ℕ → Bool) (p : Copies) (r : Running) (c : Changes) →
    IsDescription d → ReadsImage d inputs f commits segments p r → RunsAhead d inputs f commits segments r c → takes_step (step_of d p r c).outcome →
    IsAhead d inputs f commits segments (step_of d p r c).running (step_of d p r c).cache ×
    (keeps_segments (step_of d p r c).outcome → (step_of d p r c).running.end ≡ Live → (step_of d p r c).running.used < d.quantum → RunsAhead d inputs f commits segments (step_of d p r c).running (step_of d p r c).cache)

-- Steps of others, that are committed, leave it ahead, where they leave its area and its own steps lead to a state that agrees.
abbrev pub OthersLeaveAhead : Type 0
OthersLeaveAhead =
    (d : MachineDesc) (inputs : List LineInput) (f f' g' : FlatState) (commits commits' : ℕ → ℕ) (segments : ℕ → Bool) (r : Running) (c : Changes) (ahead : IsAhead d inputs f commits segments r c) →
    AgreeOn d r.pid.0 segments f f' → commits r.pid.0 ≡ commits' r.pid.0 → steps d inputs r.pid.0 r.steps f' ≡ Some g' → IsFlat d g' → AgreeOn d r.pid.0 segments ahead.state g' →
    IsAhead d inputs f' commits' segments r c

-- More input leaves it ahead.
abbrev pub MoreInputLeavesAhead : Type 0
MoreInputLeavesAhead =
    (d : MachineDesc) (before now : List LineInput) (f : FlatState) (commits : ℕ → ℕ) (segments : ℕ → Bool) (r : Running) (c : Changes) →
    MoreInput before now → IsAhead d before f commits segments r c → IsAhead d now f commits segments r c

-- the segments of an area with one more
abbrev pub and_segment : (ℕ → Bool) → ℕ → ℕ → Bool
and_segment segments t u = segments u || u == t

-- A turn that claims a segment is that of a process that asks for it in the state that its steps led to.
abbrev pub ClaimsAsk : Type 0
ClaimsAsk =
    (d : MachineDesc) (inputs : List LineInput) (f : FlatState) (commits : ℕ → ℕ) (segments : ℕ → Bool) (p : Copies) (r : Running) (c : Changes) (t : ℕ) (runs : RunsAhead d inputs f commits segments r c) →
    IsDescription d → ReadsImage d inputs f commits segments p r → (step_of d p r c).outcome ≡ Claim (record { 0 = t }) → AsksFor d runs.ahead.state r t

-- A claim of a segment that nobody owns, once its lock is held, keeps the process ahead, with the segment in its area.
abbrev pub GrantsStayAhead : Type 0
GrantsStayAhead =
    (d : MachineDesc) (inputs : List LineInput) (f : FlatState) (commits : ℕ → ℕ) (segments : ℕ → Bool) (r : Running) (c : Changes) (t : ℕ) (runs : RunsAhead d inputs f commits segments r c) →
    IsDescription d → AsksFor d runs.ahead.state r t →
    segment_at runs.ahead.state t ≡ segment_at f t → (segment_at f t).owner ≡ None →
    IsAhead d inputs f commits (and_segment segments t) (granted r t) c ×
    (r.used + 1 < d.quantum → RunsAhead d inputs f commits (and_segment segments t) (granted r t) c)

-- Where its halves agree, a pass of its flush, over copies of either kind that hold the image of f in its area, leaves copies that
-- hold the image of the state that its steps led to.
abbrev pub AheadMakesImage : Type 0
AheadMakesImage =
    (d : MachineDesc) (inputs : List LineInput) (f : FlatState) (commits commits' : ℕ → ℕ) (segments : ℕ → Bool) (p : Copies) (shadow : Bool) (r : Running) (c : Changes) (ahead : IsAhead d inputs f commits segments r c) →
    IsDescription d → r.pair.a ≡ r.pair.b → commits' r.pid.0 ≡ commits r.pid.0 + 1 →
    CopyHolds (shape_of d) p shadow (in_area d r.pid.0 segments) (image d f commits) →
    CopyHolds (shape_of d) (all_written (shape_of d) p shadow (flushed r c)) shadow (in_area d r.pid.0 segments) (image d ahead.state commits')

-- a process after a checkpoint, and its cache
abbrev pub checkpointed : Running → Running
checkpointed r = record r { steps = 0; commits = r.commits + 1 }

abbrev pub emptied : Changes → Changes
emptied c = record c { changes = [] }

-- Once its steps are committed, it is ahead by none.
abbrev pub CommitsStayAhead : Type 0
CommitsStayAhead =
    (d : MachineDesc) (inputs : List LineInput) (f : FlatState) (commits commits' : ℕ → ℕ) (segments : ℕ → Bool) (r : Running) (c : Changes) (ahead : IsAhead d inputs f commits segments r c) →
    IsDescription d → IsReached d ahead.state → commits' r.pid.0 ≡ commits r.pid.0 + 1 →
    IsAhead d inputs ahead.state commits' segments (checkpointed r) (emptied c)

-- With no changes it is ahead in each smaller area that has the segments that it holds; and it runs on where it lives, has steps
-- left, and holds all of them.
abbrev pub AreaMayShrink : Type 0
AreaMayShrink =
    (d : MachineDesc) (inputs : List LineInput) (f : FlatState) (commits : ℕ → ℕ) (segments less : ℕ → Bool) (r : Running) (c : Changes) →
    ((t : ℕ) → less t ≡ true → segments t ≡ true) → HoldsAmong r less →
    IsAhead d inputs f commits segments r (emptied c) → IsAhead d inputs f commits less r (emptied c)

abbrev pub RunsAgain : Type 0
RunsAgain =
    (d : MachineDesc) (inputs : List LineInput) (f : FlatState) (commits : ℕ → ℕ) (segments : ℕ → Bool) (r : Running) (c : Changes) →
    r.end ≡ Live → r.used < d.quantum → ((t : ℕ) → t < length d.segments → segments t ≡ has_bit r.held t) →
    IsAhead d inputs f commits segments r (emptied c) → RunsAhead d inputs f commits segments r (emptied c)

-- At the start each process runs ahead of the flat start by none.
abbrev pub StartRunsAhead : Type 0
StartRunsAhead =
    (d : MachineDesc) (inputs : List LineInput) (q : ℕ) → IsDescription d → q < length d.processes →
    RunsAhead d inputs (start d) no_commits (owned_by (start d) q) (taken_up d (start d) q 0) (record { capacity = d.cache; changes = [] })

-- A strike at a half, where the other isn't struck, leaves the process ahead.
abbrev pub StrikesLeaveAhead : Type 0
StrikesLeaveAhead =
    (d : MachineDesc) (inputs : List LineInput) (f : FlatState) (commits : ℕ → ℕ) (segments : ℕ → Bool) (r : Running) (c : Changes) (half : Half) (reg mask : ℕ) →
    HalvesAgree r → r.pair.struck ≢ Some (other_half half) → IsAhead d inputs f commits segments r c →
    IsAhead d inputs f commits segments (record r { pair = struck r.pair half reg mask }) c × HalvesAgree (record r { pair = struck r.pair half reg mask })
