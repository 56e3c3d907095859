-- What the lines need to know of blocks and hands.
use Rattle.std.specs.Prelude.{◌≡◌, ℕ, ◌+◌, ◌<◌, Bool, true, false, Option, Some, None, length, slice_index}
use Rattle.seq_words.specs.Masks.{has_bit}
use Rattle.seq_words.specs.declared.description.MachineDesc.{MachineDesc}
use Rattle.seq_words.specs.declared.events.Entry.{Entry}
use Rattle.seq_flat.specs.declared.state.FlatState.{FlatState}
use Rattle.seq_flat.specs.Run.{output}
use Rattle.seq_flat.specs.Laws.{KeepsOutput}
use Rattle.seq_layout.specs.Shapes.{shape_of}
use Rattle.seq_layout.specs.Copies.{Copies, IsServed, first_block}
use Rattle.seq_process.specs.declared.running.Running.{Running}
use Rattle.seq_kernel.specs.Calls.{lines_of, line_index}
use Rattle.seq_kernel.specs.Bounds.{IsWithin}
use Rattle.seq_image.specs.Images.{image}
use Rattle.seq_image.specs.Areas.{in_area, CopyHolds}
use Rattle.seq_locks.specs.Turns.{is_taken}
use Rattle.seq_turns.specs.declared.hand.Hand.{Hand}
use Rattle.seq_turns.specs.declared.hand.Hand.TheVariants as hand
use Rattle.seq_turns.specs.Machines.{Machine, Change, Turn}
use Rattle.seq_io.specs.Changes.Change.{Unchanged, To_block, To_word}
use Rattle.seq_turns.specs.Machines.Turn.{Moves, Looks, Copies_unit, Stops}
use Rattle.seq_turns.specs.Reading.{ruling}
use Rattle.seq_turns.specs.Duties.{is_steady}

-- the first copies of the blocks of process q hold the image of f
abbrev pub FirstHold : MachineDesc → Copies → FlatState → (ℕ → ℕ) → ℕ → Type 0
FirstHold d p f commits q = (n : ℕ) → first_block (shape_of d) p q n ≡ image d f commits q n

-- so they do where copies of both kinds hold it in the area of the process
abbrev pub FirstCopiesHold : Type 0
FirstCopiesHold =
    (d : MachineDesc) (p : Copies) (f : FlatState) (commits : ℕ → ℕ) (segments : ℕ → Bool) (q : ℕ) →
    IsServed (shape_of d) p q → ((shadow : Bool) → CopyHolds (shape_of d) p shadow (in_area d q segments) (image d f commits)) → FirstHold d p f commits q

-- the first copies of each steady process hold the image of the committed state
abbrev pub SteadyHold : MachineDesc → Machine → FlatState → (ℕ → ℕ) → Type 0
SteadyHold d m f commits = (q : ℕ) → q < length d.processes → is_steady (ruling d m.copies q) ≡ true → FirstHold d m.copies f commits q

-- the change is none of a line's
abbrev pub IsOffLines : MachineDesc → Change → Type 0
IsOffLines d Unchanged = Unit {0}
IsOffLines d (To_block e n c b) = e < length d.processes + length d.segments
IsOffLines d (To_word e n c w) = e < length d.processes + length d.segments

abbrev pub TurnIsOffLines : MachineDesc → Turn → Type 0
TurnIsOffLines d (Moves move) = IsOffLines d move.change
TurnIsOffLines d (Looks next move) = IsOffLines d move.change
TurnIsOffLines d (Copies_unit i) = Unit {0}
TurnIsOffLines d Stops = Unit {0}

-- the process of a hand is of the description, and within the bounds of what runs
abbrev pub HandIsWithin : MachineDesc → Hand → Type 0
HandIsWithin d hand.Down = Unit {0}
HandIsWithin d hand.Seek = Unit {0}
HandIsWithin d (hand.Claiming q c) = q.0 < length d.processes
HandIsWithin d (hand.Running r) = IsWithin d r
HandIsWithin d (hand.Acquiring r t c) = IsWithin d r
HandIsWithin d (hand.Flushing r cause mask f) = IsWithin d r
HandIsWithin d (hand.Unlocking r cause mask l) = IsWithin d r
HandIsWithin d (hand.Leaving q l) = Unit {0}
HandIsWithin d (hand.Recovering r) = Unit {0}

-- a process whose claim is about to be held is as it was committed
abbrev pub ClaimsImage : MachineDesc → Copies → FlatState → (ℕ → ℕ) → Hand → Type 0
ClaimsImage d p f commits (hand.Claiming q c) = is_taken (shape_of d) p c.at true ≡ false → FirstHold d p f commits q.0
ClaimsImage d p f commits hand.Down = Unit {0}
ClaimsImage d p f commits hand.Seek = Unit {0}
ClaimsImage d p f commits (hand.Running r) = Unit {0}
ClaimsImage d p f commits (hand.Acquiring r t c) = Unit {0}
ClaimsImage d p f commits (hand.Flushing r cause mask fl) = Unit {0}
ClaimsImage d p f commits (hand.Unlocking r cause mask l) = Unit {0}
ClaimsImage d p f commits (hand.Leaving q l) = Unit {0}
ClaimsImage d p f commits (hand.Recovering r) = Unit {0}

-- From f to g the process has put out what it had written, and no other line anything.
pub record CommitsOutput (d : MachineDesc) (f g : FlatState) (r : Running) : Type 0 where
  pub keeps : KeepsOutput f g
  pub own : (l : ℕ) → has_bit (lines_of d r) l ≡ true → length (output g l) ≡ slice_index r.writes (line_index d r l)
  pub other : (l : ℕ) → has_bit (lines_of d r) l ≡ false → output g l ≡ output f l

-- with a commit by this hand, or with none, the committed state f becomes g
abbrev pub CommitsAs : MachineDesc → FlatState → FlatState → Option Entry → Hand → Type 0
CommitsAs d f g None h = g ≡ f
CommitsAs d f g (Some entry) hand.Down = ⊥
CommitsAs d f g (Some entry) hand.Seek = ⊥
CommitsAs d f g (Some entry) (hand.Claiming q c) = ⊥
CommitsAs d f g (Some entry) (hand.Running r) = ⊥
CommitsAs d f g (Some entry) (hand.Acquiring r t c) = ⊥
CommitsAs d f g (Some entry) (hand.Flushing r cause mask fl) = CommitsOutput d f g r
CommitsAs d f g (Some entry) (hand.Unlocking r cause mask l) = ⊥
CommitsAs d f g (Some entry) (hand.Leaving q l) = ⊥
CommitsAs d f g (Some entry) (hand.Recovering r) = ⊥

-- what a turn commits
abbrev pub commit_of : Turn → Option Entry
commit_of (Moves move) = move.commit
commit_of (Looks next move) = move.commit
commit_of (Copies_unit i) = None
commit_of Stops = None
