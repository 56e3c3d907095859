-- One run worked out turn by turn: the only processor of a small machine runs a process that writes one byte and exits.
use Rattle.std.specs.Prelude.{◌≡◌, ℕ, zero, suc, ◌+◌, ◌-◌, ◌*◌, Bool, true, false, ◌&&◌, ◌==◌, if◌then◌else◌, nat_le, List, [], ◌∷◌, map, slice_index}
use Rattle.std.specs.List.{range_with_len}
use Rattle.seq_words.specs.Blocks.{zero_block}
use Rattle.seq_words.specs.declared.block.Block.{Block}
use Rattle.seq_words.specs.declared.description.MachineDesc.{MachineDesc}
use Rattle.seq_words.specs.declared.events.Event.{Event}
use Rattle.seq_words.specs.declared.events.Event.TheVariants as event
use Rattle.seq_kernel.specs.declared.outcomes.Cause.TheVariants.{Exit}
use Rattle.seq_kernel.specs.declared.outcomes.Note.{Note}
use Rattle.seq_kernel.specs.declared.outcomes.Note.TheVariants.{Moved, Ran, Found, Committed, Looked, Sent}
use Rattle.seq_turns.specs.declared.hand.Hand.TheVariants.{Seek}
use Rattle.seq_io.specs.Changes.Change.{Unchanged, To_block, To_word}
use Rattle.seq_turns.specs.Machines.{Machine, Change, Turn}
use Rattle.seq_turns.specs.Machines.Turn.{Moves, Looks, Copies_unit, Stops}
use Rattle.seq_turns.specs.Processors.{turn}
use Rattle.seq_turns.specs.Start.{start}
use Rattle.seq_turns.specs.Events.{happens, note}

-- Eight instructions and a byte: x10, x11, x12 and x17 become 0, 32, 1 and 4, and the kernel writes the byte at 32 to line 0;
-- x10 and x17 become 0, and the process exits.
abbrev pub hello : List ℕ
hello =
    0x13 ∷ 0x05 ∷ 0x00 ∷ 0x00 ∷ 0x93 ∷ 0x05 ∷ 0x00 ∷ 0x02 ∷ 0x13 ∷ 0x06 ∷ 0x10 ∷ 0x00 ∷ 0x93 ∷ 0x08 ∷ 0x40 ∷ 0x00 ∷ 0x73 ∷ 0x00 ∷ 0x00 ∷ 0x00 ∷
    0x13 ∷ 0x05 ∷ 0x00 ∷ 0x00 ∷ 0x93 ∷ 0x08 ∷ 0x00 ∷ 0x00 ∷ 0x73 ∷ 0x00 ∷ 0x00 ∷ 0x00 ∷ 0x41 ∷ []

-- one processor, two memories, and the process with its line
abbrev pub alone : MachineDesc
alone = record {
  processors = 1;
  memories = 2;
  ios = 1;
  cache = 16;
  quantum = 1000;
  journal = 32;
  segments = [];
  processes = record { size = 64; entry = 0; image = hello; lines = 1; grants = 0 } ∷ [];
}

-- the private bytes of the process stand after eight blocks of its context and eight of its outbox
abbrev pub loaded : ℕ → ℕ → Block
loaded e n = if e == 0 && nat_le 16 n then record { bytes = map (λ j. slice_index hello (32 * (n - 16) + j)) (range_with_len 0 32) } else zero_block

abbrev pub begun : Machine
begun = start alone loaded

-- a turn of a processor, and of the I/O element
abbrev pub processor : ℕ → Event
processor p = event.Processor (record { 0 = p })

abbrev pub element : Event
element = event.Io (record { 0 = 0 })

-- What a turn writes: one copy of a block, or of a word, with the word.
pub data Wrote : Type 0 where
  Nowhere : Wrote
  In_block : (extent place : ℕ) → (shadow : Bool) → Wrote
  In_word : (extent place : ℕ) → (shadow : Bool) → (word : ℕ) → Wrote

abbrev pub wrote : Change → Wrote
wrote Unchanged = Nowhere
wrote (To_block e n c b) = In_block e n c
wrote (To_word e n c w) = In_word e n c w

abbrev pub change_of : Turn → Change
change_of (Moves move) = move.change
change_of (Looks next move) = move.change
change_of (Copies_unit i) = Unchanged
change_of Stops = Unchanged

-- what so many turns of processor p come to and write, and the machine after them
abbrev pub turns : MachineDesc → ℕ → ℕ → Machine → List (Note × Wrote)
turns d p zero m = []
turns d p (suc n) m = (note d m (processor p), wrote (change_of (turn d m p (m.hand p)))) ∷ turns d p n (happens d m (processor p))

abbrev pub turned : MachineDesc → ℕ → ℕ → Machine → Machine
turned d p zero m = m
turned d p (suc n) m = turned d p n (happens d m (processor p))

-- the machine after so many turns of its only processor
abbrev pub after : ℕ → Machine
after n = turned alone 0 n begun

-- The status word of process 0: 1 while the processor runs it, 2 and 3 in the two passes of a flush, 0 where it is free.
abbrev pub status : Bool → ℕ → Note × Wrote
status shadow word = (Moved, In_word 0 0 shadow word)

-- a unit of the flush is written: a block of the context, or the first of the outbox
abbrev pub unit : Bool → ℕ → Note × Wrote
unit shadow place = (Moved, In_block 0 place shadow)

abbrev pub units : Bool → List (Note × Wrote)
units shadow = unit shadow 8 ∷ unit shadow 0 ∷ unit shadow 1 ∷ unit shadow 2 ∷ unit shadow 3 ∷ unit shadow 4 ∷ unit shadow 5 ∷ unit shadow 6 ∷ unit shadow 7 ∷ []

-- an instruction after which the process goes on
abbrev pub ran : Note × Wrote
ran = (Ran (record { 0 = 0 }), Nowhere)

-- Turn by turn: the process is claimed; it runs, and its eighth step exits; it is marked; the first pass, the commit, the second
-- pass; the flush is closed; and the process is released.
pub record HelloRuns : Type 0 where
  pub claim : turns alone 0 2 begun ≡ status false 1 ∷ status true 1 ∷ []
  pub steps : turns alone 0 8 (after 2) ≡ ran ∷ ran ∷ ran ∷ ran ∷ ran ∷ ran ∷ ran ∷ (Found (record { 0 = 0 }) Exit, Nowhere) ∷ []
  pub mark : turns alone 0 2 (after 10) ≡ status false 2 ∷ status true 2 ∷ []
  pub first : turns alone 0 9 (after 12) ≡ units false
  pub commit : turns alone 0 1 (after 21) ≡ (Committed (record { 0 = 0 }) 8, In_word 0 0 false 3) ∷ []
  pub second : turns alone 0 10 (after 22) ≡ status true 3 ∷ units true
  pub close : turns alone 0 2 (after 32) ≡ status false 1 ∷ status true 1 ∷ []
  pub release : turns alone 0 2 (after 34) ≡ status true 0 ∷ status false 0 ∷ []

-- After these 36 turns the processor seeks, the history has the eight steps, and the byte 41 may be sent.
pub record HelloIsDone : Type 0 where
  pub seeks : (after 36).hand 0 ≡ Seek
  pub history : (after 36).history ≡ record { pid = record { 0 = 0 }; count = 8 } ∷ []
  pub looked : note alone (after 36) (processor 0) ≡ Looked (record { 0 = 0 })
  pub sent : note alone (after 36) element ≡ Sent (record { 0 = 0 }) 0x41
  pub told : note alone (happens alone (after 36) element) element ≡ Moved
  pub line : (happens alone (after 36) element).sent 0 ≡ 0x41 ∷ []
